-- `records::has_level` meets its contract: the first number that differs is one of the bytes; where none does, the last decides.
-- Assumes nothing.
use borrow.Author.Tests.{eq-eqb}
use native.Mathlib.Omega.{arith}
use mathlib.Core.Path.{refl}
use lib.Dec.{lit<}
use Rattle.little.specs.Little.{bytes, part}
use Rattle.model.specs.Area.{header_of}
use Rattle.records.proofs.Laws.{byte_compares, both_compare, byte_differs}
use Rattle.records.proofs.has_level.Goals as goal

pub returns-then-byte-state : goal.returns-then-byte-state
unfolding header_of bytes part
returns-then-byte-state c = λ p n f e.
    let args = c.args in
    byte_differs 20 0 args.state.level args.area.now (part 20 4 (header_of p n f)) (lit< tt) (rw e) c.byte.ensures.0 c.if-byte-state.true

pub returns-then-byte-state-2 : goal.returns-then-byte-state-2
unfolding header_of bytes part
returns-then-byte-state-2 c = λ p n f e.
    let args = c.args in
    byte_differs 20 1 args.state.row args.area.now (part 20 4 (header_of p n f)) (lit< tt) (rw e) c.byte-2.ensures.0 c.if-byte-state-2.true

pub returns-then-byte-state-3 : goal.returns-then-byte-state-3
unfolding header_of bytes part
returns-then-byte-state-3 c = λ p n f e.
    let args = c.args in
    byte_differs 20 2 args.state.judged args.area.now (part 20 4 (header_of p n f)) (lit< tt) (rw e) c.byte-3.ensures.0 c.if-byte-state-3.true

pub returns : goal.returns
unfolding header_of bytes part
returns c = λ p n f e.
    let area = c.args.area.now in
    let state = c.args.state in
    let level = byte_compares 20 state.level area (omega arith) c.byte.ensures.0 in
    let row = byte_compares 21 state.row area (omega arith) c.byte-2.ensures.0 in
    let judged = byte_compares 22 state.judged area (omega arith) c.byte-3.ensures.0 in
    let window = byte_compares 23 state.window area (omega arith) c.byte-4.ensures.0 in
    rw e
    (rw (eq-eqb _ _ c.if-byte-state.false, eq-eqb _ _ c.if-byte-state-2.false, eq-eqb _ _ c.if-byte-state-3.false) at
    (both_compare (both_compare (both_compare level row refl) judged refl) window refl).decides)
