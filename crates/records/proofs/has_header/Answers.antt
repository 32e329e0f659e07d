-- `records::has_header` meets its contract: the first part that differs is one of the header; where none does, the last decides.
-- Assumes nothing.
use borrow.Author.Tests.{eq-eqb}
use native.Mathlib.Omega.{arith}
use Prim.Native.Nat.{ℕ}
use mathlib.Core.Path.{refl}
use mathlib.Core.List.{List}
use lib.Dec.{lit<, lit≤}
use Rattle.little.specs.Little.{bytes, part}
use Rattle.model.specs.Area.{header_of}
use Rattle.records.proofs.Laws.{plan_fits, decided_not, Compares, number_compares, both_compare, part_differs, number_differs}
use Rattle.records.proofs.has_header.Goals as goal

pub has_plan-requires : goal.has_plan-requires
has_plan-requires c = plan_fits _ _ c.requires.0 c.requires.1

pub returns-then-not-has_plan : goal.returns-then-not-has_plan
unfolding header_of bytes part
returns-then-not-has_plan c =
    let args = c.args in
    let header : List ℕ = header_of args.plan args.count args.figures in
    part_differs 0 0 12 args.area.now header (lit≤ tt) (decided_not (c.has_plan.ensures args.figures) c.if-not-has_plan.true)

pub returns-then-get-ne0 : goal.returns-then-get-ne0
unfolding header_of bytes part
returns-then-get-ne0 c =
    let args = c.args in
    let header : List ℕ = header_of args.plan args.count args.figures in
    number_differs 0 12 4 0 args.area.now header (lit≤ tt) refl (lit< tt) c.get.ensures c.if-get-ne0.true

pub returns-then-get-figures : goal.returns-then-get-figures
unfolding header_of bytes part
returns-then-get-figures c =
    let args = c.args in
    let header : List ℕ = header_of args.plan args.count args.figures in
    number_differs 0 16 4 args.figures.credit.0 args.area.now header (lit≤ tt) refl (omega arith) c.get-2.ensures c.if-get-figures.true

pub returns-then-not-has_level : goal.returns-then-not-has_level
unfolding header_of bytes part
returns-then-not-has_level c =
    let args = c.args in
    let header : List ℕ = header_of args.plan args.count args.figures in
    part_differs 0 20 4 args.area.now header (lit≤ tt)
    (decided_not (c.has_level.ensures args.plan args.count args.figures refl) c.if-not-has_level.true)

pub returns-then-not-has_continuous : goal.returns-then-not-has_continuous
unfolding header_of bytes part
returns-then-not-has_continuous c =
    let args = c.args in
    let header : List ℕ = header_of args.plan args.count args.figures in
    part_differs 0 24 8 args.area.now header (lit≤ tt)
    (decided_not (c.has_continuous.ensures args.plan args.count args.figures refl) c.if-not-has_continuous.true)

pub returns-then-get-figures-2 : goal.returns-then-get-figures-2
unfolding header_of bytes part
returns-then-get-figures-2 c =
    let args = c.args in
    let header : List ℕ = header_of args.plan args.count args.figures in
    number_differs 0 32 8 args.figures.accepted args.area.now header (lit≤ tt) refl (omega arith) c.get-3.ensures c.if-get-figures-2.true

pub returns : goal.returns
unfolding header_of bytes part
returns c =
    let area = c.args.area.now in
    let p = c.args.plan in
    let n = c.args.count in
    let f = c.args.figures in
    let plan : Compares _ area 0 (part 0 12 (header_of p n f)) = record { decides = c.has_plan.ensures f } in
    let twelve = number_compares 12 4 0 area c.fits-area (omega arith) (lit< tt) c.get.ensures in
    let credit = number_compares 16 4 f.credit.0 area c.fits-area (omega arith) (omega arith) c.get-2.ensures in
    let level : Compares _ area 20 (part 20 4 (header_of p n f)) = record { decides = c.has_level.ensures p n f refl } in
    let continuous : Compares _ area 24 (part 24 8 (header_of p n f)) = record { decides = c.has_continuous.ensures p n f refl } in
    let accepted = number_compares 32 8 f.accepted area c.fits-area (omega arith) (omega arith) c.get-3.ensures in
    let ceiling : Compares _ area 40 (part 40 8 (header_of p n f)) = record { decides = c.has_ceiling.ensures p n f refl } in
    rw (
      c.if-not-has_plan.false,
      eq-eqb _ _ c.if-get-ne0.false,
      eq-eqb _ _ c.if-get-figures.false,
      c.if-not-has_level.false,
      c.if-not-has_continuous.false,
      eq-eqb _ _ c.if-get-figures-2.false,
    ) at
    (both_compare (both_compare (both_compare (both_compare (both_compare (both_compare plan twelve refl) credit refl) level refl) continuous refl) accepted refl) ceiling refl).decides
