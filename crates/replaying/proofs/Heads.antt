-- A record's first four bytes as one number, and what is known by them: a lot without fault, and the why of a stop. Assumes nothing.
use Prim.Native.Nat.{ℕ, ◌+◌, ◌*◌, ◌≤◌, ◌<◌}
use mathlib.Core.Path.{◌≡◌, refl, sym, ◌∙◌}
use mathlib.Core.Bool.{Bool, true, false, cond, not, ◌&&◌, and-false}
use native.Mathlib.Omega.{arith}
use lib.Dec.{eqb}
use borrow.Author.Rules.{rules}
use borrow.Author.Tests.{eqb-true, eqb-false, eq-eqb, ne_eqb, le-leb, not-true, not-false}
use Rattle.std.specs.Prelude.{Some, None}
use Rattle.plans.specs.Limits.{within}
use Rattle.model.specs.declared.Record.{Record}
use Rattle.model.specs.Records.{lot_kind, stop_kind}
use Rattle.model.proofs.Booleans.{both_true, within_of}
use Rattle.replaying.specs.Replaying.{one_number, unrecorded, head_of, flagged, pause, change, faultless, holds_stop, why_of}

-- the head says kind, flag and the two zero bytes
pub head_is : (r : Record) (k w : ℕ) → r.kind < 256 → r.flag < 256 → k < 256 → w < 256 → head_of r ≡ flagged k w
    → (r.kind ≡ k) × (r.flag ≡ w) × (r.spare ≡ 0)
unfolding head_of
head_is r k w hk hf k256 w256 e = (omega arith, omega arith, omega arith)

-- two numbers compared as one
pub both_zero : (c d : ℕ) → eqb (c + d * 4294967296) 0 ≡ eqb c 0 && eqb d 0
both_zero c d = go (eqb c 0) (eqb d 0) refl refl
  where
    go : (x y : Bool) → eqb c 0 ≡ x → eqb d 0 ≡ y → eqb (c + d * 4294967296) 0 ≡ x && y
    go true true e g = eq-eqb (c + d * 4294967296) 0 (omega (arith, eqb-true c 0 e, eqb-true d 0 g))
    go true false e g = ne_eqb (c + d * 4294967296) 0 (λ z. eqb-false d 0 g (omega arith))
    go false y e g = ne_eqb (c + d * 4294967296) 0 (λ z. eqb-false c 0 e (omega arith))

-- a lot without fault is known by one number
pub faultless_sum : (r : Record) (head : ℕ) → head ≡ head_of r → eqb (head + r.c * 2 + r.d * 4) lot_kind ≡ faultless r
unfolding faultless
faultless_sum r head said = rw (← said) (go (eqb head lot_kind) (eqb r.c 0) (eqb r.d 0) refl refl refl)
  where
    go : (x y z : Bool) → eqb head lot_kind ≡ x → eqb r.c 0 ≡ y → eqb r.d 0 ≡ z → eqb (head + r.c * 2 + r.d * 4) lot_kind ≡ x && (y && z)
    go true true true e f g = eq-eqb (head + r.c * 2 + r.d * 4) lot_kind (omega (arith, eqb-true head lot_kind e, eqb-true r.c 0 f, eqb-true r.d 0 g))
    go true true false e f g = ne_eqb (head + r.c * 2 + r.d * 4) lot_kind (λ same. eqb-false r.d 0 g (omega (arith, eqb-true head lot_kind e)))
    go true false z e f g = ne_eqb (head + r.c * 2 + r.d * 4) lot_kind (λ same. eqb-false r.c 0 f (omega (arith, eqb-true head lot_kind e)))
    go false y z e f g = ne_eqb (head + r.c * 2 + r.d * 4) lot_kind (λ same. eqb-false head lot_kind e (omega arith))

-- what a stop's record is
pub record StopForm (r : Record) : Type 0 where
  pub kind : r.kind ≡ stop_kind
  pub first : 1 ≤ r.flag
  pub last : r.flag ≤ 2
  pub spare : r.spare ≡ 0
  pub one : one_number r ≡ true
  pub bare : unrecorded r ≡ true

pub stop_held : (r : Record) → StopForm r → holds_stop r ≡ true
unfolding holds_stop within
stop_held r form = rw (form.kind, form.spare, form.one, form.bare, le-leb 1 r.flag form.first, le-leb r.flag 2 form.last)

pub stop_form : (r : Record) → holds_stop r ≡ true → StopForm r
unfolding holds_stop
stop_form r e =
    let whole = both_true (eqb r.kind stop_kind && within 1 2 r.flag && eqb r.spare 0 && one_number r) (unrecorded r) e in
    let all = both_true (eqb r.kind stop_kind && within 1 2 r.flag && eqb r.spare 0) (one_number r) whole.0 in
    let three = both_true (eqb r.kind stop_kind && within 1 2 r.flag) (eqb r.spare 0) all.0 in
    let two = both_true (eqb r.kind stop_kind) (within 1 2 r.flag) three.0 in
    let why = within_of 1 2 r.flag two.1 in
    record {
      kind = eqb-true r.kind stop_kind two.0;
      first = why.0;
      last = why.1;
      spare = eqb-true r.spare 0 three.1;
      one = all.1;
      bare = whole.1;
    }

-- the why of the stop in a record, each answer from what was tested: has it more numbers than one, a recording, and which head
pub why_more : (r : Record) (more : Bool) → more ≡ not (one_number r) → more ≡ true → None ≡ why_of r
unfolding why_of holds_stop
why_more r more counted e = rw (not-true (one_number r) (sym counted ∙ e), and-false _)

pub why_recorded : (r : Record) (has : Bool) → has ≡ not (unrecorded r) → has ≡ true → None ≡ why_of r
unfolding why_of holds_stop
why_recorded r has looked e = rw (not-true (unrecorded r) (sym looked ∙ e), and-false _)

module _ (r : Record) (more has : Bool) (counted : more ≡ not (one_number r)) (looked : has ≡ not (unrecorded r)) where
  module _ (one : more ≡ false) (none : has ≡ false) (head : ℕ) (said : head ≡ head_of r) where
    pub why_headed : r.kind < 256 → r.flag < 256 → (w : ℕ) → 1 ≤ w → w ≤ 2 → head ≡ flagged stop_kind w → Some w ≡ why_of r
    unfolding why_of
    why_headed kinds flags w least most e =
        let form = head_is r stop_kind w kinds flags (omega arith) (omega arith) (sym said ∙ e) in
        let alone : one_number r ≡ true = not-false _ (sym counted ∙ one) in
        let bare : unrecorded r ≡ true = not-false _ (sym looked ∙ none) in
        let stop : StopForm r = record { kind = form.0; first = omega arith; last = omega arith; spare = form.2; one = alone; bare = bare } in
        rw (stop_held r stop, form.1)

    pub why_none : (head ≡ pause → ⊥) → (head ≡ change → ⊥) → None ≡ why_of r
    unfolding why_of head_of
    why_none no-pause no_change = go (holds_stop r) refl
      where
        go : (b : Bool) → holds_stop r ≡ b → None ≡ cond b (Some r.flag) None
        go true e = let stop = stop_form r e in absurd (omega arith)
        go false e = refl

pub ruleset whys = (rules, why_more, why_recorded, why_headed, why_none)
