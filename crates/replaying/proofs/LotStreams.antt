-- Streams for lots: the numbers that a replay carries say all of their figures, and which records stand. Assumes nothing.
use Prim.Native.Nat.{ℕ, ◌+◌, ◌≤◌}
use mathlib.Core.Path.{◌≡◌, refl, sym, ◌∙◌}
use mathlib.Core.Bool.{Bool, true, false, not, ◌&&◌}
use mathlib.Core.List.{List}
use native.Mathlib.Nat.{add-zero}
use lib.Dec.{T, eqb}
use borrow.Author.Tests.{eqb-true, eq-eqb}
use Rattle.plans.specs.Limits.{largest_lot, within}
use Rattle.plans.specs.Verdicts.{accepted_of}
use Rattle.plans.specs.declared.level.LevelState.{LevelState}
use Rattle.model.specs.declared.Plan.{Plan}
use Rattle.model.specs.declared.Entry.{Entry}
use Rattle.model.specs.declared.Entry.TheVariants.{Lot, Stop}
use Rattle.model.specs.declared.Figures.{Figures}
use Rattle.model.specs.declared.Record.{Record}
use Rattle.model.specs.declared.Recording.{Recording}
use Rattle.model.specs.Stations.{is_continuous}
use Rattle.model.specs.Figuring.{verdict_on, accepted_by, credit_step, level_step, continuous_step, is_lot, label_of, stepped, figures_of}
use Rattle.model.specs.Calls.{admissible}
use Rattle.model.specs.Records.{lot_kind}
use Rattle.model.proofs.Booleans.{both_true, never_both, within_of}
use Rattle.rules.specs.Refusing.{may_follow}
use Rattle.std.specs.Prelude.{Option, Some, None}
use Rattle.replaying.specs.Replaying.{head_of, faultless, why_of, entered, tried, asked_lot, Tells}
use Rattle.replaying.specs.LotStreams.{lot_figures}
use Rattle.replaying.proofs.Reached.{no_continuous}
use Rattle.replaying.proofs.Tried.{lot_record_lem, stop_record, no_stop_record, other_record}

-- ---- the numbers

-- those of figures stand for them
pub numbers_kept : (p : Plan) (f : Figures) (entries : List Entry) → T (admissible p entries) → f ≡ figures_of p entries
    → is_continuous p ≡ false → (K : ℕ) (L : LevelState) → f.credit.0 ≡ K → f.level ≡ L → lot_figures K L f.accepted f.above ≡ f
unfolding lot_figures
numbers_kept p f entries stood after lots K L credit level = rw (← credit, ← level, ← no_continuous p f entries stood after lots)

module _ (K : ℕ) (L : LevelState) (A above : ℕ) where
  -- the numbers after a lot, and after a stop
  pub lot_numbers : (p : Plan) (label N n d D : ℕ) (rec : Recording) → stepped p (Lot label N n d D rec) (lot_figures K L A above)
      ≡ lot_figures (credit_step p (Lot label N n d D rec) K) (level_step p (Lot label N n d D rec) L)
      (A + accepted_of (verdict_on p (lot_figures K L A above) d) N D) (label + 1)
  unfolding stepped continuous_step accepted_by is_lot label_of lot_figures
  lot_numbers p label N n d D rec = refl

  pub stop_numbers : (p : Plan) (why days : ℕ) → is_continuous p ≡ false
      → stepped p (Stop why days) (lot_figures K L A above) ≡ lot_figures K (level_step p (Stop why days) L) A above
  unfolding stepped credit_step continuous_step accepted_by is_lot label_of lot_figures
  stop_numbers p why days lots = simp (lots, add-zero)

-- the size of a lot that may follow
pub follower_size : (least above label N : ℕ) → may_follow least above label N ≡ true → (least ≤ N) × (N ≤ largest_lot)
unfolding may_follow
follower_size least above label N e = within_of least largest_lot N (both_true (not (eqb (label + 1) above)) (within least largest_lot N) e).1

-- ---- records

-- a record by its head: what its entry gives, it gives. Each from facts in the code's own form: which head was read, and what was tested
module _ {C : Type 0} (shown : C → Figures) (ranged : C → Type 0) (p : Plan) (f : Figures) (r : Record) (x : Option C) where
  pub lot_entered : (r.recording.number ≡ 0 → ⊥) → (head : ℕ) → head ≡ head_of r → head ≡ lot_kind
      → Tells shown ranged x (tried p f (asked_lot p f r.a r.b r.c r.d)) → Tells shown ranged x (entered p f 0 r)
  lot_entered known head said lot gives = rw (lot_record_lem p f r known (sym said ∙ lot)) gives

  pub good_entered : (r.recording.number ≡ 0 → ⊥) → (good : Bool) → good ≡ faultless r → good ≡ true
      → Tells shown ranged x (tried p f (asked_lot p f r.a r.b 0 0)) → Tells shown ranged x (entered p f 0 r)
  unfolding faultless
  good_entered known good tested fits gives =
      let lot = both_true (eqb (head_of r) lot_kind) (eqb r.c 0 && eqb r.d 0) (sym tested ∙ fits) in
      let none = both_true (eqb r.c 0) (eqb r.d 0) lot.1 in
      lot_entered known (head_of r) refl (eqb-true (head_of r) lot_kind lot.0) (rw (eqb-true r.c 0 none.0, eqb-true r.d 0 none.1) gives)

  pub stop_entered : r.recording.number ≡ 0 → (why : ℕ) → Some why ≡ why_of r → Tells shown ranged x (tried p f (Stop why r.a))
      → Tells shown ranged x (entered p f 0 r)
  stop_entered none why holds gives = rw (stop_record p f r none why holds) gives

  -- one without a recording that is no stop's cannot stand
  pub no_stop_entered : r.recording.number ≡ 0 → None ≡ why_of r → x ≡ None → Tells shown ranged x (entered p f 0 r)
  no_stop_entered none holds fails = rw fails (record { same = sym (no_stop_record p f r none holds); in_range = tt })

module _ {C : Type 0} (shown : C → Figures) (ranged : C → Type 0) (p : Plan) (f : Figures) (r : Record) where
  -- one with a recording that is no lot's cannot stand
  pub other_entered : (r.recording.number ≡ 0 → ⊥) → (head : ℕ) → head ≡ head_of r → (head ≡ lot_kind → ⊥) → (kind : ℕ) → p.kind ≡ kind → (kind ≡ 3 → ⊥)
      → Tells shown ranged None (entered p f 0 r)
  unfolding is_continuous
  other_entered known head said other kind of_kind lots =
      let never : is_continuous p ≡ true → ⊥ = λ on. lots (sym of_kind ∙ eqb-true p.kind 3 on) in
      let fails = other_record p f r known (λ e _. other (said ∙ e)) (λ _ on. absurd (never on)) (λ _ on. absurd (never on)) in
      record { same = sym fails; in_range = tt }

-- a lot's that is not without fault has something wrong
pub some_wrong : (r : Record) (good : Bool) (head : ℕ) → good ≡ faultless r → good ≡ false → head ≡ head_of r → head ≡ lot_kind
    → (r.c ≡ 0) × (r.d ≡ 0) → ⊥
unfolding faultless
some_wrong r good head tested fails said lot none =
    never_both good (rw (tested, ← said, eq-eqb head lot_kind lot, eq-eqb r.c 0 none.0, eq-eqb r.d 0 none.1)) fails

pub ruleset lot_records = (lot_entered, good_entered, other_entered, some_wrong)
