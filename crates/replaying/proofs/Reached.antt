-- What is known of figures that calls could have left, and of a turn of the replay over them. Assumes nothing.
use Prim.Native.Nat.{ℕ, ◌<◌}
use mathlib.Core.Path.{◌≡◌, refl, ◌∙◌}
use mathlib.Core.Bool.{false}
use mathlib.Core.List.{List}
use native.Mathlib.Omega.{arith}
use lib.Dec.{T}
use Rattle.little.specs.Little.{AreBytes}
use Rattle.plans.specs.Continuous.{screening}
use Rattle.model.specs.declared.Plan.{Plan}
use Rattle.model.specs.declared.Figures.{Figures}
use Rattle.model.specs.declared.Entry.{Entry}
use Rattle.model.specs.Stations.{is_credit, is_level, is_continuous}
use Rattle.model.specs.Figuring.{no_level, figures_of}
use Rattle.model.specs.Calls.{admissible}
use Rattle.model.specs.FigureBounds.{FiguresWithRoom}
use Rattle.model.specs.Area.{entries_in}
use Rattle.model.proofs.Backward.{credit_backward, level_foreign, continuous_foreign}
use Rattle.model.proofs.FigureBounds.{figures_within}
use Rattle.replaying.specs.Replaying.{records_in, figures_to, Ready, Left, Reached, On}
use Rattle.replaying.proofs.Parts.{length_entries}
use Rattle.replaying.proofs.Turns.{ready_admissible, turn_inside, turn_taken, turn_failed, turns_over}

-- figures that entries could have left, whether the plan is valid or not
module _ (p : Plan) (f : Figures) (entries : List Entry) (stood : T (admissible p entries)) (after : f ≡ figures_of p entries) where
  -- those foreign to the plan are zero
  pub no_credit : is_credit p ≡ false → f.credit.0 ≡ 0
  no_credit e = rw after (credit_backward p entries ∙ rw e)

  pub no_level_lem : is_level p ≡ false → f.level ≡ no_level
  no_level_lem e = rw after (level_foreign p entries e)

  pub no_continuous : is_continuous p ≡ false → f.continuous ≡ screening 0
  no_continuous e = rw after (continuous_foreign p entries stood e)

module _ (p : Plan) (f : Figures) (reached : Reached p f) where
  -- every figure fits its bytes, and no sum overflows
  pub reached_within : FiguresWithRoom f
  reached_within =
      let within = rw (← reached.after) at (figures_within p reached.entries reached.valid reached.stood) in
      let free = reached.free in
      let levels = within.levels in
      record {
        credits = omega (arith, within.credits);
        levels = record { levels = omega arith; rows = omega arith; judged_lots = omega arith; windows = omega arith };
        counts = within.counts;
        phases = within.phases;
        tails = within.tails;
        accepted_in = omega (arith, within.accepted_in);
      }

-- a replay, and one that has a record before it
module _ (p : Plan) (area : List ℕ) (f : Figures) (i to : ℕ) (ready : Ready p area f i to) (bytes : AreBytes area) where
  pub ready_left : Left p f
  unfolding figures_to
  ready_left =
      record {
        entries = entries_in p (records_in area) i;
        valid = ready.valid;
        stood = ready_admissible p area f i to ready bytes;
        after = ready.brought;
      }

  pub ready_reached : i < to → Reached p f
  unfolding figures_to
  ready_reached more =
      record {
        entries = entries_in p (records_in area) i;
        valid = ready.valid;
        stood = ready_admissible p area f i to ready bytes;
        free = omega (arith, length_entries p (records_in area) i);
        after = ready.brought;
      }

-- the numbers before an entry of a call, and before a record
module _ {C : Type 0} (kind : ℕ) (shown : C → Figures) (ranged : C → Type 0) (p : Plan) (c : C) (of_kind : p.kind ≡ kind) (in_range : ranged c) where
  pub call_on : (f : Figures) → shown c ≡ f → Reached p f → On kind shown ranged p c
  call_on f same reached =
      record { of_kind = of_kind; valid = reached.valid; room = rw same (reached_within p f reached); in_range = in_range }

  pub turn_on : (area : List ℕ) (i to : ℕ) → Ready p area (shown c) i to → AreBytes area → i < to → On kind shown ranged p c
  turn_on area i to ready bytes more = call_on (shown c) refl (ready_reached p area (shown c) i to ready bytes more)

-- what a replay's loop needs of its turns
pub ruleset turns = (turn_inside, turn_taken, turn_failed, turns_over, ready_left, turn_on)
