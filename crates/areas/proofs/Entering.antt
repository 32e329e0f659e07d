-- A call that enters something, on an area in which the stream is opened: refused up to the last of paper 01's list, or by the last where
-- the step of the plan fails, or by 17 behind it, or entered. Assumes nothing.
use Prim.Native.Nat.{ℕ, ◌+◌, ◌≤◌, ◌<◌}
use mathlib.Core.Path.{◌≡◌, refl, sym, ◌∙◌}
use mathlib.Core.Bool.{Bool, true, false, cond, not, ◌||◌}
use mathlib.Core.List.{List}
use Rattle.std.specs.Prelude.{Option, Some, None}
use native.Mathlib.Omega.{arith}
use lib.Dec.{T, eqb, ltb}
use borrow.Author.Tests.{eqb-true, ne_eqb, ltb-false, leb-false, not-false}
use Rattle.plans.specs.Limits.{longest_run, within}
use Rattle.model.specs.declared.Plan.{Plan}
use Rattle.model.specs.declared.Entry.{Entry}
use Rattle.model.specs.declared.Entry.TheVariants.{Lot, Run, Block, Stop}
use Rattle.model.specs.declared.Call.TheVariants.{Enter}
use Rattle.model.specs.declared.Figures.{Figures}
use Rattle.model.specs.declared.Recording.{Recording}
use Rattle.model.specs.declared.Answer.{Answer}
use Rattle.model.specs.Sizes.{most_records}
use Rattle.model.specs.Stations.{is_continuous}
use Rattle.model.specs.Figuring.{sample_asked, stepped}
use Rattle.model.specs.Calls.{first_refusal, rule_refusals, is_full, allows, lacks_recording, entry_refusals, refused, entry_answer}
use Rattle.model.specs.Records.{record_bytes, record_of}
use Rattle.model.specs.Area.{on_area}
use Rattle.model.proofs.Allowed.{passed, entry_refusal}
use Rattle.model.proofs.Booleans.{neither_of}
use Rattle.rules.specs.Refusing.{earlier, UpToLast}
use Rattle.rules.proofs.UpToLast.{last_of, first_earlier, last_decides}
use Rattle.replaying.specs.Replaying.{Reached, tried, asked_lot}
use Rattle.replaying.proofs.Tried.{allows_anywhere, lot_unrecorded}
use Rattle.records.specs.Records.{LevelFits}
use Rattle.areas.specs.Written.{rewritten}
use Rattle.replay.specs.declared.Standing.{Standing}
use Rattle.areas.proofs.OnReading.{OpenedAt, read_plan, read_entries}
use Rattle.areas.proofs.Outcomes.{leaves, enter_refused, entered, after_fits}

room_of : (count : ℕ) → is_full count ≡ false → count < most_records
unfolding is_full
room_of count e = omega (arith, leb-false _ count e)

-- what is known of an entry that is refused by the last of its list, or not at all
pub record LeftLot (p : Plan) (f : Figures) (count N n : ℕ) : Type 0 where
  pub lots : is_continuous p ≡ false
  pub room : count < most_records
  pub sample : n ≡ sample_asked p f N

pub record LeftRunOrBlock (p : Plan) (count w : ℕ) : Type 0 where
  pub kind : p.kind ≡ 3
  pub room : count < most_records
  pub wrong : w ≤ 1

-- runs and blocks, and their flag
abbrev pub is_run_or_block : Entry → Bool
is_run_or_block (Lot label N n d D rec) = false
is_run_or_block (Run h w rec) = true
is_run_or_block (Block q w rec) = true
is_run_or_block (Stop why days) = false

abbrev pub wrong_in : Entry → ℕ
wrong_in (Lot label N n d D rec) = 0
wrong_in (Run h w rec) = w
wrong_in (Block q w rec) = w
wrong_in (Stop why days) = 0

module _ (p : Plan) (f : Figures) (count : ℕ) where
  pub left_lot : (label N n d D : ℕ) (rec : Recording) → first_refusal (earlier (rule_refusals p f count (Lot label N n d D rec))) ≡ 0 → LeftLot p f count N n
  unfolding earlier rule_refusals
  left_lot label N n d D rec e =
      let seven = passed 7 _ _ (omega arith) e in
      let eight = passed 8 _ _ (omega arith) seven.1 in
      let nine = passed 9 _ _ (omega arith) eight.1 in
      let ten = passed 10 _ _ (omega arith) nine.1 in
      let eleven = passed 11 _ _ (omega arith) ten.1 in
      let twelve = passed 12 _ _ (omega arith) eleven.1 in
      record {
        lots = seven.0;
        room = room_of count nine.0;
        sample = eqb-true n (sample_asked p f N) (not-false _ twelve.0);
      }

  left_run : (h w : ℕ) (rec : Recording) → first_refusal (earlier (rule_refusals p f count (Run h w rec))) ≡ 0 → LeftRunOrBlock p count w
  unfolding earlier rule_refusals is_continuous
  left_run h w rec e =
      let seven = passed 7 _ _ (omega arith) e in
      let nine = passed 9 _ _ (omega arith) seven.1 in
      let fifteen = passed 15 _ _ (omega arith) nine.1 in
      let range = neither_of (ltb longest_run h || ltb 1 w) (eqb (h + w) 0) fifteen.0 in
      record {
        kind = eqb-true p.kind 3 (not-false _ seven.0);
        room = room_of count nine.0;
        wrong = ltb-false 1 w (neither_of (ltb longest_run h) (ltb 1 w) range.0).1;
      }

  left_block : (q w : ℕ) (rec : Recording) → first_refusal (earlier (rule_refusals p f count (Block q w rec))) ≡ 0 → LeftRunOrBlock p count w
  unfolding earlier rule_refusals is_continuous
  left_block q w rec e =
      let seven = passed 7 _ _ (omega arith) e in
      let nine = passed 9 _ _ (omega arith) seven.1 in
      let fifteen = passed 15 _ _ (omega arith) nine.1 in
      record {
        kind = eqb-true p.kind 3 (not-false _ seven.0);
        room = room_of count nine.0;
        wrong = ltb-false 1 w (neither_of (not (within 1 p.b q)) (ltb 1 w) fifteen.0).1;
      }

  pub left_run_or_block : (e : Entry) → T (is_run_or_block e) → first_refusal (earlier (rule_refusals p f count e)) ≡ 0
      → LeftRunOrBlock p count (wrong_in e)
  left_run_or_block (Lot label N n d D rec) of e = absurd of
  left_run_or_block (Run h w rec) of e = left_run h w rec e
  left_run_or_block (Block q w rec) of e = left_block q w rec e
  left_run_or_block (Stop why days) of e = absurd of

  pub left_stop : (why days : ℕ) → first_refusal (earlier (rule_refusals p f count (Stop why days))) ≡ 0 → count < most_records
  unfolding earlier rule_refusals
  left_stop why days e =
      let eight = passed 8 _ _ (omega arith) e in
      let nine = passed 9 _ _ (omega arith) eight.1 in
      room_of count nine.0

-- a lot with the sample asked is that lot, whatever its recording
pub lot_asked : (p : Plan) (f : Figures) (label N n d D : ℕ) (rec : Recording) → n ≡ sample_asked p f N
    → tried p f (asked_lot p f label N d D) ≡ tried p f (Lot label N n d D rec)
unfolding asked_lot
lot_asked p f label N n d D rec same = rw (← same) (sym (lot_unrecorded p f rec label N n d D))

last_positive : (e : Entry) → last_of e ≡ 0 → ⊥
last_positive (Lot label N n d D rec) z = omega arith
last_positive (Run h w rec) z = omega arith
last_positive (Block q w rec) z = omega arith
last_positive (Stop why days) z = omega arith

-- the step of the plan fails, or gives the figures after the entry
module _ (p : Plan) (f : Figures) (e : Entry) where
  step_fails : None ≡ tried p f e → allows p f 0 e ≡ false
  unfolding tried
  step_fails = go (allows p f 0 e)
    where
      go : (b : Bool) → ◌≡◌ {A = Option Figures} None (cond b (Some (stepped p e f)) None) → b ≡ false
      go true t = cc
      go false t = refl

  step_stands : {g : Figures} → Some g ≡ tried p f e → (allows p f 0 e ≡ true) × (g ≡ stepped p e f)
  unfolding tried
  step_stands {g} = go (allows p f 0 e)
    where
      go : (b : Bool) → Some g ≡ cond b (Some (stepped p e f)) None → (b ≡ true) × (g ≡ stepped p e f)
      go true t = (refl, cc)
      go false t = absurd (cc)

module _ {area : List ℕ} {s : Standing} {es : List Entry} (at : OpenedAt 0 area s es) where
  -- figures that calls have left, with a place free
  pub reached_here : s.count < most_records → Reached s.plan s.figures
  reached_here room =
      record {
        entries = es;
        valid = read_plan at;
        stood = read_entries at;
        free = omega (arith, at.counted);
        after = at.brought;
      }

  module _ (e : Entry) {r : ℕ} (told : UpToLast s.plan s.figures s.count e r) where
    -- an earlier refusal applies
    pub refused_first : {a : Answer} → (r ≡ 0 → ⊥) → a ≡ refused r → leaves a area ≡ on_area area (Enter e)
    refused_first applies given =
        let first = told ∙ first_earlier _ (λ z. applies (told ∙ z)) in
        let behind = entry_refusal s.plan s.figures s.count e in
        enter_refused at e (first ∙ sym (behind ∙ rw (ne_eqb _ 0 (λ z. applies (first ∙ z))))) applies given

    module _ (none : r ≡ 0) where
      -- only the last is left
      pub last_left : first_refusal (earlier (rule_refusals s.plan s.figures s.count e)) ≡ 0
      last_left = sym told ∙ none

      by_last : first_refusal (rule_refusals s.plan s.figures s.count e) ≡ cond (allows s.plan s.figures s.count e) 0 (last_of e)
      by_last = last_decides s.plan s.figures s.count e last_left

      module _ (room : s.count < most_records) where
        allowed_here : allows s.plan s.figures s.count e ≡ allows s.plan s.figures 0 e
        allowed_here = allows_anywhere s.plan s.figures s.count e room

        -- the last of paper 01's applies
        pub refused_last : None ≡ tried s.plan s.figures e → {a : Answer} → a ≡ refused (last_of e) → leaves a area ≡ on_area area (Enter e)
        refused_last fails given =
            let last = entry_refusal s.plan s.figures s.count e
            ∙ rw (by_last, allowed_here, step_fails s.plan s.figures e fails) (rw (ne_eqb (last_of e) 0 (last_positive e))) in
            enter_refused at e (sym last) (last_positive e) given

        module _ {g : Figures} (stands : Some g ≡ tried s.plan s.figures e) where
          -- none of paper 01's does
          by_recording : first_refusal (entry_refusals s.plan s.figures s.count e) ≡ cond (lacks_recording e) 17 0
          by_recording =
              entry_refusal s.plan s.figures s.count e ∙ rw (by_last, allowed_here, (step_stands s.plan s.figures e stands).0)

          -- 17 does
          pub refused_recording : lacks_recording e ≡ true → {a : Answer} → a ≡ refused 17 → leaves a area ≡ on_area area (Enter e)
          refused_recording lacks given = enter_refused at e (sym (by_recording ∙ rw lacks)) (λ z. omega arith) given

          -- nor does 17: the figures are those after the entry
          module _ (recorded : lacks_recording e ≡ false) where
            pub none_refused : first_refusal (entry_refusals s.plan s.figures s.count e) ≡ 0
            none_refused = by_recording ∙ rw recorded

            pub figures_after : g ≡ stepped s.plan e s.figures
            figures_after = (step_stands s.plan s.figures e stands).1

            pub fits_after : LevelFits g.level
            fits_after = after_fits at e none_refused figures_after

            -- what it gives, and the area after it
            pub entered_here : {a : Answer} {after : List ℕ} → a ≡ entry_answer s.plan s.figures e
                → after ≡ rewritten s.plan s.count (record_bytes (record_of e)) (s.count + 1) g area
                → leaves a after ≡ on_area area (Enter e)
            entered_here given left = entered at e refl none_refused figures_after given left
