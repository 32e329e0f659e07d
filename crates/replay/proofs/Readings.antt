-- What an area says: one law for each answer of the code. Assumes nothing.
use Prim.Native.Nat.{ℕ, zero, suc, ◌+◌, ◌*◌, ◌-◌, ◌≤◌, ◌<◌}
use mathlib.Core.Path.{◌≡◌, refl, sym, ap, ◌∙◌}
use mathlib.Core.Bool.{Bool, true, false, not}
use borrow.Author.Tests.{not-true, not-false}
use mathlib.Core.List.{List}
use Rattle.std.specs.Prelude.{Ok, Err}
use native.Mathlib.Omega.{arith}
use lib.ListN.{length, get_or, drop}
use Rattle.little.specs.Little.{part, AreBytes}
use Rattle.model.specs.declared.Plan.{Plan}
use Rattle.model.specs.declared.Entry.{Entry}
use Rattle.model.specs.declared.Figures.{Figures}
use Rattle.model.specs.Sizes.{area_length, header_length, record_length, most_records}
use Rattle.model.specs.Stations.{unopened, opened, valid_plan}
use Rattle.model.specs.Calls.{admissible_station}
use Rattle.model.specs.Area.{zeros, header_of, area_of, plan_in, count_in, entries_in, Reading, unsound, holds, reading}
use Rattle.model.proofs.AreaReading.{reading_of_area}
use Rattle.model.proofs.Booleans.{holds_of, of_holds, never_both}
use Rattle.records.specs.Records.{Decides}
use Rattle.records.proofs.Laws.{decided_not, refuted}
use Rattle.replaying.specs.Replaying.{records_in, figures_to, stand_to, Ready, replayed}
use Rattle.rules.specs.declared.refusing.Refusal.TheVariants.{Unsound, Unopened}
use Rattle.replay.specs.Standing.{standing_of, Headed, HeaderFits}
use Rattle.model.specs.Figuring.{started}
use Rattle.replaying.proofs.Turns.{stand_none, figures_none, all_stand, one_fails, figures_after}
use Rattle.replaying.proofs.Parts.{length_entries, stand_fails, parts_sound, SoundParts, sound_parts, zero_parts}

-- the entries of fewer records are the older ones
entries_older : (p : Plan) (records : List ℕ) (count newest : ℕ)
    → entries_in p records (count - newest) ≡ drop newest (entries_in p records count)
unfolding entries_in
entries_older p records count zero = let all : count - 0 ≡ count = omega arith in rw all
entries_older p records zero (suc newest) = let none : zero - suc newest ≡ zero = omega arith in rw none
entries_older p records (suc count) (suc newest) =
    let fewer : suc count - suc newest ≡ count - newest = omega arith in
    rw fewer (entries_older p records count newest)

-- a header fits where the records stand and it holds the figures after them
pub fits_stored : (p : Plan) (area : List ℕ) (count : ℕ) (f : Figures) (same : Bool) → stand_to p area count ≡ true
    → f ≡ figures_to p area count → Decides same (part 0 header_length area ≡ header_of p count f) → Decides same (HeaderFits p area count)
fits_stored p area count f same stand brought test =
    record {
      shows = λ e. record { stand = stand; stored = rw brought at (test.shows e) };
      shown = λ fits. test.shown (fits.stored ∙ rw brought);
    }

-- and nowhere else
pub fits_no_failed : (p : Plan) (area : List ℕ) (count : ℕ) → stand_to p area count ≡ false → Decides false (HeaderFits p area count)
fits_no_failed p area count fails = refuted (λ fits. never_both (stand_to p area count) fits.stand fails)

module _ (newest : ℕ) where
  -- where the first byte is 0, the area is sound if all bytes are
  module _ (area : List ℕ) (clear : Bool) (whole : length area ≡ area_length) (test : Decides clear (drop 0 area ≡ zeros (length area - 0))) where
    pub says_unopened : clear ≡ true → Err Unopened ≡ standing_of newest (reading area)
    unfolding standing_of area_of admissible_station
    says_unopened is =
        let all : area ≡ zeros area_length = rw whole at (test.shows is) in
        rw (ap reading all ∙ reading_of_area unopened tt)

    pub says_stray : get_or area 0 0 ≡ 0 → clear ≡ false → Err Unsound ≡ standing_of newest (reading area)
    unfolding standing_of
    says_stray first is = go (reading area) refl
      where
        go : (r : Reading) → reading area ≡ r → Err Unsound ≡ standing_of newest (reading area)
        go unsound e = rw e
        go (holds unopened) e = absurd (decided_not test is (rw whole (zero_parts area e)))
        go (holds (opened p es)) e = absurd ((sound_parts p es area e).kind first)

  -- where it is not, and no opened station has left the area, the area is unsound
  module _ (area : List ℕ) (first : get_or area 0 0 ≡ 0 → ⊥) where
    says_unsound : ((p : Plan) (es : List Entry) → SoundParts p es area → ⊥) → Err Unsound ≡ standing_of newest (reading area)
    unfolding standing_of
    says_unsound never = go (reading area) refl
      where
        go : (r : Reading) → reading area ≡ r → Err Unsound ≡ standing_of newest (reading area)
        go unsound e = rw e
        go (holds unopened) e = absurd (first (ap (λ (a : List ℕ). get_or a 0 0) (zero_parts area e)))
        go (holds (opened p es)) e = absurd (never p es (sound_parts p es area e))

    -- the plan is none that a stream is opened with
    pub says_invalid : (plan : Plan) (valid : Bool) → plan ≡ plan_in area → valid ≡ valid_plan plan → not valid ≡ true
        → Err Unsound ≡ standing_of newest (reading area)
    says_invalid plan valid planned same fails =
        says_unsound
        (λ p es parts.
        never_both (valid_plan p) (holds_of (valid_plan p) parts.valid)
        (ap valid_plan (sym (planned ∙ parts.plan)) ∙ sym same ∙ not-true valid fails))

    -- there are more records than an area holds
    pub says_crowded : (count : ℕ) → count ≡ count_in area → most_records < count → Err Unsound ≡ standing_of newest (reading area)
    says_crowded count counted more = says_unsound (λ p es parts. omega (arith, counted, parts.count, parts.room))

  module _ (area : List ℕ) (plan : Plan) (count : ℕ) (header : Headed area plan count) where
    same_plan : (p : Plan) (es : List Entry) → SoundParts p es area → p ≡ plan
    same_plan p es parts = sym (header.planned ∙ parts.plan)

    same_count : (p : Plan) (es : List Entry) → SoundParts p es area → length es ≡ count
    same_count p es parts = sym (header.counted ∙ parts.count)

    -- one of the first records cannot stand
    pub says_failed : (f : Figures) (to : ℕ) → to ≡ count - newest → Err f ≡ replayed plan area to
        → Err Unsound ≡ standing_of newest (reading area)
    says_failed f to fewest gives =
        let fewer = stand_fails plan area to count (omega arith) (one_fails plan area to f gives) in
        says_unsound area header.kind
        (λ p es parts.
        never_both (stand_to p area (length es)) parts.stand (rw (same_plan p es parts, same_count p es parts) fewer))

    -- the newest records cannot stand, or the header is another
    pub says_other : (fits : Bool) → Decides fits (HeaderFits plan area count) → not fits ≡ true
        → Err Unsound ≡ standing_of newest (reading area)
    unfolding figures_to
    says_other fits test fails =
        says_unsound area header.kind
        (λ p es parts.
        decided_not test (not-true fits fails)
        (record {
          stand = rw (← same_plan p es parts, ← same_count p es parts) parts.stand;
          stored = rw (← same_plan p es parts, ← same_count p es parts, parts.entries) parts.header;
        }))

    -- something stands behind the last record
    pub says_more : (clear : Bool)
        → Decides clear (drop (header_length + record_length * count) area ≡ zeros (length area - (header_length + record_length * count)))
        → not clear ≡ true → Err Unsound ≡ standing_of newest (reading area)
    says_more clear test fails =
        says_unsound area header.kind
        (λ p es parts. decided_not test (not-true clear fails) (rw (same_count p es parts) at parts.rest))

    -- all of it is as calls leave it
    pub says_opened : (before : Figures) → AreBytes area → before ≡ figures_to plan area (count - newest) → HeaderFits plan area count
        → drop (header_length + record_length * count) area ≡ zeros (length area - (header_length + record_length * count))
        → Ok (record { plan = plan; figures = before; count = count }) ≡ standing_of newest (reading area)
    unfolding standing_of figures_to
    says_opened before b older fits clear =
        let planned = header.planned in
        let counted = header.counted in
        let read =
        parts_sound area header.whole b (rw planned at header.valid) (rw counted at header.room)
        (rw (planned, counted) at fits.stand) (rw (planned, counted) at fits.stored) (rw counted at clear) in
        rw (
          read,
          ← planned,
          ← counted,
          length_entries plan (records_in area) count,
          ← entries_older plan (records_in area) count newest,
        )
        (rw older)

pub headed : (area : List ℕ) (plan : Plan) (count : ℕ) (valid : Bool) → length area ≡ area_length → (get_or area 0 0 ≡ 0 → ⊥) → plan ≡ plan_in area
    → valid ≡ valid_plan plan → not valid ≡ false → count ≡ count_in area → count ≤ most_records → Headed area plan count
headed area plan count valid whole kind planned tested passes counted room =
    record {
      whole = whole;
      kind = kind;
      planned = planned;
      valid = of_holds _ (sym tested ∙ not-false valid passes);
      counted = counted;
      room = room;
    }

-- what the replay of the older records, and the comparison with the header, ask
pub ready_first : (area : List ℕ) (plan : Plan) (count newest to : ℕ) (f : Figures) → Headed area plan count → f ≡ started plan → to ≡ count - newest
    → Ready plan area f 0 to
ready_first area plan count newest to f header begun fewest =
    record {
      whole = header.whole;
      valid = header.valid;
      in_order = omega arith;
      room = omega (arith, header.room);
      stood = stand_none _ _;
      brought = begun ∙ sym (figures_none _ _);
    }

pub ready_rest : (area : List ℕ) (plan : Plan) (count newest to : ℕ) (f : Figures) → Headed area plan count → to ≡ count - newest
    → Ok f ≡ replayed plan area to → Ready plan area f to count
ready_rest area plan count newest to f header fewest gives =
    record {
      whole = header.whole;
      valid = header.valid;
      in_order = omega arith;
      room = header.room;
      stood = all_stand plan area to f gives;
      brought = figures_after plan area to f gives;
    }

pub ruleset sayings = (
  says_unopened,
  says_stray,
  says_invalid,
  says_crowded,
  says_failed,
  says_more,
  says_other,
  headed,
  ready_first,
  ready_rest,
)
