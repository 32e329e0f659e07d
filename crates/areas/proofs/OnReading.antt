-- What is known of an area once it has been read. Assumes nothing.
use Prim.Native.Nat.{ℕ, zero, suc, ◌≤◌}
use mathlib.Core.Path.{◌≡◌, refl, sym, ap, ◌∙◌}
use mathlib.Core.List.{List, [], ◌∷◌}
use Rattle.std.specs.Prelude.{Result, Ok, Err}
use native.Mathlib.Omega.{arith}
use lib.Dec.{T}
use lib.ListN.{length, drop}
use Rattle.model.specs.declared.Plan.{Plan}
use Rattle.model.specs.declared.Entry.{Entry}
use Rattle.model.specs.declared.Figures.{Figures}
use Rattle.model.specs.Sizes.{most_records}
use Rattle.model.specs.Stations.{unopened, opened, valid_plan}
use Rattle.model.specs.Figuring.{started, figures_of}
use Rattle.model.specs.declared.Call.{Call}
use Rattle.model.specs.Calls.{admissible, refused, refusal_of}
use Rattle.model.specs.Area.{area_of, Reading, unsound, holds, reading, on_area}
use Rattle.model.proofs.OnArea.{on_unsound, on_station, refused_station}
use Rattle.model.proofs.Allowed.{newest_of_lem, count_within}
use Rattle.model.proofs.AreaReading.{area_of_reading}
use Rattle.model.specs.FigureBounds.{FiguresWithin}
use Rattle.model.proofs.FigureBounds.{figures_within}
use Rattle.model.proofs.Keeping.{plan_of_lem, entries_of}
use Rattle.records.specs.Records.{LevelFits}
use Rattle.rules.specs.declared.refusing.Refusal.{Refusal as Refused}
use Rattle.rules.specs.declared.refusing.Refusal.TheVariants.{Unsound, Unopened}
use Rattle.rules.specs.Refusing.{number_of}
use Rattle.replay.specs.declared.Standing.{Standing}
use Rattle.replay.specs.Standing.{standing_of}

-- an area in which a stream is opened, as the reading tells it, with so many of the newest entries set apart
pub record OpenedAt (newest : ℕ) (area : List ℕ) (s : Standing) (es : List Entry) : Type 0 where
  pub reads : reading area ≡ holds (opened s.plan es)
  pub counted : s.count ≡ length es
  pub brought : s.figures ≡ figures_of s.plan (drop newest es)

module _ (newest : ℕ) (area : List ℕ) {said : Result Standing Refused} (same : said ≡ standing_of newest (reading area)) where
  of_reading : (r : Reading) → reading area ≡ r → said ≡ standing_of newest r
  of_reading r e = same ∙ ap (standing_of newest) e

  pub read_unopened_lem : said ≡ Err Unopened → reading area ≡ holds unopened
  unfolding standing_of
  read_unopened_lem six = go (reading area) refl
    where
      go : (r : Reading) → reading area ≡ r → reading area ≡ holds unopened
      go unsound e = let t = of_reading unsound e in cc
      go (holds unopened) e = e
      go (holds (opened p es)) e = let t = of_reading (holds (opened p es)) e in cc

  pub read_opened : {s : Standing} → said ≡ Ok s → (es : List Entry) × OpenedAt newest area s es
  unfolding standing_of
  read_opened {s} is = go (reading area) refl
    where
      go : (r : Reading) → reading area ≡ r → (es : List Entry) × OpenedAt newest area s es
      go unsound e = let t = of_reading unsound e in absurd (cc)
      go (holds unopened) e = let t = of_reading (holds unopened) e in absurd (cc)
      go (holds (opened p es)) e =
          let t = of_reading (holds (opened p es)) e in
          let told : s ≡ record { plan = p; figures = figures_of p (drop newest es); count = length es } = cc in (
            es,
            record {
              reads = rw (ap (λ (x : Standing). x.plan) told) e;
              counted = ap (λ (x : Standing). x.count) told;
              brought = ap (λ (x : Standing). x.figures) told ∙ rw (ap (λ (x : Standing). x.plan) told);
            },
          )

  -- 3, and 6 for a call that is no Open
  pub read_refused : (c : Call) {r : Refused} → said ≡ Err r → (r ≡ Unopened → refusal_of unopened c ≡ 6)
      → on_area area c ≡ record { answer = refused (number_of r); area = area }
  unfolding standing_of
  read_refused c {r} is six = go (reading area) refl
    where
      go : (read : Reading) → reading area ≡ read → on_area area c ≡ record { answer = refused (number_of r); area = area }
      go unsound e =
          let t = of_reading unsound e in
          let given : r ≡ Unsound = cc in
          rw given (on_unsound area c e)
      go (holds unopened) e =
          let t = of_reading (holds unopened) e in
          let given : r ≡ Unopened = cc in
          let kept = refused_station unopened c (λ z. omega (arith, six given)) in
          on_station area unopened c e ∙ rw (kept.0, kept.1, six given, given, (area_of_reading area unopened e).1)
      go (holds (opened p es)) e = let t = of_reading (holds (opened p es)) e in absurd (cc)

-- what holds of the plan, the entries and the figures of such an area
module _ {newest : ℕ} {area : List ℕ} {s : Standing} {es : List Entry} (at : OpenedAt newest area s es) where
  pub read_plan : T (valid_plan s.plan)
  read_plan = plan_of_lem s.plan es (area_of_reading area (opened s.plan es) at.reads).0

  pub read_entries : T (admissible s.plan es)
  read_entries = entries_of s.plan es (area_of_reading area (opened s.plan es) at.reads).0

  pub read_area : area ≡ area_of (opened s.plan es)
  read_area = sym (area_of_reading area (opened s.plan es) at.reads).1

  pub read_count : s.count ≤ most_records
  read_count = omega (arith, at.counted, count_within s.plan es read_entries)

pub read_figures : {area : List ℕ} {s : Standing} {es : List Entry} → OpenedAt 0 area s es → FiguresWithin s.count s.figures
read_figures at = rw (at.counted, at.brought) (figures_within _ _ (read_plan at) (read_entries at))

-- ---- the level figures are bytes

pub level_fits : (n : ℕ) (f : Figures) → n ≤ most_records → FiguresWithin n f → LevelFits f.level
level_fits n f h known =
    let within = known.levels in
    record { levels = omega arith; rows = omega arith; judged_lots = omega arith; windows = omega arith }

pub started_fits : (p : Plan) → T (valid_plan p) → LevelFits (started p).level
unfolding figures_of admissible
started_fits p valid = level_fits 0 (started p) (omega arith) (figures_within p [] valid tt)

without_newest_lem : (p : Plan) (k : ℕ) (es : List Entry) → T (admissible p es) → T (admissible p (drop k es))
unfolding admissible
without_newest_lem p zero es t = t
without_newest_lem p (suc k) [] t = t
without_newest_lem p (suc k) (e ∷ es) t = without_newest_lem p k es (newest_of_lem p e es t).others

pub figures_fit : {newest : ℕ} {area : List ℕ} {s : Standing} {es : List Entry} → OpenedAt newest area s es
    → LevelFits s.figures.level
figures_fit {newest} {area} {s} {es} at =
    let older = without_newest_lem s.plan newest es (read_entries at) in
    rw at.brought
    (level_fits _ _ (count_within s.plan (drop newest es) older) (figures_within s.plan (drop newest es) (read_plan at) older))
