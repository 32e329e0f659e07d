-- The answers of the code on an area, each as the outcome of the call. Assumes nothing.
use Prim.Native.Nat.{ℕ, suc, ◌+◌, ◌-◌, ◌*◌, ◌≤◌, ◌<◌, min}
use mathlib.Core.Path.{◌≡◌, refl, sym, ap, ◌∙◌}
use mathlib.Core.Bool.{Bool, false}
use mathlib.Core.List.{List, [], ◌∷◌, append_assoc}
use native.Mathlib.Omega.{arith}
use lib.Dec.{T, eqb}
use borrow.Author.Tests.{ne_eqb, not-false}
use lib.ListN.{length}
use Rattle.little.specs.Little.{written}
use Rattle.plans.specs.Limits.{largest_lot}
use Rattle.plans.specs.Verdicts.{accepted_of}
use Rattle.plans.specs.Continuous.{after_block}
use Rattle.model.specs.declared.Plan.{Plan}
use Rattle.model.specs.declared.Entry.{Entry}
use Rattle.model.specs.declared.Entry.TheVariants.{Lot, Run, Block, Stop}
use Rattle.model.specs.declared.Call.{Call}
use Rattle.model.specs.declared.Call.TheVariants.{Open, Enter, Back, Ask, Read, Newest}
use Rattle.model.specs.declared.Figures.{Figures}
use Rattle.model.specs.declared.Recording.{Recording}
use Rattle.model.specs.declared.Answer.{Answer}
use Rattle.model.specs.Sizes.{record_length, most_records}
use Rattle.records.specs.Records.{record_at, LevelFits}
use Rattle.model.specs.Stations.{Station, unopened, opened, valid_plan, is_continuous}
use Rattle.model.specs.Figuring.{sample_asked, verdict_on, accepted_by, started, stepped, figures_of}
use Rattle.model.specs.Records.{record_bytes, record_in, record_of}
use Rattle.model.specs.Calls.{
  first_refusal,
  entry_refusals,
  ask_refusals,
  refusals,
  refusal_of,
  gives,
  refused,
  entry_answer,
  lot_figure,
  read_figure,
  newest_kind,
  newest_of,
  answer_of,
  without_newest,
  changed,
  size_in_range,
}
use Rattle.model.specs.Area.{zeros, header_of, records_of, area_of, holds, reading, AreaOutcome, on_area}
use Rattle.model.proofs.Allowed.{room_for, passed, passed_all}
use Rattle.model.proofs.FigureBounds.{lot_size_range, stepped_within}
use Rattle.model.proofs.AreaReading.{area_of_reading, part_record, records_in_lem}
use Rattle.model.proofs.Keeping.{accepted_station, accepted_answer, valid_opens}
use Rattle.model.proofs.OnArea.{on_station, refused_station}
use Rattle.replay.specs.declared.Standing.{Standing}
use Rattle.areas.specs.Written.{rewritten}
use Rattle.areas.proofs.Rewriting.{entered_area, taken_area, opened_area}
use Rattle.areas.proofs.OnReading.{OpenedAt, read_plan, read_area, read_figures, read_count, level_fits}

-- an answer, and the area after it
abbrev pub leaves : Answer → List ℕ → AreaOutcome
leaves r area = record { answer = r; area = area }

module _ (area : List ℕ) (c : Call) (r : Answer) where
  -- a refusal on a station that the area holds
  by_refusal : (st : Station) (n : ℕ) → reading area ≡ holds st → n ≡ refusal_of st c → (n ≡ 0 → ⊥) → r ≡ refused n
      → leaves r area ≡ on_area area c
  by_refusal st n e same applies given =
      let kept = refused_station st c (λ z. applies (same ∙ z)) in
      ap (λ (a : Answer). leaves a area) (given ∙ ap refused same)
      ∙ sym (on_station area st c e ∙ rw (kept.0, kept.1, (area_of_reading area st e).1))

  -- an accepted call
  by_call : (st : Station) (after : List ℕ) → reading area ≡ holds st → refusal_of st c ≡ 0 → r ≡ answer_of st c
      → after ≡ area_of (changed st c) → leaves r after ≡ on_area area c
  by_call st after e taken given left =
      rw (given, left) (sym (on_station area st c e ∙ rw (accepted_answer st c taken, accepted_station st c taken)))

-- Open
module _ (area : List ℕ) (plan : Plan) {r : Answer} where
  pub open_invalid : {valid : Bool} → reading area ≡ holds unopened → valid ≡ valid_plan plan → valid ≡ false → r ≡ refused 5
      → leaves r area ≡ on_area area (Open plan)
  unfolding refusal_of refusals first_refusal
  open_invalid e same fails given =
      by_refusal area (Open plan) r unopened 5 e (rw (sym same ∙ fails)) (λ z. omega arith) given

  pub open_made : {after : List ℕ} → reading area ≡ holds unopened → T (valid_plan plan) → r ≡ gives 0 0 0
      → after ≡ written 0 (header_of plan 0 (started plan)) area → leaves r after ≡ on_area area (Open plan)
  unfolding answer_of changed
  open_made {after} e valid given left =
      by_call area (Open plan) r unopened after e (valid_opens plan valid) given
      (left ∙ rw (sym (area_of_reading area unopened e).1) (opened_area plan))

module _ {area : List ℕ} {s : Standing} {es : List Entry} (at : OpenedAt 0 area s es) where
  pub open_again : (plan : Plan) {r : Answer} → r ≡ refused 4 → leaves r area ≡ on_area area (Open plan)
  unfolding refusal_of refusals first_refusal
  open_again plan {r} given = by_refusal area (Open plan) r (opened s.plan es) 4 at.reads refl (λ z. omega arith) given

  -- Lot, Run, Block, Stop
  refusal_of_lem : (e : Entry) (n : ℕ) → n ≡ first_refusal (entry_refusals s.plan s.figures s.count e)
      → n ≡ refusal_of (opened s.plan es) (Enter e)
  unfolding refusal_of refusals
  refusal_of_lem e n same = rw (← at.counted, ← at.brought) same

  pub enter_refused : (e : Entry) {n : ℕ} {r : Answer} → n ≡ first_refusal (entry_refusals s.plan s.figures s.count e) → (n ≡ 0 → ⊥)
      → r ≡ refused n → leaves r area ≡ on_area area (Enter e)
  enter_refused e {n} {r} same applies given =
      by_refusal area (Enter e) r (opened s.plan es) n at.reads (refusal_of_lem e n same) applies given

  pub entered : (e : Entry) {n : ℕ} {r : Answer} {after : List ℕ} {g : Figures}
      → n ≡ first_refusal (entry_refusals s.plan s.figures s.count e) → n ≡ 0
      → g ≡ stepped s.plan e s.figures → r ≡ entry_answer s.plan s.figures e
      → after ≡ rewritten s.plan s.count (record_bytes (record_of e)) (s.count + 1) g area → leaves r after ≡ on_area area (Enter e)
  unfolding answer_of changed figures_of
  entered e {n} {r} {after} same none stepped-on given left =
      by_call area (Enter e) r (opened s.plan es) after at.reads (sym (refusal_of_lem e n same) ∙ none)
      (rw (← at.brought) given)
      (left
      ∙ rw (stepped-on, at.brought, at.counted, read_area at)
      (entered_area s.plan e es
      (room_for s.plan (figures_of s.plan es) (length es) e
      (rw (at.brought, at.counted) at (passed_all s.plan s.figures s.count e (sym same ∙ none)).allowed))))

  -- and what each kind gives
  pub lot_answer_lem : (label N n d D : ℕ) (rec : Recording) {g : Figures} {r : Answer} → g ≡ stepped s.plan (Lot label N n d D rec) s.figures
      → r ≡ gives (verdict_on s.plan s.figures d) (accepted_of (verdict_on s.plan s.figures d) N D) (lot_figure s.plan g)
      → r ≡ entry_answer s.plan s.figures (Lot label N n d D rec)
  unfolding entry_answer accepted_by
  lot_answer_lem label N n d D rec on given = given ∙ rw on refl

  pub run_answer : (h w : ℕ) (rec : Recording) {g : Figures} {r : Answer} → g ≡ stepped s.plan (Run h w rec) s.figures
      → r ≡ gives h g.continuous.phase 0 → r ≡ entry_answer s.plan s.figures (Run h w rec)
  unfolding entry_answer accepted_by
  run_answer h w rec on given = given ∙ rw on refl

  pub block_answer : (q w : ℕ) (rec : Recording) {g : Figures} {r : Answer} → g ≡ stepped s.plan (Block q w rec) s.figures
      → r ≡ gives (after_block s.plan.b q (eqb w 1) s.figures.continuous).accepted
      (after_block s.plan.b q (eqb w 1) s.figures.continuous).hear_back g.continuous.phase
      → r ≡ entry_answer s.plan s.figures (Block q w rec)
  unfolding entry_answer accepted_by
  block_answer q w rec on given = given ∙ rw on refl

  pub stop_answer : (why days : ℕ) {r : Answer} → r ≡ gives 0 0 0 → r ≡ entry_answer s.plan s.figures (Stop why days)
  unfolding entry_answer
  stop_answer why days given = given

  -- the level figures after an accepted entry are bytes
  pub after_fits : (e : Entry) → first_refusal (entry_refusals s.plan s.figures s.count e) ≡ 0 → {g : Figures}
      → g ≡ stepped s.plan e s.figures → LevelFits g.level
  after_fits e none given =
      let allowed = (passed_all s.plan s.figures s.count e none).allowed in
      rw given
      (level_fits (suc s.count) _ (omega (arith, room_for s.plan s.figures s.count e allowed))
      (stepped_within s.plan e s.figures s.count (read_plan at) allowed (read_figures at)))

  -- Ask
  pub ask_refused : (size : ℕ) {n : ℕ} {r : Answer} → n ≡ first_refusal (ask_refusals s.plan s.figures size) → (n ≡ 0 → ⊥) → r ≡ refused n
      → leaves r area ≡ on_area area (Ask size)
  unfolding refusal_of refusals
  ask_refused size {n} {r} same applies given =
      by_refusal area (Ask size) r (opened s.plan es) n at.reads (rw (← at.brought) same) applies given

  pub asked : (size : ℕ) {n : ℕ} {r : Answer} → n ≡ first_refusal (ask_refusals s.plan s.figures size) → n ≡ 0
      → r ≡ gives (sample_asked s.plan s.figures size) 0 0 → leaves r area ≡ on_area area (Ask size)
  unfolding refusal_of refusals answer_of changed
  asked size {n} {r} same none given =
      by_call area (Ask size) r (opened s.plan es) area at.reads (rw (← at.brought) (sym same ∙ none))
      (rw (← at.brought) given)
      (read_area at)

  -- Read
  pub has_read : {r : Answer} → r ≡ gives s.count s.figures.accepted (read_figure s.plan s.figures) → leaves r area ≡ on_area area Read
  unfolding refusal_of refusals first_refusal answer_of changed
  has_read {r} given =
      by_call area Read r (opened s.plan es) area at.reads refl (rw (← at.counted, ← at.brought) given) (read_area at)

  -- Newest
  pub newest_counted : (n : ℕ) {r : Answer} → r ≡ gives (min n s.count) 0 0 → leaves r area ≡ on_area area (Newest n)
  unfolding refusal_of refusals first_refusal answer_of changed newest_of
  newest_counted n {r} given =
      by_call area (Newest n) r (opened s.plan es) area at.reads refl (rw (← at.counted) given) (read_area at)

-- Back
pub back_none : {area : List ℕ} {s : Standing} {es : List Entry} → OpenedAt 1 area s es → {r : Answer} → s.count ≡ 0
    → r ≡ refused 16 → leaves r area ≡ on_area area Back
unfolding refusal_of refusals first_refusal
back_none {area} {s} {es} at {r} none given =
    by_refusal area Back r (opened s.plan es) 16 at.reads (rw (sym at.counted ∙ none)) (λ z. omega arith) given

-- the newest record of an area
newest_record : (p : Plan) (e : Entry) (es : List Entry) → length es < most_records
    → (record_in (record_at (area_of (opened p (e ∷ es))) (length es))).kind ≡ (record_of e).kind
unfolding record_at records_of record_in record_bytes
newest_record p e es room =
    let rest : List ℕ = zeros (record_length * (most_records - length (e ∷ es))) in
    rw (records_in_lem p (e ∷ es) (omega arith), append_assoc (records_of es) (record_bytes (record_of e)) rest, part_record e es rest)

pub back_taken : {area : List ℕ} {s : Standing} {es : List Entry} → OpenedAt 1 area s es
    → {last kind : ℕ} {r : Answer} {after : List ℕ} → (s.count ≡ 0 → ⊥) → last ≡ s.count - 1
    → kind ≡ (record_in (record_at area last)).kind
    → r ≡ gives kind 0 0 → after ≡ rewritten s.plan last (zeros record_length) last s.figures area
    → leaves r after ≡ on_area area Back
unfolding refusal_of refusals first_refusal answer_of changed newest_kind without_newest
back_taken {area} {s} {es = []} at {last} {kind} {r} {after} some ended read given left = absurd (some at.counted)
back_taken {area} {s} {es = e ∷ es} at {last} {kind} {r} {after} some ended read given left =
    let ends : last ≡ length es = omega (arith, at.counted) in
    let room : length es < most_records = omega (arith, read_count at, at.counted) in
    let told : kind ≡ (record_of e).kind = read ∙ rw (ends, read_area at) (newest_record s.plan e es room) in
    by_call area Back r (opened s.plan (e ∷ es)) after at.reads (rw (ne_eqb (suc (length es)) 0 (λ z. omega arith)))
    (given ∙ ap (λ (k : ℕ). gives k 0 0) told)
    (left ∙ rw (ends, at.brought, read_area at) (taken_area s.plan e es room))

-- what an ask that is not refused is known to be
pub allowed_ask : (p : Plan) (f : Figures) (N : ℕ) → first_refusal (ask_refusals p f N) ≡ 0
    → (is_continuous p ≡ false) × (1 ≤ N) × (N ≤ largest_lot)
unfolding ask_refusals
allowed_ask p f N z =
    let seven = passed 7 _ _ (omega arith) z in
    let eight = passed 8 _ _ (omega arith) seven.1 in
    let eleven = passed 11 _ _ (omega arith) eight.1 in
    let size = lot_size_range p N (not-false (size_in_range p N) eleven.0) in
    (seven.0, size.0, size.1)
