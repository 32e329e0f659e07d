-- What Open, Back, Ask, Read and Newest give, each answer from facts in the code's own form: what is seen of the stream, what was tested,
-- what was written. The sets at the end are handed to the search, which finds these facts among what a function has learnt. Assumes nothing.
use Prim.Native.Nat.{ℕ, ◌+◌, ◌-◌, ◌≤◌, ◌<◌, min}
use mathlib.Core.Path.{◌≡◌, refl, sym, ap, ◌∙◌}
use mathlib.Core.Bool.{Bool, true, false, not}
use borrow.Author.Tests.{not-false}
use mathlib.Core.List.{List}
use Rattle.std.specs.Prelude.{Ok, Err}
use Rattle.model.specs.declared.Figures.{Figures}
use native.Mathlib.Nat.{add_comm}
use native.Mathlib.Omega.{arith}
use mir.Val.{Fits}
use mir.Syntax.{w32}
use lib.Dec.{T}
use lib.ListN.{length, take, drop}
use Rattle.little.specs.Little.{part, written}
use Rattle.plans.specs.Limits.{largest_lot, largest_credit}
use Rattle.model.specs.declared.Plan.{Plan}
use Rattle.model.specs.declared.Entry.{Entry}
use Rattle.model.specs.declared.Call.{Call}
use Rattle.model.specs.declared.Call.TheVariants.{Open, Enter, Back, Ask, Read, Newest}
use Rattle.model.specs.declared.Answer.{Answer}
use Rattle.model.specs.declared.Part.{Part}
use Rattle.model.specs.Sizes.{record_length, most_records, streams, store_length, start_of}
use Rattle.model.specs.Stations.{unopened, valid_plan, is_continuous}
use Rattle.model.specs.Figuring.{started, sample_asked}
use Rattle.model.specs.Records.{record_in}
use Rattle.model.specs.FigureBounds.{FiguresWithin}
use Rattle.model.specs.Calls.{refused, gives, refusal_of, refusals, first_refusal, ask_refusals, read_figure, newest_of}
use Rattle.model.specs.Area.{zeros, header_of}
use Rattle.model.specs.Store.{StoreOutcome, area_at, on_store, ending_at_last, no_part, newest_part}
use Rattle.model.specs.Claims.{on}
use Rattle.model.proofs.Booleans.{of_holds}
use Rattle.model.proofs.NewestRecords.{no_part_lem, opened_part, part_fits}
use Rattle.rules.proofs.Counts.{credit_within}
use Rattle.records.specs.Records.{record_at}
use Rattle.rules.specs.declared.refusing.Refusal.{Refusal as Refused}
use Rattle.rules.specs.declared.refusing.Refusal.TheVariants.{
  StoreLength,
  Stream,
  Unsound,
  AlreadyOpen,
  InvalidPlan,
  Unopened,
  OtherPlan,
  Discontinued,
  Full,
  SameLabel,
  Size,
  Sample,
  Counts,
  Phase,
  Range,
  NothingStands,
  NoRecording,
}
use Rattle.rules.specs.Refusing.{number_of}
use Rattle.replay.specs.declared.Standing.{Standing}
use Rattle.areas.specs.Written.{rewritten}
use Rattle.areas.proofs.OnReading.{read_plan, read_figures, read_count, figures_fit}
use Rattle.areas.proofs.Outcomes.{
  open_again,
  open_invalid,
  open_made,
  back_none,
  back_taken,
  ask_refused,
  asked,
  allowed_ask,
  has_read,
  newest_counted,
}
use Rattle.listening.specs.Handed.{looked_at, MayWrite, part_of}
use Rattle.listening.proofs.Looking.{keeps, OpenedIn, UnopenedIn, opened_in, unopened_in, on_kept, on_written, look_refused}

-- no refusal has the number 0
pub number_positive : (r : Refused) → number_of r ≡ 0 → ⊥
number_positive StoreLength z = omega arith
number_positive Stream z = omega arith
number_positive Unsound z = omega arith
number_positive AlreadyOpen z = omega arith
number_positive InvalidPlan z = omega arith
number_positive Unopened z = omega arith
number_positive OtherPlan z = omega arith
number_positive Discontinued z = omega arith
number_positive Full z = omega arith
number_positive SameLabel z = omega arith
number_positive Size z = omega arith
number_positive Sample z = omega arith
number_positive Counts z = omega arith
number_positive Phase z = omega arith
number_positive Range z = omega arith
number_positive NothingStands z = omega arith
number_positive NoRecording z = omega arith

-- ---- refused by what is seen, for every call but Open
pub unopened_enter : (e : Entry) → refusal_of unopened (Enter e) ≡ 6
unfolding refusal_of refusals first_refusal
unopened_enter e = refl

pub unopened_back : refusal_of unopened Back ≡ 6
unfolding refusal_of refusals first_refusal
unopened_back = refl

pub unopened_ask : (size : ℕ) → refusal_of unopened (Ask size) ≡ 6
unfolding refusal_of refusals first_refusal
unopened_ask size = refl

pub unopened_read : refusal_of unopened Read ≡ 6
unfolding refusal_of refusals first_refusal
unopened_read = refl

pub unopened_newest : (n : ℕ) → refusal_of unopened (Newest n) ≡ 6
unfolding refusal_of refusals first_refusal
unopened_newest n = refl

pub shut : (store : List ℕ) (stream newest : ℕ) (c : Call) {r : Refused} → Err r ≡ looked_at newest stream store → refusal_of unopened c ≡ 6
    → keeps (refused (number_of r)) store ≡ on_store store (on stream c)
shut store stream newest c seen six = look_refused store stream newest seen c refl (λ z. six)

-- ---- Open
-- where a plan was found valid
pub open_valid : (plan : Plan) (valid : Bool) → valid ≡ valid_plan plan → not valid ≡ false → T (valid_plan plan)
open_valid plan valid tested holds = of_holds _ (sym tested ∙ not-false valid holds)

-- what is seen where the stream could be opened
module _ (store : List ℕ) (stream : ℕ) (seen : Err Unopened ≡ looked_at 0 stream store) where
  here : UnopenedIn store stream
  here = unopened_in store stream 0 seen refl

  pub open_whole : length store ≡ store_length
  open_whole = here.whole

  pub open_known : stream < streams
  open_known = here.known

  module _ (plan : Plan) (valid : Bool) (tested : valid ≡ valid_plan plan) where
    pub open_refused : valid ≡ false → keeps (refused 5) store ≡ on_store store (on stream (Open plan))
    open_refused fails = on_kept store stream here.whole here.known (Open plan) (open_invalid _ plan here.reads tested fails refl)

    pub open_taken : (a : Answer) (then : List ℕ) → valid ≡ true → a ≡ gives 0 0 0
        → then ≡ written (start_of stream) (written 0 (header_of plan 0 (started plan)) (area_at stream store)) store
        → keeps a then ≡ on_store store (on stream (Open plan))
    open_taken a then holds given wrote =
        on_written store stream here.whole here.known (Open plan)
        (open_made _ plan here.reads (open_valid plan valid tested (ap not holds)) given refl) wrote

-- where it could not
module _ (store : List ℕ) (stream : ℕ) (plan : Plan) where
  pub open_shut : {r : Refused} → Err r ≡ looked_at 0 stream store → (r ≡ Unopened → ⊥)
      → keeps (refused (number_of r)) store ≡ on_store store (on stream (Open plan))
  open_shut seen other = look_refused store stream 0 seen (Open plan) refl (λ six. absurd (other six))

  pub open_twice : {s : Standing} → Ok s ≡ looked_at 0 stream store → keeps (refused 4) store ≡ on_store store (on stream (Open plan))
  open_twice seen =
      let opened = opened_in store stream 0 seen refl in
      on_kept store stream opened.whole opened.known (Open plan) (open_again opened.at plan refl)

-- ---- Back
module _ (store : List ℕ) (stream : ℕ) (s : Standing) (seen : Ok s ≡ looked_at 1 stream store) where
  before : OpenedIn 1 store stream s
  before = opened_in store stream 1 seen refl

  pub back_refused : s.count ≡ 0 → keeps (refused 16) store ≡ on_store store (on stream Back)
  back_refused none = on_kept store stream before.whole before.known Back (back_none before.at none refl)

  module _ (some : s.count ≡ 0 → ⊥) where
    pub back_may : MayWrite store stream s.plan (s.count - 1) s.figures
    back_may =
        record {
          whole = before.whole;
          known = before.known;
          valid = read_plan before.at;
          room = omega (arith, read_count before.at, some);
          fits = figures_fit before.at;
        }

    pub back_made : (kind : ℕ) (a : Answer) (then : List ℕ) → a ≡ gives kind 0 0
        → kind ≡ (record_in (record_at (area_at stream store) (s.count - 1))).kind
        → then ≡ written (start_of stream) (rewritten s.plan (s.count - 1) (zeros record_length) (s.count - 1) s.figures (area_at stream store)) store
        → keeps a then ≡ on_store store (on stream Back)
    back_made kind a then given read wrote =
        on_written store stream before.whole before.known Back (back_taken before.at some refl read given refl) wrote

-- ---- what an opened stream's numbers are known to be
module _ (store : List ℕ) (stream : ℕ) (s : Standing) (seen : Ok s ≡ looked_at 0 stream store) where
  opened : OpenedIn 0 store stream s
  opened = opened_in store stream 0 seen refl

  pub seen_plan : T (valid_plan s.plan)
  seen_plan = read_plan opened.at

  pub seen_figures : FiguresWithin s.count s.figures
  seen_figures = read_figures opened.at

  pub seen_count : s.count ≤ most_records
  seen_count = read_count opened.at

  pub seen_credit : s.figures.credit.0 ≤ largest_credit
  seen_credit = credit_within _ _ seen_figures seen_count

  pub count_fits : Fits w32 s.count
  count_fits = record { fits = omega (arith, seen_count) }

  pub accepted_fits : Fits w32 s.figures.accepted
  accepted_fits = record { fits = omega (arith, seen_count, seen_figures.accepted_in) }

  -- ---- Ask
  module _ (size : ℕ) where
    pub ask_first : (r : Refused) → number_of r ≡ first_refusal (ask_refusals s.plan s.figures size)
        → keeps (refused (number_of r)) store ≡ on_store store (on stream (Ask size))
    ask_first r said = on_kept store stream opened.whole opened.known (Ask size) (ask_refused opened.at size said (number_positive r) refl)

    pub ask_made : (asks : ℕ) (a : Answer) → 0 ≡ first_refusal (ask_refusals s.plan s.figures size) → a ≡ gives asks 0 0
        → asks ≡ sample_asked s.plan s.figures size → keeps a store ≡ on_store store (on stream (Ask size))
    ask_made asks a said given sample =
        on_kept store stream opened.whole opened.known (Ask size)
        (asked opened.at size said refl (given ∙ ap (λ (m : ℕ). gives m 0 0) sample))

  -- ---- Read
  pub read_made : (figure : ℕ) (a : Answer) → a ≡ gives s.count s.figures.accepted figure → figure ≡ read_figure s.plan s.figures
      → keeps a store ≡ on_store store (on stream Read)
  read_made figure a given same =
      on_kept store stream opened.whole opened.known Read
      (has_read opened.at (given ∙ ap (gives s.count s.figures.accepted) same))

  -- ---- Newest
  module _ (n handed : ℕ) (least : handed ≡ min s.count n) where
    pub handed_fits : Fits w32 handed
    handed_fits = record { fits = omega (arith, seen_count) }

    pub newest_made : (a : Answer) → a ≡ gives handed 0 0 → keeps a store ≡ on_store store (on stream (Newest n))
    newest_made a given =
        let same : handed ≡ min n s.count = omega arith in
        on_kept store stream opened.whole opened.known (Newest n)
        (newest_counted opened.at n (given ∙ ap (λ (m : ℕ). gives m 0 0) same))

    pub stream_known : stream < streams
    stream_known = opened.known

    pub handed_most : handed ≤ s.count
    handed_most = omega arith

    pub part_made : (part : Part) → part ≡ ending_at_last stream s.count handed → part ≡ newest_part store stream n
    unfolding newest_of
    part_made part ends =
        let same : handed ≡ min n s.count = omega arith in
        ends
        ∙ rw (same, opened.at.counted)
        (sym (opened_part store stream n opened.whole opened.known s.plan opened.entries opened.at.reads))

pub part_shut : (store : List ℕ) (stream n : ℕ) {r : Refused} → Err r ≡ looked_at 0 stream store → no_part ≡ newest_part store stream n
part_shut store stream n {r} seen =
    let given = shut store stream 0 (Newest n) seen (unopened_newest n) in
    sym (no_part_lem store stream n (λ z. number_positive r (ap (λ (o : StoreOutcome). o.answer.refusal) given ∙ z)))

-- the part that was found, inside the store, and as code takes it
module _ (store : List ℕ) (stream n : ℕ) (found : Part) (same : found ≡ newest_part store stream n) where
  pub part_inside : found.offset + found.length ≤ length store
  part_inside = rw same (part_fits store stream n)

  pub part_taken : (start : ℕ × ℕ)
      → ((start.0, found.offset + start.1), take (found.offset + found.length - found.offset) (drop found.offset store))
      ≡ part_of start store (newest_part store stream n)
  unfolding part
  part_taken start =
      let wide : found.offset + found.length - found.offset ≡ found.length = omega arith in
      rw (wide, same, add_comm (newest_part store stream n).offset start.1)

module _ (p : Plan) (f : Figures) (size : ℕ) (said : 0 ≡ first_refusal (ask_refusals p f size)) where
  pub ask_lots : is_continuous p ≡ false
  ask_lots = (allowed_ask _ _ _ (sym said)).0

  pub ask_from : 1 ≤ size
  ask_from = (allowed_ask _ _ _ (sym said)).1

  pub ask_to : size ≤ largest_lot
  ask_to = (allowed_ask _ _ _ (sym said)).2

pub ruleset shut_calls = (shut, unopened_enter, unopened_back, unopened_ask, unopened_read, unopened_newest)

pub ruleset opens = (open_shut, open_twice, open_refused, open_taken, open_whole, open_known, open_valid)

pub ruleset backs = (shut_calls, back_refused)

pub ruleset asks = (shut_calls, seen_plan, seen_credit, ask_first, ask_made, ask_lots, ask_from, ask_to)

pub ruleset reads = (shut_calls, count_fits, accepted_fits, read_made)

pub ruleset newest_calls = (shut_calls, handed_fits)

pub ruleset newest_parts = (part_shut, seen_count, stream_known, handed_most, part_made)
