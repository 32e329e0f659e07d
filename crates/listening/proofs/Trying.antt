-- A call that enters something, on the store, from facts in the code's own form: what is seen of the stream, its own refusals up to the
-- last, the step of its plan, 17 behind it, and the write. The laws of each kind of entry say the same of it; what they share is said
-- first. The sets at the end are handed to the search. Assumes nothing.
use Prim.Native.Nat.{ℕ, ◌+◌, ◌≤◌, ◌<◌}
use mathlib.Core.Path.{◌≡◌, refl, sym, ◌∙◌}
use mathlib.Core.Bool.{Bool, true, false, cond}
use mathlib.Core.List.{List}
use Rattle.std.specs.Prelude.{Option, Some, None, Ok}
use Rattle.model.specs.declared.Figures.{Figures}
use native.Mathlib.Omega.{arith}
use mir.Val.{Fits}
use mir.Syntax.{w8}
use lib.Dec.{T, eqb}
use Rattle.little.specs.Little.{written}
use Rattle.plans.specs.Limits.{largest_interval}
use Rattle.plans.specs.Verdicts.{accepted_of}
use Rattle.plans.specs.Continuous.{after_block}
use Rattle.model.specs.declared.Entry.{Entry}
use Rattle.model.specs.declared.Entry.TheVariants.{Lot, Run, Block, Stop}
use Rattle.model.specs.declared.Call.TheVariants.{Enter}
use Rattle.model.specs.declared.Answer.{Answer}
use Rattle.model.specs.declared.Record.{Record}
use Rattle.model.specs.declared.Recording.{Recording}
use Rattle.model.specs.Sizes.{most_records, start_of}
use Rattle.model.specs.Stations.{is_continuous}
use Rattle.model.specs.Figuring.{verdict_on, stepped}
use Rattle.model.specs.Calls.{refused, gives, first_refusal, rule_refusals, brings_recording, brought_by, lacks_recording, entry_answer, lot_figure}
use Rattle.model.specs.Records.{no_recording, run_kind, block_kind, stop_kind, record_bytes, with_one, lot_record, record_of}
use Rattle.model.specs.Store.{area_at, on_store}
use Rattle.model.specs.Claims.{on}
use Rattle.model.proofs.Allowed.{AllowedBlock, allowed_lot, allowed_block, allowed_stop, passed_all, plan_range}
use Rattle.rules.specs.declared.refusing.Refusal.{Refusal as Refused}
use Rattle.rules.specs.Refusing.{number_of, UpToLast, LotUpToLast, RunUpToLast, BlockUpToLast, StopUpToLast, recording_refusals}
use Rattle.rules.proofs.UpToLast.{last_of}
use Rattle.rules.proofs.Counts.{all_at_most}
use Rattle.replaying.specs.Replaying.{Reached, tried, asked_lot}
use Rattle.replaying.proofs.Tried.{run_unrecorded, block_unrecorded}
use Rattle.replay.specs.declared.Standing.{Standing}
use Rattle.areas.specs.Written.{rewritten}
use Rattle.areas.proofs.OnReading.{read_plan}
use Rattle.areas.proofs.Outcomes.{lot_answer_lem, run_answer, block_answer, stop_answer}
use Rattle.areas.proofs.Entering.{
  LeftLot,
  LeftRunOrBlock,
  is_run_or_block,
  wrong_in,
  left_lot,
  left_run_or_block,
  left_stop,
  lot_asked,
  reached_here,
  last_left,
  refused_first,
  refused_last,
  refused_recording,
  none_refused,
  figures_after,
  fits_after,
  entered_here,
}
use Rattle.listening.specs.Handed.{looked_at, MayWrite}
use Rattle.listening.proofs.Looking.{keeps, OpenedIn, opened_in, on_kept, on_written}
use Rattle.listening.proofs.Making.{shut_calls, number_positive, seen_plan, seen_figures, seen_count}

-- a refusal of its own applies, before the last of paper 01's
pub first_given : {store : List ℕ} {stream : ℕ} {s : Standing} → OpenedIn 0 store stream s → (e : Entry) (r : Refused)
    → UpToLast s.plan s.figures s.count e (number_of r) → keeps (refused (number_of r)) store ≡ on_store store (on stream (Enter e))
first_given {store} {stream} opened e r said =
    on_kept store stream opened.whole opened.known (Enter e) (refused_first opened.at e said (number_positive r) refl)

-- none does: the entry is tried by the step of the plan
record Passed (store : List ℕ) (stream : ℕ) (s : Standing) (e : Entry) : Type 0 where
  opened : OpenedIn 0 store stream s
  said : UpToLast s.plan s.figures s.count e 0
  room : s.count < most_records

-- the store after a record was written behind those that stand, with the figures after it
abbrev Put : List ℕ → ℕ → Standing → Record → Figures → List ℕ → Type 0
Put store stream s left after then =
    then ≡ written (start_of stream) (rewritten s.plan s.count (record_bytes left) (s.count + 1) after (area_at stream store)) store

module _ {store : List ℕ} {stream : ℕ} {s : Standing} {e : Entry} (t : Passed store stream s e) where
  -- the step fails: the last of paper 01's is given
  last_given : None ≡ tried s.plan s.figures e → keeps (refused (last_of e)) store ≡ on_store store (on stream (Enter e))
  last_given fails = on_kept store stream t.opened.whole t.opened.known (Enter e) (refused_last t.opened.at e t.said refl t.room fails refl)

  module _ {g : Figures} (stands : Some g ≡ tried s.plan s.figures e) where
    -- 17 is given
    recording_given : lacks_recording e ≡ true → keeps (refused 17) store ≡ on_store store (on stream (Enter e))
    recording_given lacks =
        on_kept store stream t.opened.whole t.opened.known (Enter e)
        (refused_recording t.opened.at e t.said refl t.room stands lacks refl)

    -- none is: what changed is written
    module _ (recorded : lacks_recording e ≡ false) where
      allowed_so : first_refusal (rule_refusals s.plan s.figures s.count e) ≡ 0
      allowed_so =
          (passed_all s.plan s.figures s.count e (none_refused t.opened.at e t.said refl t.room stands recorded)).allowed

      after : g ≡ stepped s.plan e s.figures
      after = figures_after t.opened.at e t.said refl t.room stands recorded

      may_put : MayWrite store stream s.plan s.count g
      may_put =
          record {
            whole = t.opened.whole;
            known = t.opened.known;
            valid = read_plan t.opened.at;
            room = t.room;
            fits = fits_after t.opened.at e t.said refl t.room stands recorded;
          }

      put : {a : Answer} {left : Record} {then : List ℕ} → a ≡ entry_answer s.plan s.figures e → left ≡ record_of e
          → Put store stream s left g then → keeps a then ≡ on_store store (on stream (Enter e))
      put given is wrote =
          on_written store stream t.opened.whole t.opened.known (Enter e)
          (entered_here t.opened.at e t.said refl t.room stands recorded given refl) (rw is at wrote)

-- what 17's test tells: it applies, or there is a number
recording_lacks : (rec : Recording) (r : Refused) → number_of r ≡ first_refusal (recording_refusals rec)
    → (number_of r ≡ 17) × (eqb rec.number 0 ≡ true)
unfolding recording_refusals first_refusal
recording_lacks rec r = go (eqb rec.number 0)
  where
    go : (b : Bool) → number_of r ≡ cond b 17 0 → (number_of r ≡ 17) × (b ≡ true)
    go true e = (e, refl)
    go false e = absurd (number_positive r e)

recording_there : (rec : Recording) → 0 ≡ first_refusal (recording_refusals rec) → eqb rec.number 0 ≡ false
unfolding recording_refusals first_refusal
recording_there rec = go (eqb rec.number 0)
  where
    go : (b : Bool) → ◌≡◌ {A = ℕ} 0 (cond b 17 0) → b ≡ false
    go true e = absurd (omega arith)
    go false e = refl

-- ---- a lot
module _ (store : List ℕ) (stream : ℕ) (s : Standing) (label N n : ℕ) (seen : Ok s ≡ looked_at 0 stream store) where
  lot_opened : OpenedIn 0 store stream s
  lot_opened = opened_in store stream 0 seen refl

  pub lot_first : (d D : ℕ) (rec : Recording) (r : Refused) → LotUpToLast s.plan s.figures s.count label N n (number_of r)
      → keeps (refused (number_of r)) store ≡ on_store store (on stream (Enter (Lot label N n d D rec)))
  unfolding LotUpToLast
  lot_first d D rec r said = first_given lot_opened (Lot label N n d D rec) r (said d D rec)

  module _ (said : LotUpToLast s.plan s.figures s.count label N n 0) where
    lot_said : (d D : ℕ) (rec : Recording) → UpToLast s.plan s.figures s.count (Lot label N n d D rec) 0
    unfolding LotUpToLast
    lot_said d D rec = said d D rec

    lot_left : LeftLot s.plan s.figures s.count N n
    lot_left = left_lot _ _ _ label N n 0 0 no_recording (last_left lot_opened.at _ (lot_said 0 0 no_recording) refl)

    pub lot_reached : Reached s.plan s.figures
    lot_reached = reached_here lot_opened.at lot_left.room

    pub lot_kind_lem : is_continuous s.plan ≡ false
    lot_kind_lem = lot_left.lots

    module _ (d D : ℕ) (rec : Recording) {x : Option Figures} (made : x ≡ tried s.plan s.figures (asked_lot s.plan s.figures label N d D)) where
      lot_passed : Passed store stream s (Lot label N n d D rec)
      lot_passed = record { opened = lot_opened; said = lot_said d D rec; room = lot_left.room }

      lot_made : x ≡ tried s.plan s.figures (Lot label N n d D rec)
      lot_made = made ∙ lot_asked _ _ label N n d D rec lot_left.sample

      pub lot_last : x ≡ None → keeps (refused 13) store ≡ on_store store (on stream (Enter (Lot label N n d D rec)))
      lot_last none = last_given lot_passed (sym none ∙ lot_made)

      module _ {g : Figures} (is : x ≡ Some g) where
        pub lot_lacking : (r : Refused) → number_of r ≡ first_refusal (recording_refusals rec)
            → keeps (refused (number_of r)) store ≡ on_store store (on stream (Enter (Lot label N n d D rec)))
        unfolding lacks_recording brings_recording brought_by
        lot_lacking r said_so =
            let lacks = recording_lacks rec r said_so in
            rw lacks.0 (recording_given lot_passed (sym is ∙ lot_made) lacks.1)

        module _ (recorded : 0 ≡ first_refusal (recording_refusals rec)) where
          lot_recorded : lacks_recording (Lot label N n d D rec) ≡ false
          unfolding lacks_recording brings_recording brought_by
          lot_recorded = recording_there rec recorded

          pub lot_put : MayWrite store stream s.plan s.count g
          lot_put = may_put lot_passed (sym is ∙ lot_made) lot_recorded

          pub lot_counted : D ≤ N
          lot_counted =
              all_at_most _ _ _ label N n d D
              (allowed_lot _ _ _ label N n d D rec (allowed_so lot_passed (sym is ∙ lot_made) lot_recorded))

          pub lot_entered : (a : Answer) (then : List ℕ)
              → a ≡ gives (verdict_on s.plan s.figures d) (accepted_of (verdict_on s.plan s.figures d) N D) (lot_figure s.plan g)
              → Put store stream s (lot_record label N d D rec) g then → keeps a then ≡ on_store store (on stream (Enter (Lot label N n d D rec)))
          unfolding record_of
          lot_entered a then given =
              put lot_passed (sym is ∙ lot_made) lot_recorded
              (lot_answer_lem lot_opened.at label N n d D rec (after lot_passed (sym is ∙ lot_made) lot_recorded) given) refl

-- ---- a run or a block
module _ (store : List ℕ) (stream : ℕ) (s : Standing) (e : Recording → Entry) (seen : Ok s ≡ looked_at 0 stream store)
    (of : T (is_run_or_block (e no_recording))) (said : (rec : Recording) → UpToLast s.plan s.figures s.count (e rec) 0) where
  continuous_opened : OpenedIn 0 store stream s
  continuous_opened = opened_in store stream 0 seen refl

  continuous_left : LeftRunOrBlock s.plan s.count (wrong_in (e no_recording))
  continuous_left = left_run_or_block _ _ _ (e no_recording) of (last_left continuous_opened.at _ (said no_recording) refl)

  continuous_reached : Reached s.plan s.figures
  continuous_reached = reached_here continuous_opened.at continuous_left.room

  continuous_passed : (rec : Recording) → Passed store stream s (e rec)
  continuous_passed rec = record { opened = continuous_opened; said = said rec; room = continuous_left.room }

pub flag_fits : (w : ℕ) → w ≤ 1 → Fits w8 w
flag_fits w few = record { fits = omega arith }

module _ (store : List ℕ) (stream : ℕ) (s : Standing) (h w : ℕ) (seen : Ok s ≡ looked_at 0 stream store) where
  pub run_first : (rec : Recording) (r : Refused) → RunUpToLast s.plan s.count h w (number_of r)
      → keeps (refused (number_of r)) store ≡ on_store store (on stream (Enter (Run h w rec)))
  unfolding RunUpToLast
  run_first rec r said = first_given (opened_in store stream 0 seen refl) (Run h w rec) r (said s.figures rec)

  module _ (said : RunUpToLast s.plan s.count h w 0) where
    run_said : (rec : Recording) → UpToLast s.plan s.figures s.count (Run h w rec) 0
    unfolding RunUpToLast
    run_said = said s.figures

    run_left : LeftRunOrBlock s.plan s.count w
    run_left = continuous_left store stream s (Run h w) seen tt run_said

    pub run_reached : Reached s.plan s.figures
    run_reached = continuous_reached store stream s (Run h w) seen tt run_said

    pub run_kind_lem : s.plan.kind ≡ 3
    run_kind_lem = run_left.kind

    pub run_wrong : w ≤ 1
    run_wrong = run_left.wrong

    module _ (rec : Recording) {x : Option Figures} (made : x ≡ tried s.plan s.figures (Run h w no_recording)) where
      run_passed : Passed store stream s (Run h w rec)
      run_passed = continuous_passed store stream s (Run h w) seen tt run_said rec

      run_made : x ≡ tried s.plan s.figures (Run h w rec)
      run_made = made ∙ sym (run_unrecorded _ _ rec h w)

      pub run_last : x ≡ None → keeps (refused 14) store ≡ on_store store (on stream (Enter (Run h w rec)))
      run_last none = last_given run_passed (sym none ∙ run_made)

      module _ {g : Figures} (is : x ≡ Some g) where
        pub run_lacking : (r : Refused) → number_of r ≡ first_refusal (recording_refusals rec)
            → keeps (refused (number_of r)) store ≡ on_store store (on stream (Enter (Run h w rec)))
        unfolding lacks_recording brings_recording brought_by
        run_lacking r said_so =
            let lacks = recording_lacks rec r said_so in
            rw lacks.0 (recording_given run_passed (sym is ∙ run_made) lacks.1)

        module _ (recorded : 0 ≡ first_refusal (recording_refusals rec)) where
          run_recorded : lacks_recording (Run h w rec) ≡ false
          unfolding lacks_recording brings_recording brought_by
          run_recorded = recording_there rec recorded

          pub run_put : MayWrite store stream s.plan s.count g
          run_put = may_put run_passed (sym is ∙ run_made) run_recorded

          pub run_entered : (a : Answer) (left : Record) (then : List ℕ) → a ≡ gives h g.continuous.phase 0
              → left ≡ with_one run_kind w h rec → Put store stream s left g then → keeps a then ≡ on_store store (on stream (Enter (Run h w rec)))
          unfolding record_of
          run_entered a left then given =
              put run_passed (sym is ∙ run_made) run_recorded
              (run_answer (opened_in store stream 0 seen refl).at h w rec (after run_passed (sym is ∙ run_made) run_recorded) given)

module _ (store : List ℕ) (stream : ℕ) (s : Standing) (q w : ℕ) (seen : Ok s ≡ looked_at 0 stream store) where
  pub block_first : (rec : Recording) (r : Refused) → BlockUpToLast s.plan s.count q w (number_of r)
      → keeps (refused (number_of r)) store ≡ on_store store (on stream (Enter (Block q w rec)))
  unfolding BlockUpToLast
  block_first rec r said = first_given (opened_in store stream 0 seen refl) (Block q w rec) r (said s.figures rec)

  module _ (said : BlockUpToLast s.plan s.count q w 0) where
    block_said : (rec : Recording) → UpToLast s.plan s.figures s.count (Block q w rec) 0
    unfolding BlockUpToLast
    block_said = said s.figures

    block_left : LeftRunOrBlock s.plan s.count w
    block_left = continuous_left store stream s (Block q w) seen tt block_said

    pub block_reached : Reached s.plan s.figures
    block_reached = continuous_reached store stream s (Block q w) seen tt block_said

    pub block_kind_lem : s.plan.kind ≡ 3
    block_kind_lem = block_left.kind

    pub block_wrong : w ≤ 1
    block_wrong = block_left.wrong

    module _ (rec : Recording) {x : Option Figures} (made : x ≡ tried s.plan s.figures (Block q w no_recording)) where
      block_passed : Passed store stream s (Block q w rec)
      block_passed = continuous_passed store stream s (Block q w) seen tt block_said rec

      block_made : x ≡ tried s.plan s.figures (Block q w rec)
      block_made = made ∙ sym (block_unrecorded _ _ rec q w)

      pub block_last : x ≡ None → keeps (refused 14) store ≡ on_store store (on stream (Enter (Block q w rec)))
      block_last none = last_given block_passed (sym none ∙ block_made)

      module _ {g : Figures} (is : x ≡ Some g) where
        pub block_lacking : (r : Refused) → number_of r ≡ first_refusal (recording_refusals rec)
            → keeps (refused (number_of r)) store ≡ on_store store (on stream (Enter (Block q w rec)))
        unfolding lacks_recording brings_recording brought_by
        block_lacking r said_so =
            let lacks = recording_lacks rec r said_so in
            rw lacks.0 (recording_given block_passed (sym is ∙ block_made) lacks.1)

        module _ (recorded : 0 ≡ first_refusal (recording_refusals rec)) where
          block_recorded : lacks_recording (Block q w rec) ≡ false
          unfolding lacks_recording brings_recording brought_by
          block_recorded = recording_there rec recorded

          block_allowed : AllowedBlock s.plan s.figures s.count q w
          block_allowed = allowed_block _ _ _ q w rec (allowed_so block_passed (sym is ∙ block_made) block_recorded)

          pub block_from : 1 ≤ q
          block_from = block_allowed.first

          pub block_to : q ≤ s.plan.b
          block_to = block_allowed.last

          pub block_interval : s.plan.b ≤ largest_interval
          block_interval = omega (arith, plan_range _ (read_plan (opened_in store stream 0 seen refl).at))

          pub block_put : MayWrite store stream s.plan s.count g
          block_put = may_put block_passed (sym is ∙ block_made) block_recorded

          pub block_entered : (a : Answer) (left : Record) (then : List ℕ) → a ≡ gives (after_block s.plan.b q (eqb w 1) s.figures.continuous).accepted
              (after_block s.plan.b q (eqb w 1) s.figures.continuous).hear_back g.continuous.phase
              → left ≡ with_one block_kind w q rec → Put store stream s left g then → keeps a then ≡ on_store store (on stream (Enter (Block q w rec)))
          unfolding record_of
          block_entered a left then given =
              put block_passed (sym is ∙ block_made) block_recorded
              (block_answer (opened_in store stream 0 seen refl).at q w rec (after block_passed (sym is ∙ block_made) block_recorded) given)

-- ---- a stop, which has no recording
module _ (store : List ℕ) (stream : ℕ) (s : Standing) (seen : Ok s ≡ looked_at 0 stream store) where
  stop_opened : OpenedIn 0 store stream s
  stop_opened = opened_in store stream 0 seen refl

  pub stop_first : (why days : ℕ) (r : Refused) → StopUpToLast s.figures s.count (number_of r)
      → keeps (refused (number_of r)) store ≡ on_store store (on stream (Enter (Stop why days)))
  unfolding StopUpToLast
  stop_first why days r said = first_given stop_opened (Stop why days) r (said s.plan why days)

  module _ (said : StopUpToLast s.figures s.count 0) where
    stop_said : (why days : ℕ) → UpToLast s.plan s.figures s.count (Stop why days) 0
    unfolding StopUpToLast
    stop_said why days = said s.plan why days

    stop_room : s.count < most_records
    stop_room = left_stop _ _ _ 0 0 (last_left stop_opened.at _ (stop_said 0 0) refl)

    pub stop_reached : Reached s.plan s.figures
    stop_reached = reached_here stop_opened.at stop_room

    module _ (why days : ℕ) {x : Option Figures} (made : x ≡ tried s.plan s.figures (Stop why days)) where
      stop_passed : Passed store stream s (Stop why days)
      stop_passed = record { opened = stop_opened; said = stop_said why days; room = stop_room }

      stop_recorded : lacks_recording (Stop why days) ≡ false
      unfolding lacks_recording brings_recording
      stop_recorded = refl

      pub stop_last : x ≡ None → keeps (refused 15) store ≡ on_store store (on stream (Enter (Stop why days)))
      stop_last none = last_given stop_passed (sym none ∙ made)

      module _ {g : Figures} (is : x ≡ Some g) where
        pub stop_why : Fits w8 why
        stop_why =
            record { fits = omega (arith, (allowed_stop _ _ _ why days (allowed_so stop_passed (sym is ∙ made) stop_recorded)).last) }

        pub stop_put : MayWrite store stream s.plan s.count g
        stop_put = may_put stop_passed (sym is ∙ made) stop_recorded

        pub stop_entered : (a : Answer) (bare : Recording) (left : Record) (then : List ℕ) → a ≡ gives 0 0 0 → bare ≡ no_recording
            → left ≡ with_one stop_kind why days bare → Put store stream s left g then → keeps a then ≡ on_store store (on stream (Enter (Stop why days)))
        unfolding record_of
        stop_entered a bare left then given clear built =
            put stop_passed (sym is ∙ made) stop_recorded (stop_answer stop_opened.at why days given) (rw clear at built)

pub ruleset lots = (
  shut_calls,
  seen_plan,
  seen_figures,
  seen_count,
  lot_first,
  lot_reached,
  lot_kind_lem,
  lot_last,
  lot_lacking,
  lot_counted,
)

pub ruleset runs = (shut_calls, flag_fits, run_first, run_reached, run_kind_lem, run_wrong, run_last, run_lacking)

pub ruleset blocks = (
  shut_calls,
  flag_fits,
  block_first,
  block_reached,
  block_kind_lem,
  block_wrong,
  block_last,
  block_lacking,
  block_from,
  block_to,
  block_interval,
)

pub ruleset stops = (shut_calls, stop_first, stop_reached, stop_last, stop_why)
