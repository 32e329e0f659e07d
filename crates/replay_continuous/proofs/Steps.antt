-- What an entry gives on a continuous stream, in its place: each answer from facts in the code's own form, what was tested and what the
-- callees ensure. The sets at the end are handed to the search, which finds these facts among what a function has learnt.
-- Assumes nothing.
use Prim.Native.Nat.{ℕ, ◌+◌, ◌≤◌, ◌<◌, ◌^◌}
use mathlib.Core.Path.{◌≡◌, refl, sym, ap, ◌∙◌}
use mathlib.Core.Bool.{Bool, true, false, not}
use native.Mathlib.Omega.{arith}
use lib.Dec.{eqb}
use borrow.Author.Tests.{not-true, not-false}
use Rattle.plans.specs.Limits.{largest_clearance, largest_interval, within}
use Rattle.plans.specs.declared.continuous.Continuous.{Continuous}
use Rattle.plans.specs.declared.continuous.Block.{Block as Given}
use Rattle.plans.specs.Continuous.{after_run, after_block, after_stop}
use Rattle.model.specs.declared.Plan.{Plan}
use Rattle.model.specs.declared.Figures.{Figures}
use Rattle.model.specs.declared.Entry.{Entry}
use Rattle.model.specs.declared.Entry.TheVariants.{Run, Block, Stop}
use Rattle.model.specs.Stations.{is_level, is_continuous}
use Rattle.model.specs.Figuring.{credit_step, level_step, continuous_step, accepted_by, is_lot, stepped}
use Rattle.model.specs.Calls.{allows}
use Rattle.model.proofs.Allowed.{ContinuousPlan, continuous_plan, allowed_run}
use Rattle.model.proofs.Booleans.{never_both, within_of}
use Rattle.rules.specs.Refusing.{is_stop}
use Rattle.model.specs.declared.Record.{Record}
use Rattle.model.specs.Records.{no_recording, run_kind, block_kind}
use Rattle.std.specs.Prelude.{Option, Some, None}
use Rattle.replaying.specs.Replaying.{one_number, head_of, flagged, wrong_run, wrong_block, entered_if, entered, tried, Left, Tells}
use Rattle.replaying.proofs.Tried.{allowed_zero, stop_allows, run_record, block_record, other_record}
use Rattle.replay_continuous.specs.declared.Place.{Place}
use Rattle.replay_continuous.specs.Places.{state_of, figures_with, figures_in, place_of, fits_run, flag_of, OnContinuous, Gives}
use Rattle.replay_continuous.proofs.Phases.{continuous, Placed, left_placed, here_placed, stepped_placed}
use Rattle.replay_continuous.proofs.Accepting.{no_run, no_block, run_allows, block_allows}

abbrev pub figures_here : Plan → Place → Figures
figures_here p s = figures_in p.a s

flag_test : (wrong : Bool) → eqb (flag_of wrong) 1 ≡ wrong
flag_test true = refl
flag_test false = refl

-- a step that is what a record gives at a place
abbrev pub Enters : Plan → Place → Option Place → Record → Type 0
Enters p s x r = Tells (figures_in p.a) (λ x. x.left ≤ p.a) x (entered p (figures_here p s) 0 r)

-- ---- figures, and the place that they tell of
module _ (p : Plan) (f : Figures) (left : Left p f) (kind : p.kind ≡ 3) where
  pub from_counts : f.continuous.count ≤ p.a
  from_counts = (left_placed p f left kind).counts

  module _ (s : Place) (same : s ≡ place_of p.a f.continuous f.accepted) where
    pub from_stands : figures_here p s ≡ f
    from_stands = rw same (left_placed p f left kind).same

    pub from_within : s.left ≤ p.a
    from_within = rw same (left_placed p f left kind).within

-- ---- steps
module _ (p : Plan) (s : Place) (run : OnContinuous p s) where
  blocks : is_continuous p ≡ true
  blocks = continuous p run.on.valid run.on.of_kind

  plan_of_lem : ContinuousPlan p
  plan_of_lem = continuous_plan p run.on.valid blocks

  -- every sum is in range
  pub clearance_most_lem : p.a ≤ largest_clearance
  clearance_most_lem = plan_of_lem.clearance_most

  pub interval_most_lem : p.b ≤ largest_interval
  interval_most_lem = plan_of_lem.interval_most

  pub sum_fits : (n : ℕ) → n < 2 ^ 32 → s.accepted + n < 2 ^ 64
  unfolding figures_in
  sum_fits n small = omega (arith, run.on.room.accepted_in)

  failed : (e : Entry) → allows p (figures_here p s) 0 e ≡ false → Gives p s None e
  unfolding tried
  failed e never = record { same = rw never; in_range = tt }

  -- an entry by the code's test of whether it fits: it does not; or it does, and leaves the place of the figures after it
  module _ (e : Entry) (fits : Bool) (state : Continuous) (n : ℕ) (same : allows p (figures_here p s) 0 e ≡ fits)
      (made : stepped p e (figures_here p s) ≡ figures_with state n) (fit : fits ≡ true) where
    placed : Placed p (figures_with state n)
    placed =
        rw made at
        (stepped_placed p run.on.valid run.on.of_kind e _ 0 (allowed_zero p _ 0 e (same ∙ fit)) (here_placed p s run.on.in_range))

    stood : Gives p s (Some (place_of p.a state n)) e
    unfolding tried
    stood = record { same = rw (same ∙ fit, made) (ap Some placed.same); in_range = placed.within }

  -- a run
  module _ (h : ℕ) (wrong : Bool) where
    run_fits : allows p (figures_here p s) 0 (Run h (flag_of wrong) no_recording) ≡ fits_run s.left h wrong
    run_fits = run_allows p blocks s run.on.in_range plan_of_lem.clearance_most h wrong

    run_made : stepped p (Run h (flag_of wrong) no_recording) (figures_here p s)
        ≡ figures_with (after_run p.a h wrong (state_of p.a s.left s.tail)) (s.accepted + h)
    unfolding stepped credit_step level_step continuous_step accepted_by is_lot figures_in
    run_made = rw (flag_test wrong)

    module _ (ok : Bool) (tested : ok ≡ fits_run s.left h wrong) where
      pub run_fails : not ok ≡ true → Gives p s None (Run h (flag_of wrong) no_recording)
      run_fails fails = failed _ (run_fits ∙ sym tested ∙ not-true ok fails)

      module _ (fits : not ok ≡ false) (state : Continuous) (here : state ≡ state_of p.a s.left s.tail) where
        pub run_room : state.count + h ≤ p.a
        unfolding figures_in
        run_room =
            let allowed = allowed_run p (figures_here p s) 0 h (flag_of wrong) no_recording (allowed_zero p _ 0 _ (run_fits ∙ sym tested ∙ not-false ok fits)) in
            rw here (omega (arith, allowed.fits))

        module _ (after : Continuous) (ran : after ≡ after_run p.a h wrong state) where
          pub run_counts : after.count ≤ p.a
          run_counts = rw (ran, here) (placed _ _ _ _ run_fits run_made (sym tested ∙ not-false ok fits)).counts

          pub run_stands : (x : Place) → x ≡ place_of p.a after (s.accepted + h) → Gives p s (Some x) (Run h (flag_of wrong) no_recording)
          run_stands x made = rw (made, ran, here) (stood _ _ _ _ run_fits run_made (sym tested ∙ not-false ok fits))

  -- a block: in sampling alone
  pub no_block_here : (q : ℕ) (w : ℕ) → (s.left ≡ 0 → ⊥) → Gives p s None (Block q w no_recording)
  no_block_here q w some = failed _ (no_block p blocks s some q w)

  module _ (q : ℕ) (wrong : Bool) (none : s.left ≡ 0) where
    block_fits : allows p (figures_here p s) 0 (Block q (flag_of wrong) no_recording) ≡ within 1 p.b q
    block_fits = block_allows p blocks s none q wrong

    block_made : (gives : Given) → gives ≡ after_block p.b q wrong (state_of p.a s.left s.tail)
        → stepped p (Block q (flag_of wrong) no_recording) (figures_here p s) ≡ figures_with gives.state (s.accepted + gives.accepted)
    unfolding stepped credit_step level_step continuous_step accepted_by is_lot figures_in after_block
    block_made gives same = rw (same, flag_test wrong)

    module _ (ok : Bool) (tested : ok ≡ within 1 p.b q) where
      pub block_fails : not ok ≡ true → Gives p s None (Block q (flag_of wrong) no_recording)
      block_fails fails = failed _ (block_fits ∙ sym tested ∙ not-true ok fails)

      module _ (fits : not ok ≡ false) (state : Continuous) (here : state ≡ state_of p.a s.left s.tail) (gives : Given)
          (blocked : gives ≡ after_block p.b q wrong state) where
        pub block_counts : gives.state.count ≤ p.a
        block_counts = (placed _ _ _ _ block_fits (block_made gives (rw here at blocked)) (sym tested ∙ not-false ok fits)).counts

        pub block_stands : (x : Place) → x ≡ place_of p.a gives.state (s.accepted + gives.accepted)
            → Gives p s (Some x) (Block q (flag_of wrong) no_recording)
        block_stands x made = rw made (stood _ _ _ _ block_fits (block_made gives (rw here at blocked)) (sym tested ∙ not-false ok fits))

  -- a stop
  module _ (why days : ℕ) where
    stop_fits : allows p (figures_here p s) 0 (Stop why days) ≡ is_stop why days
    stop_fits = stop_allows p (figures_here p s) run.goes_on why days

    stop_made : stepped p (Stop why days) (figures_here p s) ≡ figures_with (after_stop why days (state_of p.a s.left s.tail)) s.accepted
    unfolding stepped credit_step level_step continuous_step accepted_by is_lot figures_in is_level is_continuous
    stop_made =
        let none : s.accepted + 0 ≡ s.accepted = omega arith in
        rw (run.on.of_kind, none)

    module _ (ok : Bool) (tested : ok ≡ is_stop why days) where
      pub stop_fails : not ok ≡ true → Gives p s None (Stop why days)
      stop_fails fails = failed _ (stop_fits ∙ sym tested ∙ not-true ok fails)

      module _ (fits : not ok ≡ false) (state : Continuous) (here : state ≡ state_of p.a s.left s.tail) (after : Continuous)
          (stopped : after ≡ after_stop why days state) where
        pub stop_counts : after.count ≤ p.a
        stop_counts = rw (stopped, here) (placed _ _ _ _ stop_fits stop_made (sym tested ∙ not-false ok fits)).counts

        pub stop_stands : (x : Place) → x ≡ place_of p.a after s.accepted → Gives p s (Some x) (Stop why days)
        stop_stands x made = rw (made, stopped, here) (stood _ _ _ _ stop_fits stop_made (sym tested ∙ not-false ok fits))

module _ (low high n : ℕ) (ok : Bool) (tested : ok ≡ within low high n) (fits : not ok ≡ false) where
  pub from_least : low ≤ n
  from_least = (within_of low high n (sym tested ∙ not-false ok fits)).0

  pub to_most : n ≤ high
  to_most = (within_of low high n (sym tested ∙ not-false ok fits)).1

-- ---- records

-- one with a recording number, by how many numbers it has and by its head
module _ (p : Plan) (s : Place) (r : Record) (on : OnContinuous p s) (recorded : r.recording.number ≡ 0 → ⊥)
    (more : Bool) (counted : more ≡ not (one_number r)) where
  pub more_fails : more ≡ true → Enters p s None r
  more_fails several =
      let never : one_number r ≡ true → ⊥ = λ one. never_both (one_number r) one (not-true _ (sym counted ∙ several)) in
      let other = other_record p (figures_here p s) r recorded (λ _. never_both _ (blocks p s on)) (λ one. absurd (never one)) (λ one. absurd (never one)) in
      record { same = sym other; in_range = tt }

  module _ (single : more ≡ false) (head : ℕ) (said : head ≡ head_of r) where
    one : one_number r ≡ true
    one = not-false _ (sym counted ∙ single)

    module _ (kinds : r.kind < 256) (flags : r.flag < 256) where
      pub right_run : (x : Option Place) → Gives p s x (Run r.a 0 no_recording) → head ≡ run_kind → Enters p s x r
      right_run x steps e = rw (run_record p _ r recorded kinds flags one 0 (omega arith) (sym said ∙ e)) steps

      pub wrong_run_lem : (x : Option Place) → Gives p s x (Run r.a 1 no_recording) → head ≡ wrong_run → (after : Place) → x ≡ Some after
          → Enters p s (Some after) r
      wrong_run_lem x steps e after stands = rw (run_record p _ r recorded kinds flags one 1 (omega arith) (sym said ∙ e)) (rw stands at steps)

      pub right_block_lem : (x : Option Place) → Gives p s x (Block r.a 0 no_recording) → head ≡ block_kind → Enters p s x r
      right_block_lem x steps e = rw (block_record p _ r recorded kinds flags one 0 (omega arith) (sym said ∙ e)) steps

      pub wrong_block_lem : (x : Option Place) → Gives p s x (Block r.a 1 no_recording) → head ≡ wrong_block → (after : Place) → x ≡ Some after
          → Enters p s (Some after) r
      wrong_block_lem x steps e after stands = rw (block_record p _ r recorded kinds flags one 1 (omega arith) (sym said ∙ e)) (rw stands at steps)

-- the rest fail, since no run or block of their head is allowed. In sampling no run is; a right block has another head; and a wrong one has
-- another head, or does not fit. In screening the same with run and block exchanged.
not_allowed : (p : Plan) (s : Place) (e : Entry) (x : Option Place) → x ≡ None → Gives p s x e → allows p (figures_here p s) 0 e ≡ false
unfolding tried
not_allowed p s e x fails steps = go (allows p (figures_here p s) 0 e) (rw fails at steps.same)
  where
    go : (b : Bool) → None ≡ entered_if b (stepped p e (figures_here p s)) → b ≡ false
    go true same = cc
    go false same = refl

module _ (p : Plan) (s : Place) (r : Record) (on : OnContinuous p s) (recorded : r.recording.number ≡ 0 → ⊥)
    (head : ℕ) (said : head ≡ head_of r) where
  left : ((w : ℕ) → w ≤ 1 → head ≡ flagged run_kind w → allows p (figures_here p s) 0 (Run r.a w no_recording) ≡ false)
      → ((w : ℕ) → w ≤ 1 → head ≡ flagged block_kind w → allows p (figures_here p s) 0 (Block r.a w no_recording) ≡ false)
      → Enters p s None r
  left run block =
      let other = other_record p (figures_here p s) r recorded (λ _. never_both _ (blocks p s on))
      (λ _ _ w most e. run w most (said ∙ e))
      (λ _ _ w most e. block w most (said ∙ e)) in
      record { same = sym other; in_range = tt }

  module _ (none : s.left ≡ 0) (right : head ≡ block_kind → ⊥) where
    sampling : (head ≡ wrong_block → allows p (figures_here p s) 0 (Block r.a 1 no_recording) ≡ false) → Enters p s None r
    sampling wrong = left (λ w most e. no_run p (blocks p s on) s none r.a w) go
      where
        go : (w : ℕ) → w ≤ 1 → head ≡ flagged block_kind w → allows p (figures_here p s) 0 (Block r.a w no_recording) ≡ false
        go w most e = let one : w ≡ 1 = omega arith in rw one (wrong (omega arith))

    pub sampling_other : (head ≡ wrong_block → ⊥) → Enters p s None r
    sampling_other wrong = sampling (λ e. absurd (wrong e))

    pub sampling_unfit : (y : Option Place) → y ≡ None → Gives p s y (Block r.a 1 no_recording) → Enters p s None r
    sampling_unfit y fails tried_so = sampling (λ _. not_allowed p s _ y fails tried_so)

  module _ (some : s.left ≡ 0 → ⊥) (right : head ≡ run_kind → ⊥) where
    screening : (head ≡ wrong_run → allows p (figures_here p s) 0 (Run r.a 1 no_recording) ≡ false) → Enters p s None r
    screening wrong = left go (λ w most e. no_block p (blocks p s on) s some r.a w)
      where
        go : (w : ℕ) → w ≤ 1 → head ≡ flagged run_kind w → allows p (figures_here p s) 0 (Run r.a w no_recording) ≡ false
        go w most e = let one : w ≡ 1 = omega arith in rw one (wrong (omega arith))

    pub screening_other : (head ≡ wrong_run → ⊥) → Enters p s None r
    screening_other wrong = screening (λ e. absurd (wrong e))

    pub screening_unfit : (y : Option Place) → y ≡ None → Gives p s y (Run r.a 1 no_recording) → Enters p s None r
    screening_unfit y fails tried_so = screening (λ _. not_allowed p s _ y fails tried_so)

pub ruleset begun = (from_counts, from_stands, from_within)

pub ruleset runs = (clearance_most_lem, sum_fits, run_fails, run_room, run_counts, run_stands)

pub ruleset block_steps = (interval_most_lem, sum_fits, from_least, to_most, no_block_here, block_fails, block_counts, block_stands)

pub ruleset stops = (stop_fails, stop_counts, stop_stands)

pub ruleset rest = (sampling_other, sampling_unfit, screening_other, screening_unfit)

pub ruleset takes = (more_fails, right_run, wrong_run_lem, right_block_lem, wrong_block_lem, rest)
