-- What an entry gives on a credit stream, in the three numbers: each answer from facts in the code's own form, what was tested and what the
-- callees ensure. The sets at the end are handed to the search, which finds these facts among what a function has learnt. Assumes nothing.
use Prim.Native.Nat.{ℕ, ◌+◌, ◌≤◌, ◌<◌, ◌^◌}
use mathlib.Core.Path.{◌≡◌, refl, sym, ◌∙◌}
use mathlib.Core.Bool.{Bool, true, false, cond, not, ◌&&◌}
use native.Mathlib.Omega.{arith}
use lib.Dec.{eqb, leb-zero}
use borrow.Author.Tests.{ne_eqb, not-true, not-false}
use Rattle.plans.specs.Limits.{least_lot, largest_lot, largest_aoql, largest_credit}
use Rattle.plans.specs.Credit.{credit_sample, credit_verdict, credit_after}
use Rattle.plans.specs.Verdicts.{accepted_of}
use Rattle.plans.specs.declared.credit.Credit.{Credit}
use Rattle.model.specs.declared.Plan.{Plan}
use Rattle.model.specs.declared.Entry.TheVariants.{Stop}
use Rattle.model.specs.declared.Figures.{Figures}
use Rattle.model.specs.Stations.{is_credit, is_level, is_continuous, has_option}
use Rattle.model.specs.Figuring.{no_level, sample_asked, verdict_on, credit_step, level_step, stepped}
use Rattle.model.specs.Calls.{is_discontinued, same_label, size_in_range, counts_agree}
use Rattle.model.proofs.Allowed.{plan_range}
use Rattle.model.proofs.Booleans.{both_true}
use Rattle.rules.specs.Refusing.{may_follow, is_stop}
use Rattle.rules.proofs.Counts.{all_at_most}
use Rattle.std.specs.Prelude.{Option, Some, None}
use Rattle.replaying.specs.Replaying.{tried, asked_lot, Left, GoesOn, Tells}
use Rattle.replaying.specs.LotStreams.{lot_figures}
use Rattle.replaying.proofs.LotStreams.{numbers_kept, lot_numbers, stop_numbers, follower_size}
use Rattle.replaying.proofs.Reached.{no_level_lem}
use Rattle.replaying.proofs.Tried.{told_by_test, lot_tried, stop_tried}
use Rattle.replay_credit.specs.declared.Carried.{Carried}
use Rattle.replay_credit.specs.Carrying.{figures_in}

-- numbers with room for one entry more, as the steps take them
abbrev pub OnCredit : Plan → Carried → Type 0
OnCredit p s = GoesOn 1 figures_in (λ _. Unit {0}) p s

-- a step that is what a lot, and what a stop, gives on the numbers
abbrev pub LotGives : Plan → Carried → ℕ → ℕ → ℕ → ℕ → Option Carried → Type 0
LotGives p s label N d D x = Tells figures_in (λ _. Unit {0}) x (tried p (figures_in s) (asked_lot p (figures_in s) label N d D))

abbrev pub StopGives : Plan → Carried → ℕ → ℕ → Option Carried → Type 0
StopGives p s why days x = Tells figures_in (λ _. Unit {0}) x (tried p (figures_in s) (Stop why days))

-- the numbers of figures stand for them
pub numbers_of : (p : Plan) (f : Figures) → Left p f → p.kind ≡ 1 → figures_in (record { credit = f.credit; accepted = f.accepted; above = f.above }) ≡ f
unfolding figures_in is_level is_continuous
numbers_of p f left kind = numbers_kept p f left.entries left.stood left.after (rw kind) _ _ refl (no_level_lem p f left.entries left.stood left.after (rw kind))

-- none is discontinued
pub goes_on_lem : (s : Carried) → false ≡ is_discontinued (figures_in s)
unfolding is_discontinued figures_in lot_figures no_level
goes_on_lem s = refl

-- ---- steps

module _ (p : Plan) (s : Carried) (run : OnCredit p s) where
  kind : p.kind ≡ 1
  kind = run.on.of_kind

  pub lots : is_continuous p ≡ false
  unfolding is_continuous
  lots = rw kind

  -- "On credit streams it is entered without effect"
  stop_given : (why days : ℕ) (b : Bool) → is_stop why days ≡ b → StopGives p s why days (cond b (Some s) None)
  unfolding figures_in level_step is_level
  stop_given why days b test =
      rw (stop_tried p (figures_in s) run.goes_on why days, stop_numbers s.credit.0 no_level s.accepted s.above p why days lots, kind, test)
      (told_by_test figures_in _ b s _ refl tt)

  module _ (why days : ℕ) (ok : Bool) (tested : ok ≡ is_stop why days) where
    pub stop_stands : ok ≡ true → StopGives p s why days (Some s)
    stop_stands fits = stop_given why days true (sym tested ∙ fits)

    pub stop_fails : ok ≡ false → StopGives p s why days None
    stop_fails fits = stop_given why days false (sym tested ∙ fits)

  -- every sum is in range
  pub credit_most : s.credit.0 ≤ largest_credit
  unfolding figures_in lot_figures
  credit_most = omega (arith, run.on.room.credits)

  pub plan_most : p.a ≤ largest_aoql
  plan_most = (plan_range p run.on.valid).a_to

  pub sum_fits : (n : ℕ) → n < 2 ^ 32 → s.accepted + n < 2 ^ 64
  unfolding figures_in lot_figures
  sum_fits n small = omega (arith, run.on.room.accepted_in)

  -- a lot, judged by the verdict and the sample of its credit
  module _ (label N d D v n : ℕ) (judged : v ≡ credit_verdict s.credit.0 (eqb p.option 1) d)
      (asked : n ≡ credit_sample s.credit.0 p.ceiling N p.a) where
    judged_so : verdict_on p (figures_in s) d ≡ v
    unfolding verdict_on is_credit has_option figures_in lot_figures
    judged_so = rw kind (sym judged)

    asked_so : sample_asked p (figures_in s) N ≡ n
    unfolding sample_asked is_credit figures_in lot_figures
    asked_so = rw kind (sym asked)

    following : not (same_label (figures_in s).above label) && size_in_range p N ≡ may_follow (least_lot false) s.above label N
    unfolding size_in_range is_level may_follow figures_in lot_figures
    following = rw kind

    after : Carried
    after = record { credit = record { 0 = credit_after s.credit.0 N d }; accepted = s.accepted + accepted_of v N D; above = label + 1 }

    stepped_so : stepped p (asked_lot p (figures_in s) label N d D) (figures_in s) ≡ figures_in after
    unfolding after asked_lot figures_in credit_step is_credit level_step is_level
    stepped_so = lot_numbers s.credit.0 no_level s.accepted s.above p label N _ d D _ ∙ rw (judged_so, kind)

    lot_given : (b : Bool) → may_follow (least_lot false) s.above label N && counts_agree v N n d D ≡ b → LotGives p s label N d D (cond b (Some after) None)
    lot_given b test =
        rw (lot_tried p (figures_in s) run.goes_on lots label N d D, judged_so, asked_so, following, stepped_so, test)
        (told_by_test figures_in _ b after _ refl tt)

  -- the answers of the code
  module _ (label N : ℕ) (may : Bool) (tested : may ≡ may_follow (least_lot false) s.above label N) where
    pub lot_refused : (d D : ℕ) → not may ≡ true → LotGives p s label N d D None
    lot_refused d D fails = lot_given label N d D _ _ refl refl false (rw (sym tested ∙ not-true may fails))

    module _ (fits : not may ≡ false) where
      follows : may_follow (least_lot false) s.above label N ≡ true
      follows = sym tested ∙ not-false may fits

      -- nothing wrong in the sample, something in all that was heard
      pub lot_missed : (d D : ℕ) → d ≡ 0 → ((d ≡ 0) × (D ≡ 0) → ⊥) → LotGives p s label N d D None
      unfolding counts_agree
      lot_missed d D none some = lot_given label N d D _ _ refl refl false
          (rw follows (simp (none, ne_eqb D 0 (λ z. some (none, z)), leb-zero)))

      pub good_stands : (credit : Credit) → credit.0 ≡ credit_after s.credit.0 N 0
          → LotGives p s label N 0 0 (Some (record { credit = credit; accepted = s.accepted + N; above = label + 1 }))
      unfolding credit_verdict accepted_of counts_agree after
      good_stands credit same = rw same (lot_given label N 0 0 1 _ refl refl true (rw (follows, leb-zero)))

      module _ (d D v n : ℕ) (judged : v ≡ credit_verdict s.credit.0 (eqb p.option 1) d) (asked : n ≡ credit_sample s.credit.0 p.ceiling N p.a)
          (agree : Bool) (counted : agree ≡ counts_agree v N n d D) where
        -- no more is wrong than the lot holds
        pub wrong_at_most : not agree ≡ false → D ≤ N
        wrong_at_most agrees =
            let both = both_true (not (same_label (figures_in s).above label)) (size_in_range p N) (following label N d D v n judged asked ∙ follows) in
            let other = not-true (same_label (figures_in s).above label) both.0 in
            let counts : counts_agree (verdict_on p (figures_in s) d) N n d D ≡ true = rw (judged_so label N d D v n judged asked) (sym counted ∙ not-false agree agrees) in
            all_at_most p (figures_in s) 0 label N n d D
            (record {
              lots = lots;
              running = run.goes_on;
              room = omega arith;
              other_label = other;
              size = both.1;
              sample = sym (asked_so label N d D v n judged asked);
              counts = counts;
            })

        pub lot_disagrees : not agree ≡ true → LotGives p s label N d D None
        lot_disagrees fails = lot_given label N d D v n judged asked false (rw (follows, sym counted ∙ not-true agree fails))

        pub lot_stands : not agree ≡ false → (credit : Credit) (accepted : ℕ) → credit.0 ≡ credit_after s.credit.0 N d → accepted ≡ accepted_of v N D
            → LotGives p s label N d D (Some (record { credit = credit; accepted = s.accepted + accepted; above = label + 1 }))
        unfolding after
        lot_stands agrees credit accepted left given =
            rw (left, given) (lot_given label N d D v n judged asked true (rw (follows, sym counted ∙ not-false agree agrees)))

module _ (above label N : ℕ) (may : Bool) (tested : may ≡ may_follow 1 above label N) (fits : not may ≡ false) where
  pub size_least : 1 ≤ N
  size_least = (follower_size 1 above label N (sym tested ∙ not-false may fits)).0

  pub size_most : N ≤ largest_lot
  size_most = (follower_size 1 above label N (sym tested ∙ not-false may fits)).1

pub ruleset stops = (stop_stands, stop_fails)

pub ruleset ranges = (credit_most, plan_most, sum_fits, size_least, size_most)

pub ruleset steps = (ranges, wrong_at_most, lot_refused, lot_missed, good_stands, lot_disagrees, lot_stands)
