-- The figures that the forward rules leave are those worked out backwards from the standing entries: by induction over the entries, for
-- credit, marks and state each. Assumes nothing.
use Prim.Native.Nat.{ℕ, zero, suc, ◌+◌, ◌-◌, ◌≤◌}
use mathlib.Core.Path.{◌≡◌, refl, sym, ap, ◌∙◌}
use mathlib.Core.Bool.{Bool, true, false, cond, ◌&&◌, ◌||◌}
use mathlib.Core.List.{List, [], ◌∷◌}
use native.Mathlib.Nat.{zero-add, add_comm}
use native.Mathlib.Omega.{arith}
use lib.Dec.{T, eqb, ltb, leb-suc-suc, eqb-suc-zero}
use lib.ListN.{length, get_or}
use borrow.Author.Tests.{lt-ltb, ne_eqb}
use Rattle.plans.specs.Credit.{credit_after}
use Rattle.plans.specs.Levels.{level_start, shifted, counted, arrived, moved, level_after, judged_lot, met_stop}
use Rattle.plans.specs.Severities.{reduced}
use Rattle.plans.specs.Stops.{set_up_changed, long_stop}
use Rattle.plans.specs.Continuous.{screening, sampling, is_sampling, after_run, after_block, after_stop}
use Rattle.plans.specs.declared.level.LevelState.{LevelState}
use Rattle.plans.specs.declared.continuous.Continuous.{Continuous}
use Rattle.plans.proofs.Booleans.{either}
use Rattle.model.specs.declared.Plan.{Plan}
use Rattle.model.specs.declared.Recording.{Recording}
use Rattle.model.specs.declared.Entry.{Entry}
use Rattle.model.specs.declared.Entry.TheVariants.{Lot, Run, Block, Stop}
use Rattle.model.specs.Stations.{is_credit, is_level, is_continuous, has_option, valid_plan}
use Rattle.model.specs.Figuring.{no_level, started, credit_step, level_step, continuous_step, stepped, figures_of}
use Rattle.model.specs.Calls.{admissible}
use Rattle.model.specs.Backward.{is_wrong_lot, since_wrong_lot, size_of, sizes, credit_back, lots_wrong, withheld_mark, window_back, runs_of, runs, breaks, since_breaker, sampling_back, phase_back, count_back, tail_of_last, tail_back}
use Rattle.model.proofs.Allowed.{allowed_lot, allowed_run, allowed_block, newest_of_lem, continuous_plan}
use Rattle.model.proofs.Booleans.{never_both}

-- ---- credit

-- one lot more makes the list after the last wrong lot longer by it, or empty
credit_lot : (credit : Bool) (K N d : ℕ) (since newer : List Entry) → sizes newer ≡ N + sizes since → K ≡ cond credit (sizes since) 0
    → cond credit (credit_after K N d) K ≡ cond credit (sizes (cond (ltb 0 d) [] newer)) 0
unfolding credit_after sizes
credit_lot true K N zero since newer more e = omega arith
credit_lot true K N (suc d) since newer more e = rw (eqb-suc-zero d, lt-ltb 0 (suc d) (omega arith))
credit_lot false K N d since newer more e = e

pub credit_backward : (p : Plan) (es : List Entry) → (figures_of p es).credit.0 ≡ cond (is_credit p) (credit_back es) 0
unfolding figures_of started stepped credit_step credit_back since_wrong_lot is_wrong_lot sizes size_of
credit_backward p [] = either (λ (x : ℕ). 0 ≡ x) (is_credit p) refl refl
credit_backward p (Lot label N n d D rec ∷ es) =
    credit_lot (is_credit p) (figures_of p es).credit.0 N d (since_wrong_lot es) (Lot label N n d D rec ∷ since_wrong_lot es) refl (credit_backward p es)
credit_backward p (Run h w rec ∷ es) = rw zero-add (credit_backward p es)
credit_backward p (Block q w rec ∷ es) = rw zero-add (credit_backward p es)
credit_backward p (Stop why days ∷ es) = rw zero-add (credit_backward p es)

-- ---- withheld marks

moved_window : (level : ℕ) (s : LevelState) → (moved level s).window ≡ s.window
unfolding moved arrived
moved_window level s = either (λ (t : LevelState). t.window ≡ s.window) (eqb level s.level) refl refl

judged_window : (permits withheld : Bool) (s : LevelState) → (judged_lot permits withheld s).window ≡ shifted withheld s.window
unfolding judged_lot counted
judged_window permits withheld s = moved_window (level_after permits (counted withheld s)) (counted withheld s)

stop_window : (why days : ℕ) (s : LevelState) → (met_stop why days s).window ≡ s.window
unfolding met_stop arrived
stop_window why days s =
    either (λ (t : LevelState). t.window ≡ s.window) (eqb s.level reduced && (set_up_changed why || long_stop days)) refl refl

mark_within : (es : List Entry) (j : ℕ) → withheld_mark es j ≤ 1
unfolding withheld_mark
mark_within es j =
    either (λ (x : ℕ). x ≤ 1) (ltb j (length (lots_wrong es)) && get_or (lots_wrong es) j false) (omega arith) (omega arith)

module _ (label N n d D : ℕ) (rec : Recording) (es : List Entry) where
  mark_newest : withheld_mark (Lot label N n d D rec ∷ es) 0 ≡ cond (ltb 0 d) 1 0
  unfolding withheld_mark lots_wrong
  mark_newest = rw (lt-ltb 0 (suc (length (lots_wrong es))) (omega arith))

  mark_before : (j : ℕ) → withheld_mark (Lot label N n d D rec ∷ es) (suc j) ≡ withheld_mark es j
  unfolding withheld_mark lots_wrong
  mark_before j = rw (leb-suc-suc (suc j) (length (lots_wrong es)))

  -- with one lot more, the marks worked out backwards move up by one
  window_lot : window_back (Lot label N n d D rec ∷ es) ≡ shifted (ltb 0 d) (window_back es)
  unfolding window_back shifted
  window_lot =
      rw (mark_before 0, mark_before 1, mark_before 2, mark_before 3)
      (omega (arith, mark_newest, mark_within (Lot label N n d D rec ∷ es) 0, mark_within es 0, mark_within es 1, mark_within es 2, mark_within es 3))

-- only a level stream's window follows an entry
window_of : (level : Bool) (s after : LevelState) (W X : ℕ) → s.window ≡ cond level W 0
    → (s.window ≡ W → after.window ≡ X) → (cond level after s).window ≡ cond level X 0
window_of true s after W X e follows = follows e
window_of false s after W X e follows = e

pub window_backward : (p : Plan) (es : List Entry) → (figures_of p es).level.window ≡ cond (is_level p) (window_back es) 0
unfolding figures_of started stepped level_step level_start no_level window_back withheld_mark lots_wrong
window_backward p [] = window_of (is_level p) no_level level_start 0 0 (either (λ (x : ℕ). 0 ≡ x) (is_level p) refl refl) (λ e. refl)
window_backward p (Lot label N n d D rec ∷ es) =
    let s : LevelState = (figures_of p es).level in
    window_of (is_level p) s (judged_lot (has_option p) (ltb 0 d) s) (window_back es) (window_back (Lot label N n d D rec ∷ es)) (window_backward p es)
    (λ e. judged_window (has_option p) (ltb 0 d) s ∙ ap (shifted (ltb 0 d)) e ∙ sym (window_lot label N n d D rec es))
window_backward p (Run h w rec ∷ es) = window_backward p es
window_backward p (Block q w rec ∷ es) = window_backward p es
window_backward p (Stop why days ∷ es) =
    let s : LevelState = (figures_of p es).level in
    window_of (is_level p) s (met_stop why days s) (window_back es) (window_back es) (window_backward p es)
    (λ e. stop_window why days s ∙ e)

pub level_foreign : (p : Plan) (es : List Entry) → is_level p ≡ false → (figures_of p es).level ≡ no_level
unfolding figures_of started stepped level_step
level_foreign p [] e = rw e
level_foreign p (Lot label N n d D rec ∷ es) e = rw e (level_foreign p es e)
level_foreign p (Run h w rec ∷ es) e = level_foreign p es e
level_foreign p (Block q w rec ∷ es) e = level_foreign p es e
level_foreign p (Stop why days ∷ es) e = rw e (level_foreign p es e)

-- ---- continuous

-- the state is the one worked out backwards from the entries after the last breaker, and in screening none of them leaves a tail
record StateBack (i g : ℕ) (s : Continuous) (since : List Entry) : Type 0 where
  state : s ≡ cond (eqb (runs since) i) (sampling (tail_of_last g since)) (screening (runs since))
  no_tail : eqb (runs since) i ≡ false → tail_of_last g since ≡ 0

module _ (i g : ℕ) where
  broken : 1 ≤ i → StateBack i g (screening 0) []
  unfolding runs tail_of_last
  broken positive = record { state = rw (ne_eqb 0 i (λ e. omega arith)); no_tail = λ e. refl }

  -- a breaker leaves screening from 0, and no entry after it
  broken_or : 1 ≤ i → (breaker : Bool) (s : Continuous) (since : List Entry) → StateBack i g s since
      → StateBack i g (cond breaker (screening 0) s) (cond breaker [] since)
  broken_or positive true s since known = broken positive
  broken_or positive false s since known = known

  module _ (s : Continuous) (since : List Entry) (known : StateBack i g s since) where
    phase_back_lem : is_sampling s ≡ eqb (runs since) i
    unfolding is_sampling sampling screening
    phase_back_lem = rw known.state (go (eqb (runs since) i))
      where
        go : (b : Bool) → is_sampling (cond b (sampling (tail_of_last g since)) (screening (runs since))) ≡ b
        go true = refl
        go false = refl

    after_run_lem : (h w : ℕ) (rec : Recording) → is_sampling s ≡ false
        → StateBack i g (cond (eqb (s.count + h) i) (sampling 0) (screening (s.count + h))) (Run h w rec ∷ since)
    unfolding runs runs_of tail_of_last screening
    after_run_lem h w rec screened =
        let phase : eqb (runs since) i ≡ false = sym phase_back_lem ∙ screened in
        let tail : tail_of_last g since ≡ 0 = known.no_tail phase in
        let count : s.count ≡ runs since = rw (known.state, phase) in
        record { state = rw (count, tail, add_comm h (runs since)); no_tail = λ e. tail }

    after_block_lem : (q w : ℕ) (rec : Recording) → is_sampling s ≡ true → StateBack i g (sampling (g - q)) (Block q w rec ∷ since)
    unfolding runs runs_of tail_of_last
    after_block_lem q w rec sampled =
        let phase : eqb (runs since) i ≡ true = sym phase_back_lem ∙ sampled in
        record { state = rw (zero-add, phase); no_tail = λ e. absurd (never_both _ phase (rw zero-add at e)) }

    after_stop_lem : (why days : ℕ) → StateBack i g s (Stop why days ∷ since)
    unfolding runs runs_of tail_of_last
    after_stop_lem why days = record { state = rw zero-add known.state; no_tail = rw zero-add known.no_tail }

module _ (p : Plan) (valid : T (valid_plan p)) (e : is_continuous p ≡ true) where
  positive : 1 ≤ p.a
  positive = (continuous_plan p valid e).clearance

  state_back : (es : List Entry) → T (admissible p es)
      → StateBack p.a p.b (figures_of p es).continuous (since_breaker p.a es)
  unfolding figures_of started stepped continuous_step after_run after_block after_stop set_up_changed long_stop since_breaker sampling_back breaks
  state_back [] ok = broken p.a p.b positive
  state_back (Lot label N n d D rec ∷ es) ok =
      let newest = newest_of_lem p (Lot label N n d D rec) es ok in
      absurd (never_both (is_continuous p) e (allowed_lot p (figures_of p es) (length es) label N n d D rec newest.allowed).lots)
  state_back (Run h w rec ∷ es) ok =
      let newest = newest_of_lem p (Run h w rec) es ok in
      let allowed = allowed_run p (figures_of p es) (length es) h w rec newest.allowed in
      broken_or p.a p.b positive (eqb w 1) _ _
      (after_run_lem p.a p.b _ _ (state_back es newest.others) h w rec allowed.screened)
  state_back (Block q w rec ∷ es) ok =
      let newest = newest_of_lem p (Block q w rec) es ok in
      let allowed = allowed_block p (figures_of p es) (length es) q w rec newest.allowed in
      broken_or p.a p.b positive (eqb w 1) _ _
      (after_block_lem p.a p.b _ _ (state_back es newest.others) q w rec allowed.sampled)
  state_back (Stop why days ∷ es) ok =
      let known = state_back es (newest_of_lem p (Stop why days) es ok).others in
      rw (e, phase_back_lem p.a p.b _ _ known)
      (broken_or p.a p.b positive (eqb why 2 || sampling_back p.a es && ltb 3 days) _ _
      (after_stop_lem p.a p.b _ _ known why days))

pub continuous_backward : (p : Plan) (es : List Entry) → T (valid_plan p) → T (admissible p es) → is_continuous p ≡ true
    → (figures_of p es).continuous
    ≡ cond (sampling_back p.a es) (sampling (tail_of_last p.b (since_breaker p.a es))) (screening (runs (since_breaker p.a es)))
unfolding sampling_back
continuous_backward p es valid ok e = (state_back p valid e es ok).state

pub continuous_foreign : (p : Plan) (es : List Entry) → T (admissible p es) → is_continuous p ≡ false
    → (figures_of p es).continuous ≡ screening 0
unfolding figures_of started stepped continuous_step
continuous_foreign p [] ok e = refl
continuous_foreign p (Lot label N n d D rec ∷ es) ok e = continuous_foreign p es (newest_of_lem p (Lot label N n d D rec) es ok).others e
continuous_foreign p (Run h w rec ∷ es) ok e =
    let newest = newest_of_lem p (Run h w rec) es ok in
    absurd (never_both (is_continuous p) (allowed_run p (figures_of p es) (length es) h w rec newest.allowed).continuous e)
continuous_foreign p (Block q w rec ∷ es) ok e =
    let newest = newest_of_lem p (Block q w rec) es ok in
    absurd (never_both (is_continuous p) (allowed_block p (figures_of p es) (length es) q w rec newest.allowed).continuous e)
continuous_foreign p (Stop why days ∷ es) ok e =
    rw e (continuous_foreign p es (newest_of_lem p (Stop why days) es ok).others e)

-- the state of every plan: figures foreign to it are zero
pub all_continuous_backward : (p : Plan) (es : List Entry) → T (valid_plan p) → T (admissible p es)
    → (figures_of p es).continuous
    ≡ record {
      count = cond (is_continuous p) (count_back p.a es) 0;
      phase = cond (is_continuous p) (phase_back p.a es) 0;
      tail = cond (is_continuous p) (tail_back p.a p.b es) 0;
    }
unfolding screening sampling count_back phase_back tail_back
all_continuous_backward p es valid ok = go (is_continuous p) refl
  where
    chosen : (b : Bool) (u c : ℕ) → cond b (sampling u) (screening c) ≡ record { count = cond b 0 c; phase = cond b 1 0; tail = cond b u 0 }
    chosen true u c = refl
    chosen false u c = refl

    go : (b : Bool) → is_continuous p ≡ b
        → (figures_of p es).continuous
        ≡ record { count = cond b (count_back p.a es) 0; phase = cond b (phase_back p.a es) 0; tail = cond b (tail_back p.a p.b es) 0 }
    go true e = continuous_backward p es valid ok e ∙ chosen (sampling_back p.a es) _ _
    go false e = continuous_foreign p es ok e
