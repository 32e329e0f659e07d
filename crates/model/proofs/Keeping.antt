-- A call keeps a station one that calls could have left; its answer is a refusal, or has refusal number 0. By the station and the call.
-- Assumes nothing.
use mathlib.Core.Path.{◌≡◌, refl}
use mathlib.Core.Bool.{Bool, true, false, not, cond, ◌&&◌}
use mathlib.Core.List.{List, [], ◌∷◌}
use native.Mathlib.Omega.{arith}
use lib.Dec.{T, eqb}
use lib.ListN.{length}
use borrow.Author.Tests.{eqb-true, eq-eqb, not-false}
use Rattle.model.specs.declared.Plan.{Plan}
use Rattle.model.specs.declared.Entry.{Entry}
use Rattle.model.specs.declared.Entry.TheVariants.{Lot, Run, Block, Stop}
use Rattle.model.specs.declared.Call.{Call}
use Rattle.model.specs.declared.Call.TheVariants.{Open, Enter, Back, Ask, Read, Newest}
use Rattle.model.specs.declared.Figures.{Figures}
use Rattle.model.specs.Stations.{Station, unopened, opened, valid_plan, arguments, entry_arguments, all_words}
use Rattle.model.specs.Figuring.{figures_of}
use Rattle.model.specs.Calls.{first_refusal, entry_refusals, refusals, refusal_of, refused, entry_answer, answer_of, without_newest, changed, call, accepts, admissible, admissible_station}
use Rattle.model.proofs.Booleans.{both, both_of, holds_of, of_holds, no_words, word_and}
use Rattle.model.proofs.Allowed.{passed, newest_of_lem, plan_range}

module _ (st : Station) (c : Call) where
  -- the station after a call is the changed one where the call is accepted, and the same where it is refused
  pub after_call : (P : Station → Type 0) → (refusal_of st c ≡ 0 → P (changed st c)) → P st → P (call st c).station
  unfolding call
  after_call P accepted kept = go (eqb (refusal_of st c) 0) refl
    where
      go : (b : Bool) → eqb (refusal_of st c) 0 ≡ b → P (cond b (changed st c) st)
      go true e = accepted (eqb-true (refusal_of st c) 0 e)
      go false e = kept

  pub accepted_station : refusal_of st c ≡ 0 → (call st c).station ≡ changed st c
  unfolding call
  accepted_station e = rw (eq-eqb (refusal_of st c) 0 e)

  pub accepted_answer : refusal_of st c ≡ 0 → (call st c).answer ≡ answer_of st c
  unfolding call
  accepted_answer e = rw (eq-eqb (refusal_of st c) 0 e)

entry_taken : (p : Plan) (f : Figures) (e : Entry) → (entry_answer p f e).refusal ≡ 0
unfolding entry_answer
entry_taken p f (Lot label N n d D rec) = refl
entry_taken p f (Run h w rec) = refl
entry_taken p f (Block q w rec) = refl
entry_taken p f (Stop why days) = refl

answer_taken : (st : Station) (c : Call) → (answer_of st c).refusal ≡ 0
unfolding answer_of
answer_taken unopened c = refl
answer_taken (opened p es) (Open q) = refl
answer_taken (opened p es) (Enter e) = entry_taken p (figures_of p es) e
answer_taken (opened p es) Back = refl
answer_taken (opened p es) (Ask N) = refl
answer_taken (opened p es) Read = refl
answer_taken (opened p es) (Newest n) = refl

-- the refusal number of the answer is that of the call
pub answer_refusal : (st : Station) (c : Call) → (call st c).answer.refusal ≡ refusal_of st c
unfolding call
answer_refusal st c = go (eqb (refusal_of st c) 0) refl
  where
    go : (b : Bool) → eqb (refusal_of st c) 0 ≡ b
        → (cond b (answer_of st c) (refused (refusal_of st c))).refusal ≡ refusal_of st c
    go true e = rw (eqb-true (refusal_of st c) 0 e) (answer_taken st c)
    go false e = refl

none_admissible : (p : Plan) → T (admissible p [])
unfolding admissible
none_admissible p = tt

-- an entry is accepted where it keeps the list admissible
pub entry_admissible : (p : Plan) (es : List Entry) (e : Entry) → T (admissible p es)
    → first_refusal (entry_refusals p (figures_of p es) (length es) e) ≡ 0 → T (all_words (entry_arguments e))
    → T (admissible p (e ∷ es))
unfolding admissible accepts
entry_admissible p es e h r w =
    let accepted : Bool = accepts p (figures_of p es) (length es) e in
    both (admissible p es && accepted) (all_words (entry_arguments e))
    (both (admissible p es) accepted h (of_holds accepted (eq-eqb (first_refusal (entry_refusals p (figures_of p es) (length es) e)) 0 r)))
    w

pub plan_of_lem : (p : Plan) (es : List Entry) → T (admissible_station (opened p es)) → T (valid_plan p)
unfolding admissible_station
plan_of_lem p es h = (both_of (valid_plan p) (admissible p es) h).0

pub entries_of : (p : Plan) (es : List Entry) → T (admissible_station (opened p es)) → T (admissible p es)
unfolding admissible_station
entries_of p es h = (both_of (valid_plan p) (admissible p es) h).1

pub opened_admissible : (p : Plan) (es : List Entry) → T (valid_plan p) → T (admissible p es) → T (admissible_station (opened p es))
unfolding admissible_station
opened_admissible p es v h = both (valid_plan p) (admissible p es) v h

-- a stream is opened with a valid plan
pub open_valid : (q : Plan) → refusal_of unopened (Open q) ≡ 0 → T (valid_plan q)
unfolding refusal_of refusals
open_valid q e = of_holds (valid_plan q) (not-false (valid_plan q) (passed 5 (not (valid_plan q)) [] (omega arith) e).0)

pub valid_opens : (q : Plan) → T (valid_plan q) → refusal_of unopened (Open q) ≡ 0
unfolding refusal_of refusals first_refusal
valid_opens q v = rw (holds_of (valid_plan q) v)

changed_admissible : (st : Station) (c : Call) → T (admissible_station st) → T (all_words (arguments c)) → refusal_of st c ≡ 0
    → T (admissible_station (changed st c))
unfolding changed arguments refusal_of refusals without_newest
changed_admissible unopened (Open q) h w e = opened_admissible q [] (open_valid q e) (none_admissible q)
changed_admissible unopened (Enter x) h w e = h
changed_admissible unopened Back h w e = h
changed_admissible unopened (Ask N) h w e = h
changed_admissible unopened Read h w e = h
changed_admissible unopened (Newest n) h w e = h
changed_admissible (opened p es) (Open q) h w e = h
changed_admissible (opened p es) (Enter x) h w e =
    opened_admissible p (x ∷ es) (plan_of_lem p es h) (entry_admissible p es x (entries_of p es h) e w)
changed_admissible (opened p []) Back h w e = h
changed_admissible (opened p (x ∷ es)) Back h w e =
    opened_admissible p es (plan_of_lem p (x ∷ es) h) (newest_of_lem p x es (entries_of p (x ∷ es) h)).others
changed_admissible (opened p es) (Ask N) h w e = h
changed_admissible (opened p es) Read h w e = h
changed_admissible (opened p es) (Newest n) h w e = h

pub call_admissible : (st : Station) (c : Call) → T (admissible_station st) → T (all_words (arguments c))
    → T (admissible_station (call st c).station)
call_admissible st c h w =
    after_call st c (λ (after : Station). T (admissible_station after)) (changed_admissible st c h w) h

-- the arguments of a valid plan are 32-bit numbers
pub plan_words : (p : Plan) → T (valid_plan p) → T (all_words (arguments (Open p)))
unfolding arguments
plan_words p v =
    let range = plan_range p v in
    word_and _ _ (omega arith)
    (word_and _ _ (omega arith) (word_and _ _ (omega arith) (word_and _ _ (omega arith) (word_and _ _ (omega arith) no_words))))
