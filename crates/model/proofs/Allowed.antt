-- What is known of a plan that was accepted, and of entries: every refusal was passed. Assumes nothing.
use Prim.Native.Nat.{ℕ, ◌+◌, ◌≤◌, ◌<◌}
use mathlib.Core.Path.{◌≡◌, refl}
use mathlib.Core.Bool.{Bool, true, false, cond, not, ◌&&◌, ◌||◌}
use mathlib.Core.List.{List, [], ◌∷◌, ◌++◌}
use native.Mathlib.Omega.{arith}
use lib.Dec.{T, eqb, ltb, leb, eqb→eq, leb→le, ltb→lt}
use lib.ListN.{length}
use borrow.Author.Tests.{ltb-false, leb-false, eqb-true, eqb-false, eq-eqb, ne_eqb, not-false}
use Rattle.plans.specs.Limits.{largest_aoql, largest_ceiling, verification_levels, largest_clearance, largest_interval, longest_run, longest_stop, within}
use Rattle.plans.specs.Continuous.{is_sampling}
use Rattle.model.specs.declared.Plan.{Plan}
use Rattle.model.specs.declared.Entry.{Entry}
use Rattle.model.specs.declared.Entry.TheVariants.{Lot, Run, Block, Stop}
use Rattle.model.specs.declared.Figures.{Figures}
use Rattle.model.specs.declared.Recording.{Recording}
use Rattle.model.specs.Sizes.{most_records}
use Rattle.model.specs.Stations.{is_credit, is_level, is_continuous, valid_ranges, valid_ceiling, valid_plan, entry_arguments, all_words}
use Rattle.model.specs.Figuring.{sample_asked, verdict_on, figures_of}
use Rattle.model.specs.Calls.{
  Refusal,
  refuse,
  first_refusal,
  is_discontinued,
  is_full,
  same_label,
  size_in_range,
  counts_agree,
  rule_refusals,
  allows,
  lacks_recording,
  entry_refusals,
  accepts,
  admissible,
}
use Rattle.model.proofs.Booleans.{holds_of, both_of, neither_of, within_of}

-- where none is given, the first does not apply, and none of the rest is given
pub passed : (n : ℕ) (applies : Bool) (rs : List Refusal) → 0 < n → first_refusal (refuse n applies ∷ rs) ≡ 0
    → (applies ≡ false) × (first_refusal rs ≡ 0)
unfolding first_refusal
passed n true rs positive e = absurd (omega arith)
passed n false rs positive e = (refl, e)

pub record AllowedLot (p : Plan) (f : Figures) (count label N n d D : ℕ) : Type 0 where
  pub lots : is_continuous p ≡ false
  pub running : is_discontinued f ≡ false
  pub room : count < most_records
  pub other_label : same_label f.above label ≡ false
  pub size : size_in_range p N ≡ true
  pub sample : n ≡ sample_asked p f N
  pub counts : counts_agree (verdict_on p f d) N n d D ≡ true

pub record AllowedRun (p : Plan) (f : Figures) (count h w : ℕ) : Type 0 where
  pub continuous : is_continuous p ≡ true
  pub room : count < most_records
  pub right : h ≤ longest_run
  pub wrong : w ≤ 1
  pub some : 0 < h + w
  pub screened : is_sampling f.continuous ≡ false
  pub fits : f.continuous.count + h + w ≤ p.a

pub record AllowedBlock (p : Plan) (f : Figures) (count q w : ℕ) : Type 0 where
  pub continuous : is_continuous p ≡ true
  pub room : count < most_records
  pub first : 1 ≤ q
  pub last : q ≤ p.b
  pub wrong : w ≤ 1
  pub sampled : is_sampling f.continuous ≡ true

pub record AllowedStop (f : Figures) (count why days : ℕ) : Type 0 where
  pub running : is_discontinued f ≡ false
  pub room : count < most_records
  pub first : 1 ≤ why
  pub last : why ≤ 2
  pub long : days ≤ longest_stop

module _ (p : Plan) (f : Figures) (count : ℕ) where
  room_of : is_full count ≡ false → count < most_records
  unfolding is_full
  room_of e = omega (arith, leb-false _ count e)

  pub allowed_lot : (label N n d D : ℕ) (rec : Recording) → first_refusal (rule_refusals p f count (Lot label N n d D rec)) ≡ 0
      → AllowedLot p f count label N n d D
  unfolding rule_refusals
  allowed_lot label N n d D rec e =
      let seven = passed 7 _ _ (omega arith) e in
      let eight = passed 8 _ _ (omega arith) seven.1 in
      let nine = passed 9 _ _ (omega arith) eight.1 in
      let ten = passed 10 _ _ (omega arith) nine.1 in
      let eleven = passed 11 _ _ (omega arith) ten.1 in
      let twelve = passed 12 _ _ (omega arith) eleven.1 in
      let thirteen = passed 13 _ _ (omega arith) twelve.1 in
      record {
        lots = seven.0;
        running = eight.0;
        room = room_of nine.0;
        other_label = ten.0;
        size = not-false _ eleven.0;
        sample = eqb-true n (sample_asked p f N) (not-false _ twelve.0);
        counts = not-false _ thirteen.0;
      }

  pub allowed_run : (h w : ℕ) (rec : Recording) → first_refusal (rule_refusals p f count (Run h w rec)) ≡ 0 → AllowedRun p f count h w
  unfolding rule_refusals
  allowed_run h w rec e =
      let seven = passed 7 _ _ (omega arith) e in
      let nine = passed 9 _ _ (omega arith) seven.1 in
      let fifteen = passed 15 _ _ (omega arith) nine.1 in
      let fourteen = passed 14 _ _ (omega arith) fifteen.1 in
      let range = neither_of (ltb longest_run h || ltb 1 w) (eqb (h + w) 0) fifteen.0 in
      let ranges = neither_of (ltb longest_run h) (ltb 1 w) range.0 in
      let state = neither_of (is_sampling f.continuous) (ltb p.a (f.continuous.count + h + w)) fourteen.0 in
      let nonzero : h + w ≡ 0 → ⊥ = eqb-false (h + w) 0 range.1 in
      record {
        continuous = not-false _ seven.0;
        room = room_of nine.0;
        right = ltb-false longest_run h ranges.0;
        wrong = ltb-false 1 w ranges.1;
        some = omega arith;
        screened = state.0;
        fits = ltb-false p.a (f.continuous.count + h + w) state.1;
      }

  pub allowed_block : (q w : ℕ) (rec : Recording) → first_refusal (rule_refusals p f count (Block q w rec)) ≡ 0 → AllowedBlock p f count q w
  unfolding rule_refusals
  allowed_block q w rec e =
      let seven = passed 7 _ _ (omega arith) e in
      let nine = passed 9 _ _ (omega arith) seven.1 in
      let fifteen = passed 15 _ _ (omega arith) nine.1 in
      let fourteen = passed 14 _ _ (omega arith) fifteen.1 in
      let range = neither_of (not (within 1 p.b q)) (ltb 1 w) fifteen.0 in
      let heard = within_of 1 p.b q (not-false _ range.0) in
      record {
        continuous = not-false _ seven.0;
        room = room_of nine.0;
        first = heard.0;
        last = heard.1;
        wrong = ltb-false 1 w range.1;
        sampled = not-false _ fourteen.0;
      }

  pub allowed_stop : (why days : ℕ) → first_refusal (rule_refusals p f count (Stop why days)) ≡ 0 → AllowedStop f count why days
  unfolding rule_refusals
  allowed_stop why days e =
      let eight = passed 8 _ _ (omega arith) e in
      let nine = passed 9 _ _ (omega arith) eight.1 in
      let fifteen = passed 15 _ _ (omega arith) nine.1 in
      let range = neither_of (not (within 1 2 why) || ltb longest_stop days) (eqb why 2 && ltb 0 days) fifteen.0 in
      let ranges = neither_of (not (within 1 2 why)) (ltb longest_stop days) range.0 in
      let reason = within_of 1 2 why (not-false _ ranges.0) in
      record {
        running = eight.0;
        room = room_of nine.0;
        first = reason.0;
        last = reason.1;
        long = ltb-false longest_stop days ranges.1;
      }

-- an entry was accepted with room for its record
pub room_for : (p : Plan) (f : Figures) (count : ℕ) (e : Entry) → first_refusal (rule_refusals p f count e) ≡ 0 → count < most_records
room_for p f count (Lot label N n d D rec) h = (allowed_lot p f count label N n d D rec h).room
room_for p f count (Run h w rec) e = (allowed_run p f count h w rec e).room
room_for p f count (Block q w rec) e = (allowed_block p f count q w rec e).room
room_for p f count (Stop why days) e = (allowed_stop p f count why days e).room

-- every refusal has a number, so that none is given exactly where none applies
unfoldable numbered : List Refusal → Bool
numbered [] = true
numbered (r ∷ rs) = ltb 0 r.number && numbered rs

-- the refusal behind others, which is given where none of them is
abbrev behind : ℕ → Refusal → ℕ
behind given last = cond (eqb given 0) (first_refusal (last ∷ [])) given

last_given : (rs : List Refusal) (last : Refusal) → T (numbered rs)
    → first_refusal (rs ++ (last ∷ [])) ≡ behind (first_refusal rs) last
unfolding first_refusal numbered
last_given [] last t = refl
last_given (r ∷ rs) last t =
    let parts = both_of (ltb 0 r.number) (numbered rs) t in
    go (ltb→lt 0 r.number parts.0) (last_given rs last parts.1) r.applies
  where
    go : 0 < r.number → first_refusal (rs ++ (last ∷ [])) ≡ behind (first_refusal rs) last → (b : Bool)
        → cond b r.number (first_refusal (rs ++ (last ∷ []))) ≡ behind (cond b r.number (first_refusal rs)) last
    go positive others true = rw (ne_eqb r.number 0 (omega arith))
    go positive others false = others

rules_numbered : (p : Plan) (f : Figures) (count : ℕ) (e : Entry) → T (numbered (rule_refusals p f count e))
unfolding numbered rule_refusals
rules_numbered p f count (Lot label N n d D rec) = tt
rules_numbered p f count (Run h w rec) = tt
rules_numbered p f count (Block q w rec) = tt
rules_numbered p f count (Stop why days) = tt

-- an entry is refused by paper 01's rules, and else by 17 where it lacks a recording
pub entry_refusal : (p : Plan) (f : Figures) (count : ℕ) (e : Entry)
    → first_refusal (entry_refusals p f count e)
    ≡ cond (eqb (first_refusal (rule_refusals p f count e)) 0) (cond (lacks_recording e) 17 0) (first_refusal (rule_refusals p f count e))
unfolding entry_refusals first_refusal
entry_refusal p f count e =
    last_given (rule_refusals p f count e) (refuse 17 (lacks_recording e)) (rules_numbered p f count e)

-- so it is accepted where the rules allow it and it does not
pub accepted_parts : (p : Plan) (f : Figures) (count : ℕ) (e : Entry)
    → accepts p f count e ≡ (allows p f count e && not (lacks_recording e))
unfolding accepts allows
accepted_parts p f count e = rw (entry_refusal p f count e) (go (eqb (first_refusal (rule_refusals p f count e)) 0) (lacks_recording e) refl)
  where
    go : (b lacks : Bool) → eqb (first_refusal (rule_refusals p f count e)) 0 ≡ b
        → eqb (cond b (cond lacks 17 0) (first_refusal (rule_refusals p f count e))) 0 ≡ (b && not lacks)
    go true true k = refl
    go true false k = refl
    go false lacks k = k

-- what is known of an entry that was accepted
pub record Passed (p : Plan) (f : Figures) (count : ℕ) (e : Entry) : Type 0 where
  pub allowed : first_refusal (rule_refusals p f count e) ≡ 0
  pub recorded : lacks_recording e ≡ false

pub passed_all : (p : Plan) (f : Figures) (count : ℕ) (e : Entry) → first_refusal (entry_refusals p f count e) ≡ 0 → Passed p f count e
passed_all p f count e h = go (eqb (first_refusal (rule_refusals p f count e)) 0) (lacks_recording e) refl refl (entry_refusal p f count e)
  where
    go : (b c : Bool) → eqb (first_refusal (rule_refusals p f count e)) 0 ≡ b → lacks_recording e ≡ c
        → first_refusal (entry_refusals p f count e) ≡ cond b (cond c 17 0) (first_refusal (rule_refusals p f count e)) → Passed p f count e
    go true true k l given = absurd (omega arith)
    go true false k l given = record { allowed = eqb-true (first_refusal (rule_refusals p f count e)) 0 k; recorded = l }
    go false c k l given = absurd (eqb-false (first_refusal (rule_refusals p f count e)) 0 k (omega arith))

pub all_passed : (p : Plan) (f : Figures) (count : ℕ) (e : Entry) → Passed p f count e → first_refusal (entry_refusals p f count e) ≡ 0
all_passed p f count e known =
    rw (entry_refusal p f count e, eq-eqb (first_refusal (rule_refusals p f count e)) 0 known.allowed, known.recorded)

-- the newest entry was accepted after the others, which are admissible
pub record NewestEntry (p : Plan) (e : Entry) (es : List Entry) : Type 0 where
  pub others : T (admissible p es)
  pub accepted : first_refusal (entry_refusals p (figures_of p es) (length es) e) ≡ 0
  pub allowed : first_refusal (rule_refusals p (figures_of p es) (length es) e) ≡ 0
  pub recorded : lacks_recording e ≡ false
  pub words : T (all_words (entry_arguments e))

pub newest_of_lem : (p : Plan) (e : Entry) (es : List Entry) → T (admissible p (e ∷ es)) → NewestEntry p e es
unfolding admissible accepts
newest_of_lem p e es t =
    let refusal : ℕ = first_refusal (entry_refusals p (figures_of p es) (length es) e) in
    let outer = both_of (admissible p es && eqb refusal 0) (all_words (entry_arguments e)) t in
    let inner = both_of (admissible p es) (eqb refusal 0) outer.0 in
    let accepted = eqb→eq refusal 0 inner.1 in
    let passed = passed_all p (figures_of p es) (length es) e accepted in
    record { others = inner.0; accepted = accepted; allowed = passed.allowed; recorded = passed.recorded; words = outer.1 }

pub count_within : (p : Plan) (es : List Entry) → T (admissible p es) → length es ≤ most_records
count_within p [] t = omega arith
count_within p (e ∷ es) t = room_for p (figures_of p es) (length es) e (newest_of_lem p e es t).allowed

-- the ranges of a valid plan, whatever its kind
pub record PlanRange (p : Plan) : Type 0 where
  pub kind_from : 1 ≤ p.kind
  pub kind_to : p.kind ≤ 3
  pub option_to : p.option ≤ 1
  pub a_to : p.a ≤ largest_aoql
  pub b_to : p.b ≤ largest_interval
  pub ceiling_to : p.ceiling ≤ largest_ceiling

-- those of a plan for lots
lots_range : (p : Plan) (most : ℕ) → T (within 1 most p.a && eqb p.b 0 && leb p.option 1)
    → (1 ≤ p.a) × (p.a ≤ most) × (p.b ≡ 0) × (p.option ≤ 1)
lots_range p most t =
    let outer = both_of (within 1 most p.a && eqb p.b 0) (leb p.option 1) t in
    let inner = both_of (within 1 most p.a) (eqb p.b 0) outer.0 in
    let a = within_of 1 most p.a (holds_of _ inner.0) in
    (a.0, a.1, eqb→eq p.b 0 inner.1, leb→le p.option 1 outer.1)

-- those of a continuous plan
pub record ContinuousPlan (p : Plan) : Type 0 where
  pub clearance : 1 ≤ p.a
  pub clearance_most : p.a ≤ largest_clearance
  pub interval : 2 ≤ p.b
  pub interval_most : p.b ≤ largest_interval
  pub no_option : p.option ≡ 0

blocks_range : (p : Plan) → T (within 1 largest_clearance p.a && within 2 largest_interval p.b && eqb p.option 0)
    → ContinuousPlan p
blocks_range p t =
    let outer = both_of (within 1 largest_clearance p.a && within 2 largest_interval p.b) (eqb p.option 0) t in
    let inner = both_of (within 1 largest_clearance p.a) (within 2 largest_interval p.b) outer.0 in
    let a = within_of 1 largest_clearance p.a (holds_of _ inner.0) in
    let b = within_of 2 largest_interval p.b (holds_of _ inner.1) in
    record { clearance = a.0; clearance_most = a.1; interval = b.0; interval_most = b.1; no_option = eqb→eq p.option 0 outer.1 }

-- the two parts of what 5 leaves
in_ranges : (p : Plan) → T (valid_plan p) → T (valid_ranges p)
unfolding valid_plan
in_ranges p t = (both_of (valid_ranges p) (valid_ceiling p) t).0

ceiling_range : (p : Plan) → T (valid_plan p) → p.ceiling ≤ largest_ceiling
unfolding valid_plan valid_ceiling
ceiling_range p t = go (is_credit p) refl (both_of (valid_ranges p) (valid_ceiling p) t).1
  where
    go : (credit : Bool) → is_credit p ≡ credit → T (valid_ceiling p) → p.ceiling ≤ largest_ceiling
    go true c u = leb→le p.ceiling largest_ceiling (rw c at u)
    go false c u = omega (arith, eqb→eq p.ceiling 0 (rw c at u))

pub plan_range : (p : Plan) → T (valid_plan p) → PlanRange p
unfolding valid_ranges is_credit is_level is_continuous
plan_range p valid = go (is_credit p) (is_level p) (is_continuous p) refl refl refl (in_ranges p valid)
  where
    go : (credit level continuous : Bool) → is_credit p ≡ credit → is_level p ≡ level → is_continuous p ≡ continuous → T (valid_ranges p)
        → PlanRange p
    go true level continuous c l k t =
        omega (arith, eqb-true p.kind 1 c, ceiling_range p valid, lots_range p largest_aoql (rw (valid_ranges, c) at t))
    go false true continuous c l k t =
        omega (arith, eqb-true p.kind 2 l, ceiling_range p valid, lots_range p verification_levels (rw (valid_ranges, c, l) at t))
    go false false true c l k t =
        omega (arith, eqb-true p.kind 3 k, ceiling_range p valid, blocks_range p (rw (valid_ranges, c, l, k) at t))
    go false false false c l k t = absurd (rw (valid_ranges, c, l, k) at t)

-- one that is for neither credit nor levels is continuous
pub third_kind : (p : Plan) → T (valid_plan p) → (p.kind ≡ 1 → ⊥) → (p.kind ≡ 2 → ⊥) → p.kind ≡ 3
third_kind p valid one two = omega (arith, plan_range p valid, one, two)

pub continuous_plan : (p : Plan) → T (valid_plan p) → is_continuous p ≡ true → ContinuousPlan p
unfolding valid_ranges is_credit is_level is_continuous
continuous_plan p valid e =
    let kind : p.kind ≡ 3 = eqb-true p.kind 3 e in
    blocks_range p (rw kind at (in_ranges p valid))

-- the verification level of a valid level plan
pub level_plan : (p : Plan) → T (valid_plan p) → is_credit p ≡ false → is_continuous p ≡ false
    → (1 ≤ p.a) × (p.a ≤ verification_levels)
unfolding valid_ranges
level_plan p valid credit continuous = go (is_level p) refl (in_ranges p valid)
  where
    go : (level : Bool) → is_level p ≡ level → T (valid_ranges p) → (1 ≤ p.a) × (p.a ≤ verification_levels)
    go true l t =
        let range = lots_range p verification_levels (rw (valid_ranges, credit, l) at t) in
        (range.0, range.1)
    go false l t = absurd (rw (valid_ranges, credit, l, continuous) at t)
