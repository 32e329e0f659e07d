-- What the earlier refusals of a list tell of the whole list: by induction on it, each by whether it applies. Assumes nothing.
use Prim.Native.Nat.{ℕ}
use mathlib.Core.Path.{◌≡◌, refl}
use mathlib.Core.Bool.{Bool, true, false, cond}
use mathlib.Core.List.{List, [], ◌∷◌}
use lib.Dec.{eqb}
use borrow.Author.Tests.{eqb-true}
use Rattle.model.specs.declared.Plan.{Plan}
use Rattle.model.specs.declared.Entry.{Entry}
use Rattle.model.specs.declared.Entry.TheVariants.{Lot, Run, Block, Stop}
use Rattle.model.specs.declared.Figures.{Figures}
use Rattle.model.specs.Calls.{Refusal, first_refusal, rule_refusals, allows}
use Rattle.rules.specs.Refusing.{earlier}

-- the last of an entry's: it is given where no earlier one applies and the step of the plan fails
abbrev pub last_of : Entry → ℕ
last_of (Lot label N n d D rec) = 13
last_of (Run h w rec) = 14
last_of (Block q w rec) = 14
last_of (Stop why days) = 15

-- one of them applies: it is the first of all
pub first_earlier : (rs : List Refusal) → (first_refusal (earlier rs) ≡ 0 → ⊥) → first_refusal (earlier rs) ≡ first_refusal rs
unfolding first_refusal earlier
first_earlier [] some = absurd (some refl)
first_earlier (r ∷ []) some = absurd (some refl)
first_earlier (r ∷ s ∷ rs) some = go r.applies refl (first_earlier (s ∷ rs))
  where
    go : (b : Bool) → r.applies ≡ b → ((first_refusal (earlier (s ∷ rs)) ≡ 0 → ⊥) → first_refusal (earlier (s ∷ rs)) ≡ first_refusal (s ∷ rs))
        → cond r.applies r.number (first_refusal (earlier (s ∷ rs))) ≡ cond r.applies r.number (first_refusal (s ∷ rs))
    go true e rest = rw e
    go false e rest = rw e (rest (λ z. some (rw e z)))

last_number : List Refusal → ℕ
last_number [] = 0
last_number (r ∷ []) = r.number
last_number (r ∷ s ∷ rs) = last_number (s ∷ rs)

-- none does: the last, or none, is given
given_zero : (n m : ℕ) → n ≡ 0 → n ≡ cond (eqb n 0) 0 m
given_zero n m none = rw none

last_or_none : (rs : List Refusal) → first_refusal (earlier rs) ≡ 0 → first_refusal rs ≡ cond (eqb (first_refusal rs) 0) 0 (last_number rs)
unfolding first_refusal earlier last_number
last_or_none [] none = refl
last_or_none (r ∷ []) none = go r.applies (eqb r.number 0) refl
  where
    go : (b z : Bool) → eqb r.number 0 ≡ z → cond b r.number 0 ≡ cond (eqb (cond b r.number 0) 0) 0 r.number
    go true true e = given_zero r.number r.number (eqb-true r.number 0 e)
    go true false e = rw e
    go false z e = refl
last_or_none (r ∷ s ∷ rs) none = go r.applies none (last_or_none (s ∷ rs))
  where
    go : (b : Bool) → cond b r.number (first_refusal (earlier (s ∷ rs))) ≡ 0
        → (first_refusal (earlier (s ∷ rs)) ≡ 0 → first_refusal (s ∷ rs) ≡ cond (eqb (first_refusal (s ∷ rs)) 0) 0 (last_number (s ∷ rs)))
        → cond b r.number (first_refusal (s ∷ rs)) ≡ cond (eqb (cond b r.number (first_refusal (s ∷ rs))) 0) 0 (last_number (s ∷ rs))
    go true e rest = given_zero r.number (last_number (s ∷ rs)) e
    go false e rest = rest e

pub last_decides : (p : Plan) (f : Figures) (count : ℕ) (e : Entry) → first_refusal (earlier (rule_refusals p f count e)) ≡ 0
    → first_refusal (rule_refusals p f count e) ≡ cond (allows p f count e) 0 (last_of e)
unfolding rule_refusals allows last_number
last_decides p f count (Lot label N n d D rec) none = last_or_none (rule_refusals p f count (Lot label N n d D rec)) none
last_decides p f count (Run h w rec) none = last_or_none (rule_refusals p f count (Run h w rec)) none
last_decides p f count (Block q w rec) none = last_or_none (rule_refusals p f count (Block q w rec)) none
last_decides p f count (Stop why days) none = last_or_none (rule_refusals p f count (Stop why days)) none
