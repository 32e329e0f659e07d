-- A call on an area: it keeps the area's length, and a refusal keeps its bytes. By whether the reading finds a station there. Assumes
-- nothing.
use Prim.Native.Nat.{ℕ}
use mathlib.Core.Path.{◌≡◌, refl}
use mathlib.Core.Bool.{Bool, true, false, cond}
use mathlib.Core.List.{List, [], ◌∷◌}
use native.Mathlib.Omega.{arith}
use lib.Dec.{T, eqb}
use lib.ListN.{length}
use borrow.Author.Tests.{eqb-true}
use Rattle.model.specs.declared.Call.{Call}
use Rattle.model.specs.declared.Call.TheVariants.{Open, Enter, Back, Ask, Read, Newest}
use Rattle.model.specs.Sizes.{area_length}
use Rattle.model.specs.Stations.{Station, unopened, opened}
use Rattle.model.specs.Figuring.{figures_of}
use Rattle.model.specs.Calls.{refusals, refusal_of, refused, answer_of, without_newest, changed, call, admissible_station}
use Rattle.model.specs.Area.{area_of, Reading, unsound, holds, reading, on_area}
use Rattle.model.proofs.Allowed.{room_for, count_within, passed_all}
use Rattle.model.proofs.AreaReading.{length_opened, length_unopened, area_of_reading}
use Rattle.model.proofs.Keeping.{after_call, entries_of, answer_refusal}

changed_length : (st : Station) (c : Call) → T (admissible_station st) → refusal_of st c ≡ 0
    → length (area_of (changed st c)) ≡ area_length
unfolding changed refusal_of refusals without_newest
changed_length unopened (Open q) h e = length_opened q [] (omega arith)
changed_length unopened (Enter x) h e = length_unopened
changed_length unopened Back h e = length_unopened
changed_length unopened (Ask N) h e = length_unopened
changed_length unopened Read h e = length_unopened
changed_length unopened (Newest n) h e = length_unopened
changed_length (opened p es) (Open q) h e = length_opened p es (count_within p es (entries_of p es h))
changed_length (opened p es) (Enter x) h e =
    length_opened p (x ∷ es) (omega (arith, room_for p (figures_of p es) (length es) x (passed_all p (figures_of p es) (length es) x e).allowed))
changed_length (opened p []) Back h e = length_opened p [] (omega arith)
changed_length (opened p (x ∷ es)) Back h e =
    length_opened p es (omega (arith, count_within p (x ∷ es) (entries_of p (x ∷ es) h)))
changed_length (opened p es) (Ask N) h e = length_opened p es (count_within p es (entries_of p es h))
changed_length (opened p es) Read h e = length_opened p es (count_within p es (entries_of p es h))
changed_length (opened p es) (Newest n) h e = length_opened p es (count_within p es (entries_of p es h))

pub length_station : (st : Station) → T (admissible_station st) → length (area_of st) ≡ area_length
length_station unopened h = length_unopened
length_station (opened p es) h = length_opened p es (count_within p es (entries_of p es h))

pub length_after : (st : Station) (c : Call) → T (admissible_station st) → length (area_of (call st c).station) ≡ area_length
length_after st c h =
    after_call st c (λ (after : Station). length (area_of after) ≡ area_length) (changed_length st c h) (length_station st h)

-- a call on an area that holds a station is the call on the station
pub on_station : (area : List ℕ) (st : Station) (c : Call) → reading area ≡ holds st
    → on_area area c ≡ record { answer = (call st c).answer; area = area_of (call st c).station }
unfolding on_area
on_station area st c e = rw e

pub on_unsound : (area : List ℕ) (c : Call) → reading area ≡ unsound → on_area area c ≡ record { answer = refused 3; area = area }
unfolding on_area
on_unsound area c e = rw e

pub length_on_area : (area : List ℕ) (c : Call) → length area ≡ area_length → length (on_area area c).area ≡ area_length
length_on_area area c h = go (reading area) refl
  where
    go : (r : Reading) → reading area ≡ r → length (on_area area c).area ≡ area_length
    go unsound e = rw (on_unsound area c e) h
    go (holds st) e = rw (on_station area st c e) (length_after st c (area_of_reading area st e).0)

-- a refusal of a call on a station keeps the station
pub refused_station : (st : Station) (c : Call) → (refusal_of st c ≡ 0 → ⊥)
    → ((call st c).answer ≡ refused (refusal_of st c)) × ((call st c).station ≡ st)
unfolding call
refused_station st c applies = go (eqb (refusal_of st c) 0) refl
  where
    go : (b : Bool) → eqb (refusal_of st c) 0 ≡ b
        → (cond b (answer_of st c) (refused (refusal_of st c)) ≡ refused (refusal_of st c)) × (cond b (changed st c) st ≡ st)
    go true e = absurd (applies (eqb-true (refusal_of st c) 0 e))
    go false e = (refl, refl)

-- a refusal gives three zeros and keeps the area
pub refused_area : (area : List ℕ) (c : Call) → ((on_area area c).answer.refusal ≡ 0 → ⊥)
    → on_area area c ≡ record { answer = refused (on_area area c).answer.refusal; area = area }
refused_area area c applies = go (reading area) refl
  where
    go : (r : Reading) → reading area ≡ r
        → on_area area c ≡ record { answer = refused (on_area area c).answer.refusal; area = area }
    go unsound e = rw (on_unsound area c e)
    go (holds st) e =
        let on = on_station area st c e in
        let kept = refused_station st c (λ z. applies (rw (on, answer_refusal st c) z)) in
        rw (on, kept.0, kept.1, (area_of_reading area st e).1)
