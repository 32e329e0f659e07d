-- The reading decides soundness: the claim DecidesSoundness. A station that is read was left by its Open and its entries, oldest first,
-- and what accepted calls leave is read back (`AreaReading`); over the calls, by induction. Assumes nothing.
use Prim.Native.Nat.{ℕ}
use mathlib.Core.Path.{◌≡◌, refl, sym, ap, ◌∙◌}
use mathlib.Core.Logic.{inl, inr}
use mathlib.Core.Bool.{Bool, true, false, ◌&&◌, and-false}
use mathlib.Core.List.{List, [], ◌∷◌}
use lib.Dec.{T, eqb}
use borrow.Author.Tests.{eq-eqb}
use Rattle.model.specs.declared.Plan.{Plan}
use Rattle.model.specs.declared.Entry.{Entry}
use Rattle.model.specs.declared.Call.{Call}
use Rattle.model.specs.declared.Call.TheVariants.{Open, Enter}
use Rattle.model.specs.Stations.{Station, unopened, opened, arguments, all_words}
use Rattle.model.specs.Calls.{refusals, refusal_of, changed, call, admissible, admissible_station}
use Rattle.model.specs.Area.{area_of, reading, holds, on_area}
use Rattle.model.specs.Claims.{station_after, all_accepted, area_after, all_taken_on, Sound, DecidesSoundness}
use Rattle.model.proofs.Booleans.{both, both_of, of_holds}
use Rattle.model.proofs.Allowed.{newest_of_lem}
use Rattle.model.proofs.AreaReading.{reading_of_area, area_of_reading}
use Rattle.model.proofs.OnArea.{on_station}
use Rattle.model.proofs.Keeping.{
  answer_refusal,
  accepted_station,
  call_admissible,
  plan_of_lem,
  entries_of,
  valid_opens,
  plan_words,
}

-- the parts of a list of accepted calls
module _ (st : Station) (c : Call) (cs : List Call) where
  rest_accepted : T (all_accepted st (c ∷ cs)) → T (all_words (arguments c)) × T (all_accepted (call st c).station cs)
  unfolding all_accepted
  rest_accepted t =
      let all = both_of (eqb (refusal_of st c) 0 && all_words (arguments c)) (all_accepted (call st c).station cs) t in
      ((both_of (eqb (refusal_of st c) 0) (all_words (arguments c)) all.0).1, all.1)

  and_accepted : refusal_of st c ≡ 0 → T (all_words (arguments c)) → T (all_accepted (changed st c) cs)
      → T (all_accepted st (c ∷ cs))
  unfolding all_accepted
  and_accepted e w t =
      both (eqb (refusal_of st c) 0 && all_words (arguments c)) (all_accepted (call st c).station cs)
      (both (eqb (refusal_of st c) 0) (all_words (arguments c)) (of_holds _ (eq-eqb (refusal_of st c) 0 e)) w)
      (rw (accepted_station st c e) t)

-- accepted calls leave an admissible station
after_admissible : (cs : List Call) (st : Station) → T (admissible_station st) → T (all_accepted st cs)
    → T (admissible_station (station_after st cs))
unfolding station_after
after_admissible [] st h t = h
after_admissible (c ∷ cs) st h t =
    let rest = rest_accepted st c cs t in
    after_admissible cs (call st c).station (call_admissible st c h rest.0) rest.1

-- the calls that enter the standing entries, oldest first
entering : List Entry → List Call → List Call
entering [] later = later
entering (e ∷ es) later = entering es (Enter e ∷ later)

entering_accepted : (p : Plan) (es : List Entry) (later : List Call) → T (admissible p es)
    → T (all_accepted (opened p es) later) → T (all_accepted (opened p []) (entering es later))
unfolding entering changed refusal_of refusals arguments
entering_accepted p [] later t a = a
entering_accepted p (e ∷ es) later t a =
    let last = newest_of_lem p e es t in
    entering_accepted p es (Enter e ∷ later) last.others
    (and_accepted (opened p es) (Enter e) later last.accepted last.words a)

entering_station : (p : Plan) (es : List Entry) (later : List Call) → T (admissible p es)
    → station_after (opened p []) (entering es later) ≡ station_after (opened p es) later
unfolding entering station_after changed refusal_of refusals
entering_station p [] later t = refl
entering_station p (e ∷ es) later t =
    let last = newest_of_lem p e es t in
    entering_station p es (Enter e ∷ later) last.others
    ∙ ap (λ (st : Station). station_after st later) (accepted_station (opened p es) (Enter e) last.accepted)

-- a station that is read was left by its Open and its entries
opened_sound : (p : Plan) (es : List Entry) → T (admissible_station (opened p es))
    → (cs : List Call) × T (all_accepted unopened cs) × (area_of (station_after unopened cs) ≡ area_of (opened p es))
unfolding station_after all_accepted changed
opened_sound p es h =
    let opens = valid_opens p (plan_of_lem p es h) in
    let entries = entries_of p es h in (
      Open p ∷ entering es [],
      and_accepted unopened (Open p) (entering es []) opens (plan_words p (plan_of_lem p es h)) (entering_accepted p es [] entries tt),
      ap area_of
          (ap (λ (st : Station). station_after st (entering es [])) (accepted_station unopened (Open p) opens)
          ∙ entering_station p es [] entries),
    )

-- a call on the bytes of a station is the call on the station
on_its_area : (st : Station) (c : Call) → T (admissible_station st)
    → on_area (area_of st) c ≡ record { answer = (call st c).answer; area = area_of (call st c).station }
on_its_area st c h = on_station (area_of st) st c (reading_of_area st h)

taken_alike : (cs : List Call) (st : Station) → T (admissible_station st) → all_taken_on (area_of st) cs ≡ all_accepted st cs
unfolding all_taken_on all_accepted
taken_alike [] st h = refl
taken_alike (c ∷ cs) st h =
    rw (on_its_area st c h, answer_refusal st c)
    (go (all_words (arguments c)) refl (λ w. taken_alike cs (call st c).station (call_admissible st c h w)))
  where
    go : (words : Bool) → all_words (arguments c) ≡ words
        → (T (all_words (arguments c)) → all_taken_on (area_of (call st c).station) cs ≡ all_accepted (call st c).station cs)
        → eqb (refusal_of st c) 0 && words && all_taken_on (area_of (call st c).station) cs
        ≡ eqb (refusal_of st c) 0 && words && all_accepted (call st c).station cs
    go true e later = ap (λ (b : Bool). eqb (refusal_of st c) 0 && true && b) (later (of_holds _ e))
    go false e later = simp (and-false (eqb (refusal_of st c) 0))

left_alike : (cs : List Call) (st : Station) → T (admissible_station st) → T (all_accepted st cs)
    → area_after (area_of st) cs ≡ area_of (station_after st cs)
unfolding area_after station_after
left_alike [] st h t = refl
left_alike (c ∷ cs) st h t =
    let rest = rest_accepted st c cs t in
    rw (on_its_area st c h) (left_alike cs (call st c).station (call_admissible st c h rest.0) rest.1)

pub decides_soundness : (area : List ℕ) → DecidesSoundness area
unfolding Sound area_of admissible_station
decides_soundness area =
    record {
      of_sound = of_sound;
      sound_of = sound_of;
      only_one = only_one;
      over_bytes = λ cs. taken_alike cs unopened tt;
      left_bytes = λ cs. left_alike cs unopened tt;
    }
  where
    only_one : (cs : List Call) → T (all_accepted unopened cs) → area_of (station_after unopened cs) ≡ area
        → reading area ≡ holds (station_after unopened cs)
    only_one cs t e = ap reading (sym e) ∙ reading_of_area (station_after unopened cs) (after_admissible cs unopened tt t)

    of_sound : Sound area → (st : Station) × (reading area ≡ holds st)
    of_sound (inl e) = (unopened, ap reading e ∙ reading_of_area unopened tt)
    of_sound (inr s) = (station_after unopened s.0, only_one s.0 s.1 s.2)

    sound_of : (st : Station) → reading area ≡ holds st → Sound area
    sound_of unopened e = inl (sym (area_of_reading area unopened e).1)
    sound_of (opened p es) e =
        let read = area_of_reading area (opened p es) e in
        let made = opened_sound p es read.0 in
        inr (made.0, made.1, made.2 ∙ read.1)
