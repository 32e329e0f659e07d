-- The newest records that a store hands back: where the call is refused none, and else those of the newest standing entries. The part lies
-- in the stream's area, and there behind the records before it. Assumes nothing.
use Prim.Native.Nat.{ℕ, zero, suc, ◌+◌, ◌*◌, ◌-◌, ◌≤◌, ◌<◌, min}
use mathlib.Core.Path.{◌≡◌, refl, sym, ap, ◌∙◌}
use mathlib.Core.Bool.{Bool, true, false, cond}
use mathlib.Core.List.{List, [], ◌∷◌, ◌++◌, append_assoc, append-nil}
use native.Mathlib.Omega.{arith}
use lib.Dec.{eqb, leb}
use lib.ListN.{length, drop, take, length-take, length-drop}
use lib.Seq.{take_at, drop_at, take_all}
use borrow.Author.Tests.{eqb-true, eqb-false, leb-true, leb-false, ne_eqb}
use Rattle.little.specs.Little.{part}
use Rattle.little.proofs.Laws.{part_part}
use Rattle.model.specs.declared.Plan.{Plan}
use Rattle.model.specs.declared.Entry.{Entry}
use Rattle.model.specs.Sizes.{record_length, header_length, most_records, area_length, streams, store_length, start_of}
use Rattle.model.specs.declared.Call.TheVariants.{Newest}
use Rattle.model.specs.declared.Answer.{Answer}
use Rattle.model.specs.declared.Part.{Part}
use Rattle.model.specs.Stations.{unopened, opened}
use Rattle.model.specs.Records.{record_bytes, record_of}
use Rattle.model.specs.Calls.{first_refusal, refusals, refusal_of, refused, newest_of, answer_of, call}
use Rattle.model.specs.Area.{zeros, records_of, area_of, count_in, Reading, unsound, holds, reading, on_area}
use Rattle.model.specs.Store.{StoreOutcome, area_at, on_store, ending_at_last, no_part, newest_part, newest_records}
use Rattle.model.specs.Claims.{on, PartOfItsArea}
use Rattle.model.proofs.Allowed.{count_within}
use Rattle.model.proofs.AreaReading.{length_records, records_in_lem, count_read, area_of_reading}
use Rattle.model.proofs.Keeping.{plan_of_lem, entries_of}
use Rattle.model.proofs.OnArea.{on_station, on_unsound}
use Rattle.model.proofs.OnStore.{answer_after, keeps_to_its_area}

-- the older records stand before the newest
records_split : (n : ℕ) (es : List Entry) → records_of es ≡ records_of (drop n es) ++ records_of (take n es)
unfolding records_of
records_split zero es = sym (append-nil (records_of es))
records_split (suc n) [] = refl
records_split (suc n) (e ∷ es) =
    ap (λ (records : List ℕ). records ++ record_bytes (record_of e)) (records_split n es)
    ∙ append_assoc (records_of (drop n es)) (records_of (take n es)) (record_bytes (record_of e))

pub newest_within : (n : ℕ) (es : List Entry) → newest_of n es ≤ length es
unfolding newest_of
newest_within n es = omega arith

-- as many as the count says, or all where fewer stand
take_newest : (n : ℕ) (es : List Entry) → take (newest_of n es) es ≡ take n es
unfolding newest_of
take_newest n es = go (leb n (length es)) refl
  where
    go : (b : Bool) → leb n (length es) ≡ b → take (min n (length es)) es ≡ take n es
    go true k =
        let all : min n (length es) ≡ n = omega (arith, leb-true n (length es) k) in
        rw all
    go false k =
        let fewer : length es < n = leb-false n (length es) k in
        let all : min n (length es) ≡ length es = omega arith in
        rw all (take_all (length es) es (omega arith) ∙ sym (take_all n es (omega arith)))

-- so many of the newest records, as they lie in the area
pub newest_in_area : (p : Plan) (es : List Entry) (n : ℕ) → length es ≤ most_records
    → part (header_length + record_length * (length es - newest_of n es)) (record_length * newest_of n es) (area_of (opened p es))
    ≡ records_of (take n es)
unfolding part newest_of
newest_in_area p es n room =
    let k : ℕ = newest_of n es in
    let within : k ≤ length es = omega arith in
    let before : List Entry = drop k es in
    let rest = zeros (record_length * (most_records - length es)) in
    let older : length (records_of before) ≡ record_length * (length es - k) = length_records before ∙ ap (λ (m : ℕ). record_length * m) (length-drop k es) in
    let taken : length (take k es) ≡ k = length-take k es ∙ omega arith in
    let newer : length (records_of (take k es)) ≡ record_length * k = length_records (take k es) ∙ ap (λ (m : ℕ). record_length * m) taken in
    sym (part_part header_length (record_length * most_records) (record_length * (length es - k)) (record_length * k) (area_of (opened p es)) (omega arith))
    ∙ ap (part (record_length * (length es - k)) (record_length * k))
    (records_in_lem p es room
    ∙ ap (λ (records : List ℕ). records ++ rest) (records_split k es)
    ∙ append_assoc (records_of before) (records_of (take k es)) rest)
    ∙ ap (take (record_length * k)) (drop_at (records_of before) _ _ older)
    ∙ take_at (records_of (take k es)) rest _ newer
    ∙ ap records_of (take_newest n es)

-- ---- the part of a store

module _ (store : List ℕ) (stream n : ℕ) where
  refused_one : eqb (length store) store_length ≡ false → (on_store store (on stream (Newest n))).answer ≡ refused 1
  unfolding on_store
  refused_one e = rw e

  refused_two : eqb (length store) store_length ≡ true → leb streams stream ≡ true → (on_store store (on stream (Newest n))).answer ≡ refused 2
  unfolding on_store
  refused_two e g = rw (e, g)

  unopened_answer : reading (area_at stream store) ≡ holds unopened → (on_area (area_at stream store) (Newest n)).answer ≡ refused 6
  unfolding call refusal_of refusals first_refusal
  unopened_answer e = ap (λ o. o.answer) (on_station (area_at stream store) unopened (Newest n) e)

  pub no_part_lem : ((on_store store (on stream (Newest n))).answer.refusal ≡ 0 → ⊥) → newest_part store stream n ≡ no_part
  unfolding newest_part
  no_part_lem refused = rw (ne_eqb (on_store store (on stream (Newest n))).answer.refusal 0 refused)

  module _ (sized : length store ≡ store_length) (known : stream < streams) where
    -- where the stream is opened
    pub opened_part : (p : Plan) (es : List Entry) → reading (area_at stream store) ≡ holds (opened p es)
        → newest_part store stream n ≡ ending_at_last stream (length es) (newest_of n es)
    unfolding newest_part call refusal_of refusals first_refusal answer_of
    opened_part p es reads =
        let area : List ℕ = area_at stream store in
        let held = area_of_reading area (opened p es) reads in
        let counted : count_in area ≡ length es = rw (sym held.1) (count_read p es (plan_of_lem p es held.0) (entries_of p es held.0)) in
        let answer = answer_after store (on stream (Newest n)) sized known in
        rw (answer, on_station area (opened p es) (Newest n) reads, counted)

    pub shut_part : (reading (area_at stream store) ≡ holds unopened) → newest_part store stream n ≡ no_part
    unfolding newest_part call refusal_of refusals first_refusal
    shut_part reads =
        let answer = answer_after store (on stream (Newest n)) sized known in
        rw (answer, on_station (area_at stream store) unopened (Newest n) reads)

    -- its bytes, as a part of the area
    pub opened_records : (p : Plan) (es : List Entry) → reading (area_at stream store) ≡ holds (opened p es)
        → newest_records store stream n
        ≡ part (header_length + record_length * (length es - newest_of n es)) (record_length * newest_of n es) (area_at stream store)
    unfolding newest_records area_at
    opened_records p es reads =
        let start : ℕ = header_length + record_length * (length es - newest_of n es) in
        let room = count_within p es (entries_of p es (area_of_reading (area_at stream store) (opened p es) reads).0) in
        ap (λ (q : Part). part q.offset q.length store) (opened_part p es reads)
        ∙ sym (part_part (start_of stream) area_length start (record_length * newest_of n es) store (omega (arith, newest_within n es)))

  -- a call is refused, and hands nothing back; or it is made on an opened stream of a whole store
  record Accepted : Type 0 where
    sized : length store ≡ store_length
    known : stream < streams
    plan : Plan
    entries : List Entry
    reads : reading (area_at stream store) ≡ holds (opened plan entries)

  room_of : (a : Accepted) → length a.entries ≤ most_records
  room_of a =
      let kept = (area_of_reading (area_at stream store) (opened a.plan a.entries) a.reads).0 in
      count_within a.plan a.entries (entries_of a.plan a.entries kept)

  by_outcome : (P : Type 0) → (newest_part store stream n ≡ no_part → ((on_store store (on stream (Newest n))).answer.refusal ≡ 0 → ⊥) → P)
      → (Accepted → P) → P
  by_outcome P refused-so accepted = go (eqb (length store) store_length) (leb streams stream) refl refl
    where
      none : {r : Answer} → (on_store store (on stream (Newest n))).answer ≡ r → (r.refusal ≡ 0 → ⊥) → P
      none given some =
          let shut : (on_store store (on stream (Newest n))).answer.refusal ≡ 0 → ⊥ = λ z. some (sym (ap (λ (a : Answer). a.refusal) given) ∙ z) in
          refused-so (no_part_lem shut) shut

      read : length store ≡ store_length → stream < streams → (r : Reading) → reading (area_at stream store) ≡ r → P
      read sized known unsound e =
          none (answer_after store (on stream (Newest n)) sized known ∙ ap (λ o. o.answer) (on_unsound (area_at stream store) (Newest n) e)) (λ z. omega arith)
      read sized known (holds unopened) e =
          none (answer_after store (on stream (Newest n)) sized known ∙ unopened_answer e) (λ z. omega arith)
      read sized known (holds (opened p es)) e = accepted (record { sized = sized; known = known; plan = p; entries = es; reads = e })

      go : (a b : Bool) → eqb (length store) store_length ≡ a → leb streams stream ≡ b → P
      go true true e g = none (refused_two e g) (λ z. omega arith)
      go true false e g = read (eqb-true (length store) store_length e) (leb-false streams stream g) (reading (area_at stream store)) refl
      go false b e g = none (refused_one e) (λ z. omega arith)

  -- the part is inside the store, whatever the store, the stream and the count
  pub part_fits : (newest_part store stream n).offset + (newest_part store stream n).length ≤ length store
  part_fits =
      by_outcome ((newest_part store stream n).offset + (newest_part store stream n).length ≤ length store)
      (λ none _. rw none (omega arith))
      (λ a.
      let room = room_of a in
      rw (opened_part a.sized a.known a.plan a.entries a.reads) (omega (arith, a.sized, a.known, newest_within n a.entries)))

  part_inside : (on_store store (on stream (Newest n))).answer.refusal ≡ 0
      → (start_of stream + header_length ≤ (newest_part store stream n).offset)
      × ((newest_part store stream n).offset + (newest_part store stream n).length ≤ start_of stream + area_length)
  part_inside taken =
      by_outcome
      ((start_of stream + header_length ≤ (newest_part store stream n).offset)
      × ((newest_part store stream n).offset + (newest_part store stream n).length ≤ start_of stream + area_length))
      (λ _ shut. absurd (shut taken))
      (λ a.
      let room = room_of a in
      rw (opened_part a.sized a.known a.plan a.entries a.reads) (omega arith, omega (arith, newest_within n a.entries)))

  -- a refusal has zeros, and hands nothing back
  part_whole : (newest_part store stream n).length ≡ record_length * (on_store store (on stream (Newest n))).answer.first
  unfolding newest_part
  part_whole = go (eqb (on_store store (on stream (Newest n))).answer.refusal 0) refl
    where
      answer : Answer
      answer = (on_store store (on stream (Newest n))).answer

      go : (b : Bool) → eqb answer.refusal 0 ≡ b
          → (cond b (ending_at_last stream (count_in (area_at stream store)) answer.first) no_part).length ≡ record_length * answer.first
      go true taken = refl
      go false shut =
          let kept = (keeps_to_its_area store (on stream (Newest n))).refusal (eqb-false answer.refusal 0 shut) in
          rw (ap (λ (o : StoreOutcome). o.answer.first) kept)

-- another store of the same length with the same area hands back the same bytes
same_records : (store other : List ℕ) (stream n : ℕ) → length other ≡ length store → area_at stream other ≡ area_at stream store
    → newest_records other stream n ≡ newest_records store stream n
unfolding newest_records part
same_records store other stream n l same =
    by_outcome store stream n (newest_records other stream n ≡ newest_records store stream n)
    (λ none shut.
    let alike = ((keeps_to_its_area store (on stream (Newest n))).reads_no_other other l same).0 in
    let shut-there = no_part_lem other stream n (λ z. shut (sym (ap (λ (a : Answer). a.refusal) alike) ∙ z)) in
    rw (none, shut-there))
    (λ a.
    let handed : ℕ = newest_of n a.entries in
    let start : ℕ = header_length + record_length * (length a.entries - handed) in
    let there = opened_records other stream n (l ∙ a.sized) a.known a.plan a.entries (rw same a.reads) in
    there ∙ ap (part start (record_length * handed)) same ∙ sym (opened_records store stream n a.sized a.known a.plan a.entries a.reads))

pub part_of_its_area : (store : List ℕ) (stream n : ℕ) → PartOfItsArea store stream n
part_of_its_area store stream n =
    record {
      reads_no_other = λ other l same. same_records store other stream n l same;
      inside = part_inside store stream n;
      whole = part_whole store stream n;
      fits = part_fits store stream n;
    }
