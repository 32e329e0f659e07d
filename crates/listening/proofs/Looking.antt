-- A call on the store: refused by what it sees of its stream, or made on the stream's area, which is lent and comes back. Assumes nothing.
use Prim.Native.Nat.{ℕ, ◌+◌, ◌-◌, ◌<◌}
use mathlib.Core.Path.{◌≡◌, refl, sym, ap}
use mathlib.Core.Bool.{Bool, true, false, cond, not}
use mathlib.Core.List.{List, ◌++◌}
use Rattle.std.specs.Prelude.{Result, Ok, Err}
use native.Mathlib.Omega.{arith}
use lib.Dec.{eqb, leb}
use borrow.Author.Tests.{eqb-true, leb-false, eq-eqb, lt-leb}
use lib.ListN.{length, take, drop}
use lib.Seq.{drop-drop}
use Rattle.little.specs.Little.{part, written}
use Rattle.little.proofs.Laws.{written_same}
use Rattle.model.specs.declared.Call.{Call}
use Rattle.model.specs.declared.Entry.{Entry}
use Rattle.model.specs.declared.Answer.{Answer}
use Rattle.model.specs.Sizes.{area_length, streams, store_length, start_of}
use Rattle.model.specs.Stations.{unopened}
use Rattle.model.specs.Calls.{refused, refusal_of}
use Rattle.model.specs.Area.{AreaOutcome, holds, reading, on_area}
use Rattle.model.specs.Store.{StoreOutcome, area_at, on_stream, on_store}
use Rattle.model.specs.Claims.{on}
use Rattle.model.proofs.OnStore.{on_stream_lem, length_area_at}
use Rattle.rules.specs.declared.refusing.Refusal.{Refusal as Refused}
use Rattle.rules.specs.declared.refusing.Refusal.TheVariants.{StoreLength, Stream, Unopened}
use Rattle.rules.specs.Refusing.{number_of}
use Rattle.replay.specs.declared.Standing.{Standing}
use Rattle.replay.specs.Standing.{standing_of}
use Rattle.areas.proofs.OnReading.{OpenedAt, read_refused, read_opened, read_unopened_lem}
use Rattle.areas.proofs.Outcomes.{leaves}
use Rattle.listening.specs.Handed.{looked_at}

-- an answer, and the store after it
abbrev pub keeps : Answer → List ℕ → StoreOutcome
keeps r store = record { answer = r; store = store }

-- a stream of a whole store that is opened, as a call sees it, or unopened
pub record OpenedIn (newest : ℕ) (store : List ℕ) (stream : ℕ) (s : Standing) : Type 0 where
  pub whole : length store ≡ store_length
  pub known : stream < streams
  pub entries : List Entry
  pub at : OpenedAt newest (area_at stream store) s entries

pub record UnopenedIn (store : List ℕ) (stream : ℕ) : Type 0 where
  pub whole : length store ≡ store_length
  pub known : stream < streams
  pub reads : reading (area_at stream store) ≡ holds unopened

module _ (store : List ℕ) (stream : ℕ) where
  -- a store and a stream of it
  module _ (whole : length store ≡ store_length) (known : stream < streams) where
    -- a call on the stream's area that leaves it as it was, and one that writes it
    pub on_written : (c : Call) {r : Answer} {after then : List ℕ} → leaves r after ≡ on_area (area_at stream store) c
        → then ≡ written (start_of stream) after store → keeps r then ≡ on_store store (on stream c)
    unfolding on_stream
    on_written c made left =
        let answer = ap (λ (o : AreaOutcome). o.answer) made in
        let area = ap (λ (o : AreaOutcome). o.area) made in
        rw (left, answer, area) (sym (on_stream_lem store (on stream c) whole known))

    pub on_kept : (c : Call) {r : Answer} → leaves r (area_at stream store) ≡ on_area (area_at stream store) c → keeps r store ≡ on_store store (on stream c)
    unfolding area_at
    on_kept c made = on_written c made (sym (written_same (start_of stream) area_length store (omega (arith, length_area_at store stream whole known))))

  -- what its area says, where the store is whole and the stream one of its own
  pub looked_read : (newest : ℕ) → length store ≡ store_length → stream < streams → {area : List ℕ} → area ≡ area_at stream store
      → standing_of newest (reading area) ≡ looked_at newest stream store
  unfolding looked_at
  looked_read newest whole known same =
      rw (same, eq-eqb (length store) store_length whole, lt-leb streams stream known)

  -- what is seen of a stream
  module _ (newest : ℕ) {said : Result Standing Refused} (seen : said ≡ looked_at newest stream store) where
    -- where it is neither 1 nor 2, the store is whole, the stream is one of its own, and its area says it
    record Lent : Type 0 where
      whole : length store ≡ store_length
      known : stream < streams
      says : said ≡ standing_of newest (reading (area_at stream store))

    lent : (said ≡ Err StoreLength → ⊥) → (said ≡ Err Stream → ⊥) → Lent
    unfolding looked_at
    lent one two = go (eqb (length store) store_length) (leb streams stream) refl refl seen
      where
        go : (a b : Bool) → eqb (length store) store_length ≡ a → leb streams stream ≡ b
            → said ≡ cond (not a) (Err StoreLength) (cond b (Err Stream) (standing_of newest (reading (area_at stream store)))) → Lent
        go true true e g t = absurd (two t)
        go true false e g t = record { whole = eqb-true (length store) store_length e; known = leb-false streams stream g; says = t }
        go false b e g t = absurd (one t)

    -- where the stream is opened, and where it could be
    pub opened_in : {s : Standing} → said ≡ Ok s → OpenedIn newest store stream s
    opened_in is =
        let l = lent (λ z. cc) (λ z. cc) in
        let opened = read_opened newest (area_at stream store) l.says is in
        record { whole = l.whole; known = l.known; entries = opened.0; at = opened.1 }

    pub unopened_in : said ≡ Err Unopened → UnopenedIn store stream
    unopened_in six =
        let l = lent (λ z. cc) (λ z. cc) in
        record { whole = l.whole; known = l.known; reads = read_unopened_lem newest (area_at stream store) l.says six }

    -- the refusals 1, 2, 3 and, for a call that is no Open, 6
    pub look_refused : (c : Call) {r : Refused} → said ≡ Err r → (r ≡ Unopened → refusal_of unopened c ≡ 6)
        → keeps (refused (number_of r)) store ≡ on_store store (on stream c)
    unfolding looked_at on_store
    look_refused c {r} is six = go (eqb (length store) store_length) (leb streams stream) refl refl seen
      where
        go : (a b : Bool) → eqb (length store) store_length ≡ a → leb streams stream ≡ b
            → said ≡ cond (not a) (Err StoreLength) (cond b (Err Stream) (standing_of newest (reading (area_at stream store))))
            → keeps (refused (number_of r)) store ≡ on_store store (on stream c)
        go true true e g t = let given : r ≡ Stream = cc in rw (given, e, g)
        go true false e g t =
            on_kept (eqb-true (length store) store_length e) (leb-false streams stream g) c
            (sym (read_refused newest (area_at stream store) t c is six))
        go false b e g t = let given : r ≡ StoreLength = cc in rw (given, e)

-- the part that is lent, from the start of the stream's area to its end, as code takes it; and what comes back
module _ (store : List ℕ) (stream : ℕ) {start : ℕ} (starts : start ≡ start_of stream) where
  pub part_lent : take (start + area_length - start) (drop start store) ≡ area_at stream store
  unfolding area_at part
  part_lent = let wide : start + area_length - start ≡ area_length = omega arith in rw (wide, starts)

  pub part_back : (after : List ℕ) → length after ≡ area_length
      → take start store ++ (after ++ drop (start + area_length - start) (drop start store)) ≡ written (start_of stream) after store
  unfolding written
  part_back after long =
      let wide : start + area_length - start ≡ area_length = omega arith in
      rw (wide, starts, long, ← drop-drop area_length (start_of stream) store)
