-- A call on the store keeps to its stream's area: the claim KeepsToItsArea. By the store's length and the stream, of which two refuse and
-- one leads to a write inside the area. Assumes nothing.
use Prim.Native.Nat.{ℕ, ◌+◌, ◌≤◌, ◌<◌}
use mathlib.Core.Path.{◌≡◌, refl, sym, ap, ◌∙◌}
use mathlib.Core.Logic.{◌⊎◌, inl, inr}
use mathlib.Core.Bool.{Bool, true, false, not, cond}
use mathlib.Core.List.{List}
use native.Mathlib.Omega.{arith}
use lib.Dec.{eqb, leb, ltb}
use lib.ListN.{length, get_or}
use borrow.Author.Tests.{eqb-true, eqb-false, eq-eqb, ne_eqb, ltb-true, ltb-false, leb-true, leb-false, le-leb, lt-leb}
use Rattle.little.specs.Little.{written}
use Rattle.little.proofs.Laws.{
  length_part,
  length_written,
  part_written,
  written_elsewhere,
  part_written_elsewhere,
  written_same,
}
use Rattle.model.specs.Sizes.{area_length, streams, store_length, start_of}
use Rattle.model.specs.Calls.{refused}
use Rattle.model.specs.Area.{on_area}
use Rattle.model.specs.Store.{Request, StoreOutcome, area_at, on_stream, on_store}
use Rattle.model.specs.Claims.{KeepsToItsArea}
use Rattle.model.proofs.OnArea.{length_on_area, refused_area}

-- by the store's length and the stream, a call is refused by 1, by 2, or made on the stream's area
module _ (store : List ℕ) (r : Request) (P : StoreOutcome → Type 0) where
  pub by_stream : ((length store ≡ store_length → ⊥) → P (record { answer = refused 1; store = store }))
      → (length store ≡ store_length → streams ≤ r.stream → P (record { answer = refused 2; store = store }))
      → (length store ≡ store_length → r.stream < streams → P (on_stream store r))
      → P (on_store store r)
  unfolding on_store
  by_stream one two lent = go (eqb (length store) store_length) refl
    where
      streamed : length store ≡ store_length → (b : Bool) → leb streams r.stream ≡ b
          → P (cond b (record { answer = refused 2; store = store }) (on_stream store r))
      streamed l true e = two l (leb-true streams r.stream e)
      streamed l false e = lent l (leb-false streams r.stream e)

      go : (b : Bool) → eqb (length store) store_length ≡ b
          → P (cond (not b) (record { answer = refused 1; store = store })
          (cond (leb streams r.stream) (record { answer = refused 2; store = store }) (on_stream store r)))
      go true e = streamed (eqb-true (length store) store_length e) (leb streams r.stream) refl
      go false e = one (eqb-false (length store) store_length e)

pub on_stream_lem : (store : List ℕ) (r : Request) → length store ≡ store_length → r.stream < streams
    → on_store store r ≡ on_stream store r
unfolding on_store
on_stream_lem store r l s = rw (eq-eqb (length store) store_length l, lt-leb streams r.stream s)

-- an area of a store of the right length
module _ (store : List ℕ) (stream : ℕ) (sized : length store ≡ store_length) (known : stream < streams) where
  pub area_fits : start_of stream + area_length ≤ length store
  area_fits = omega arith

  pub length_area_at : length (area_at stream store) ≡ area_length
  unfolding area_at
  length_area_at = length_part (start_of stream) area_length store area_fits

  written_fits : (area : List ℕ) → length area ≡ area_length → start_of stream + length area ≤ length store
  written_fits area l = omega (arith, area_fits)

  -- an area written is the area there
  pub area_written : (area : List ℕ) → length area ≡ area_length → area_at stream (written (start_of stream) area store) ≡ area
  unfolding area_at
  area_written area l = rw l at (part_written (start_of stream) area store (written_fits area l))

  pub length_area_written : (area : List ℕ) → length area ≡ area_length
      → length (written (start_of stream) area store) ≡ length store
  length_area_written area l = length_written (start_of stream) area store (written_fits area l)

  area_kept : written (start_of stream) (area_at stream store) store ≡ store
  unfolding area_at
  area_kept = written_same (start_of stream) area_length store area_fits

  -- another stream's area stays
  pub other_area : (area : List ℕ) → length area ≡ area_length → (other : ℕ) → (other ≡ stream → ⊥)
      → area_at other (written (start_of stream) area store) ≡ area_at other store
  unfolding area_at
  other_area area l other apart =
      part_written_elsewhere (start_of stream) area store (written_fits area l) (start_of other) area_length
      (go (ltb other stream) refl)
    where
      go : (b : Bool) → ltb other stream ≡ b
          → (start_of other + area_length ≤ start_of stream) ⊎ (start_of stream + length area ≤ start_of other)
      go true e = inl (omega (arith, ltb-true other stream e))
      go false e = inr (omega (arith, ltb-false other stream e))

module _ (store : List ℕ) (r : Request) (sized : length store ≡ store_length) (known : r.stream < streams) where
  length_outcome : length (on_area (area_at r.stream store) r.made).area ≡ area_length
  length_outcome = length_on_area (area_at r.stream store) r.made (length_area_at store r.stream sized known)

  refused_stream : ((on_stream store r).answer.refusal ≡ 0 → ⊥)
      → on_stream store r ≡ record { answer = refused (on_stream store r).answer.refusal; store = store }
  unfolding on_stream
  refused_stream applies =
      rw (refused_area (area_at r.stream store) r.made applies)
      (ap (λ (kept : List ℕ). record { answer = refused (on_area (area_at r.stream store) r.made).answer.refusal; store = kept })
      (area_kept store r.stream sized known))

  length_stream : length (on_stream store r).store ≡ length store
  unfolding on_stream
  length_stream = length_area_written store r.stream sized known (on_area (area_at r.stream store) r.made).area length_outcome

  elsewhere_stream : (i : ℕ) → (i < start_of r.stream) ⊎ (start_of r.stream + area_length ≤ i)
      → get_or (on_stream store r).store i 0 ≡ get_or store i 0
  unfolding on_stream
  elsewhere_stream i h =
      written_elsewhere (start_of r.stream) (on_area (area_at r.stream store) r.made).area store
      (written_fits store r.stream sized known (on_area (area_at r.stream store) r.made).area length_outcome)
      i
      (rw length_outcome h)

  -- the area after a call on a stream is what the call makes of the area
  pub area_after_lem : area_at r.stream (on_store store r).store ≡ (on_area (area_at r.stream store) r.made).area
  unfolding on_stream
  area_after_lem =
      rw (on_stream_lem store r sized known)
      (area_written store r.stream sized known (on_area (area_at r.stream store) r.made).area length_outcome)

  pub answer_after : (on_store store r).answer ≡ (on_area (area_at r.stream store) r.made).answer
  unfolding on_stream
  answer_after = rw (on_stream_lem store r sized known)

pub wrong_length : (store : List ℕ) (r : Request) → (length store ≡ store_length → ⊥)
    → on_store store r ≡ record { answer = refused 1; store = store }
unfolding on_store
wrong_length store r e = rw (ne_eqb (length store) store_length e)

pub wrong_stream : (store : List ℕ) (r : Request) → length store ≡ store_length → streams ≤ r.stream
    → on_store store r ≡ record { answer = refused 2; store = store }
unfolding on_store
wrong_stream store r l e = rw (eq-eqb (length store) store_length l, le-leb streams r.stream e)

pub keeps_to_its_area : (store : List ℕ) (r : Request) → KeepsToItsArea store r
keeps_to_its_area store r =
    record {
      refusal =
          by_stream store r
          (λ (o : StoreOutcome). (o.answer.refusal ≡ 0 → ⊥) → o ≡ record { answer = refused o.answer.refusal; store = store })
          (λ l applies. refl)
          (λ l s applies. refl)
          (refused_stream store r);
      same_length =
          by_stream store r (λ (o : StoreOutcome). length o.store ≡ length store) (λ l. refl) (λ l s. refl) (length_stream store r);
      elsewhere =
          λ i h.
          by_stream store r (λ (o : StoreOutcome). get_or o.store i 0 ≡ get_or store i 0) (λ l. refl) (λ l s. refl)
          (λ l s. elsewhere_stream store r l s i h);
      reads_no_other = alike;
    }
  where
    alike : (other : List ℕ) → length other ≡ length store → area_at r.stream other ≡ area_at r.stream store
        → ((on_store other r).answer ≡ (on_store store r).answer)
        × (area_at r.stream (on_store other r).store ≡ area_at r.stream (on_store store r).store)
    alike other l a =
        by_stream store r
        (λ (o : StoreOutcome). ((on_store other r).answer ≡ o.answer) × (area_at r.stream (on_store other r).store ≡ area_at r.stream o.store))
        (λ n. rw (wrong_length other r (λ e. n (sym l ∙ e))) (refl, a))
        (λ n s. rw (wrong_stream other r (l ∙ n) s) (refl, a))
        (λ n s.
        rw (← on_stream_lem store r n s) (
          answer_after other r (l ∙ n) s ∙ ap (λ (b : List ℕ). (on_area b r.made).answer) a ∙ sym (answer_after store r n s),
          area_after_lem other r (l ∙ n) s ∙ ap (λ (b : List ℕ). (on_area b r.made).area) a ∙ sym (area_after_lem store r n s),
        ))

-- a call on another stream leaves an area
pub other_stream : (store : List ℕ) (r : Request) (other : ℕ) → (other ≡ r.stream → ⊥)
    → area_at other (on_store store r).store ≡ area_at other store
unfolding on_stream
other_stream store r other apart =
    by_stream store r (λ (o : StoreOutcome). area_at other o.store ≡ area_at other store) (λ l. refl) (λ l s. refl)
    (λ l s.
    other_area store r.stream l s (on_area (area_at r.stream store) r.made).area (length_outcome store r l s) other apart)
