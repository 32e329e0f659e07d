-- The calls on the store: paper 01, "The store" and "Calls", refusals 1 and 2. One total function. And the part of the store that a call
-- hands back: paper 02, card 1. Assumes nothing.
use Rattle.std.specs.Prelude.{ℕ, ◌+◌, ◌*◌, ◌-◌, cond, not, List, [], ◌∷◌, eqb, leb, length}
use Rattle.little.specs.Little.{part, written}
use Rattle.model.specs.declared.Call.{Call}
use Rattle.model.specs.declared.Call.TheVariants.{Newest}
use Rattle.model.specs.declared.Answer.{Answer}
use Rattle.model.specs.declared.Part.{Part}
use Rattle.model.specs.Sizes.{record_length, header_length, area_length, streams, store_length, start_of}
use Rattle.model.specs.Calls.{refused}
use Rattle.model.specs.Area.{zeros, count_in, on_area}

-- a call on a stream
pub record Request : Type 0 where
  pub stream : ℕ
  pub made : Call

pub record StoreOutcome : Type 0 where
  pub answer : Answer
  pub store : List ℕ

-- a fresh store is all zero
unfoldable pub fresh : List ℕ
fresh = zeros store_length

-- a stream's area
unfoldable pub area_at : ℕ → List ℕ → List ℕ
area_at stream store = part (start_of stream) area_length store

unfoldable pub on_stream : List ℕ → Request → StoreOutcome
on_stream store r =
    record {
      answer = (on_area (area_at r.stream store) r.made).answer;
      store = written (start_of r.stream) (on_area (area_at r.stream store) r.made).area store;
    }

unfoldable pub on_store : List ℕ → Request → StoreOutcome
on_store store r =
    cond (not (eqb (length store) store_length)) (record { answer = refused 1; store = store })
    (cond (leb streams r.stream) (record { answer = refused 2; store = store }) (on_stream store r))

-- a list of calls: each is given the store that the one before left
unfoldable pub store_after : List ℕ → List Request → List ℕ
store_after store [] = store
store_after store (r ∷ rs) = store_after (on_store store r).store rs

unfoldable pub answers_to : List ℕ → List Request → List Answer
answers_to store [] = []
answers_to store (r ∷ rs) = (on_store store r).answer ∷ answers_to (on_store store r).store rs

-- so many of a stream's standing records, the last of which ends the part
abbrev pub ending_at_last : ℕ → ℕ → ℕ → Part
ending_at_last stream standing handed =
    record {
      offset = start_of stream + (header_length + record_length * (standing - handed));
      length = record_length * handed;
    }

abbrev pub no_part : Part
no_part = record { offset = 0; length = 0 }

-- paper 02, card 1: "hand back, of the area itself, only the newest standing records". As many as the call answers, and nothing where it is
-- refused
unfoldable pub newest_part : List ℕ → ℕ → ℕ → Part
newest_part store stream n =
    let given : Answer = (on_store store (record { stream = stream; made = Newest n })).answer in
    cond (eqb given.refusal 0) (ending_at_last stream (count_in (area_at stream store)) given.first) no_part

-- its bytes
unfoldable pub newest_records : List ℕ → ℕ → ℕ → List ℕ
newest_records store stream n = part (newest_part store stream n).offset (newest_part store stream n).length store
