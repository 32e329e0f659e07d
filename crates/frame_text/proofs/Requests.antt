-- A frame's numbers are small, and the lines that are frames make a list of calls as demand 3 has it. Assumes nothing.
use mathlib.Core.Path.{◌≡◌, refl, subst}
use mathlib.Core.Bool.{Bool, true, false, cond, ◌&&◌}
use mathlib.Core.List.{List, [], ◌∷◌, ◌++◌}
use Prim.Native.Nat.{ℕ, zero, suc, ◌+◌, ◌*◌, ◌^◌, ◌≤◌, ◌<◌}
use native.Mathlib.Omega.{arith}
use borrow.Author.Tests.{eqb-true}
use lib.Dec.{T, eqb, lit<, lit≤}
use lib.ListN.{length}
use Rattle.std.specs.Prelude.{Option, Some, None}
use Rattle.little.specs.Little.{part}
use Rattle.little.proofs.Laws.{length_part}
use Rattle.model.specs.Stations.{arguments, all_words}
use Rattle.model.specs.Store.{on_store, store_after}
use Rattle.model.specs.Claims.{are_words}
use Rattle.model.proofs.Booleans.{both_true, of_holds}
use Rattle.numbering.specs.declared.Frame.{Frame}
use Rattle.numbering.specs.Numbers.{frame_arguments, numbered, request_of}
use Rattle.numbering.proofs.Small.{Small, numbered_small, words_before}
use Rattle.frame_text.specs.Digits.{all_digits, hex_value}
use Rattle.frame_text.specs.Frames.{byte_digits, word_digits, frame_length, call_number, stream_in, argument, arguments_to, frame_of}
use Rattle.frame_text.specs.Program.{on_frame, on_line, requests_in, store_from}
use Rattle.frame_text.proofs.Laws.{value_below, digits_part}
use Rattle.frame_text.proofs.Fields.{Below, below_last, below_at}

-- a part of a line of digits is a number of so many digits
part_below : (at k : ℕ) (line : List ℕ) → T (all_digits line) → at + k ≤ length line → hex_value (part at k line) < 16 ^ k
part_below at k line digits fits = rw (length_part at k line fits) at (value_below (part at k line) (digits_part at k line digits))

arguments_below : (line : List ℕ) → T (all_digits line) → length line ≡ frame_length → (k : ℕ) → k ≤ frame_arguments
    → Below (16 ^ word_digits) (arguments_to line k)
unfolding arguments_to argument
arguments_below line digits long zero fits = tt
arguments_below line digits long (suc k) fits =
    below_last _ (arguments_to line k) (argument line k) (arguments_below line digits long k (omega arith))
    (part_below (byte_digits + byte_digits + word_digits * k) word_digits line digits (omega arith))

frame_small : (line : List ℕ) → Small 256 (frame_of line)
unfolding frame_of stream_in
frame_small line = go (eqb (length line) frame_length && all_digits line) refl
  where
    go : (t : Bool) → eqb (length line) frame_length && all_digits line ≡ t
        → Small 256 (cond t (numbered (call_number line) (stream_in line) (arguments_to line frame_arguments)) None)
    go true test =
        let parts = both_true (eqb (length line) frame_length) (all_digits line) test in
        let long : length line ≡ frame_length = eqb-true (length line) frame_length parts.0 in
        let digits : T (all_digits line) = of_holds (all_digits line) parts.1 in
        numbered_small 256 (call_number line) (stream_in line) (arguments_to line frame_arguments)
        (part_below byte_digits byte_digits line digits (omega arith))
        (below_at _ (lit< tt) (arguments_to line frame_arguments) (arguments_below line digits long frame_arguments (lit≤ tt)))
    go false test = tt

small_frame : (line : List ℕ) (f : Frame) → frame_of line ≡ Some f → Small 256 (Some f)
small_frame line f e = subst (Small 256) e (frame_small line)

pub stream_small : (line : List ℕ) (f : Frame) → frame_of line ≡ Some f → f.stream < 256
stream_small line f e = (small_frame line f e).0

pub arguments_small : (line : List ℕ) (f : Frame) → frame_of line ≡ Some f → T (all_words (arguments f.call))
arguments_small line f e = (small_frame line f e).1

pub ruleset frames_small = (stream_small, arguments_small)

-- ---- the calls of the lines

pub words : (ls : List (List ℕ)) → T (are_words (requests_in ls))
unfolding requests_in are_words
words [] = tt
words (line ∷ rest) = words_before 256 (frame_of line) (requests_in rest) (frame_small line) (words rest)

pub same_store_lem : (store : List ℕ) (ls : List (List ℕ)) → store_from store ls ≡ store_after store (requests_in ls)
unfolding requests_in store_from store_after on_line on_frame request_of
same_store_lem store [] = refl
same_store_lem store (line ∷ rest) = after (frame_of line) (λ (s : List ℕ). same_store_lem s rest)
  where
    after : (f : Option Frame) → ((s : List ℕ) → store_from s rest ≡ store_after s (requests_in rest))
        → store_from (on_frame store f).store rest ≡ store_after store (request_of f ++ requests_in rest)
    after (Some f) more = more (on_store store (record { stream = f.stream; made = f.call })).store
    after None more = more store

pub ruleset makes_calls = (words, same_store_lem)
