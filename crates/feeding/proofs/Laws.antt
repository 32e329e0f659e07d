-- Lines in a line buffer, frames in a piece, and the text that stands in a buffer. Assumes nothing.
use mathlib.Core.Path.{◌≡◌, refl, sym, ap, ◌∙◌}
use mathlib.Core.Bool.{Bool, true, false, cond}
use mathlib.Core.List.{List, [], ◌∷◌, ◌++◌, append-nil, append_assoc}
use native.Mathlib.Nat.{zero-add}
use Prim.Native.Nat.{ℕ, suc, ◌+◌, ◌-◌, ◌*◌, ◌≤◌, ◌<◌}
use native.Mathlib.Omega.{arith}
use borrow.Author.Tests.{le-leb, lt-leb, leb-true, eq-eqb, ne_eqb, eqb-true}
use lib.Dec.{eqb, leb}
use lib.ListN.{length, take, drop, get_or, set, length-append, length-drop, replicate-append-replicate, take-append-drop}
use lib.Seq.{take-add, take_at, drop_at, set_at, append_snoc, take-suc, take_all, length-take-le}
use Rattle.std.specs.Prelude.{Option, Some, None}
use Rattle.std.proofs.lemmas.List.{drop-drop, drop_all}
use Rattle.little.specs.Little.{part, written}
use Rattle.little.proofs.Laws.{written_nil, written_next}
use Rattle.model.specs.Area.{zeros}
use Rattle.model.proofs.Booleans.{both_true}
use Rattle.numbering.specs.declared.Frame.{Frame}
use Rattle.frame_text.specs.Frames.{frame_length, frame_of}
use Rattle.frame_text.specs.Answers.{line_feed, text_length}
use Rattle.frame_text.specs.Program.{LineOutcome, on_frame, on_line}
use Rattle.frame_text.specs.Feeding.{
  Unfinished,
  line_room,
  kept,
  after_byte,
  printed_at,
  after_bytes,
  printed_by,
  last_line,
  at_end,
}
use Rattle.frame_text.proofs.Laws.{length_answer, length_bad}
use Rattle.frame_text.proofs.Feeding.{frame_line, frame_digits, fed_in_pieces}
use Rattle.feeding.specs.Held.{LineHeld}
use Rattle.feeding.specs.Fed.{held, Answered, FedBy, lies_whole}

-- ---- the line buffer

module _ (buffer : List ℕ) (have : ℕ) (line : List ℕ) (h : LineHeld buffer have line) where
  pub held_line : take have buffer ≡ line
  held_line = rw h.whole (take_at line (zeros (line_room - have)) have (sym h.count))

  pub kept_byte : (b : ℕ) → have < line_room → LineHeld (set buffer have b) (have + 1) (kept line b)
  unfolding kept
  kept_byte b room =
      let more : line_room - have ≡ suc (line_room - (have + 1)) = omega arith in
      rw (← h.count, le-leb have frame_length (omega arith))
      (record {
        whole = rw (h.whole, more, set_at line 0 (zeros (line_room - (have + 1))) b have (sym h.count)) (sym (append_snoc line b _));
        count = rw (length-append, ← h.count);
        short = omega arith;
      })

  pub not_kept : (b : ℕ) → line_room ≤ have → kept line b ≡ line
  unfolding kept
  not_kept b full = rw (← h.count, lt-leb have frame_length (omega arith)) refl

  pub cleared : LineHeld (zeros have ++ drop have buffer) 0 []
  cleared =
      let all : have + (line_room - have) ≡ line_room = omega (arith, h.short) in
      record {
        whole = rw (h.whole, drop_at line (zeros (line_room - have)) have (sym h.count), replicate-append-replicate {A = ℕ} have (line_room - have) 0, all);
        count = refl;
        short = omega arith;
      }

-- ---- nothing printed

pub nothing_printed : (store out : List ℕ) → Answered (record { text = []; store = store }) out 0 store out
nothing_printed store out = record { made = refl; text = sym (written_nil 0 out); count = refl }

-- a text that is written from the front on lies inside its buffer
pub text_inside : (o : LineOutcome) (out : List ℕ) (wrote : ℕ) (store' out' : List ℕ) → Answered o out wrote store' out' → wrote ≤ length out'
unfolding written
text_inside o out wrote store' out' answered = rw answered.text (simp length-append (omega (arith, answered.count)))

-- ---- a byte of a line

pub fed_line : (store line out : List ℕ) (b wrote : ℕ) (store' line' out' : List ℕ)
    → b ≡ line_feed
    → Answered (on_line store line) out wrote store' out'
    → line' ≡ []
    → FedBy (held store line) (b ∷ []) out wrote store' line' out'
unfolding after_bytes printed_by after_byte printed_at
fed_line store line out b wrote store' line' out' same answered empty =
    rw (eq-eqb b line_feed same, append-nil) (record { answered = answered; line = empty })

pub going_on : (store line line' out : List ℕ) (b : ℕ)
    → ((b ≡ line_feed) → ⊥)
    → line' ≡ kept line b
    → FedBy (held store line) (b ∷ []) out 0 store line' out
unfolding after_bytes printed_by after_byte printed_at
going_on store line line' out b other keeping =
    rw (ne_eqb b line_feed other)
    (record { answered = nothing_printed store out; line = keeping })

-- a byte prints no more than a line
pub byte_prints : (u : Unfinished) (b : ℕ) → length (printed_by u (b ∷ [])) ≤ text_length
unfolding printed_by printed_at on_line on_frame
byte_prints u b = rw append-nil (go (eqb b line_feed) (frame_of u.line))
  where
    go : (t : Bool) (f : Option Frame) → length (cond t (on_frame u.store f).text []) ≤ text_length
    go true (Some f) = rw length_answer (omega arith)
    go true None = rw length_bad (omega arith)
    go false f = omega arith

call_prints : (store : List ℕ) (f : Frame) → length (on_frame store (Some f)).text ≡ text_length
unfolding on_frame
call_prints store f = length_answer _

-- ---- a line that lies whole in a piece

empty : (line : List ℕ) → length line ≡ 0 → line ≡ []
empty [] e = refl
empty (b ∷ line) e = absurd (let never : ⊥ = omega arith in never)

take_one : (bytes : List ℕ) → 0 < length bytes → take 1 bytes ≡ get_or bytes 0 0 ∷ []
take_one [] h = absurd (let never : ⊥ = omega arith in never)
take_one (b ∷ bytes) h = refl

-- 60 bytes with the one behind them
line_and_feed : (bytes : List ℕ) → line_room ≤ length bytes → take line_room bytes ≡ take frame_length bytes ++ (get_or bytes frame_length 0 ∷ [])
line_and_feed bytes inside = take-suc bytes frame_length 0 (omega arith)

-- what the tests of the code have found, where there is a frame
pub record InFront (line bytes : List ℕ) (f : Frame) : Type 0 where
  pub none : line ≡ []
  pub inside : line_room ≤ length bytes
  pub feed : get_or bytes frame_length 0 ≡ line_feed
  pub frame : frame_of (take frame_length bytes) ≡ Some f

pub whole_inside : (line bytes : List ℕ) → lies_whole line bytes ≡ true → line_room ≤ length bytes
unfolding lies_whole
whole_inside line bytes whole =
    leb-true line_room (length bytes) (both_true (leb line_room (length bytes)) _ (both_true (eqb (length line) 0) _ whole).1).0

pub in_front : (line bytes : List ℕ) (f : Frame) → lies_whole line bytes ≡ true → frame_of (take frame_length bytes) ≡ Some f → InFront line bytes f
unfolding lies_whole
in_front line bytes f whole frame =
    let first = both_true (eqb (length line) 0) _ whole in
    let second = both_true (leb line_room (length bytes)) _ first.1 in
    record {
      none = empty line (eqb-true (length line) 0 first.0);
      inside = leb-true line_room (length bytes) second.0;
      feed = eqb-true (get_or bytes frame_length 0) line_feed second.1;
      frame = frame;
    }

pub frame_fed : (store line bytes out : List ℕ) (f : Frame) (wrote : ℕ) (store' out' : List ℕ)
    → InFront line bytes f → Answered (on_frame store (Some f)) out wrote store' out'
    → FedBy (held store line) (take line_room bytes) out wrote store' line out'
unfolding on_line
frame_fed store line bytes out f wrote store' out' front answered =
    let digits = frame_digits (take frame_length bytes) f front.frame in
    let fed = frame_line store (take frame_length bytes) digits.0 digits.1 in
    rw (line_and_feed bytes front.inside, front.feed, front.none, fed.0, fed.1, front.frame) (record { answered = answered; line = refl })

-- ---- the bytes of a piece

-- a text written in front of a lent part is written behind what stands before it
write_behind : (at : ℕ) (t s : List ℕ) → take at s ++ written 0 t (drop at s) ≡ written at t s
unfolding written
write_behind at t s = rw (drop-drop (0 + length t) at s, zero-add (length t)) refl

-- so the two stand as one text, where the whole room holds both
text_behind : (text more first out out' : List ℕ) (wrote : ℕ) → out ≡ written 0 text first → wrote ≡ length text
    → out' ≡ written 0 more (drop wrote out) → wrote + length more ≤ length first → take wrote out ++ out' ≡ written 0 (text ++ more) first
text_behind text more first out out' wrote stands count put fits =
    rw (put, write_behind wrote more out, stands, count) (rw zero-add at (written_next 0 text more first (omega (arith, count, fits))))

-- more of a piece, fed to what stands after its first bytes
pub fed_next : (u : Unfinished) (piece first store line out : List ℕ) (i k wrote more : ℕ) (store' line' out' : List ℕ)
    → FedBy u (take i piece) first wrote store line out
    → FedBy (held store line) (part i k piece) (drop wrote out) more store' line' out'
    → wrote + more ≤ length first
    → FedBy u (take (i + k) piece) first (wrote + more) store' line' (take wrote out ++ out')
unfolding part
fed_next u piece first store line out i k wrote more store' line' out' fed taken fits =
    let after : Unfinished = after_bytes u (take i piece) in
    let printed : List ℕ = printed_by u (take i piece) in
    let second : List ℕ = take k (drop i piece) in
    let state : held store line ≡ after = rw (fed.answered.made, fed.line) refl in
    let next = rw state at taken in
    rw (take-add i k piece, fed_in_pieces.cut_state u (take i piece) second, fed_in_pieces.cut_text u (take i piece) second)
    (record {
      answered = record {
        made = next.answered.made;
        text =
            text_behind printed (printed_by after second) first out out' wrote fed.answered.text fed.answered.count next.answered.text
            (omega (arith, next.answered.count, fits));
        count = rw length-append (omega (arith, next.answered.count, fed.answered.count));
      };
      line = next.line;
    })

-- some of a piece was fed and printed a text: what is left, fed to what stands, comes to what the whole piece comes to
pub record Onward (u : Unfinished) (piece first : List ℕ) (wrote : ℕ) (store line rest out : List ℕ) : Type 0 where
  pub text : List ℕ
  pub state : after_bytes (held store line) rest ≡ after_bytes u piece
  pub prints : text ++ printed_by (held store line) rest ≡ printed_by u piece
  pub stands : out ≡ written 0 text first
  pub count : wrote ≡ length text
  pub room : wrote + text_length * length rest ≤ length first

pub nothing_fed : (store line piece first : List ℕ) → text_length * length piece ≤ length first
    → Onward (held store line) piece first 0 store line piece first
nothing_fed store line piece first fits =
    record { text = []; state = refl; prints = refl; stands = sym (written_nil 0 first); count = refl; room = omega (arith, fits) }

some_fed : (u : Unfinished) (piece first : List ℕ) (wrote : ℕ) (store line some rest out : List ℕ) (more : ℕ) (store' line' out' : List ℕ)
    → Onward u piece first wrote store line (some ++ rest) out
    → FedBy (held store line) some (drop wrote out) more store' line' out'
    → more ≤ text_length * length some
    → Onward u piece first (wrote + more) store' line' rest (take wrote out ++ out')
some_fed u piece first wrote store line some rest out more store' line' out' so fed few =
    let before : Unfinished = held store line in
    let printed : List ℕ = printed_by before some in
    let after : held store' line' ≡ after_bytes before some = rw (fed.answered.made, fed.line) refl in
    record {
      text = so.text ++ printed;
      state = rw (after, ← fed_in_pieces.cut_state before some rest) so.state;
      prints = rw (after, append_assoc so.text printed, ← fed_in_pieces.cut_text before some rest) so.prints;
      stands =
          text_behind so.text printed first out out' wrote so.stands so.count fed.answered.text
          (omega (arith, fed.answered.count, few, so.room, length-append some rest));
      count = rw length-append (omega (arith, so.count, fed.answered.count));
      room = omega (arith, so.room, few, length-append some rest);
    }

-- as the code parts what is left: some bytes are taken off its front, and the room behind the text is lent
module _ (u : Unfinished) (piece first : List ℕ) (wrote : ℕ) (store line rest out : List ℕ) (more : ℕ) (store' line' out' : List ℕ) where
  -- the state after the first k bytes of the rest were fed
  abbrev pub Next : ℕ → Type 0
  Next k =
      Onward u piece first (wrote + more) store' line' (take (length rest - k) (drop k rest))
      (take wrote out ++ (out' ++ drop (length out - wrote) (drop wrote out)))

  next_fed : (k : ℕ) → Onward u piece first wrote store line rest out → k ≤ length rest
      → FedBy (held store line) (take k rest) (take (length out - wrote) (drop wrote out)) more store' line' out'
      → more ≤ text_length * k → Next k
  next_fed k so inside fed few =
      let lent : take (length out - wrote) (drop wrote out) ≡ drop wrote out =
      take_all (length out - wrote) (drop wrote out) (simp length-drop (omega arith)) in
      let gone : drop (length out - wrote) (drop wrote out) ≡ [] = drop_all (length out - wrote) (drop wrote out) (simp length-drop (omega arith)) in
      let left : take (length rest - k) (drop k rest) ≡ drop k rest =
      take_all (length rest - k) (drop k rest) (simp length-drop (omega arith)) in
      rw (left, gone, append-nil)
      (some_fed u piece first wrote store line (take k rest) (drop k rest) out more store' line' out'
      (rw (take-append-drop k rest) so) (rw lent at fed) (rw (length-take-le k rest inside) few))

  pub frame_next : (f : Frame) → Onward u piece first wrote store line rest out
      → InFront line rest f
      → Answered (on_frame store (Some f)) (take (length out - wrote) (drop wrote out)) more store' out'
      → line' ≡ line
      → Next line_room
  frame_next f so front answered same =
      next_fed line_room so front.inside (rw same (frame_fed store line rest _ f more store' out' front answered))
      (omega (arith, answered.count, call_prints store f))

  pub byte_next : Onward u piece first wrote store line rest out → 1 ≤ length rest
      → FedBy (held store line) (get_or rest 0 0 ∷ []) (take (length out - wrote) (drop wrote out)) more store' line' out'
      → Next 1
  byte_next so inside fed =
      next_fed 1 so inside (rw (take_one rest (omega arith)) fed) (omega (arith, fed.answered.count, byte_prints (held store line) (get_or rest 0 0)))

pub all_fed : (u : Unfinished) (piece first : List ℕ) (wrote : ℕ) (store line rest out : List ℕ)
    → Onward u piece first wrote store line rest out → length rest < 1 → FedBy u piece first wrote store line out
unfolding after_bytes printed_by
all_fed u piece first wrote store line (b ∷ rest) out so few = absurd (let never : ⊥ = omega arith in never)
all_fed u piece first wrote store line [] out so few =
    let prints : so.text ≡ printed_by u piece = sym (append-nil so.text) ∙ so.prints in
    record {
      answered = record {
        made = ap (λ (v : Unfinished). v.store) so.state;
        text = rw (← prints) so.stands;
        count = rw (← prints) so.count;
      };
      line = ap (λ (v : Unfinished). v.line) so.state;
    }

-- ---- the end of the input

pub nothing_left : (store line out : List ℕ) → length line ≡ 0 → Answered (at_end (held store line)) out 0 store out
unfolding at_end last_line
nothing_left store line out none = rw (empty line none) (nothing_printed store out)

pub something_left : (store line out : List ℕ) (wrote : ℕ) (store' out' : List ℕ)
    → (length line ≡ 0 → ⊥)
    → Answered (on_line store line) out wrote store' out'
    → Answered (at_end (held store line)) out wrote store' out'
unfolding at_end last_line
something_left store [] out wrote store' out' some answered = absurd (some refl)
something_left store (b ∷ line) out wrote store' out' some answered = answered

-- what `feed` hands to the search
pub ruleset feeds = (whole_inside, nothing_fed, byte_next)
