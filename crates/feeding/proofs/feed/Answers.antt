-- The loop's invariant: what is left of the piece, fed to what stands, comes to what the whole piece comes to. The measure is how many bytes
-- are left. A turn takes a whole frame off the front, or one byte.
use mathlib.Core.Path.{◌≡◌, refl, sym, ◌∙◌}
use mathlib.Core.Bool.{true}
use native.Mathlib.Omega.{arith}
use lib.Seq.{length-take-le}
use Rattle.feeding.specs.Fed.{lies_whole}
use Rattle.feeding.proofs.Laws.{InFront, whole_inside, in_front, frame_next, byte_next, all_fed}
use Rattle.feeding.proofs.feed.Goals as goal
use Rattle.feeding.proofs.feed.Goals.{Then-lies_whole, In-Some}

whole : (c : Then-lies_whole) → lies_whole c.loop-rest.line c.loop-rest.rest.now ≡ true
whole c = sym c.lies_whole.ensures ∙ c.if-lies_whole.true

front : (c : In-Some) → InFront c.loop-rest.line c.loop-rest.rest.now c.in-Some.frame
front c = in_front _ _ _ (sym c.lies_whole.ensures ∙ c.if-lies_whole.true) (sym c.in-Some.ensures)

pub slice_bounds-parse-end : goal.slice_bounds-parse-end
slice_bounds-parse-end c =
    let inside = whole_inside _ _ (whole (goal.at.slice_bounds-parse-end c).Then-lies_whole) in
    sym (length-take-le 60 c.loop-rest.rest.now (omega (arith, inside)))

pub overflow_add-wrote : goal.overflow_add-wrote
overflow_add-wrote c =
    let next = frame_next _ _ _ _ _ _ _ _ _ _ _ _ _ c.loop-rest.invariant (front (goal.at.overflow_add-wrote c).In-Some) c.make_call-wrote.ensures refl in
    omega (arith, next.room)

pub loop-rest-preserved-in-Some : goal.loop-rest-preserved-in-Some
loop-rest-preserved-in-Some c =
    frame_next _ _ _ _ _ _ _ _ _ _ _ _ _ c.loop-rest.invariant (front (goal.at.loop-rest-preserved-in-Some c).In-Some) c.make_call-wrote.ensures refl

pub overflow_add-wrote-in-len1-up : goal.overflow_add-wrote-in-len1-up
overflow_add-wrote-in-len1-up c =
    let next = byte_next _ _ _ _ _ _ _ _ _ _ _ _ c.loop-rest.invariant c.in-len1-up.len_at_least c.take_byte-wrote.ensures in
    omega (arith, next.room)

pub returns : goal.returns
returns c = search all_fed
