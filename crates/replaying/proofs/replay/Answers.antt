-- The loop keeps `Ready` of the records that are left, at the figures that the numbers stand for: each turn is a law of `Turns`.
use Rattle.replaying.proofs.Reached.{turns}
use Rattle.replaying.proofs.replay.Goals as goal

pub of-numbers-requires : goal.of-numbers-requires
of-numbers-requires g c = search turns

pub bring-requires : goal.bring-requires
bring-requires g c = search turns

pub returns-then-not-bring : goal.returns-then-not-bring
returns-then-not-bring g c = search turns

pub loop-i-preserved : goal.loop-i-preserved
loop-i-preserved g c = search turns

pub returns : goal.returns
returns g c = search turns
