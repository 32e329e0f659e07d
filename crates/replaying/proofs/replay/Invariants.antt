use Rattle.replaying.specs.Replaying.{Ready}
use Rattle.replaying.proofs.replay.Given as goal

abbrev pub invariant-loop-i : goal.invariant-loop-i
invariant-loop-i g l =
    let told = g.N.Numbers in
    record {
      ready : Ready l.plan l.area (told.shown l.plan l.numbers) l.i l.to;
      in_range : told.ranged l.plan l.numbers;
    }
