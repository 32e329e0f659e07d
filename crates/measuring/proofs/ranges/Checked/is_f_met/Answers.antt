-- Where F and both limits are given, 18 and 19 leave what the criterion asks.
use Rattle.measuring.proofs.Judged.{given_f, given_limits}
use Rattle.measuring.proofs.ranges.Checked.is_f_met.Goals as goal

pub meets_f-requires-clause-f : goal.meets_f-requires-clause-f
meets_f-requires-clause-f c = given_f c.self.invariant.fs c.in-Some-Some-Some.is-2

pub meets_f-requires-clause-limits : goal.meets_f-requires-clause-limits
meets_f-requires-clause-limits c =
    given_limits c.self.inside.given c.self.invariant c.in-Some-Some-Some.is-0 c.in-Some-Some-Some.is-1
