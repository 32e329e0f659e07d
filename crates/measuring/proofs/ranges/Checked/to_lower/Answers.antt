-- n L - Σx with the other sign: `turned_done`.
use Rattle.std.proofs.Common.{◌∙◌}
use native.Mathlib.Omega.{arith}
use Rattle.measuring.specs.Working.{largest_distance}
use Rattle.measuring.proofs.Inside.{turned_done}
use Rattle.measuring.proofs.ranges.Checked.to_lower.Goals as goal

pub returns : goal.returns
returns c =
    let turned = turned_done largest_distance (omega arith) c.turned.inside.0 c.turned.invariant c.self.inside.given.lower c.args.sample in
    rw (← c.self.view_is) (turned (c.turned.view_is ∙ c.to_upper-turned.ensures)).0
