-- How many of a window's lots were withheld. Assumes nothing.
use Prim.Native.Nat.{ℕ, ◌<◌}
use mathlib.Core.Path.{◌≡◌}
use lib.Dec.{eqb, eqb→eq}
use lib.Count.{ones, ones_in}
use Rattle.plans.specs.Levels.{withheld_in}
use Rattle.plans.proofs.Below.{all_below, each_below}

-- they are the ones among its bits, by one computed test over the 32 windows
pub ones_in_window : (w : ℕ) → w < 32 → ones w ≡ withheld_in w
unfolding withheld_in ones ones_in all_below
ones_in_window w h = eqb→eq (ones w) (withheld_in w) (each_below (λ (w : ℕ). eqb (ones w) (withheld_in w)) 32 w tt h)
