-- Stops: paper 01, "Calls", Stop (why, days); document 000, 5.1.2.4.3. Assumes nothing.
use Rattle.std.specs.Prelude.{ℕ, Bool, eqb, ltb}

-- why 2: the set-up changed
unfoldable pub set_up_changed : ℕ → Bool
set_up_changed why = eqb why 2

-- interrupted for more than three days
unfoldable pub long_stop : ℕ → Bool
long_stop days = ltb 3 days
