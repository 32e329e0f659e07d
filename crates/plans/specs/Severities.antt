-- The levels of a stream of level lots, as the store numbers them: paper 01, "The store", byte 20. Document 000, 5.1.1.5,
-- calls the first three severities of inspection; discontinuation is 5.1.1.6.6. Assumes nothing.
use Rattle.std.specs.Prelude.{ℕ}

abbrev pub reduced : ℕ
reduced = 0

abbrev pub normal : ℕ
normal = 1

abbrev pub tightened : ℕ
tightened = 2

abbrev pub discontinued : ℕ
discontinued = 3
