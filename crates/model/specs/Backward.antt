-- Credit, withheld marks, screening count, phase and tail, worked out backwards from the standing entries as paper 01 words it,
-- with no use of the forward rules. Entries are newest first. Assumes nothing.
use Rattle.std.specs.Prelude.{ℕ, ◌+◌, ◌*◌, ◌-◌, Bool, false, cond, ◌&&◌, ◌||◌, List, [], ◌∷◌, eqb, ltb, length, get_or}
use Rattle.model.specs.declared.Entry.{Entry}
use Rattle.model.specs.declared.Entry.TheVariants.{Lot, Run, Block, Stop}

-- "Credit lots": K is the sum of N over the standing lots after the last with d > 0, over all of them without one

unfoldable pub is_wrong_lot : Entry → Bool
is_wrong_lot (Lot label N n d D rec) = ltb 0 d
is_wrong_lot (Run h w rec) = false
is_wrong_lot (Block q w rec) = false
is_wrong_lot (Stop why days) = false

unfoldable pub since_wrong_lot : List Entry → List Entry
since_wrong_lot [] = []
since_wrong_lot (e ∷ es) = cond (is_wrong_lot e) [] (e ∷ since_wrong_lot es)

unfoldable pub size_of : Entry → ℕ
size_of (Lot label N n d D rec) = N
size_of (Run h w rec) = 0
size_of (Block q w rec) = 0
size_of (Stop why days) = 0

unfoldable pub sizes : List Entry → ℕ
sizes [] = 0
sizes (e ∷ es) = size_of e + sizes es

unfoldable pub credit_back : List Entry → ℕ
credit_back es = sizes (since_wrong_lot es)

-- "Level lots", counting lots alone: bit j, j from 0 to 4, is 1 exactly when more than j lots stand and the one j before the newest
-- has d > 0; the other bits are 0

-- of each standing lot, newest first, whether d > 0
unfoldable pub lots_wrong : List Entry → List Bool
lots_wrong [] = []
lots_wrong (Lot label N n d D rec ∷ es) = ltb 0 d ∷ lots_wrong es
lots_wrong (Run h w rec ∷ es) = lots_wrong es
lots_wrong (Block q w rec ∷ es) = lots_wrong es
lots_wrong (Stop why days ∷ es) = lots_wrong es

unfoldable pub withheld_mark : List Entry → ℕ → ℕ
withheld_mark es j = cond (ltb j (length (lots_wrong es)) && get_or (lots_wrong es) j false) 1 0

unfoldable pub window_back : List Entry → ℕ
window_back es = withheld_mark es 0 + 2 * withheld_mark es 1 + 4 * withheld_mark es 2 + 8 * withheld_mark es 3 + 16 * withheld_mark es 4

-- "Continuous": add up h of the runs after the last breaker, of all runs without one

unfoldable pub runs_of : Entry → ℕ
runs_of (Lot label N n d D rec) = 0
runs_of (Run h w rec) = h
runs_of (Block q w rec) = 0
runs_of (Stop why days) = 0

unfoldable pub runs : List Entry → ℕ
runs [] = 0
runs (e ∷ es) = runs_of e + runs es

-- a breaker is a run or block with w = 1, a why-2 stop, or a stop of more than 3 days met in sampling
unfoldable pub breaks : Bool → Entry → Bool
breaks met_in_sampling (Lot label N n d D rec) = false
breaks met_in_sampling (Run h w rec) = eqb w 1
breaks met_in_sampling (Block q w rec) = eqb w 1
breaks met_in_sampling (Stop why days) = eqb why 2 || met_in_sampling && ltb 3 days

-- the entries after the last breaker; whether a stop was met in sampling is read the same way from the entries before it: their
-- sum is the clearance number i
unfoldable pub since_breaker : ℕ → List Entry → List Entry
since_breaker i [] = []
since_breaker i (e ∷ es) = cond (breaks (eqb (runs (since_breaker i es)) i) e) [] (e ∷ since_breaker i es)

-- where the sum is i, the phase is 1 and c is 0; else the phase is 0 and c is the sum
unfoldable pub sampling_back : ℕ → List Entry → Bool
sampling_back i es = eqb (runs (since_breaker i es)) i

unfoldable pub phase_back : ℕ → List Entry → ℕ
phase_back i es = cond (sampling_back i es) 1 0

unfoldable pub count_back : ℕ → List Entry → ℕ
count_back i es = cond (sampling_back i es) 0 (runs (since_breaker i es))

-- g - p of the last block, 0 without one
unfoldable pub tail_of_last : ℕ → List Entry → ℕ
tail_of_last g [] = 0
tail_of_last g (Lot label N n d D rec ∷ es) = tail_of_last g es
tail_of_last g (Run h w rec ∷ es) = tail_of_last g es
tail_of_last g (Block q w rec ∷ es) = g - q
tail_of_last g (Stop why days ∷ es) = tail_of_last g es

-- in phase 1, u is g - p of the last block after the last breaker, or of the last of all blocks where there is no breaker, and 0 where
-- there is no such block; in phase 0 it is 0
unfoldable pub tail_back : ℕ → ℕ → List Entry → ℕ
tail_back i g es = cond (sampling_back i es) (tail_of_last g (since_breaker i es)) 0
