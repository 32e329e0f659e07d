-- What a range is, and the ranges that paper 01, "Calls", and paper 02, card 3, set to plans and entries, each under the refusal that keeps
-- to it. Four exported functions of this crate ask for more, each for what a refusal leaves: a run fits the clearance number (14), the
-- detection heard lies in its block (15), no more are wrong than the lot has (13), and a level's two counts are below 255, since at most
-- 128 records stand (9). Assumes nothing.
use Rattle.std.specs.Prelude.{ℕ, ◌*◌, Bool, cond, ◌&&◌, leb}

-- a number from low to high
unfoldable pub within : ℕ → ℕ → ℕ → Bool
within low high n = leb low n && leb n high

-- 5: the AOQL A of a credit plan, in millionths
abbrev pub largest_aoql : ℕ
largest_aoql = 500000

-- 5: the level A of a level plan, VL-1 to VL-7
abbrev pub verification_levels : ℕ
verification_levels = 7

-- 5: the clearance number A of a continuous plan
abbrev pub largest_clearance : ℕ
largest_clearance = 10000

-- 5: its interval B, of which one detection is heard
abbrev pub largest_interval : ℕ
largest_interval = 200

-- 11: a lot's size N, on a level stream and on another
abbrev pub least_lot : Bool → ℕ
least_lot level = cond level 2 1

abbrev pub largest_lot : ℕ
largest_lot = 1000000

-- 9: no more credit is had than 128 standing lots give
abbrev pub largest_credit : ℕ
largest_credit = 128 * largest_lot

-- 5: the largest upper limit Kmax on the usable credit of a credit plan (paper 02, card 3)
abbrev pub largest_ceiling : ℕ
largest_ceiling = 128000000

-- 15: the right detections h of a run
abbrev pub longest_run : ℕ
longest_run = 10000

-- 15: the days of a stop
abbrev pub longest_stop : ℕ
longest_stop = 255
