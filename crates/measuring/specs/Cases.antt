-- Document 000, Tables D.2 and D.3, and cases that were worked out by hand. Assumes nothing.
use Rattle.std.specs.Prelude.{◌≡◌, Bool, true, false, List, [], ◌∷◌, ℕ, ℤ, pos, neg_ℤ, Option, Some, None}
use Rattle.measuring.specs.declared.Specification.{Specification}
use Rattle.measuring.specs.declared.Judgement.{Judgement}
use Rattle.measuring.specs.Fractions.{ratio}
use Rattle.measuring.specs.Samples.{total, squares, correction_factor, corrected_squares, spread, sample_of, mean, variance}
use Rattle.measuring.specs.Judging.{refused, judgement}

-- what it is judged by: L, U, k and F
abbrev pub by : Option ℤ → Option ℤ → ℕ → Option ℕ → Specification
by lower upper k f = record { lower = lower; upper = upper; k = k; f = f }

-- what a judgement gives that is not refused
abbrev pub gives : ℕ → ℤ → ℤ → Bool → Bool → Bool → Judgement
gives outside upper lower none k f =
    record { refusal = 0; outside = outside; to_upper = upper; to_lower = lower; none_outside = none; k_met = k; f_met = f }

-- the measurements of both tables
abbrev pub temperatures : List ℤ
temperatures = pos 92 ∷ pos 87 ∷ pos 84 ∷ pos 96 ∷ []

pub record TablesHold : Type 0 where
  -- 359
  pub line2 : total temperatures ≡ pos 359
  -- 89.75
  pub line3 : mean (sample_of temperatures) ≡ ratio (pos 359) 4
  -- 32,305
  pub line4 : squares temperatures ≡ pos 32305
  -- 32,220.25
  pub line5 : correction_factor temperatures ≡ ratio (pos 128881) 4
  -- 84.75, and four times that
  pub line6 : corrected_squares temperatures ≡ ratio (pos 339) 4
  pub fourfold : spread temperatures ≡ pos 339
  -- 28.25
  pub line7 : variance (sample_of temperatures) ≡ ratio (pos 339) 12
  -- both limits, 82 and 98, k 1.18 and F 0.370: all criteria are met
  pub table_d3 : judgement temperatures (by (Some (pos 82)) (Some (pos 98)) 118 (Some 370))
      ≡ gives 0 (pos 33) (pos 31) true true true
  -- the upper limit alone
  pub table_d2 : judgement temperatures (by None (Some (pos 98)) 118 None) ≡ gives 0 (pos 33) (pos 0) true true true

-- -100, 0 and 100: the mean is 0, and s is 100
abbrev pub around : List ℤ
around = neg_ℤ (pos 100) ∷ pos 0 ∷ pos 100 ∷ []

-- s is 0
abbrev pub fifties : List ℤ
fifties = pos 50 ∷ pos 50 ∷ []

pub record EdgesHold : Type 0 where
  -- k 1.18 is met at equality, 118 / 100, and 1.19 is not
  pub at_k : judgement around (by None (Some (pos 118)) 118 None) ≡ gives 0 (pos 354) (pos 0) true true true
  pub above_k : judgement around (by None (Some (pos 118)) 119 None) ≡ gives 0 (pos 354) (pos 0) true false true
  -- F 0.100 is met at equality, 100 / 1,000, and 0.099 is not
  pub at_f : judgement around (by (Some (neg_ℤ (pos 500))) (Some (pos 500)) 1 (Some 100)) ≡ gives 0 (pos 1500) (pos 1500) true true true
  pub below_f : judgement around (by (Some (neg_ℤ (pos 500))) (Some (pos 500)) 1 (Some 99))
      ≡ gives 0 (pos 1500) (pos 1500) true true false
  -- with s = 0, k is met on the limit, and not beyond it
  pub on_limit : judgement fifties (by (Some (pos 50)) None 1000 None) ≡ gives 0 (pos 0) (pos 0) true true true
  pub on_upper : judgement fifties (by None (Some (pos 50)) 1000 None) ≡ gives 0 (pos 0) (pos 0) true true true
  pub beyond : judgement fifties (by (Some (pos 51)) None 1 None) ≡ gives 2 (pos 0) (neg_ℤ (pos 2)) false false true
  -- the mean lies far beyond the limit, and the square of the distance is large: k is not met
  pub far_beyond : judgement around (by (Some (pos 4000)) None 1 None) ≡ gives 3 (pos 0) (neg_ℤ (pos 12000)) false false true
  -- of two limits the upper alone meets k 1.19, with 119 / 100; the lower has 118 / 100
  pub one_of_two : judgement around (by (Some (neg_ℤ (pos 118))) (Some (pos 119)) 119 (Some 500))
      ≡ gives 0 (pos 357) (pos 354) true false true
  -- 18: one measurement; a measurement and a limit out of range; a given F of 0
  pub one_alone : judgement (pos 50 ∷ []) (by (Some (pos 0)) None 1 None) ≡ refused 18
  pub too_large : judgement (pos 4001 ∷ fifties) (by (Some (pos 0)) None 1 None) ≡ refused 18
  pub limit_too_low : judgement fifties (by (Some (neg_ℤ (pos 4001))) None 1 None) ≡ refused 18
  pub f_of_zero : judgement fifties (by (Some (pos 0)) (Some (pos 90)) 1 (Some 0)) ≡ refused 18
  -- 18 before 19: F out of range with one limit, and k with none
  pub f_first : judgement around (by (Some (pos 0)) None 1 (Some 1001)) ≡ refused 18
  pub k_first : judgement around (by None None 0 None) ≡ refused 18
  -- 19: no limit, L not below U, F with one limit, no F with two
  pub no_limit : judgement around (by None None 1 None) ≡ refused 19
  pub same_limit : judgement around (by (Some (pos 5)) (Some (pos 5)) 1 (Some 1)) ≡ refused 19
  pub f_with_one : judgement around (by (Some (pos 5)) None 1 (Some 1)) ≡ refused 19
  pub no_f : judgement around (by (Some (pos 5)) (Some (pos 6)) 1 None) ≡ refused 19
