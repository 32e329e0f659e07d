-- The table of proved cases holds: one theorem over the whole table. Assumes nothing.
use mathlib.Core.Path.{refl}
use Rattle.cases.specs.Cases.{
  credit_cases,
  ceiling_cases,
  level_cases,
  cleared,
  right_block,
  wrong_block,
  continuous_cases,
  given_in,
  stated_in,
  ProvedCases,
}
use Rattle.plans.specs.Credit.{rounded_up, usable_credit, sample_dividend, sample_divisor, credit_sample}
use Rattle.plans.specs.Tables.{table1, letters_in, code_letter, table2, column_at, tabled, level_sample}
use Rattle.plans.specs.Continuous.{screening, sampling, after_run, after_block}

pub proved_cases : ProvedCases
unfolding credit_cases ceiling_cases level_cases cleared right_block wrong_block continuous_cases given_in stated_in
    rounded_up usable_credit sample_dividend sample_divisor credit_sample table1 letters_in code_letter table2 column_at tabled level_sample
    screening sampling after_run after_block
proved_cases = (refl, refl, refl, refl)
