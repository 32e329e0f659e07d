-- The cases are computed. Assumes nothing.
use Rattle.plans.specs.Limits.{within}
use Rattle.measuring.specs.Fractions.{ratio, whole, minus, times, squared, at_most}
use Rattle.measuring.specs.Samples.{sum_of, total, squares, correction_factor, corrected_squares, spread, sample_of, mean, variance}
use Rattle.measuring.specs.Criteria.{below_upper, above_lower, meets_k, meets_f}
use Rattle.measuring.specs.Judging.{
  is_level,
  are_levels,
  limit_in_range,
  f_in_range,
  in_range,
  is_not_applicable,
  is_specification,
  is_below,
  is_above,
  is_outside,
  outside,
  to_upper,
  to_lower,
  k_met_at_upper,
  k_met_at_lower,
  k_met,
  f_met,
  refused,
  judged,
  judgement,
}
use Rattle.measuring.specs.Cases.{TablesHold, EdgesHold}

cases : TablesHold × EdgesHold
unfolding
    within ratio whole minus times squared at_most
    sum_of total squares correction_factor corrected_squares spread sample_of mean variance
    below_upper above_lower meets_k meets_f
    is_level are_levels limit_in_range f_in_range in_range is_not_applicable is_specification
    is_below is_above is_outside outside to_upper to_lower k_met_at_upper k_met_at_lower k_met f_met refused judged judgement
cases = (search, search)

pub tables_hold_lem : TablesHold
tables_hold_lem = cases.0

pub edges_hold_lem : EdgesHold
edges_hold_lem = cases.1
