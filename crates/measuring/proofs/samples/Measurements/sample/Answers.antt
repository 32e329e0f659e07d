-- The three numbers are worked out from the two sums: `worked_out_is`.
use Rattle.measuring.proofs.Spread.{product_fits, difference_fits, worked_out_is, measured_is}
use Rattle.measuring.proofs.samples.Measurements.sample.Goals as goal

pub overflow_mul-spread : goal.overflow_mul-spread
overflow_mul-spread c = product_fits _ c.self.invariant c.sums-sum.ensures.squares

pub overflow_sub-spread : goal.overflow_sub-spread
overflow_sub-spread c = difference_fits _ c.self.invariant c.sums-sum.ensures.sum c.from-total.ensures c.sums-sum.ensures.squares

pub returns : goal.returns
returns c = rw (← c.self.view_is) (worked_out_is _ c.self.invariant c.sums-sum.ensures.sum c.from-total.ensures c.sums-sum.ensures.squares)

pub invariant_of-result : goal.invariant_of-result
invariant_of-result c =
    measured_is c.self.invariant (worked_out_is _ c.self.invariant c.sums-sum.ensures.sum c.from-total.ensures c.sums-sum.ensures.squares)
