-- The products as they stand: `f_compared`.
use Rattle.measuring.proofs.Products.{f_squares_fit, f_fits, f_compared}
use Rattle.measuring.proofs.criteria.meets_f.Goals as goal

pub overflow_mul-result-4 : goal.overflow_mul-result-4
overflow_mul-result-4 c = f_squares_fit c.sample.invariant c.args.lower c.args.upper c.requires.limits.0 c.requires.limits.1 c.args.f c.requires.f

pub overflow_mul-result-6 : goal.overflow_mul-result-6
overflow_mul-result-6 c = f_fits c.sample.invariant c.args.lower c.args.upper c.requires.limits.0 c.requires.limits.1 c.args.f c.requires.f

pub returns : goal.returns
returns c =
    rw (← c.sample.view_is) (f_compared c.sample.invariant c.args.lower c.args.upper c.requires.limits.0 c.requires.limits.1 c.args.f)
