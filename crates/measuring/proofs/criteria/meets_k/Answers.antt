-- The sign first, then the products with n cancelled: `beyond` and `k_compared`.
use Rattle.measuring.proofs.Products.{k_fits, beyond, k_compared}
use Rattle.measuring.proofs.criteria.meets_k.Goals as goal

pub returns-then-distance-lt0 : goal.returns-then-distance-lt0
returns-then-distance-lt0 c =
    rw (← c.distance.view_is) (beyond c.distance.inside.0 c.distance.invariant c.args.k c.args.sample c.if-distance-lt0.true)

pub overflow_mul-result-3 : goal.overflow_mul-result-3
overflow_mul-result-3 c = k_fits c.sample.invariant c.args.k c.requires

pub returns : goal.returns
returns c =
    rw (← c.distance.view_is, ← c.sample.view_is)
    (k_compared c.sample.invariant c.distance.inside.0 c.distance.invariant c.args.k c.if-distance-lt0.false)
