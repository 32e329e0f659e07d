-- n U and Σx lie no further apart than a distance can be, and n U - Σx is `to_upper` where the limit is given: `upper_done`.
use Rattle.measuring.proofs.Inside.{product_size, product_fits, upper_done, apart_fits, apart_near}
use Rattle.measuring.proofs.criteria.to_upper.Goals as goal

pub overflow_mul-result : goal.overflow_mul-result
overflow_mul-result c = product_fits c.sample.invariant c.in-Some.is c.requires

pub overflow_sub-result : goal.overflow_sub-result
overflow_sub-result c =
    search (apart_fits c.sample.invariant, product_size c.sample.invariant c.in-Some.is c.requires, c.sample.invariant.near)

pub invariant_of-result-2 : goal.invariant_of-result-2
invariant_of-result-2 c =
    search (apart_near c.sample.invariant, product_size c.sample.invariant c.in-Some.is c.requires, c.sample.invariant.near)

pub returns : goal.returns
returns c = rw (← c.sample.view_is) (upper_done c.sample.invariant c.in-Some.is c.requires).0
