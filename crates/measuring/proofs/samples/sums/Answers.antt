-- The loop holds both sums so far: `SumAt`.
use Rattle.measuring.specs.Samples.{total, squares}
use Rattle.measuring.proofs.Sums.{sum_done}
use Rattle.measuring.proofs.Elements.{level_fits, level_next, square_fits, square_next}
use Rattle.measuring.proofs.samples.sums.Goals as goal

pub overflow_add-sum : goal.overflow_add-sum
overflow_add-sum c = level_fits c.requires c.loop-x-test.true c.loop-x.invariant.sum

pub overflow_add-squares : goal.overflow_add-squares
overflow_add-squares c = rw c.from-x.ensures (square_fits c.requires c.loop-x-test.true c.loop-x.invariant.squares)

pub loop-x-preserved : goal.loop-x-preserved
loop-x-preserved c = record {
  sum = level_next c.requires c.loop-x-test.true c.loop-x.invariant.sum;
  squares = rw c.from-x.ensures (square_next c.requires c.loop-x-test.true c.loop-x.invariant.squares);
}

pub returns-clause-sum : goal.returns-clause-sum
unfolding total
returns-clause-sum c = sum_done c.loop-x.invariant.sum c.loop-x-test.false

pub returns-clause-squares : goal.returns-clause-squares
unfolding squares
returns-clause-squares c = sum_done c.loop-x.invariant.squares c.loop-x-test.false
