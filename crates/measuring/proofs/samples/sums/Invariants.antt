use Rattle.std.proofs.Common.{◌*◌, ◌*ℤ◌}
use Rattle.measuring.specs.Judging.{largest_level}
use Rattle.measuring.proofs.Sums.{SumAt}
use Rattle.measuring.proofs.samples.sums.Given as goal

abbrev pub invariant-loop-x : goal.invariant-loop-x
invariant-loop-x l = record {
  sum : SumAt (λ x. x) largest_level l.values l.sum l.x-index;
  squares : SumAt (λ x. x *ℤ x) (largest_level * largest_level) l.values l.squares l.x-index;
}
