-- What the functions below the judgement ask, and what some of them give. Assumes nothing.
use Rattle.std.specs.Prelude.{ℕ, ◌*◌, ◌≤◌, ◌≡◌, Bool, true, Option, Some, None, List, T, length, ℤ, nat_abs}
use Rattle.std.specs.Int.Signed.{non_neg}
use Rattle.measuring.specs.declared.Specification.{Specification}
use Rattle.measuring.specs.declared.ranges.Refusal.{Refusal}
use Rattle.measuring.specs.declared.ranges.Refusal.TheVariants.{OutOfRange, NoSpecification}
use Rattle.measuring.specs.Fractions.{ratio}
use Rattle.measuring.specs.Samples.{Sample}
use Rattle.measuring.specs.Criteria.{meets_k}
use Rattle.measuring.specs.Judging.{least_sample, largest_sample, largest_level, largest_k, are_levels, limit_in_range, f_in_range, is_specification}

-- the papers' number of a refusal
abbrev pub refusal_number : Refusal → ℕ
refusal_number OutOfRange = 18
refusal_number NoSpecification = 19

-- measurements that refusal 18 leaves
pub record Ranged (xs : List ℤ) : Type 0 where
  pub enough : least_sample ≤ length xs
  pub few : length xs ≤ largest_sample
  pub levels : are_levels xs ≡ true

-- a specification that 18 and 19 leave
pub record Allowed (s : Specification) : Type 0 where
  pub lowers : limit_in_range s.lower ≡ true
  pub uppers : limit_in_range s.upper ≡ true
  pub ks : s.k ≤ largest_k
  pub fs : f_in_range s.f ≡ true
  pub specified : is_specification s.lower s.upper s.f ≡ true

-- how large the numbers of such a sample are: what keeps the products of the criteria in 64 bits
pub record Measured (sample : Sample) : Type 0 where
  pub enough : least_sample ≤ sample.count
  pub few : sample.count ≤ largest_sample
  pub near : nat_abs sample.sum ≤ sample.count * largest_level
  pub not_negative : T (non_neg sample.spread)
  pub narrow : nat_abs sample.spread ≤ sample.count * sample.count * (largest_level * largest_level)

-- how large a distance n U - Σx or Σx - n L can be
abbrev pub largest_distance : ℕ
largest_distance = largest_sample * (2 * largest_level)

-- k is met by a limit that the mean lies inside by distance / n, and by an absent one
unfoldable pub k_met_at : Option ℤ → ℕ → Sample → ℤ → Bool
k_met_at (Some x) k sample distance = meets_k k sample (ratio distance sample.count)
k_met_at None k sample distance = true
