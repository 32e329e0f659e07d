-- What refusals 18 and 19 leave, and the judgement from what each function gave. Assumes nothing.
use Rattle.std.proofs.Common.{◌≡◌, refl, sym, ap, Bool, true, not, ◌&&◌, Option, Some, None, List, ℕ, ℤ, ◌≤◌, length, nat_abs, w32, arith}
use Rattle.std.specs.Int.Signed.{lt_z}
use Rattle.plans.specs.Limits.{within}
use Rattle.plans.proofs.Booleans.{both_true, within_of}
use Rattle.measuring.specs.declared.Specification.{Specification}
use Rattle.measuring.specs.Samples.{Sample}
use Rattle.measuring.specs.Criteria.{meets_k}
use Rattle.measuring.specs.Judging.{least_sample, largest_sample, largest_level, largest_k, largest_f, are_levels, limit_in_range, f_in_range, in_range, is_not_applicable, is_specification, to_upper, to_lower, k_met_at_upper, k_met_at_lower}
use Rattle.measuring.specs.Working.{Ranged, Allowed, k_met_at}
use Rattle.measuring.proofs.Sizes.{again, read}
use Rattle.measuring.proofs.Levels.{given_size}
use Rattle.measuring.proofs.Inside.{below_upper_lem, above_lower_lem}

-- what 18 leaves, part by part
pub record InRange (xs : List ℤ) (s : Specification) : Type 0 where
  pub ranged : Ranged xs
  pub lowers : limit_in_range s.lower ≡ true
  pub uppers : limit_in_range s.upper ≡ true
  pub ks : s.k ≤ largest_k
  pub fs : f_in_range s.f ≡ true

pub left : (xs : List ℤ) (s : Specification) → in_range xs s ≡ true → InRange xs s
unfolding in_range
left xs s in-range =
    let some : Bool = within least_sample largest_sample (length xs) in
    let fs = both_true (some && are_levels xs && limit_in_range s.lower && limit_in_range s.upper && within 1 largest_k s.k) (f_in_range s.f) in-range in
    let ks = both_true (some && are_levels xs && limit_in_range s.lower && limit_in_range s.upper) (within 1 largest_k s.k) fs.0 in
    let us = both_true (some && are_levels xs && limit_in_range s.lower) (limit_in_range s.upper) ks.0 in
    let ls = both_true (some && are_levels xs) (limit_in_range s.lower) us.0 in
    let xs' = both_true some (are_levels xs) ls.0 in
    let counts = within_of least_sample largest_sample (length xs) xs'.0 in
    record {
      ranged = record { enough = counts.0; few = counts.1; levels = xs'.1 };
      lowers = ls.1;
      uppers = us.1;
      ks = (within_of 1 largest_k s.k ks.1).1;
      fs = fs.1;
    }

pub ranged : (xs : List ℤ) (s : Specification) → in_range xs s ≡ true → Ranged xs
ranged xs s in-range = (left xs s in-range).ranged

-- and 19
pub allowed : (xs : List ℤ) (s : Specification) → in_range xs s ≡ true → is_specification s.lower s.upper s.f ≡ true → Allowed s
allowed xs s in-range specified =
    let l = left xs s in-range in
    record { lowers = l.lowers; uppers = l.uppers; ks = l.ks; fs = l.fs; specified = specified }

-- and of it, where F and both limits are given, what the F criterion asks

pub given_f : {f : Option ℕ} {x : ℕ} → f_in_range f ≡ true → f ≡ Some x → x ≤ largest_f
unfolding f_in_range
given_f {f} {x} in-range given = (within_of 1 largest_f x (rw given at in-range)).1

limits_rise : (s : Specification) {l u : ℤ} → Allowed s → s.lower ≡ Some l → s.upper ≡ Some u → lt_z l u ≡ true
unfolding is_specification
limits_rise s {l} {u} left given-l given-u =
    (both_true (not (is_not_applicable s.f)) (lt_z l u) (rw (given-l, given-u) at left.specified)).1

pub given_limits : (s : Specification) {l u : ℤ} → Allowed s → s.lower ≡ Some l → s.upper ≡ Some u
    → (nat_abs (again w32 l) ≤ largest_level) × (nat_abs (again w32 u) ≤ largest_level) × (lt_z (again w32 l) (again w32 u) ≡ true)
given_limits s {l} {u} left given-l given-u =
    let l-small : nat_abs l ≤ largest_level = given_size given-l left.lowers in
    let u-small : nat_abs u ≤ largest_level = given_size given-u left.uppers in
    rw (read w32 {z = l} (omega (arith, l-small)), read w32 {z = u} (omega (arith, u-small)))
    (l-small, u-small, limits_rise s left given-l given-u)

-- k is met at the distances that the answer gives

pub k_above : (lower : Option ℤ) (k : ℕ) (s : Sample) → k_met_at lower k s (to_lower lower s) ≡ k_met_at_lower lower k s
unfolding k_met_at k_met_at_lower
k_above (Some l) k s = ap (meets_k k s) (sym (above_lower_lem l s))
k_above None k s = refl

pub k_below : (upper : Option ℤ) (k : ℕ) (s : Sample) → k_met_at upper k s (to_upper upper s) ≡ k_met_at_upper upper k s
unfolding k_met_at k_met_at_upper
k_below (Some u) k s = ap (meets_k k s) (sym (below_upper_lem u s))
k_below None k s = refl
