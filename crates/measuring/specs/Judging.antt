-- The judgement of a sample: paper 02, card 2. Assumes nothing.
use Rattle.std.specs.Prelude.{ℕ, Bool, true, false, cond, not, ◌&&◌, ◌||◌, List, count_by, eqb, length, ℤ, pos, neg_ℤ, ◌-ℤ◌, ◌*ℤ◌, Option, Some, None}
use Rattle.std.specs.Int.Signed.{le_z, lt_z}
use Rattle.std.specs.List.{list_all}
use Rattle.plans.specs.Limits.{within}
use Rattle.measuring.specs.declared.Specification.{Specification}
use Rattle.measuring.specs.declared.Judgement.{Judgement}
use Rattle.measuring.specs.Samples.{Sample, sample_of}
use Rattle.measuring.specs.Criteria.{below_upper, above_lower, meets_k, meets_f}

-- 18: n, the measurements, the given limits, k and a given F are in range

abbrev pub least_sample : ℕ
least_sample = 2

abbrev pub largest_sample : ℕ
largest_sample = 100

-- on either side of 0
abbrev pub largest_level : ℕ
largest_level = 4000

-- a measurement or a limit
unfoldable pub is_level : ℤ → Bool
is_level x = le_z (neg_ℤ (pos largest_level)) x && le_z x (pos largest_level)

unfoldable pub are_levels : List ℤ → Bool
are_levels xs = list_all is_level xs

unfoldable pub limit_in_range : Option ℤ → Bool
limit_in_range (Some x) = is_level x
limit_in_range None = true

-- in hundredths
abbrev pub largest_k : ℕ
largest_k = 1000

-- in thousandths
abbrev pub largest_f : ℕ
largest_f = 1000

unfoldable pub f_in_range : Option ℕ → Bool
f_in_range (Some f) = within 1 largest_f f
f_in_range None = true

unfoldable pub in_range : List ℤ → Specification → Bool
in_range xs s =
    within least_sample largest_sample (length xs)
    && are_levels xs
    && limit_in_range s.lower
    && limit_in_range s.upper
    && within 1 largest_k s.k
    && f_in_range s.f

-- 19: a single-sided specification has one limit and no F; a double-sided one has both, L below U, and F (5.1.2.3.4)

unfoldable pub is_not_applicable : Option ℕ → Bool
is_not_applicable (Some f) = false
is_not_applicable None = true

unfoldable pub is_specification : Option ℤ → Option ℤ → Option ℕ → Bool
is_specification (Some l) (Some u) f = not (is_not_applicable f) && lt_z l u
is_specification (Some l) None f = is_not_applicable f
is_specification None (Some u) f = is_not_applicable f
is_specification None None f = false

-- how many measurements lie outside the limits; one that lies on a limit does not

unfoldable pub is_below : Option ℤ → ℤ → Bool
is_below (Some l) x = lt_z x l
is_below None x = false

unfoldable pub is_above : Option ℤ → ℤ → Bool
is_above (Some u) x = lt_z u x
is_above None x = false

unfoldable pub is_outside : Option ℤ → Option ℤ → ℤ → Bool
is_outside lower upper x = is_below lower x || is_above upper x

unfoldable pub outside : Option ℤ → Option ℤ → List ℤ → ℕ
outside lower upper xs = count_by (is_outside lower upper) xs

-- the distances n U - Σx and Σx - n L, 0 for an absent limit

unfoldable pub to_upper : Option ℤ → Sample → ℤ
to_upper (Some u) sample = pos sample.count *ℤ u -ℤ sample.sum
to_upper None sample = pos 0

unfoldable pub to_lower : Option ℤ → Sample → ℤ
to_lower (Some l) sample = sample.sum -ℤ pos sample.count *ℤ l
to_lower None sample = pos 0

-- k is met by every given limit

unfoldable pub k_met_at_upper : Option ℤ → ℕ → Sample → Bool
k_met_at_upper (Some u) k sample = meets_k k sample (below_upper u sample)
k_met_at_upper None k sample = true

unfoldable pub k_met_at_lower : Option ℤ → ℕ → Sample → Bool
k_met_at_lower (Some l) k sample = meets_k k sample (above_lower l sample)
k_met_at_lower None k sample = true

unfoldable pub k_met : Option ℤ → Option ℤ → ℕ → Sample → Bool
k_met lower upper k sample = k_met_at_lower lower k sample && k_met_at_upper upper k sample

-- F is met, also where it is absent. The last two clauses cannot come up: F comes only with both limits (19)
unfoldable pub f_met : Option ℤ → Option ℤ → Option ℕ → Sample → Bool
f_met lower upper None sample = true
f_met (Some l) (Some u) (Some f) sample = meets_f f l u sample
f_met (Some l) None (Some f) sample = false
f_met None upper (Some f) sample = false

-- a refusal gives zeros, and no for each
unfoldable pub refused : ℕ → Judgement
refused number =
    record { refusal = number; outside = 0; to_upper = pos 0; to_lower = pos 0; none_outside = false; k_met = false; f_met = false }

unfoldable pub judged : List ℤ → Specification → Judgement
judged xs s =
    record {
      refusal = 0;
      outside = outside s.lower s.upper xs;
      to_upper = to_upper s.upper (sample_of xs);
      to_lower = to_lower s.lower (sample_of xs);
      none_outside = eqb (outside s.lower s.upper xs) 0;
      k_met = k_met s.lower s.upper s.k (sample_of xs);
      f_met = f_met s.lower s.upper s.f (sample_of xs);
    }

-- 18 first, then 19
unfoldable pub judgement : List ℤ → Specification → Judgement
judgement xs s =
    cond (in_range xs s)
    (cond (is_specification s.lower s.upper s.f) (judged xs s) (refused 19))
    (refused 18)
