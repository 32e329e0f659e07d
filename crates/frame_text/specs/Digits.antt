-- Hexadecimal digits as bytes of text, lower case only, big end first: paper 01, "Hexadecimal frames". Assumes nothing.
use Rattle.std.specs.Prelude.{ℕ, zero, suc, ◌+◌, ◌-◌, ◌*◌, ◌/◌, ◌%◌, Bool, true, cond, ◌&&◌, ◌||◌, List, [], ◌∷◌, ◌++◌, leb, ltb}
use Rattle.plans.specs.Limits.{within}

-- `0` to `9`, and `a` to `f`
unfoldable pub digit : ℕ → Bool
digit b = within 48 57 b || within 97 102 b

unfoldable pub all_digits : List ℕ → Bool
all_digits [] = true
all_digits (b ∷ bs) = digit b && all_digits bs

-- what a digit stands for
unfoldable pub digit_value : ℕ → ℕ
digit_value b = cond (leb b 57) (b - 48) (b - 87)

-- the digit that stands for n, which is below 16
unfoldable pub digit_of : ℕ → ℕ
digit_of n = cond (ltb n 10) (48 + n) (87 + n)

-- the number whose first digits stand for n and go on so
unfoldable pub gone_on : ℕ → List ℕ → ℕ
gone_on n [] = n
gone_on n (b ∷ bs) = gone_on (n * 16 + digit_value b) bs

-- the number that digits stand for
unfoldable pub hex_value : List ℕ → ℕ
hex_value bs = gone_on 0 bs

-- the last k digits of n
unfoldable pub digits_of : ℕ → ℕ → List ℕ
digits_of zero n = []
digits_of (suc k) n = digits_of k (n / 16) ++ (digit_of (n % 16) ∷ [])
