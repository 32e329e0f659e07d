-- Paper 01, "Table of proved cases": the sample sizes and the continuous case; and card 3's samples under a ceiling. Two numbers are
-- document 000's and not the paper's: Table 2 gives 50 for 48 and 25 for 24. Assumes nothing.
use Rattle.std.specs.Prelude.{ℕ, ◌+◌, true, false, List, [], ◌∷◌, ◌≡◌}
use Rattle.plans.specs.Credit.{credit_sample}
use Rattle.plans.specs.Severities.{reduced, normal, tightened}
use Rattle.plans.specs.Tables.{level_sample}
use Rattle.plans.specs.Continuous.{screening, after_run, after_block}
use Rattle.plans.specs.declared.continuous.Continuous.{Continuous}
use Rattle.plans.specs.declared.continuous.Block.{Block}

-- what the definitions give, and what the table says
pub record Case : Type 0 where
  pub given : ℕ
  pub stated : ℕ

abbrev case : ℕ → ℕ → Case
case g s = record { given = g; stated = s }

unfoldable pub credit_cases : List Case
credit_cases =
    case (credit_sample 0 0 201 15000) 51
    ∷ case (credit_sample 201 0 192 15000) 28
    ∷ case (credit_sample 0 0 50 10000) 34
    ∷ case (credit_sample 200 0 50 10000) 15
    ∷ case (credit_sample 0 0 9900 10000) 99
    ∷ case (credit_sample 0 0 9901 10000) 100
    ∷ case (credit_sample 0 0 1 10000) 1
    ∷ []

-- paper 02, card 3: N 50 at A 10,000 under Kmax 100
unfoldable pub ceiling_cases : List Case
ceiling_cases =
    case (credit_sample 0 100 50 10000) 34
    ∷ case (credit_sample 50 100 50 10000) 25
    ∷ case (credit_sample 100 100 50 10000) 20
    ∷ case (credit_sample 150 100 50 10000) 20
    ∷ []

unfoldable pub level_cases : List Case
level_cases =
    case (level_sample 2 normal 800) 20
    ∷ case (level_sample 2 tightened 800) 50
    ∷ case (level_sample 2 reduced 800) 8
    ∷ case (level_sample 2 normal 961) 25
    ∷ case (level_sample 7 normal 2) 2
    ∷ []

-- i 116, g 48: a run of 116, a block with the 10th heard and right, a block with the 5th heard and wrong
unfoldable pub cleared : Continuous
cleared = after_run 116 116 false (screening 0)

unfoldable pub right_block : Block
right_block = after_block 48 10 false cleared

unfoldable pub wrong_block : Block
wrong_block = after_block 48 5 true right_block.state

unfoldable pub continuous_cases : List Case
continuous_cases =
    case wrong_block.hear_back 42
    ∷ case (116 + right_block.accepted + wrong_block.accepted) 168
    ∷ []

unfoldable pub given_in : List Case → List ℕ
given_in [] = []
given_in (c ∷ cs) = c.given ∷ given_in cs

unfoldable pub stated_in : List Case → List ℕ
stated_in [] = []
stated_in (c ∷ cs) = c.stated ∷ stated_in cs

-- what a list of cases says: each gives what is stated
abbrev pub Hold : List Case → Type 0
Hold cs = given_in cs ≡ stated_in cs

-- the theorem over the table
abbrev pub ProvedCases : Type 0
ProvedCases = Hold credit_cases × Hold ceiling_cases × Hold level_cases × Hold continuous_cases
