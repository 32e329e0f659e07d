-- Code letters and sample sizes: document 000 (ISO 28594), Tables 1 and 2. Where paper 01's tables differ, these decide.
-- Assumes nothing.
use Rattle.std.specs.Prelude.{ℕ, ◌-◌, min, cond, List, [], ◌∷◌, leb, eqb, get_or}
use Rattle.plans.specs.Severities.{reduced, tightened}
use Rattle.plans.specs.declared.tables.CodeLetter.{CodeLetter}
use Rattle.plans.specs.declared.tables.CodeLetter.TheVariants as letter

-- a code letter is its row of Table 2, counted from 0
abbrev pub A : ℕ
A = 0

abbrev pub B : ℕ
B = 1

abbrev pub C : ℕ
C = 2

abbrev pub D : ℕ
D = 3

abbrev pub E : ℕ
E = 4

-- the row of a letter, as the code has it
abbrev pub row_of : CodeLetter → ℕ
row_of letter.A = A
row_of letter.B = B
row_of letter.C = C
row_of letter.D = D
row_of letter.E = E

-- a row of Table 1: the largest lot size in it, and its letters, VL-7 to VL-1
pub record Row : Type 0 where
  pub up_to : ℕ
  pub letters : List ℕ

abbrev row : ℕ → List ℕ → Row
row n ls = record { up_to = n; letters = ls }

-- Table 1, each row from where the one before it ends
unfoldable pub table1 : List Row
table1 =
    row 170 (A ∷ A ∷ A ∷ A ∷ A ∷ A ∷ A ∷ [])
    ∷ row 288 (A ∷ A ∷ A ∷ A ∷ A ∷ A ∷ B ∷ [])
    ∷ row 544 (A ∷ A ∷ A ∷ A ∷ A ∷ B ∷ C ∷ [])
    ∷ row 960 (A ∷ A ∷ A ∷ A ∷ B ∷ C ∷ D ∷ [])
    ∷ row 1700 (A ∷ A ∷ A ∷ B ∷ C ∷ D ∷ E ∷ [])
    ∷ row 3072 (A ∷ A ∷ B ∷ C ∷ D ∷ E ∷ E ∷ [])
    ∷ row 5482 (A ∷ B ∷ C ∷ D ∷ E ∷ E ∷ E ∷ [])
    ∷ row 9720 (B ∷ C ∷ D ∷ E ∷ E ∷ E ∷ E ∷ [])
    ∷ row 17408 (C ∷ D ∷ E ∷ E ∷ E ∷ E ∷ E ∷ [])
    ∷ row 30960 (D ∷ E ∷ E ∷ E ∷ E ∷ E ∷ E ∷ [])
    ∷ []

-- Table 1, 30 961 and larger
unfoldable pub last_letters : List ℕ
last_letters = E ∷ E ∷ E ∷ E ∷ E ∷ E ∷ E ∷ []

-- the letters of the first row that reaches a lot size
unfoldable pub letters_in : List Row → ℕ → List ℕ
letters_in [] N = last_letters
letters_in (r ∷ rows) N = cond (leb N r.up_to) r.letters (letters_in rows N)

-- 5.1.1.2: the code letter of a lot size at the stated verification level. It is that level's at every severity: Table 1 is headed
-- "normal inspection", and Table D.1, lot 4, is so
unfoldable pub code_letter : ℕ → ℕ → ℕ
code_letter vl N = get_or (letters_in table1 N) (7 - vl) 0

-- Table 2, columns T, VL-7 to VL-1, R
unfoldable pub table2 : List (List ℕ)
table2 =
    (3250 ∷ 1290 ∷ 512 ∷ 200 ∷ 80 ∷ 32 ∷ 12 ∷ 5 ∷ 3 ∷ [])
    ∷ (4096 ∷ 1625 ∷ 645 ∷ 256 ∷ 100 ∷ 40 ∷ 16 ∷ 6 ∷ 3 ∷ [])
    ∷ (5160 ∷ 2048 ∷ 810 ∷ 320 ∷ 128 ∷ 50 ∷ 20 ∷ 8 ∷ 3 ∷ [])
    ∷ (6500 ∷ 2580 ∷ 1024 ∷ 400 ∷ 160 ∷ 64 ∷ 25 ∷ 10 ∷ 4 ∷ [])
    ∷ (8192 ∷ 3250 ∷ 1290 ∷ 512 ∷ 200 ∷ 80 ∷ 32 ∷ 12 ∷ 5 ∷ [])
    ∷ []

-- Table 2, note 2: normal inspection uses the column of the stated level, tightened the one to its left, reduced the one
-- to its right
unfoldable pub column_at : ℕ → ℕ → ℕ
column_at vl severity = cond (eqb severity tightened) (7 - vl) (cond (eqb severity reduced) (9 - vl) (8 - vl))

-- the number in Table 2
unfoldable pub tabled : ℕ → ℕ → ℕ
tabled letter column = get_or (get_or table2 letter []) column 0

-- 5.1.2.2; Table 2, note 1: a lot no larger than the number in the table is heard whole
unfoldable pub level_sample : ℕ → ℕ → ℕ → ℕ
level_sample vl severity N = min N (tabled (code_letter vl N) (column_at vl severity))
