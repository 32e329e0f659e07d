-- Little-endian numbers as lists of bytes, and a part of a list that is read or written. The clauses of `src/` cite these.
-- Assumes nothing.
use Rattle.std.specs.Prelude.{ℕ, zero, suc, ◌+◌, ◌*◌, ◌/◌, ◌%◌, ◌<◌, List, [], ◌∷◌, ◌++◌, length, take, drop, get_or}

-- the k low bytes of n, least significant first
unfoldable pub bytes : ℕ → ℕ → List ℕ
bytes zero n = []
bytes (suc k) n = n % 256 ∷ bytes k (n / 256)

-- the number that a list of bytes holds, least significant first
unfoldable pub value : List ℕ → ℕ
value [] = 0
value (b ∷ bs) = b + 256 * value bs

-- the k bytes of s from index `at` on
unfoldable pub part : ℕ → ℕ → List ℕ → List ℕ
part at k s = take k (drop at s)

-- s with the bytes b from index `at` on
unfoldable pub written : ℕ → List ℕ → List ℕ → List ℕ
written at b s = take at s ++ (b ++ drop (at + length b) s)

-- each element of s is a byte
abbrev pub AreBytes : List ℕ → Type 0
AreBytes s = (i : ℕ) → get_or s i 0 < 256
