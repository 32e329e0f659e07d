-- Numbers side by side in the fields of one word: masked and joined all at once. By induction over the fields; what one joining asks holds
-- of every base, its square and that square's square. Assumes nothing.
use mathlib.Core.Path.{◌≡◌, refl, sym, ap, ◌∙◌}
use mathlib.Core.List.{List, [], ◌∷◌, ◌++◌}
use Prim.Native.Nat.{ℕ, zero, suc, ◌+◌, ◌-◌, ◌*◌, ◌/◌, ◌%◌, ◌^◌, ◌<◌}
use native.Mathlib.Nat.{
  add-zero,
  one-mul,
  add-mul,
  mul_right_comm,
  mul-pos,
  mul-le-mul_right,
  le-mul_of_pos_right,
  le-add_left,
  lt_of_lt_of_le,
  mod-lt,
  mod-eq_of_lt,
  zero-mod,
  mul-add-mod_self_right,
  div-eq_of_lt,
  div-add-mod',
  mul-add-div_right,
  div-div-eq-div-mul,
}
use native.Mathlib.Omega.{arith}
use lib.Bits.{bit_and, and_block, and_mask, and_zero_r}
use lib.ListN.{length, get_or}
use lib.Pow.{pow_pos, pow_mono, split, mod-mod-pow, ones_lt}

-- ---- fields, and masks of their low bits

-- items in fields of base B, the first in the lowest
unfoldable pub fields : ℕ → List ℕ → ℕ
fields B [] = 0
fields B (a ∷ xs) = fields B xs * B + a

-- the j low bits of each of m fields of k + j bits
unfoldable pub lows : ℕ → ℕ → ℕ → ℕ
lows k j zero = 0
lows k j (suc m) = lows k j m * 2 ^ (k + j) + (2 ^ j - 1)

-- what stands below R in each of m fields of base Q
unfoldable pub picked : ℕ → ℕ → ℕ → ℕ → ℕ
picked Q R zero y = 0
picked Q R (suc m) y = picked Q R m (y / Q) * Q + y % R

masked : (k j m y : ℕ) → bit_and y (lows k j m) ≡ picked (2 ^ (k + j)) (2 ^ j) m y
unfolding lows picked
masked k j zero y = and_zero_r y
masked k j (suc m) y =
    let w : ℕ = k + j in
    ap (λ (n : ℕ). bit_and n (lows k j m * 2 ^ w + (2 ^ j - 1))) (sym (split y w))
    ∙ and_block w (y / 2 ^ w) (lows k j m) (y % 2 ^ w) (2 ^ j - 1) (mod-lt y (pow_pos w)) (lt_of_lt_of_le (ones_lt j) (pow_mono (le-add_left j k)))
    ∙ rw (masked k j m (y / 2 ^ w), and_mask (y % 2 ^ w) j, mod-mod-pow y k j)

-- a mask by its number
pub mask_law : {mask : ℕ} (k j m y : ℕ) → mask ≡ lows k j m → bit_and y mask ≡ picked (2 ^ (k + j)) (2 ^ j) m y
mask_law k j m y e = ap (bit_and y) e ∙ masked k j m y

-- each item is below P
abbrev pub Below : ℕ → List ℕ → Type 0
Below P [] = Unit {0}
Below P (a ∷ xs) = (a < P) × Below P xs

pub below_last : (P : ℕ) (xs : List ℕ) (b : ℕ) → Below P xs → b < P → Below P (xs ++ (b ∷ []))
below_last P [] b h small = (small, tt)
below_last P (x ∷ xs) b h small = (h.0, below_last P xs b h.1 small)

pub below_at : (P : ℕ) → 0 < P → (xs : List ℕ) → Below P xs → (i : ℕ) → get_or xs i 0 < P
below_at P pos [] h i = pos
below_at P pos (x ∷ xs) h zero = h.0
below_at P pos (x ∷ xs) h (suc i) = below_at P pos xs h.1 i

-- ---- neighbours joined

-- each two items, the first the higher, as one
unfoldable pub joined : ℕ → List ℕ → List ℕ
joined P [] = []
joined P (a ∷ []) = []
joined P (a ∷ b ∷ xs) = (a * P + b) ∷ joined P xs

-- a word of items below P in fields of base B, each with its right neighbour behind it
abbrev pub overlapped : ℕ → ℕ → ℕ → ℕ
overlapped P B x = x * P + x / B

-- what joining asks of three bases, each the square of the one before: of items a, b and c below P, and the rest of a word
pub record Bases (P B Q : ℕ) : Type 0 where
  joint : (a b : ℕ) → a < P → b < P → a * P + b < B
  first : (v c : ℕ) → c < P → (v * B + c) % B < P
  none : 0 % B < P
  pair : (v a b : ℕ) → a < P → b < P → overlapped P B ((v * B + b) * B + a) % B ≡ a * P + b
  pairs : (v a b : ℕ) → a < P → b < P → v % B < P → overlapped P B ((v * B + b) * B + a) / Q ≡ overlapped P B v

module _ {P B Q : ℕ} (bases : Bases P B Q) where
  pub joined_below : (xs : List ℕ) → Below P xs → Below B (joined P xs)
  unfolding joined
  joined_below [] h = tt
  joined_below (a ∷ []) h = tt
  joined_below (a ∷ b ∷ xs) h = (bases.joint a b h.0 h.1.0, joined_below xs h.1.1)

  first_below : (xs : List ℕ) → Below P xs → fields B xs % B < P
  unfolding fields
  first_below [] h = bases.none
  first_below (a ∷ xs) h = bases.first (fields B xs) a h.0

  -- all neighbours are joined at once
  join : (xs : List ℕ) → Below P xs → picked Q B (length (joined P xs)) (overlapped P B (fields B xs)) ≡ fields Q (joined P xs)
  unfolding joined fields picked
  join [] h = refl
  join (a ∷ []) h = refl
  join (a ∷ b ∷ xs) h =
      rw (bases.pair (fields B xs) a b h.0 h.1.0, bases.pairs (fields B xs) a b h.0 h.1.0 (first_below xs h.1.1), join xs h.1.1)

-- these hold of every base with its square and that square's square
module _ (P : ℕ) (positive : 0 < P) where
  square_positive : 0 < P * P
  square_positive = mul-pos positive positive

  below_square : (a b : ℕ) → a < P → b < P → a * P + b < P * P
  below_square a b ha hb = omega (arith, mul-le-mul_right {m = a + 1} {n = P} P (omega arith), add-mul a 1 P, one-mul P)

  item_below : (a : ℕ) → a < P → a < P * P
  item_below a ha = lt_of_lt_of_le ha (le-mul_of_pos_right P positive)

  -- the first item's right neighbour comes to stand behind it, and all other neighbours in the fields above
  two_joined : (v a b : ℕ) → a < P → overlapped P (P * P) ((v * (P * P) + b) * (P * P) + a) ≡ ((v * (P * P) + b) * P + v) * (P * P) + (a * P + b)
  two_joined v a b ha =
      let above : ((v * (P * P) + b) * (P * P) + a) / (P * P) ≡ v * (P * P) + b =
      mul-add-div_right square_positive (v * (P * P) + b) a ∙ rw (div-eq_of_lt (item_below a ha)) (add-zero _) in
      rw above
      (omega (
        arith,
        add-mul ((v * (P * P) + b) * (P * P)) a P,
        mul_right_comm (v * (P * P) + b) (P * P) P,
        add-mul ((v * (P * P) + b) * P) v (P * P),
      ))

  -- two fields further up the rest is joined in the same way
  rest_joined : (v b : ℕ) → b < P → v % (P * P) < P → ((v * (P * P) + b) * P + v) / (P * P) ≡ overlapped P (P * P) v
  rest_joined v b hb hv =
      let above : (v * (P * P) + b) * P + v ≡ (v * P + v / (P * P)) * (P * P) + (b * P + v % (P * P)) =
      omega (
        arith,
        add-mul (v * (P * P)) b P,
        mul_right_comm v (P * P) P,
        add-mul (v * P) (v / (P * P)) (P * P),
        div-add-mod' v (P * P),
      ) in
      rw above (mul-add-div_right square_positive _ _ ∙ rw (div-eq_of_lt (below_square b _ hb hv)) (add-zero _))

  pub bases : Bases P (P * P) (P * P * (P * P))
  bases =
      record {
        joint = below_square;
        first = λ v c hc. rw (mul-add-mod_self_right v (P * P) c, mod-eq_of_lt (item_below c hc)) hc;
        none = rw (zero-mod (P * P)) positive;
        pair = λ v a b ha hb. rw (two_joined v a b ha) (mul-add-mod_self_right _ (P * P) _ ∙ mod-eq_of_lt (below_square a b ha hb));
        pairs = λ v a b ha hb hv.
            rw (two_joined v a b ha, ← div-div-eq-div-mul _ (P * P) (P * P))
            (rw (mul-add-div_right square_positive ((v * (P * P) + b) * P + v) (a * P + b), div-eq_of_lt (below_square a b ha hb), add-zero)
            (rest_joined v b hb hv));
      }

-- neighbours are joined by a mask that keeps each second field
pub join_masked : {P mask : ℕ} (k m : ℕ) → Bases P (2 ^ k) (2 ^ (k + k)) → (xs : List ℕ) → Below P xs → length (joined P xs) ≡ m → mask ≡ lows k k m
    → bit_and (overlapped P (2 ^ k) (fields (2 ^ k) xs)) mask ≡ fields (2 ^ (k + k)) (joined P xs)
join_masked {P} k m bases xs small long e =
    mask_law k k m (overlapped P (2 ^ k) (fields (2 ^ k) xs)) e ∙ rw (← long) (join bases xs small)
