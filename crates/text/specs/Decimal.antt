-- Numbers as they are written. That reading is the inverse is proved in `script`, `proofs/Decimal.antt`. Assumes nothing.
use Rattle.std.specs.Prelude.{ℕ, zero, suc, ◌+◌, ◌/◌, ◌%◌, true, false, List, [], ◌∷◌, ◌++◌, ltb, ℤ, pos, negsuc}

-- The digits of n, the first is the highest; no number has more digits than the first argument allows, which is more than n.
unfoldable pub digits_in : ℕ → ℕ → List ℕ
digits_in zero n = []
digits_in (suc k) n =
    elim (ltb n 10) [
      | true ↦ (48 + n) ∷ []
      | false ↦ digits_in k (n / 10) ++ ((48 + n % 10) ∷ [])
    ]

-- n as it is written: decimal, without leading zeros
unfoldable pub digits : ℕ → List ℕ
unfolding digits_in
digits n = digits_in (suc n) n

-- A signed number, with its minus sign
abbrev pub signed : ℤ → List ℕ
signed (pos n) = digits n
signed (negsuc n) = (45 ∷ []) ++ digits (suc n)
