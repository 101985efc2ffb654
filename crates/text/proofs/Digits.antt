-- How a number is written: its last digit, and those in front. By induction on the digits. Assumes nothing.
use Prim.Native.Nat.{ℕ, zero, suc, ◌+◌, ◌/◌, ◌%◌, ◌≤◌, ◌<◌}
use mathlib.Core.Path.{◌≡◌, refl, sym, ap, ◌∙◌}
use mathlib.Core.Bool.{Bool, true, false}
use mathlib.Core.List.{List, [], ◌∷◌, ◌++◌}
use native.Mathlib.Omega.{arith}
use borrow.Author.Tests.{lt-ltb, le-ltb, ltb-true, ltb-false}
use lib.Dec.{ltb}
use Rattle.text.specs.Decimal.{digits_in, digits}

-- One digit, or the digits in front and the last one; the bound on their number does not matter.
in_low : (k n : ℕ) → n < 10 → digits_in (suc k) n ≡ (48 + n) ∷ []
unfolding digits_in
in_low k n h = rw (lt-ltb n 10 h, digits_in)

in_high : (k n : ℕ) → 10 ≤ n → digits_in (suc k) n ≡ digits_in k (n / 10) ++ ((48 + n % 10) ∷ [])
unfolding digits_in
in_high k n h = rw (le-ltb n 10 h, digits_in)

in_any : (k j n : ℕ) → n < k → n < j → digits_in k n ≡ digits_in j n
in_any zero j n h g = absurd (omega arith)
in_any (suc k) zero n h g = absurd (omega arith)
in_any (suc k) (suc j) n h g = go (ltb n 10) refl (in_any k j (n / 10))
  where
    go : (t : Bool) → ltb n 10 ≡ t → (n / 10 < k → n / 10 < j → digits_in k (n / 10) ≡ digits_in j (n / 10)) →
        digits_in (suc k) n ≡ digits_in (suc j) n
    go true e rest = in_low k n (ltb-true n 10 e) ∙ sym (in_low j n (ltb-true n 10 e))
    go false e rest =
        let high : 10 ≤ n = ltb-false n 10 e in
        in_high k n high ∙
        ap (λ (w : List ℕ). w ++ ((48 + n % 10) ∷ [])) (rest (omega arith) (omega arith)) ∙
        sym (in_high j n high)

pub digits_low : (n : ℕ) → n < 10 → digits n ≡ (48 + n) ∷ []
unfolding digits
digits_low n h = in_low n n h

pub digits_high : (n : ℕ) → 10 ≤ n → digits n ≡ digits (n / 10) ++ ((48 + n % 10) ∷ [])
unfolding digits
digits_high n h =
    in_high n n h ∙
    ap (λ (w : List ℕ). w ++ ((48 + n % 10) ∷ [])) (in_any n (suc (n / 10)) (n / 10) (omega arith) (omega arith))
