-- Sums over the numbers below n: one term raised raises the sum, and a bound on each term bounds it. Assumes nothing.
use Prim.Native.Nat.{ℕ, zero, suc, ◌+◌, ◌*◌, ◌≤◌, ◌<◌, zero-le}
use mathlib.Core.Path.{◌≡◌, refl, ap₂}
use mathlib.Core.Logic.{◌≢◌, ◌⊎◌, inl, inr}
use native.Mathlib.Nat.{not-suc-le-zero}
use native.Mathlib.Omega.{arith}
use Rattle.std.proofs.lemmas.Bool.{cases_eq}

unfoldable pub sum_below : ℕ → (ℕ → ℕ) → ℕ
sum_below zero f = zero
sum_below (suc n) f = sum_below n f + f n

pub sum_same : (n : ℕ) (f g : ℕ → ℕ) → ((j : ℕ) → j < n → f j ≡ g j) → sum_below n f ≡ sum_below n g
unfolding sum_below
sum_same zero f g e = refl
sum_same (suc n) f g e = ap₂ ◌+◌ (sum_same n f g (λ j h. e j (omega arith))) (e n (omega arith))

pub sum_raised : (n : ℕ) (f g : ℕ → ℕ) (i : ℕ) → i < n → ((j : ℕ) → j ≢ i → f j ≡ g j) → f i < g i → sum_below n f < sum_below n g
unfolding sum_below
sum_raised zero f g i h e l = absurd (not-suc-le-zero h)
sum_raised (suc n) f g i h e l = go (cases_eq n i) (sum_raised n f g i)
  where
    go : (n ≡ i) ⊎ (n ≢ i) → (i < n → ((j : ℕ) → j ≢ i → f j ≡ g j) → f i < g i → sum_below n f < sum_below n g) →
        sum_below n f + f n < sum_below n g + g n
    go (inl q) rest =
        let below : sum_below n f ≡ sum_below n g = sum_same n f g (λ j m. e j (omega arith)) in
        let here : f n < g n = rw q l in
        omega arith
    go (inr q) rest =
        let below : sum_below n f < sum_below n g = rest (omega arith) e l in
        let here : f n ≡ g n = e n q in
        omega arith

pub sum_most : (n : ℕ) (f : ℕ → ℕ) (b : ℕ) → ((j : ℕ) → j < n → f j ≤ b) → sum_below n f ≤ n * b
unfolding sum_below
sum_most zero f b h = zero-le
sum_most (suc n) f b h =
    let below : sum_below n f ≤ n * b = sum_most n f b (λ j m. h j (omega arith)) in
    let here : f n ≤ b = h n (omega arith) in
    omega arith
