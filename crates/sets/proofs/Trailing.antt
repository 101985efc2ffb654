-- The lowest member is the number of trailing zeros: it is below the width, it is a member, and no smaller index is one. Stated over the
-- width w, for a set of the width that is not empty; where less is asked for, less is needed.
-- Assumes nothing.
use mathlib.Core.Path.{◌≡◌, refl, sym, ◌∙◌}
use mathlib.Core.Logic.{◌≢◌, ◌⊎◌, inl, inr, ◌↔◌}
use mathlib.Core.Bool.{true, false}
use Prim.Native.Nat.{ℕ, zero, suc, ◌*◌, ◌/◌, ◌%◌, ◌^◌, ◌≤◌, ◌<◌, zero-le, suc-le-suc}
use native.Mathlib.Nat.{pow-suc, not-suc-le-zero, le_of_suc-le-suc, le_trans, lt_of_not-le}
use native.Mathlib.Omega.{arith}
use lib.Arith.{lt-one}
use lib.Pow.{pow_mono}
use lib.Count.{count_trailing_zeros}
use Rattle.sets.specs.Member.{bit, has, without_of}
use Rattle.sets.proofs.Digit.{bit_low, bit_suc, half_lt, bit_has, bit_not, has_bit, has_suc, bit_weighs, own_width}
use Rattle.sets.proofs.Change.{without_less}

not_lt_le : {a b : ℕ} → (b < a → ⊥) → a ≤ b
not_lt_le f = le_of_suc-le-suc (lt_of_not-le f)

parity : (x : ℕ) → (x % 2 ≡ zero) ⊎ (x % 2 ≡ 1)
parity x = go (x % 2) refl
  where
    go : (d : ℕ) → x % 2 ≡ d → (x % 2 ≡ zero) ⊎ (x % 2 ≡ 1)
    go zero e = inl e
    go (suc zero) e = inr e
    go (suc (suc d)) e = absurd (omega arith)

-- an even number has one zero more than its half, and an odd one none
trailing_even : (w x : ℕ) → x % 2 ≡ zero → count_trailing_zeros (suc w) x ≡ suc (count_trailing_zeros w (x / 2))
unfolding count_trailing_zeros
trailing_even w x e = rw e

trailing_odd : (w x : ℕ) → x % 2 ≡ 1 → count_trailing_zeros (suc w) x ≡ zero
unfolding count_trailing_zeros
trailing_odd w x e = rw e

trailing_none : (x : ℕ) → count_trailing_zeros zero x ≡ zero
unfolding count_trailing_zeros
trailing_none x = refl

-- ---- the digits

below_bit : (w x j : ℕ) → j < count_trailing_zeros w x → bit x j ≡ zero
below_bit zero x j l = absurd (not-suc-le-zero (rw (trailing_none x) at l))
below_bit (suc w) x j l = go (below_bit w (x / 2)) (parity x) j l
  where
    go : ((i : ℕ) → i < count_trailing_zeros w (x / 2) → bit (x / 2) i ≡ zero) → (x % 2 ≡ zero) ⊎ (x % 2 ≡ 1) → (i : ℕ) → i < count_trailing_zeros (suc w) x
        → bit x i ≡ zero
    go rest (inl e) zero h = bit_low x ∙ e
    go rest (inl e) (suc i) h = bit_suc x i ∙ rest i (le_of_suc-le-suc (rw (trailing_even w x e) at h))
    go rest (inr e) i h = absurd (not-suc-le-zero (rw (trailing_odd w x e) at h))

at_bit : (w x : ℕ) → count_trailing_zeros w x < w → bit x (count_trailing_zeros w x) ≡ 1
at_bit zero x l = absurd (not-suc-le-zero l)
at_bit (suc w) x l = go (at_bit w (x / 2)) (parity x) l
  where
    go : (count_trailing_zeros w (x / 2) < w → bit (x / 2) (count_trailing_zeros w (x / 2)) ≡ 1) → (x % 2 ≡ zero) ⊎ (x % 2 ≡ 1) → count_trailing_zeros (suc w) x < suc w
        → bit x (count_trailing_zeros (suc w) x) ≡ 1
    go rest (inl e) h =
        rw (trailing_even w x e) (bit_suc x (count_trailing_zeros w (x / 2)) ∙ rest (le_of_suc-le-suc (rw (trailing_even w x e) at h)))
    go rest (inr e) h = rw (trailing_odd w x e) (bit_low x ∙ e)

-- ---- the lowest member

pub lowest_below : (w x : ℕ) → x ≢ zero → x < 2 ^ w → count_trailing_zeros w x < w
lowest_below zero x n h = absurd (n (lt-one h))
lowest_below (suc w) x n h = go (lowest_below w (x / 2)) (parity x)
  where
    go : (x / 2 ≢ zero → x / 2 < 2 ^ w → count_trailing_zeros w (x / 2) < w) → (x % 2 ≡ zero) ⊎ (x % 2 ≡ 1) → count_trailing_zeros (suc w) x < suc w
    go rest (inl e) = rw (trailing_even w x e) (suc-le-suc (rest (omega arith) (half_lt w h)))
    go rest (inr e) = rw (trailing_odd w x e) (omega arith)

pub lowest_has : (w x : ℕ) → x ≢ zero → x < 2 ^ w → has x (count_trailing_zeros w x) ≡ true
lowest_has w x n h = bit_has x (count_trailing_zeros w x) (at_bit w x (lowest_below w x n h))

pub lowest_least : (w x j : ℕ) → j < count_trailing_zeros w x → has x j ≡ false
lowest_least w x j l = bit_not x j (below_bit w x j l)

-- so it is at most any member
pub lowest_le : (w x k : ℕ) → has x k ≡ true → count_trailing_zeros w x ≤ k
lowest_le w x k e =
    not_lt_le (λ (l : k < count_trailing_zeros w x). let z : ◌≡◌ {A = ℕ} 0 1 = sym (below_bit w x k l) ∙ has_bit x k e in omega arith)

-- ---- a member at w or above: a number of more than w digits has one, and no other has

pub member_past : (w x : ℕ) → (2 ^ w ≤ x) ↔ ((i : ℕ) × (w ≤ i) × (has x i ≡ true))
member_past w x = (found w x, weighs)
  where
    found : (w x : ℕ) → 2 ^ w ≤ x → (i : ℕ) × (w ≤ i) × (has x i ≡ true)
    found zero x h = (count_trailing_zeros x x, zero-le, lowest_has x x (omega arith) (own_width x))
    found (suc w) x h =
        let l : 2 ^ w * 2 ≤ x = rw pow-suc at h in
        let (i, a, e) = found w (x / 2) (omega arith) in
        (suc i, suc-le-suc a, has_suc x i ∙ e)

    weighs : (i : ℕ) × (w ≤ i) × (has x i ≡ true) → 2 ^ w ≤ x
    weighs (i, a, e) = le_trans (pow_mono a) (bit_weighs x i (has_bit x i e))

-- ---- the lowest taken out

-- the number falls: a measure for the loop
pub rest_less : (w x : ℕ) → x ≢ zero → x < 2 ^ w → without_of w x (count_trailing_zeros w x) < x
rest_less w x n h = without_less w x (count_trailing_zeros w x) (lowest_below w x n h) (lowest_has w x n h)
