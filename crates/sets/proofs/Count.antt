-- The size of a set: one more with a new member, one less without a member, 0 only where nobody is there, and at most the width.
-- `size_of` is the number of ones that the machine counts (`ones` of lib.Count); each law is given for both names.
-- Assumes nothing.
use mathlib.Core.Path.{◌≡◌, refl, sym, ap, ap₂, ◌∙◌}
use mathlib.Core.Logic.{◌≢◌}
use mathlib.Core.Bool.{true, false}
use Prim.Native.Nat.{ℕ, zero, suc, ◌+◌, ◌/◌, ◌%◌, ◌^◌, ◌<◌}
use native.Mathlib.Nat.{pow-suc}
use native.Mathlib.Omega.{arith}
use lib.Arith.{bin_ind}
use lib.Count.{ones, ones_in, ones_step, count_trailing_zeros}
use Rattle.sets.specs.Member.{bit, has, with_of, without_of, ones_of, size_of}
use Rattle.sets.proofs.Digit.{bit_low, bit_suc, not_bit}
use Rattle.sets.proofs.Change.{half_add, with_new, has_without_same, with_without}
use Rattle.sets.proofs.Trailing.{lowest_below, lowest_has}

-- ---- `size_of` is `ones`

zero_ones : (d : ℕ) → ones_in d zero ≡ zero
unfolding ones_in
zero_ones zero = refl
zero_ones (suc d) = rw (zero_ones d)

same_count : (d x : ℕ) → ones_of d x ≡ ones_in d x
unfolding ones_of ones_in
same_count zero x = refl
same_count (suc d) zero = sym (zero_ones (suc d))
same_count (suc d) (suc x) = ap (λ (n : ℕ). suc x % 2 + n) (same_count d (suc x / 2))

pub size_ones : (x : ℕ) → size_of x ≡ ones x
unfolding size_of ones
size_ones x = same_count x x

-- ---- one member more, one member less

ones_add : (x k : ℕ) → bit x k ≡ zero → ones (x + 2 ^ k) ≡ ones x + 1
ones_add x zero e =
    let l : x % 2 ≡ zero = sym (bit_low x) ∙ e in
    let half : (x + 2 ^ zero) / 2 ≡ x / 2 = omega arith in
    let s : ones x ≡ x % 2 + ones (x / 2) = ones_step x in
    ones_step (x + 2 ^ zero) ∙ ap (λ (y : ℕ). (x + 2 ^ zero) % 2 + ones y) half ∙ omega arith
ones_add x (suc k) e =
    let low : (x + 2 ^ suc k) % 2 ≡ x % 2 = rw pow-suc (omega arith) in
    let s : ones x ≡ x % 2 + ones (x / 2) = ones_step x in
    let rest : ones (x / 2 + 2 ^ k) ≡ ones (x / 2) + 1 = ones_add (x / 2) k (sym (bit_suc x k) ∙ e) in
    ones_step (x + 2 ^ suc k) ∙ ap₂ (λ (d y : ℕ). d + ones y) low (half_add x k) ∙ omega arith

pub ones_with : (w x k : ℕ) → k < w → has x k ≡ false → ones (with_of w x k) ≡ ones x + 1
ones_with w x k l e = ap ones (with_new w x k l e) ∙ ones_add x k (not_bit x k e)

pub ones_without : (w x k : ℕ) → k < w → has x k ≡ true → ones (without_of w x k) + 1 ≡ ones x
ones_without w x k l e = sym (ones_with w (without_of w x k) k l (has_without_same w x k l)) ∙ ap ones (with_without w x k l e)

pub size_with : (w x k : ℕ) → k < w → has x k ≡ false → size_of (with_of w x k) ≡ size_of x + 1
size_with w x k l e = rw (size_ones (with_of w x k), size_ones x) (ones_with w x k l e)

pub size_without : (w x k : ℕ) → k < w → has x k ≡ true → size_of (without_of w x k) + 1 ≡ size_of x
size_without w x k l e = rw (size_ones (without_of w x k), size_ones x) (ones_without w x k l e)

-- the lowest taken out: one less
pub size_rest : (w x : ℕ) → x ≢ zero → x < 2 ^ w → size_of (without_of w x (count_trailing_zeros w x)) + 1 ≡ size_of x
size_rest w x n h = size_without w x (count_trailing_zeros w x) (lowest_below w x n h) (lowest_has w x n h)

-- ---- 0, and the width

pub ones_empty : (x : ℕ) → ones x ≡ zero → x ≡ zero
ones_empty =
    bin_ind (λ (n : ℕ). ones n ≡ zero → n ≡ zero) (λ e. refl)
    (λ n ih e.
    let s : ones n ≡ n % 2 + ones (n / 2) = ones_step n in
    let half : n / 2 ≡ zero = ih (omega arith) in
    omega arith)

pub size_empty : (x : ℕ) → size_of x ≡ zero → x ≡ zero
size_empty x e = ones_empty x (sym (size_ones x) ∙ e)

pub size_zero : size_of zero ≡ zero
unfolding size_of
size_zero = refl
