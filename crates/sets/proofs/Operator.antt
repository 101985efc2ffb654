-- What the operators of the code do to a set: `x & (1 << k)`, `x | (1 << k)` and `x & !(1 << k)`, over the width w.
-- Assumes nothing.
use mathlib.Core.Path.{◌≡◌, refl, sym, ap, ap₂, ◌∙◌}
use mathlib.Core.Bool.{Bool, true, false}
use Prim.Native.Nat.{ℕ, zero, suc, ◌+◌, ◌-◌, ◌*◌, ◌/◌, ◌%◌, ◌^◌, ◌≤◌, ◌<◌, min}
use native.Mathlib.Nat.{pow-suc, add-zero, le_trans, le_of_eq, not-suc-le-zero, le_of_suc-le-suc, min-zero, min-eq_left, mul_assoc, mod-eq_of_lt}
use native.Mathlib.Omega.{arith}
use lib.Bits.{bit_and, bit_or, and_step, and_mask, and_le_l, or_add_and}
use lib.Dec.{eqb}
use lib.Pow.{pow_pos, pow-lt}
use Rattle.sets.specs.Member.{bit, has, with_of, without_of}
use Rattle.sets.proofs.Digit.{bit_low, bit_suc, half_lt, has_bit, not_bit, has_shift}
use Rattle.sets.proofs.Change.{with_member, with_new, without_member, without_absent}

-- `1 << k`, for an index below the width
pub one_shifted : (w k : ℕ) → k < w → (1 * 2 ^ k) % 2 ^ w ≡ 2 ^ k
one_shifted w k l =
    let p : 1 * 2 ^ k < 2 ^ w = omega (arith, pow-lt {i = k} {j = w} l) in
    mod-eq_of_lt p ∙ omega arith

-- `x & (1 << k)` is the digit at its place
pub and_one : (x k : ℕ) → bit_and x (2 ^ k) ≡ bit x k * 2 ^ k
and_one x zero = and_mask x 1 ∙ sym (bit_low x) ∙ omega arith
and_one x (suc k) =
    let h : 2 ^ suc k / 2 ≡ 2 ^ k = rw pow-suc (omega arith) in
    let m : 2 ^ suc k % 2 ≡ zero = rw pow-suc (omega arith) in
    and_step x (2 ^ suc k)
    ∙ ap₂ (λ (a b : ℕ). bit_and (x / 2) a * 2 + min (x % 2) b) h m
    ∙ ap₂ (λ (a b : ℕ). a * 2 + b) (and_one (x / 2) k ∙ ap (λ (b : ℕ). b * 2 ^ k) (sym (bit_suc x k))) (min-zero (x % 2))
    ∙ add-zero (bit x (suc k) * 2 ^ k * 2) ∙ mul_assoc (bit x (suc k)) (2 ^ k) 2 ∙ ap (λ (p : ℕ). bit x (suc k) * p) (sym (pow-suc 2 k))

-- `x | (1 << k)`
pub or_one : (w x k : ℕ) → k < w → bit_or x (2 ^ k) ≡ with_of w x k
or_one w x k l = go (has x k) refl
  where
    go : (b : Bool) → has x k ≡ b → bit_or x (2 ^ k) ≡ with_of w x k
    go true e =
        let s : bit_or x (2 ^ k) + bit_and x (2 ^ k) ≡ x + 2 ^ k = or_add_and x (2 ^ k) in
        let a : bit_and x (2 ^ k) ≡ 1 * 2 ^ k = and_one x k ∙ ap (λ (b : ℕ). b * 2 ^ k) (has_bit x k e) in
        let r : bit_or x (2 ^ k) ≡ x = omega arith in
        r ∙ sym (with_member w x k e)
    go false e =
        let s : bit_or x (2 ^ k) + bit_and x (2 ^ k) ≡ x + 2 ^ k = or_add_and x (2 ^ k) in
        let a : bit_and x (2 ^ k) ≡ zero * 2 ^ k = and_one x k ∙ ap (λ (b : ℕ). b * 2 ^ k) (not_bit x k e) in
        let r : bit_or x (2 ^ k) ≡ x + 2 ^ k = omega arith in
        r ∙ sym (with_new w x k l e)

-- `x & !(1 << k)`: every digit but digit k
and_others : (w x k : ℕ) → k < w → x < 2 ^ w → bit_and x (2 ^ w - 1 - 2 ^ k) ≡ x - bit x k * 2 ^ k
and_others zero x k l h = absurd (not-suc-le-zero l)
and_others (suc w) x zero l h =
    let p : zero < 2 ^ w = pow_pos w in
    let half : (2 ^ suc w - 1 - 2 ^ zero) / 2 ≡ 2 ^ w - 1 = rw pow-suc (omega arith) in
    let low : (2 ^ suc w - 1 - 2 ^ zero) % 2 ≡ zero = rw pow-suc (omega arith) in
    and_step x (2 ^ suc w - 1 - 2 ^ zero)
    ∙ ap₂ (λ (a b : ℕ). bit_and (x / 2) a * 2 + min (x % 2) b) half low
    ∙ ap₂ (λ (a b : ℕ). a * 2 + b) (and_mask (x / 2) w ∙ mod-eq_of_lt (half_lt w h)) (min-zero (x % 2))
    ∙ rw bit_low (omega arith)
and_others (suc w) x (suc k) l h =
    let p : 2 ^ k < 2 ^ w = pow-lt (le_of_suc-le-suc l) in
    let half : (2 ^ suc w - 1 - 2 ^ suc k) / 2 ≡ 2 ^ w - 1 - 2 ^ k = rw (pow-suc 2 w, pow-suc 2 k) (omega arith) in
    let low : (2 ^ suc w - 1 - 2 ^ suc k) % 2 ≡ 1 = rw (pow-suc 2 w, pow-suc 2 k) (omega arith) in
    let weight : bit x (suc k) * 2 ^ suc k ≡ bit (x / 2) k * 2 ^ k * 2 =
    ap₂ (λ (b q : ℕ). b * q) (bit_suc x k) (pow-suc 2 k) ∙ sym (mul_assoc (bit (x / 2) k) (2 ^ k) 2)
    in
    let fits : bit (x / 2) k * 2 ^ k ≤ x / 2 = le_trans (le_of_eq (sym (and_one (x / 2) k))) (and_le_l (x / 2) (2 ^ k)) in
    and_step x (2 ^ suc w - 1 - 2 ^ suc k)
    ∙ ap₂ (λ (a b : ℕ). bit_and (x / 2) a * 2 + min (x % 2) b) half low
    ∙ ap₂ (λ (a b : ℕ). a * 2 + b) (and_others w (x / 2) k (le_of_suc-le-suc l) (half_lt w h)) (min-eq_left (omega arith))
    ∙ omega arith

pub and_not_one : (w x k : ℕ) → k < w → x < 2 ^ w → bit_and x (2 ^ w - 1 - 2 ^ k) ≡ without_of w x k
and_not_one w x k l h = go (has x k) refl
  where
    go : (b : Bool) → has x k ≡ b → bit_and x (2 ^ w - 1 - 2 ^ k) ≡ without_of w x k
    go true e =
        let r : x - 1 * 2 ^ k ≡ x - 2 ^ k = omega arith in
        and_others w x k l h ∙ ap (λ (b : ℕ). x - b * 2 ^ k) (has_bit x k e) ∙ r ∙ sym (without_member w x k l e)
    go false e =
        let r : x - zero * 2 ^ k ≡ x = omega arith in
        and_others w x k l h ∙ ap (λ (b : ℕ). x - b * 2 ^ k) (not_bit x k e) ∙ r ∙ sym (without_absent w x k e)

-- `(x >> k) & 1 == 1`
pub has_code : (x k : ℕ) → eqb (bit_and (x / 2 ^ k) 1) 1 ≡ has x k
has_code x k = ap (λ (d : ℕ). eqb d 1) (and_mask (x / 2 ^ k) 1) ∙ sym (has_shift x k)

-- `x | (1 << k)` and `x & !(1 << k)`, as the code writes them
pub with_code : (w x k : ℕ) → k < w → bit_or x ((1 * 2 ^ k) % 2 ^ w) ≡ with_of w x k
with_code w x k l = ap (bit_or x) (one_shifted w k l) ∙ or_one w x k l

pub without_code : (w x k : ℕ) → k < w → x < 2 ^ w → bit_and x (2 ^ w - 1 - (1 * 2 ^ k) % 2 ^ w) ≡ without_of w x k
without_code w x k l h = ap (λ (p : ℕ). bit_and x (2 ^ w - 1 - p)) (one_shifted w k l) ∙ and_not_one w x k l h
