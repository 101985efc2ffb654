-- The laws of one digit: how it follows from the number halved, what a shift finds, that no digit stands beyond the width, and that two
-- numbers with the same digits are the same. Stated for every number, and over the width w where a width is needed.
-- Assumes nothing.
use mathlib.Core.Path.{◌≡◌, refl, sym, ap, subst, ◌∙◌}
use mathlib.Core.Logic.{◌≢◌}
use mathlib.Core.Bool.{Bool, true, false}
use Prim.Native.Nat.{ℕ, zero, suc, ◌+◌, ◌*◌, ◌/◌, ◌%◌, ◌^◌, ◌≤◌, ◌<◌, suc-le-suc}
use native.Mathlib.Nat.{pow-suc, not-suc-le-zero, le_of_suc-le-suc, lt_of_not-le, lt_of_lt_of_le}
use native.Mathlib.Numerals.{one-add}
use native.Mathlib.Omega.{arith}
use lib.Dec.{eqb}
use lib.Pow.{pow_pos, shr-shr, pow_mono}
use lib.Arith.{lt-one}
use borrow.Author.Tests.{eqb-true, eqb-false, eq-eqb, ne_eqb}
use Rattle.sets.specs.Member.{bit, has}

-- ---- halving

pub bit_zero : (k : ℕ) → bit zero k ≡ zero
unfolding bit
bit_zero zero = refl
bit_zero (suc k) = refl

pub bit_low : (x : ℕ) → bit x zero ≡ x % 2
unfolding bit
bit_low x = refl

pub bit_suc : (x k : ℕ) → bit x (suc k) ≡ bit (x / 2) k
unfolding bit
bit_suc zero k = sym (bit_zero k)
bit_suc (suc x) k = refl

pub bit_le : (x k : ℕ) → bit x k ≤ 1
bit_le x zero = rw bit_low (omega arith)
bit_le x (suc k) = rw bit_suc (bit_le (x / 2) k)

-- a number of w + 1 digits, halved, has w
pub half_lt : {x : ℕ} (w : ℕ) → x < 2 ^ suc w → x / 2 < 2 ^ w
half_lt {x} w h =
    let l : x < 2 ^ w * 2 = rw pow-suc at h in
    omega arith

-- ---- from a digit to a member, and back

pub bit_has : (x k : ℕ) → bit x k ≡ 1 → has x k ≡ true
unfolding has
bit_has x k e = eq-eqb (bit x k) 1 e

pub bit_not : (x k : ℕ) → bit x k ≡ zero → has x k ≡ false
unfolding has
bit_not x k e = ne_eqb (bit x k) 1 (omega arith)

pub has_bit : (x k : ℕ) → has x k ≡ true → bit x k ≡ 1
unfolding has
has_bit x k e = eqb-true (bit x k) 1 e

pub not_bit : (x k : ℕ) → has x k ≡ false → bit x k ≡ zero
unfolding has
not_bit x k e =
    let l : bit x k ≤ 1 = bit_le x k in
    let n : bit x k ≢ 1 = eqb-false (bit x k) 1 e in
    omega arith

pub has_suc : (x k : ℕ) → has x (suc k) ≡ has (x / 2) k
unfolding has
has_suc x k = rw bit_suc

-- the empty set has no member
pub has_zero : (k : ℕ) → has zero k ≡ false
has_zero k = bit_not zero k (bit_zero k)

-- so a set with a member is not empty
pub has_some : (x k : ℕ) → has x k ≡ true → x ≢ zero
has_some x k e q =
    let z : ◌≡◌ {A = ℕ} 0 1 = sym (bit_zero k) ∙ ap (λ (y : ℕ). bit y k) (sym q) ∙ has_bit x k e in
    omega arith

-- ---- what the code reads: `(x >> k) & 1`

pub bit_shift : (x k : ℕ) → bit x k ≡ x / 2 ^ k % 2
bit_shift x zero = rw bit_low (omega arith)
bit_shift x (suc k) = bit_suc x k ∙ bit_shift (x / 2) k ∙ ap (λ (y : ℕ). y % 2) (shr-shr x 1 k ∙ ap (λ (n : ℕ). x / 2 ^ n) (one-add k))

pub has_shift : (x k : ℕ) → has x k ≡ eqb (x / 2 ^ k % 2) 1
unfolding has
has_shift x k = rw bit_shift

-- ---- the width

-- no digit stands at or beyond the width
pub bit_beyond : (w x k : ℕ) → x < 2 ^ w → w ≤ k → bit x k ≡ zero
bit_beyond zero x k h l = rw (lt-one h) (bit_zero k)
bit_beyond (suc w) x zero h l = absurd (not-suc-le-zero l)
bit_beyond (suc w) x (suc k) h l = bit_suc x k ∙ bit_beyond w (x / 2) k (half_lt w h) (le_of_suc-le-suc l)

pub has_beyond : (w x k : ℕ) → x < 2 ^ w → w ≤ k → has x k ≡ false
has_beyond w x k h l = bit_not x k (bit_beyond w x k h l)

-- so a member is below the width
pub has_below : (w x k : ℕ) → x < 2 ^ w → has x k ≡ true → k < w
has_below w x k h e = lt_of_not-le (λ (l : w ≤ k). let z : ◌≡◌ {A = ℕ} 0 1 = sym (bit_beyond w x k h l) ∙ has_bit x k e in omega arith)

-- a digit that is set weighs its power of two
pub bit_weighs : (x k : ℕ) → bit x k ≡ 1 → 2 ^ k ≤ x
bit_weighs x zero e =
    let l : x % 2 ≡ 1 = rw bit_low at e in
    omega arith
bit_weighs x (suc k) e =
    let l : 2 ^ k ≤ x / 2 = bit_weighs (x / 2) k (sym (bit_suc x k) ∙ e) in
    rw pow-suc (omega arith)

-- ---- two numbers with the same digits are the same

pub same_bits : (w x y : ℕ) → x < 2 ^ w → y < 2 ^ w → ((k : ℕ) → k < w → bit x k ≡ bit y k) → x ≡ y
same_bits zero x y hx hy e = lt-one hx ∙ sym (lt-one hy)
same_bits (suc w) x y hx hy e =
    let low : x % 2 ≡ y % 2 = sym (bit_low x) ∙ e zero (omega arith) ∙ bit_low y in
    let high : x / 2 ≡ y / 2 =
    same_bits w (x / 2) (y / 2) (half_lt w hx) (half_lt w hy) (λ k l. sym (bit_suc x k) ∙ e (suc k) (suc-le-suc l) ∙ bit_suc y k)
    in
    omega arith

-- the digit is what `has` tells
bit_of : (x y k : ℕ) → has x k ≡ has y k → bit x k ≡ bit y k
bit_of x y k e = go (has x k) refl
  where
    go : (b : Bool) → has x k ≡ b → bit x k ≡ bit y k
    go true t = has_bit x k t ∙ sym (has_bit y k (sym e ∙ t))
    go false t = not_bit x k t ∙ sym (not_bit y k (sym e ∙ t))

-- two sets of the width w with the same members are the same
pub same_members : (w x y : ℕ) → x < 2 ^ w → y < 2 ^ w → ((k : ℕ) → k < w → has x k ≡ has y k) → x ≡ y
same_members w x y hx hy e = same_bits w x y hx hy (λ k l. bit_of x y k (e k l))

-- a number has fewer digits than itself
pub own_width : (x : ℕ) → x < 2 ^ x
own_width zero = pow_pos zero
own_width (suc x) =
    let l : x < 2 ^ x = own_width x in
    rw pow-suc (omega arith)

-- the same, whatever the width
pub same_everywhere : (x y : ℕ) → ((k : ℕ) → has x k ≡ has y k) → x ≡ y
same_everywhere x y e =
    same_members (x + y) x y (lt_of_lt_of_le (own_width x) (pow_mono (omega arith))) (lt_of_lt_of_le (own_width y) (pow_mono (omega arith)))
    (λ k l. e k)

-- a set with no members is 0
pub nobody_zero : (w x : ℕ) → x < 2 ^ w → ((k : ℕ) → k < w → has x k ≡ false) → x ≡ zero
nobody_zero w x h e = same_members w x zero h (pow_pos w) (λ k l. e k l ∙ sym (has_zero k))

-- ---- a set whose members are all below w is a number of w digits

pub set_below : (w x : ℕ) → ((i : ℕ) → has x i ≡ true → i < w) → x < 2 ^ w
set_below zero x l = subst (λ (k : ℕ). k < 1) (sym none) (omega arith)
  where
    absent : (k : ℕ) (b : Bool) → has x k ≡ b → has x k ≡ false
    absent k true e = absurd (not-suc-le-zero (l k e))
    absent k false e = e

    none : x ≡ zero
    none = nobody_zero x x (own_width x) (λ k _. absent k (has x k) refl)
set_below (suc w) x l =
    let half : x / 2 < 2 ^ w = set_below w (x / 2) (λ i e. le_of_suc-le-suc (l (suc i) (has_suc x i ∙ e))) in
    rw pow-suc (omega arith)
