-- A member more or a member less: what `with` and `without` change of a set, and what they leave. Stated over the width w.
-- Assumes nothing.
use mathlib.Core.Path.{◌≡◌, refl, sym, ap, ◌∙◌}
use mathlib.Core.Logic.{◌≢◌}
use mathlib.Core.Bool.{Bool, true, false, not, cond, ◌&&◌, ◌||◌}
use Prim.Native.Nat.{ℕ, zero, suc, ◌+◌, ◌-◌, ◌*◌, ◌/◌, ◌%◌, ◌^◌, ◌≤◌, ◌<◌}
use native.Mathlib.Nat.{pow-suc, not-suc-le-zero, le_of_suc-le-suc, lt_of_le_of_lt}
use native.Mathlib.Omega.{arith}
use lib.Dec.{ltb, eqb}
use lib.Pow.{pow_pos}
use borrow.Author.Tests.{eqb-true, eqb-false, lt-ltb, le-ltb, ltb-true, ltb-false}
use Rattle.sets.specs.Member.{bit, has, with_of, without_of}
use Rattle.sets.proofs.Digit.{bit_low, bit_suc, half_lt, bit_has, bit_not, has_bit, not_bit, bit_weighs}

-- ---- the digits of x + 2 ^ k, where digit k of x is 0

pub half_add : (x k : ℕ) → (x + 2 ^ suc k) / 2 ≡ x / 2 + 2 ^ k
half_add x k = rw pow-suc (omega arith)

pub add_same : (x k : ℕ) → bit x k ≡ zero → bit (x + 2 ^ k) k ≡ 1
add_same x zero e =
    let l : x % 2 ≡ zero = sym (bit_low x) ∙ e in
    rw bit_low (omega arith)
add_same x (suc k) e =
    bit_suc (x + 2 ^ suc k) k ∙ ap (λ (y : ℕ). bit y k) (half_add x k) ∙ add_same (x / 2) k (sym (bit_suc x k) ∙ e)

pub add_other : (x k j : ℕ) → j ≢ k → bit x k ≡ zero → bit (x + 2 ^ k) j ≡ bit x j
add_other x zero zero n e = absurd (n refl)
add_other x zero (suc j) n e =
    let l : x % 2 ≡ zero = sym (bit_low x) ∙ e in
    let h : (x + 2 ^ zero) / 2 ≡ x / 2 = omega arith in
    bit_suc (x + 2 ^ zero) j ∙ ap (λ (y : ℕ). bit y j) h ∙ sym (bit_suc x j)
add_other x (suc k) zero n e =
    let h : (x + 2 ^ suc k) % 2 ≡ x % 2 = rw pow-suc (omega arith) in
    bit_low (x + 2 ^ suc k) ∙ h ∙ sym (bit_low x)
add_other x (suc k) (suc j) n e =
    bit_suc (x + 2 ^ suc k) j ∙ ap (λ (y : ℕ). bit y j) (half_add x k)
    ∙ add_other (x / 2) k j (λ q. n (ap suc q)) (sym (bit_suc x k) ∙ e) ∙ sym (bit_suc x j)

pub add_below : (w x k : ℕ) → k < w → bit x k ≡ zero → x < 2 ^ w → x + 2 ^ k < 2 ^ w
add_below zero x k l e h = absurd (not-suc-le-zero l)
add_below (suc w) x zero l e h =
    let b : x % 2 ≡ zero = sym (bit_low x) ∙ e in
    let g : x < 2 ^ w * 2 = rw pow-suc at h in
    rw (pow-suc 2 w) (omega arith)
add_below (suc w) x (suc k) l e h =
    let r : x / 2 + 2 ^ k < 2 ^ w = add_below w (x / 2) k (le_of_suc-le-suc l) (sym (bit_suc x k) ∙ e) (half_lt w h) in
    rw (pow-suc 2 w, pow-suc 2 k) (omega arith)

-- ---- the digits of x - 2 ^ k, where digit k of x is 1

half_sub : (x k : ℕ) → 2 ^ k ≤ x / 2 → (x - 2 ^ suc k) / 2 ≡ x / 2 - 2 ^ k
half_sub x k l = rw pow-suc (omega arith)

pub sub_same : (x k : ℕ) → bit x k ≡ 1 → bit (x - 2 ^ k) k ≡ zero
sub_same x zero e =
    let l : x % 2 ≡ 1 = sym (bit_low x) ∙ e in
    rw bit_low (omega arith)
sub_same x (suc k) e =
    let r : bit (x / 2) k ≡ 1 = sym (bit_suc x k) ∙ e in
    bit_suc (x - 2 ^ suc k) k ∙ ap (λ (y : ℕ). bit y k) (half_sub x k (bit_weighs (x / 2) k r)) ∙ sub_same (x / 2) k r

pub sub_other : (x k j : ℕ) → j ≢ k → bit x k ≡ 1 → bit (x - 2 ^ k) j ≡ bit x j
sub_other x zero zero n e = absurd (n refl)
sub_other x zero (suc j) n e =
    let l : x % 2 ≡ 1 = sym (bit_low x) ∙ e in
    let h : (x - 2 ^ zero) / 2 ≡ x / 2 = omega arith in
    bit_suc (x - 2 ^ zero) j ∙ ap (λ (y : ℕ). bit y j) h ∙ sym (bit_suc x j)
sub_other x (suc k) zero n e =
    let r : 2 ^ k ≤ x / 2 = bit_weighs (x / 2) k (sym (bit_suc x k) ∙ e) in
    let h : (x - 2 ^ suc k) % 2 ≡ x % 2 = rw pow-suc (omega arith) in
    bit_low (x - 2 ^ suc k) ∙ h ∙ sym (bit_low x)
sub_other x (suc k) (suc j) n e =
    let r : bit (x / 2) k ≡ 1 = sym (bit_suc x k) ∙ e in
    bit_suc (x - 2 ^ suc k) j ∙ ap (λ (y : ℕ). bit y j) (half_sub x k (bit_weighs (x / 2) k r))
    ∙ sub_other (x / 2) k j (λ q. n (ap suc q)) r ∙ sym (bit_suc x j)

-- ---- the cases of `with` and `without`

-- already there
pub with_member : (w x k : ℕ) → has x k ≡ true → with_of w x k ≡ x
unfolding with_of
with_member w x k e = go (ltb k w)
  where
    go : (b : Bool) → cond b (cond (has x k) x (x + 2 ^ k)) x ≡ x
    go true = rw e
    go false = refl

-- new
pub with_new : (w x k : ℕ) → k < w → has x k ≡ false → with_of w x k ≡ x + 2 ^ k
unfolding with_of
with_new w x k l e = rw (lt-ltb k w l, e)

-- an index that names nobody
pub with_beyond : (w x k : ℕ) → w ≤ k → with_of w x k ≡ x
unfolding with_of
with_beyond w x k l = rw (le-ltb k w l)

-- there
pub without_member : (w x k : ℕ) → k < w → has x k ≡ true → without_of w x k ≡ x - 2 ^ k
unfolding without_of
without_member w x k l e = rw (lt-ltb k w l, e)

-- not there
pub without_absent : (w x k : ℕ) → has x k ≡ false → without_of w x k ≡ x
unfolding without_of
without_absent w x k e = go (ltb k w)
  where
    go : (b : Bool) → cond b (cond (has x k) (x - 2 ^ k) x) x ≡ x
    go true = rw e
    go false = refl

pub without_beyond : (w x k : ℕ) → w ≤ k → without_of w x k ≡ x
unfolding without_of
without_beyond w x k l = rw (le-ltb k w l)

-- ---- who is a member afterwards: k itself by an index below the width, and everybody else as before, whatever the index

pub has_with_same : (w x k : ℕ) → k < w → has (with_of w x k) k ≡ true
has_with_same w x k l = go (has x k) refl
  where
    go : (b : Bool) → has x k ≡ b → has (with_of w x k) k ≡ true
    go true e = rw (with_member w x k e) e
    go false e = rw (with_new w x k l e) (bit_has (x + 2 ^ k) k (add_same x k (not_bit x k e)))

-- two sets with one digit in common
pub has_of_bit : (x y k : ℕ) → bit x k ≡ bit y k → has x k ≡ has y k
unfolding has
has_of_bit x y k e = rw e

pub has_with_other : (w x k j : ℕ) → j ≢ k → has (with_of w x k) j ≡ has x j
has_with_other w x k j n = go (has x k) refl (ltb k w) refl
  where
    go : (b : Bool) → has x k ≡ b → (c : Bool) → ltb k w ≡ c → has (with_of w x k) j ≡ has x j
    go true e c q = rw (with_member w x k e)
    go false e true q = rw (with_new w x k (ltb-true k w q) e) (has_of_bit (x + 2 ^ k) x j (add_other x k j n (not_bit x k e)))
    go false e false q = rw (with_beyond w x k (ltb-false k w q))

pub has_without_same : (w x k : ℕ) → k < w → has (without_of w x k) k ≡ false
has_without_same w x k l = go (has x k) refl
  where
    go : (b : Bool) → has x k ≡ b → has (without_of w x k) k ≡ false
    go true e = rw (without_member w x k l e) (bit_not (x - 2 ^ k) k (sub_same x k (has_bit x k e)))
    go false e = rw (without_absent w x k e) e

pub has_without_other : (w x k j : ℕ) → j ≢ k → has (without_of w x k) j ≡ has x j
has_without_other w x k j n = go (has x k) refl (ltb k w) refl
  where
    go : (b : Bool) → has x k ≡ b → (c : Bool) → ltb k w ≡ c → has (without_of w x k) j ≡ has x j
    go false e c q = rw (without_absent w x k e)
    go true e true q = rw (without_member w x k (ltb-true k w q) e) (has_of_bit (x - 2 ^ k) x j (sub_other x k j n (has_bit x k e)))
    go true e false q = rw (without_beyond w x k (ltb-false k w q))

-- as one equation each: j is k, or was a member; j is not k, and was a member
pub has_with : (w x k j : ℕ) → k < w → has (with_of w x k) j ≡ (eqb j k || has x j)
has_with w x k j l = go (eqb j k) refl
  where
    go : (b : Bool) → eqb j k ≡ b → has (with_of w x k) j ≡ (b || has x j)
    go true e = rw (eqb-true j k e) (has_with_same w x k l)
    go false e = has_with_other w x k j (eqb-false j k e)

pub has_without : (w x k j : ℕ) → k < w → has (without_of w x k) j ≡ (not (eqb j k) && has x j)
has_without w x k j l = go (eqb j k) refl
  where
    go : (b : Bool) → eqb j k ≡ b → has (without_of w x k) j ≡ (not b && has x j)
    go true e = rw (eqb-true j k e) (has_without_same w x k l)
    go false e = has_without_other w x k j (eqb-false j k e)

-- ---- bounds

pub with_below : (w x k : ℕ) → x < 2 ^ w → with_of w x k < 2 ^ w
with_below w x k h = go (has x k) refl (ltb k w) refl
  where
    go : (b : Bool) → has x k ≡ b → (c : Bool) → ltb k w ≡ c → with_of w x k < 2 ^ w
    go true e c q = rw (with_member w x k e) h
    go false e true q = rw (with_new w x k (ltb-true k w q) e) (add_below w x k (ltb-true k w q) (not_bit x k e) h)
    go false e false q = rw (with_beyond w x k (ltb-false k w q)) h

pub without_le : (w x k : ℕ) → without_of w x k ≤ x
unfolding without_of
without_le w x k = go (ltb k w) (has x k)
  where
    go : (c b : Bool) → cond c (cond b (x - 2 ^ k) x) x ≤ x
    go true true = omega arith
    go true false = omega arith
    go false b = omega arith

pub without_below : (w x k : ℕ) → x < 2 ^ w → without_of w x k < 2 ^ w
without_below w x k h = lt_of_le_of_lt (without_le w x k) h

-- taking a member out makes the number smaller: a measure for a loop that takes members out
pub without_less : (w x k : ℕ) → k < w → has x k ≡ true → without_of w x k < x
without_less w x k l e =
    let p : zero < 2 ^ k = pow_pos k in
    let q : 2 ^ k ≤ x = bit_weighs x k (has_bit x k e) in
    rw (without_member w x k l e) (omega arith)

-- ---- there and back

pub without_with : (w x k : ℕ) → k < w → has x k ≡ false → without_of w (with_of w x k) k ≡ x
without_with w x k l e =
    without_member w (with_of w x k) k l (has_with_same w x k l) ∙ ap (λ (y : ℕ). y - 2 ^ k) (with_new w x k l e) ∙ omega arith

pub with_without : (w x k : ℕ) → k < w → has x k ≡ true → with_of w (without_of w x k) k ≡ x
with_without w x k l e =
    let q : 2 ^ k ≤ x = bit_weighs x k (has_bit x k e) in
    with_new w (without_of w x k) k l (has_without_same w x k l) ∙ ap (λ (y : ℕ). y + 2 ^ k) (without_member w x k l e) ∙ omega arith
