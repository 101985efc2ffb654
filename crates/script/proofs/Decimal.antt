-- Reading and writing a number are inverse. What is written of n reads as n, for every n; and what a word of digits reads as is written as that word, if the
-- word is one that can be written: not empty, and without a leading zero unless it is `0` itself. By induction on the digits. Assumes nothing.
use Prim.Native.Nat.{ℕ, zero, suc, ◌+◌, ◌*◌, ◌-◌, ◌/◌, ◌%◌, ◌≤◌, ◌<◌}
use mathlib.Core.Path.{◌≡◌, refl, sym, ap, ◌∙◌}
use mathlib.Core.Bool.{Bool, true, false, ◌&&◌, true≢false}
use mathlib.Core.List.{List, [], ◌∷◌, ◌++◌, append-nil}
use native.Mathlib.Omega.{arith}
use borrow.Author.Tests.{ltb-true, ltb-false, le-leb, leb-true}
use lib.Dec.{ltb, leb}
use lib.Seq.{append_snoc}
use Rattle.text.specs.Decimal.{digits_in, digits}
use Rattle.text.proofs.Digits.{digits_low, digits_high}
use Rattle.script.specs.Signs.{is_digit}
use Rattle.script.specs.Number.{digits_only, value_from, value_of, number_said}
use Rattle.std.specs.Prelude.{Ok}

-- What digits say behind others, and one more digit.
value_append : (v : ℕ) (x y : List ℕ) → value_from v (x ++ y) ≡ value_from (value_from v x) y
unfolding value_from
value_append v [] y = refl
value_append v (c ∷ x) y = value_append (v * 10 + (c - 48)) x y

value_last : (x : List ℕ) (d : ℕ) → value_of (x ++ ((48 + d) ∷ [])) ≡ value_of x * 10 + d
unfolding value_from
value_last x d =
    let same : 48 + d - 48 ≡ d = omega arith in
    value_append 0 x ((48 + d) ∷ []) ∙ (rw same)

value_one : (d : ℕ) → value_of ((48 + d) ∷ []) ≡ d
unfolding value_from
value_one d = omega arith

-- What is written of n reads as n.
read_below : (k n : ℕ) → n < k → value_of (digits n) ≡ n
read_below zero n h = absurd (omega arith)
read_below (suc k) n h = go (ltb n 10) refl (read_below k (n / 10))
  where
    go : (t : Bool) → ltb n 10 ≡ t → (n / 10 < k → value_of (digits (n / 10)) ≡ n / 10) → value_of (digits n) ≡ n
    go true e rest = rw (digits_low n (ltb-true n 10 e)) (value_one n)
    go false e rest =
        let high : 10 ≤ n = ltb-false n 10 e in
        rw (digits_high n high) (value_last (digits (n / 10)) (n % 10) ∙ (rw (rest (omega arith)) (omega arith)))

pub read_digits : (n : ℕ) → value_of (digits n) ≡ n
read_digits n = read_below (suc n) n (omega arith)

-- And it has digits only, so it is read at all.
only_append : (x y : List ℕ) → digits_only x ≡ true → digits_only y ≡ true → digits_only (x ++ y) ≡ true
unfolding digits_only
only_append [] y g h = h
only_append (c ∷ x) y g h = go (is_digit c) g (only_append x y)
  where
    go : (t : Bool) → (t && digits_only x) ≡ true → (digits_only x ≡ true → digits_only y ≡ true → digits_only (x ++ y) ≡ true) →
        (t && digits_only (x ++ y)) ≡ true
    go true g rest = rest g h
    go false g rest = g

only_one : (d : ℕ) → d < 10 → digits_only ((48 + d) ∷ []) ≡ true
unfolding digits_only
only_one d h = rw (le-leb 48 (48 + d) (omega arith), le-leb (48 + d) 57 (omega arith))

only_below : (k n : ℕ) → n < k → digits_only (digits n) ≡ true
only_below zero n h = absurd (omega arith)
only_below (suc k) n h = go (ltb n 10) refl (only_below k (n / 10))
  where
    go : (t : Bool) → ltb n 10 ≡ t → (n / 10 < k → digits_only (digits (n / 10)) ≡ true) → digits_only (digits n) ≡ true
    go true e rest = rw (digits_low n (ltb-true n 10 e)) (only_one n (ltb-true n 10 e))
    go false e rest =
        let high : 10 ≤ n = ltb-false n 10 e in
        rw (digits_high n high) (only_append (digits (n / 10)) ((48 + n % 10) ∷ []) (rest (omega arith)) (only_one (n % 10) (omega arith)))

pub digits_digits : (n : ℕ) → digits_only (digits n) ≡ true
digits_digits n = only_below (suc n) n (omega arith)

-- A number that is written is read back, wherever it has room.
pub read_back : (most n : ℕ) → n ≤ most → number_said most (digits n) ≡ Ok n
read_back most n h = rw (digits_digits n, read_digits n, le-leb n most h)

-- What a word of digits without a leading zero reads as is written as that word.
one_more_lem : (v d : ℕ) → 0 < v → d < 10 → digits (v * 10 + d) ≡ digits v ++ ((48 + d) ∷ [])
one_more_lem v d g h =
    let front : (v * 10 + d) / 10 ≡ v = omega arith in
    let last : (v * 10 + d) % 10 ≡ d = omega arith in
    digits_high (v * 10 + d) (omega arith) ∙ (rw (front, last))

digit_is : (c : ℕ) → is_digit c ≡ true → (48 ≤ c) × (c ≤ 57)
digit_is c = go (leb 48 c) (leb c 57) refl refl
  where
    go : (a b : Bool) → leb 48 c ≡ a → leb c 57 ≡ b → (a && b) ≡ true → (48 ≤ c) × (c ≤ 57)
    go true true e f h = (leb-true 48 c e, leb-true c 57 f)
    go true false e f h = absurd (true≢false (sym h))
    go false b e f h = absurd (true≢false (sym h))

only_cons : (c : ℕ) (w : List ℕ) → digits_only (c ∷ w) ≡ true → (is_digit c ≡ true) × (digits_only w ≡ true)
unfolding digits_only
only_cons c w = go (is_digit c)
  where
    go : (t : Bool) → (t && digits_only w) ≡ true → (t ≡ true) × (digits_only w ≡ true)
    go true h = (refl, h)
    go false h = absurd (true≢false (sym h))

behind : (v : ℕ) (w : List ℕ) → 0 < v → digits_only w ≡ true → digits (value_from v w) ≡ digits v ++ w
unfolding value_from
behind v [] g h = sym (append-nil (digits v))
behind v (c ∷ w) g h =
    let d = digit_is c (only_cons c w h).0 in
    let back : 48 + (c - 48) ≡ c = omega (arith, d.0) in
    behind (v * 10 + (c - 48)) w (omega arith) (only_cons c w h).1 ∙
    ap (λ (l : List ℕ). l ++ w) (one_more_lem v (c - 48) g (omega (arith, d.1))) ∙
    ap (λ (x : ℕ). digits v ++ (x ∷ []) ++ w) back ∙
    append_snoc (digits v) c w

pub written_back : (c : ℕ) (w : List ℕ) → digits_only (c ∷ w) ≡ true → 48 < c → digits (value_of (c ∷ w)) ≡ c ∷ w
unfolding value_from
written_back c w h g =
    let d = digit_is c (only_cons c w h).0 in
    let first : 0 * 10 + (c - 48) ≡ c - 48 = omega arith in
    let back : 48 + (c - 48) ≡ c = omega arith in
    rw first (behind (c - 48) w (omega arith) (only_cons c w h).1 ∙
    ap (λ (l : List ℕ). l ++ w) (digits_low (c - 48) (omega (arith, d.1))) ∙
    ap (λ (x : ℕ). x ∷ w) back)

pub zero_back : digits (value_of (48 ∷ [])) ≡ 48 ∷ []
unfolding value_from digits digits_in
zero_back = refl
