-- A test asked of each of a list's items or of a set's members below a number. Assumes nothing.
use Prim.Native.Nat.{ℕ, zero, suc, ◌+◌, ◌≤◌}
use native.Mathlib.Omega.{arith}
use mathlib.Core.Path.{◌≡◌, refl, sym, ap, ap₂, ◌∙◌}
use mathlib.Core.Bool.{Bool, true, false, ◌&&◌, ◌||◌, or_assoc}
use mathlib.Core.List.{List, [], ◌∷◌}
use lib.Dec.{ltb}
use lib.ListN.{length, get_or}
use Rattle.std.specs.List.{list_any, range_with_len}
use Rattle.std.proofs.Math.Bool.{or-false}
use Rattle.sets.specs.Member.{has}
use Rattle.numbers.specs.Any.{any_below}
use Rattle.numbers.proofs.Any.{any_ext, any_cut}

-- ---- a test of each item

-- The lowest number goes first.
any_first : (n : ℕ) (test : ℕ → Bool) → any_below (suc n) test ≡ (test zero || any_below n (λ i. test (suc i)))
unfolding any_below
any_first zero test = sym (or-false (test zero))
any_first (suc n) test = ap (λ (b : Bool). b || test (suc n)) (any_first n test) ∙ or_assoc (test zero) (any_below n (λ i. test (suc i))) (test (suc n))

pub any_items : {A : Type 0} (xs : List A) (d : A) (test : A → Bool) → list_any test xs ≡ any_below (length xs) (λ i. test (get_or xs i d))
unfolding any_below
any_items [] d test = refl
any_items (x ∷ xs) d test =
    ap (λ (b : Bool). test x || b) (any_items xs d test) ∙ sym (any_first (length xs) (λ i. test (get_or (x ∷ xs) i d)))

-- ---- a test of each number below n

any_from : (left i : ℕ) (test : ℕ → Bool) → list_any test (range_with_len i left) ≡ any_below left (λ k. test (i + k))
unfolding any_below
any_from zero i test = refl
any_from (suc left) i test =
    ap₂ (λ (a b : Bool). a || b) (ap test (let e : i ≡ i + 0 = omega arith in e))
    (any_from left (i + 1) test ∙ any_ext left (λ k. test (i + 1 + k)) (λ k. test (i + suc k)) (λ k _. ap test (omega arith)))
    ∙ sym (any_first left (λ k. test (i + k)))

pub any_range : (n : ℕ) (test : ℕ → Bool) → list_any test (range_with_len 0 n) ≡ any_below n test
any_range n test = any_from n 0 test ∙ any_ext n (λ k. test (0 + k)) test (λ k _. ap test (omega arith))

-- ---- a test of the members below n

pub any_members_below : (n m x : ℕ) (test : ℕ → Bool) → n ≤ m → any_below m (λ i. has x i && (ltb i n && test i)) ≡ any_below n (λ i. has x i && test i)
any_members_below n m x test l =
    any_ext m (λ i. has x i && (ltb i n && test i)) (λ i. ltb i n && (has x i && test i)) (λ i _. turned (has x i) (ltb i n) (test i))
    ∙ sym (any_cut n m (λ i. has x i && test i) l)
  where
    turned : (a b d : Bool) → (a && (b && d)) ≡ (b && (a && d))
    turned true true d = refl
    turned true false d = refl
    turned false true d = refl
    turned false false d = refl
