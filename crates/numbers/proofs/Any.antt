-- Laws of `any_below`: what it says either way.
-- Assumes nothing.
use Prim.Native.Nat.{ℕ, zero, suc, ◌<◌, ◌≤◌}
use native.Mathlib.Nat.{not-suc-le-zero}
use native.Mathlib.Omega.{arith}
use mathlib.Core.Path.{◌≡◌, refl, sym, ap, ap₂, subst, ◌∙◌}
use mathlib.Core.Logic.{◌≢◌}
use mathlib.Core.Bool.{Bool, true, false, true≢false, ◌&&◌, ◌||◌, or_assoc}
use lib.Dec.{ltb, eqb}
use borrow.Author.Tests.{lt-ltb, ltb-true, eqb-true, eqb-false}
use Rattle.numbers.specs.Any.{any_below}
use Rattle.std.proofs.lemmas.Bool.{or_right}
use Rattle.numbers.proofs.Tests.{or_swap, and_fails}

any_suc : (n : ℕ) (test : ℕ → Bool) → any_below (suc n) test ≡ (any_below n test || test n)
unfolding any_below
any_suc n test = refl

pub any_none : (test : ℕ → Bool) → any_below zero test ≡ false
unfolding any_below
any_none test = refl

pub any_hit : (n i : ℕ) (test : ℕ → Bool) → i < n → test i ≡ true → any_below n test ≡ true
any_hit zero i test l e = absurd (not-suc-le-zero l)
any_hit (suc n) i test l e = any_suc n test ∙ go (any_hit n i test) (eqb i n) refl
  where
    go : (i < n → test i ≡ true → any_below n test ≡ true) → (b : Bool) → eqb i n ≡ b → (any_below n test || test n) ≡ true
    go rest true q = rw (subst (λ (k : ℕ). test k ≡ true) (eqb-true i n q) e) (or_right (any_below n test) true refl)
    go rest false q =
        let differ : i ≢ n = eqb-false i n q in
        rw (rest (omega arith) e)

-- ---- what it says, either way

pub any_ext : (n : ℕ) (s t : ℕ → Bool) → ((i : ℕ) → i < n → s i ≡ t i) → any_below n s ≡ any_below n t
any_ext zero s t e = any_none s ∙ sym (any_none t)
any_ext (suc n) s t e =
    any_suc n s ∙ ap₂ (λ (a b : Bool). a || b) (any_ext n s t (λ i l. e i (omega arith))) (e n (omega arith)) ∙ sym (any_suc n t)

pub any_false : (n : ℕ) (test : ℕ → Bool) → ((i : ℕ) → i < n → test i ≡ false) → any_below n test ≡ false
any_false zero test e = any_none test
any_false (suc n) test e = rw (any_suc, any_false n test (λ i l. e i (omega arith)), e n (omega arith))

pub any_not : (n : ℕ) (test : ℕ → Bool) → any_below n test ≡ false → (i : ℕ) → i < n → test i ≡ false
any_not n test e i l = go (test i) refl
  where
    go : (b : Bool) → test i ≡ b → test i ≡ false
    go true t = absurd (true≢false (sym (any_hit n i test l t) ∙ e))
    go false t = t

-- A number below n that passes.
pub record Below (n : ℕ) (test : ℕ → Bool) : Type 0 where
  pub at : ℕ
  pub below : at < n
  pub passes : test at ≡ true

pub some_below : (n : ℕ) (test : ℕ → Bool) → any_below n test ≡ true → Below n test
unfolding any_below
some_below zero test h = absurd (true≢false (sym h))
some_below (suc n) test h = go (any_below n test) refl (some_below n test) h
  where
    go : (b : Bool) → any_below n test ≡ b → (any_below n test ≡ true → Below n test) → (b || test n) ≡ true → Below (suc n) test
    go true e rest h = let r : Below n test = rest e in record { at = r.at; below = omega arith; passes = r.passes }
    go false e rest h = record { at = n; below = omega arith; passes = h }

-- ---- two tests in one pass

-- One of two tests holds of some number exactly when the first does of some or the second does of some.
pub any_or : (n : ℕ) (s t : ℕ → Bool) → any_below n (λ i. s i || t i) ≡ (any_below n s || any_below n t)
unfolding any_below
any_or zero s t = refl
any_or (suc n) s t = ap (λ (b : Bool). b || (s n || t n)) (any_or n s t) ∙ pairs (any_below n s) (any_below n t) (s n) (t n)
  where
    pairs : (a b c d : Bool) → ((a || b) || (c || d)) ≡ ((a || c) || (b || d))
    pairs a b c d = or_assoc a b (c || d) ∙ ap (λ (x : Bool). a || x) (or_swap b c d) ∙ sym (or_assoc a c (b || d))

-- A pass over more numbers has to ask which are meant.
pub any_cut : (n m : ℕ) (test : ℕ → Bool) → n ≤ m → any_below n test ≡ any_below m (λ i. ltb i n && test i)
any_cut n m test l = go (any_below n test) refl
  where
    go : (b : Bool) → any_below n test ≡ b → any_below n test ≡ any_below m (λ i. ltb i n && test i)
    go true e =
        let r : Below n test = some_below n test e in
        e ∙ sym (any_hit m r.at (λ i. ltb i n && test i) (omega arith) (rw (lt-ltb r.at n r.below, r.passes)))
    go false e = e ∙ sym (any_false m (λ i. ltb i n && test i) (λ i _. and_fails (ltb i n) (test i) (λ h. any_not n test e i (ltb-true i n h))))
