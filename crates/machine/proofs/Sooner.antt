-- The order by a deadline and then the release number: its test, and that it is strict and total on jobs with different numbers. Assumes nothing.
use Prim.Native.Nat.{ℕ, ◌≤◌, ◌<◌}
use mathlib.Core.Path.{◌≡◌, refl}
use mathlib.Core.Logic.{◌⊎◌, inl, inr}
use mathlib.Core.Bool.{Bool, true, false, ◌&&◌, ◌||◌}
use native.Mathlib.Omega.{arith}
use lib.Dec.{ltb, eqb}
use borrow.Author.Tests.{ltb-true, eqb-true, lt-ltb, eq-eqb}
use Rattle.std.proofs.lemmas.Bool.{cases_order}
use Rattle.std.proofs.lemmas.Bool.{or_left, or_right}
use Rattle.numbers.proofs.Tests.{never}
use Rattle.machine.specs.Order.{Sooner, by_deadline, by_release, is_sooner}

-- ---- the test

pub sooner_test : (d x e y : ℕ) → is_sooner d x e y ≡ true → Sooner d x e y
sooner_test d x e y = go (ltb d e) refl (eqb d e) refl (ltb x y) refl
  where
    go : (a : Bool) → ltb d e ≡ a → (b : Bool) → eqb d e ≡ b → (c : Bool) → ltb x y ≡ c → (a || (b && c)) ≡ true → Sooner d x e y
    go true p b q c r h = by_deadline (ltb-true _ _ p)
    go false p true q true r h = by_release (eqb-true _ _ q) (ltb-true _ _ r)
    go false p true q false r h = never cc
    go false p false q c r h = never cc

pub test_sooner : {d x e y : ℕ} → Sooner d x e y → is_sooner d x e y ≡ true
test_sooner {d} {x} {e} {y} (by_deadline h) = or_left (ltb d e) _ (lt-ltb _ _ h)
test_sooner {d} {x} {e} {y} (by_release h k) = or_right (ltb d e) _ (rw (eq-eqb _ _ h, lt-ltb _ _ k) refl)

-- ---- the order

pub sooner_trans : {d x e y f z : ℕ} → Sooner d x e y → Sooner e y f z → Sooner d x f z
sooner_trans (by_deadline a) (by_deadline b) = by_deadline (omega arith)
sooner_trans (by_deadline a) (by_release b k) = by_deadline (omega arith)
sooner_trans (by_release a h) (by_deadline b) = by_deadline (omega arith)
sooner_trans (by_release a h) (by_release b k) = by_release (omega arith) (omega arith)

-- No job is before itself.
pub sooner_not : {d x e : ℕ} → e ≤ d → Sooner d x e x → ⊥
sooner_not le (by_deadline a) = omega arith
sooner_not le (by_release a h) = omega arith

-- Two jobs are not each before the other.
pub sooner_one_way : {d x e y : ℕ} → Sooner d x e y → Sooner e y d x → ⊥
sooner_one_way (by_deadline a) (by_deadline b) = omega arith
sooner_one_way (by_deadline a) (by_release b k) = omega arith
sooner_one_way (by_release a h) (by_deadline b) = omega arith
sooner_one_way (by_release a h) (by_release b k) = omega arith

-- A smaller deadline comes sooner still.
pub sooner_lower : {c d x e y : ℕ} → c ≤ d → Sooner d x e y → Sooner c x e y
sooner_lower {c} {d} le (by_deadline a) = by_deadline (omega arith)
sooner_lower {c} {d} {x} {e} {y} le (by_release a h) = pick (cases_order c e)
  where
    pick : (c ≡ e) ⊎ ((c < e) ⊎ (e < c)) → Sooner c x e y
    pick (inl s) = by_release s h
    pick (inr (inl l)) = by_deadline l
    pick (inr (inr m)) = absurd (omega arith)

-- A larger one to be compared with, too.
pub sooner_higher : {d x e f y : ℕ} → e ≤ f → Sooner d x e y → Sooner d x f y
sooner_higher le (by_deadline a) = by_deadline (omega arith)
sooner_higher {d} {x} {e} {f} {y} le (by_release a h) = pick (cases_order d f)
  where
    pick : (d ≡ f) ⊎ ((d < f) ⊎ (f < d)) → Sooner d x f y
    pick (inl s) = by_release s h
    pick (inr (inl l)) = by_deadline l
    pick (inr (inr m)) = absurd (omega arith)

-- Of two jobs one is before the other, or they are one.
pub data Ordered (d x e y : ℕ) : Type 0 where
  before : Sooner d x e y → Ordered d x e y
  itself : x ≡ y → Ordered d x e y
  after : Sooner e y d x → Ordered d x e y

pub ordered : (d x e y : ℕ) → Ordered d x e y
ordered d x e y = first (cases_order d e)
  where
    second : d ≡ e → (x ≡ y) ⊎ ((x < y) ⊎ (y < x)) → Ordered d x e y
    second s (inl k) = itself k
    second s (inr (inl l)) = before (by_release s l)
    second s (inr (inr m)) = after (by_release (omega arith) m)

    first : (d ≡ e) ⊎ ((d < e) ⊎ (e < d)) → Ordered d x e y
    first (inl s) = second s (cases_order x y)
    first (inr (inl l)) = before (by_deadline l)
    first (inr (inr m)) = after (by_deadline m)
