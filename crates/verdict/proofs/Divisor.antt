-- Euclid's rule finds the greatest common divisor: `divisor_of a b` divides both, and every common divisor divides it. For all a and b.
-- The idea: whoever divides b divides a exactly when it divides the remainder of a by b, so no call changes the common divisors.
-- Assumes nothing.
use Prim.Native.Nat.{ℕ, zero, suc, ◌≤◌, ◌<◌, ◌%◌, ◌∣◌}
use mathlib.Core.Path.{◌≡◌, refl, ◌∙◌}
use mathlib.Core.Logic.{◌≢◌, ⊎_elim}
use native.Mathlib.Nat.{dvd_refl, dvd-zero, dvd-mod_iff, dvd_antisymm, mod-lt, eq-zero-or-pos, ne_of_gt, le_refl, pos_of_dvd_of_pos}
use native.Mathlib.Omega.{arith}
use borrow.Author.Tests.{ne_eqb}
use Rattle.verdict.specs.Multiple.{divisor_in, divisor_of}

-- ---- the rule's two cases

divisor_end : (calls a : ℕ) → divisor_in calls a 0 ≡ a
unfolding divisor_in
divisor_end zero a = refl
divisor_end (suc calls) a = refl

divisor_call : (calls a b : ℕ) → b ≢ 0 → divisor_in (suc calls) a b ≡ divisor_in calls b (a % b)
unfolding divisor_in
divisor_call calls a b n = rw (ne_eqb b 0 n, divisor_in)

-- ---- with calls enough it divides both

pub record Common (d a b : ℕ) : Type 0 where
  pub left : d ∣ a
  pub right : d ∣ b

common_end : (calls a b : ℕ) → b ≡ 0 → Common (divisor_in calls a b) a b
common_end calls a b e = rw (e, divisor_end calls a) (record { left = dvd_refl a; right = dvd-zero a })

common_in : (calls a b : ℕ) → b ≤ calls → Common (divisor_in calls a b) a b
common_in zero a b l = common_end zero a b (omega arith)
common_in (suc calls) a b l =
    ⊎_elim (common_end (suc calls) a b) (λ p. go p (common_in calls b (a % b) (less p))) (eq-zero-or-pos b)
  where
    less : zero < b → a % b ≤ calls
    less p = omega (arith, mod-lt a p)

    go : zero < b → Common (divisor_in calls b (a % b)) b (a % b) → Common (divisor_in (suc calls) a b) a b
    go p c =
        rw (divisor_call calls a b (ne_of_gt p))
        (record { left = (dvd-mod_iff (divisor_in calls b (a % b)) c.left).0 c.right; right = c.left })

-- .. and every common divisor divides it, whatever the calls
greatest_in : (calls d a b : ℕ) → d ∣ a → d ∣ b → d ∣ divisor_in calls a b
greatest_in zero d a b p q = unfold divisor_in in p
greatest_in (suc calls) d a b p q =
    ⊎_elim ends (λ l. goes l (greatest_in calls d b (a % b) q ((dvd-mod_iff d q).1 p))) (eq-zero-or-pos b)
  where
    ends : b ≡ 0 → d ∣ divisor_in (suc calls) a b
    ends e = rw (e, divisor_end (suc calls) a) p

    goes : zero < b → d ∣ divisor_in calls b (a % b) → d ∣ divisor_in (suc calls) a b
    goes l r = rw (divisor_call calls a b (ne_of_gt l)) r

-- ---- the greatest common divisor

pub divisor_common : (a b : ℕ) → Common (divisor_of a b) a b
divisor_common a b = common_in b a b (le_refl b)

pub divisor_left : (a b : ℕ) → divisor_of a b ∣ a
divisor_left a b = (divisor_common a b).left

pub divisor_right : (a b : ℕ) → divisor_of a b ∣ b
divisor_right a b = (divisor_common a b).right

pub divisor_greatest : (d a b : ℕ) → d ∣ a → d ∣ b → d ∣ divisor_of a b
divisor_greatest d a b p q = greatest_in b d a b p q

-- there is no other such number
pub divisor_unique : (d a b : ℕ) → Common d a b → ((e : ℕ) → e ∣ a → e ∣ b → e ∣ d) → d ≡ divisor_of a b
divisor_unique d a b c g = dvd_antisymm (divisor_greatest d a b c.left c.right) (g (divisor_of a b) (divisor_left a b) (divisor_right a b))

-- more calls than are needed find the same
pub divisor_calls : (calls a b : ℕ) → b ≤ calls → divisor_in calls a b ≡ divisor_of a b
divisor_calls calls a b l = divisor_unique (divisor_in calls a b) a b (common_in calls a b l) (λ e p q. greatest_in calls e a b p q)

pub divisor_pos : (a b : ℕ) → zero < b → zero < divisor_of a b
divisor_pos a b l = pos_of_dvd_of_pos (divisor_right a b) l

-- ---- Euclid's rule, of `divisor_of` itself

pub divisor_zero : (a : ℕ) → divisor_of a 0 ≡ a
divisor_zero a = divisor_end 0 a

pub divisor_rest : (a b : ℕ) → b ≢ 0 → divisor_of a b ≡ divisor_of b (a % b)
divisor_rest a zero n = absurd (n refl)
divisor_rest a (suc b) n =
    divisor_call b a (suc b) n ∙ divisor_calls b (suc b) (a % suc b) (omega (arith, mod-lt a {m = suc b} (omega arith)))
