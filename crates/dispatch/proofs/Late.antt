-- The difference of two times below 2^41 is a signed number of 64 bits. Assumes nothing.
use Prim.Native.Nat.{ℕ, zero, suc, ◌-◌, ◌<◌, ◌^◌}
use native.Mathlib.Omega.{arith}
use mathlib.Core.Path.{◌≡◌, sym, subst, ◌∙◌}
use mathlib.Core.Bool.{Bool, true, false, cond}
use lib.Dec.{ltb}
use lib.IntN.{ℤ, pos, negsuc, ◌-ℤ◌}
use lib.Signed.{mag}
use mir.Syntax.{w64}
use mir.Val.{SFits, to_z, of_z}
use mir.ValLaws.{to_z_pos, to_z-of_z}

difference_mag : (a b : ℕ) → a < 2 ^ 41 → b < 2 ^ 41 → mag (pos a -ℤ pos b) < 2 ^ 63
difference_mag a zero ha hb = omega arith
difference_mag a (suc k) ha hb = go (ltb a (suc k))
  where
    go : (t : Bool) → mag (cond t (negsuc (suc k - suc a)) (pos (a - suc k))) < 2 ^ 63
    go true = omega arith
    go false = omega arith

pub difference_fits : (a b : ℕ) → a < 2 ^ 41 → b < 2 ^ 41 → SFits w64 (pos a -ℤ pos b)
difference_fits a b ha hb = record { sfits = difference_mag a b ha hb }

-- What the code computes: both times read as signed numbers, and their difference.
pub as_signed : (a b : ℕ) → a < 2 ^ 41 → b < 2 ^ 41 → to_z w64 a -ℤ to_z w64 b ≡ pos a -ℤ pos b
as_signed a b ha hb = rw (to_z_pos w64 a (omega arith), to_z_pos w64 b (omega arith))

pub signed_fits : (a b : ℕ) → a < 2 ^ 41 → b < 2 ^ 41 → SFits w64 (to_z w64 a -ℤ to_z w64 b)
signed_fits a b ha hb = subst (λ (z : ℤ). SFits w64 z) (sym (as_signed a b ha hb)) (difference_fits a b ha hb)

pub signed_difference : (a b : ℕ) → a < 2 ^ 41 → b < 2 ^ 41 → to_z w64 (of_z w64 (to_z w64 a -ℤ to_z w64 b)) ≡ pos a -ℤ pos b
signed_difference a b ha hb = to_z-of_z w64 _ (signed_fits a b ha hb) ∙ as_signed a b ha hb
