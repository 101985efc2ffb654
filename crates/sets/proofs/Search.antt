-- A test of a set's members. Assumes nothing.
use Prim.Native.Nat.{ℕ}
use mathlib.Core.Bool.{Bool, ◌&&◌}
use Rattle.numbers.specs.Any.{any_below}
use Rattle.sets.specs.Member.{has}

-- Some member of x below n passes the test.
abbrev pub any_member : ℕ → ℕ → (ℕ → Bool) → Bool
any_member n x test = any_below n (λ i. has x i && test i)
