-- A list's words in the state's room: they go over its first ones, and the room behind them stays 0. Assumes nothing.
use Prim.Native.Nat.{ℕ, zero, suc, ◌≤◌}
use native.Mathlib.Nat.{not-suc-le-zero, le_of_suc-le-suc}
use native.Mathlib.Omega.{arith}
use mathlib.Core.Path.{◌≡◌, refl, ap}
use mathlib.Core.List.{List, [], ◌∷◌, ◌++◌}
use lib.ListN.{length, drop, replicate}
use Rattle.table.specs.Map.{padded}

pub over_zeros : (k : ℕ) (ws : List ℕ) → length ws ≤ k → ws ++ drop (length ws) (replicate k 0) ≡ padded k ws
unfolding padded
over_zeros zero [] l = refl
over_zeros zero (w ∷ ws) l = absurd (not-suc-le-zero l)
over_zeros (suc k) [] l = ap (λ (xs : List ℕ). 0 ∷ xs) (over_zeros k [] (omega arith))
over_zeros (suc k) (w ∷ ws) l = ap (λ (xs : List ℕ). w ∷ xs) (over_zeros k ws (le_of_suc-le-suc l))
