-- The laws of a list that is filled up with zeros (`padded`), and of what a map with such starts reads.
-- Assumes nothing.
use mathlib.Core.Path.{◌≡◌, refl, ap, ap₂}
use mathlib.Core.List.{List, [], ◌∷◌, ◌++◌}
use Prim.Native.Nat.{ℕ, zero, suc, ◌+◌, ◌-◌, ◌≤◌, ◌<◌}
use native.Mathlib.Nat.{not-suc-le-zero, le_of_suc-le-suc, suc-sub-suc, sub-zero}
use native.Mathlib.Omega.{arith}
use lib.ListN.{length, get_or, take, replicate}
use Rattle.table.specs.Table.{Task}
use Rattle.table.specs.Map.{task_at, tasks_at, padded}

pub padded_length : (k : ℕ) (xs : List ℕ) → length (padded k xs) ≡ k
unfolding padded
padded_length zero xs = refl
padded_length (suc k) [] = ap suc (padded_length k [])
padded_length (suc k) (x ∷ xs) = ap suc (padded_length k xs)

-- Below its length a padded list reads as the list itself, zero where that has ended.
pub padded_at : (k : ℕ) (xs : List ℕ) (i : ℕ) → i < k → get_or (padded k xs) i 0 ≡ get_or xs i 0
unfolding padded
padded_at zero xs i h = absurd (not-suc-le-zero h)
padded_at (suc k) [] zero h = refl
padded_at (suc k) [] (suc i) h = padded_at k [] i (le_of_suc-le-suc h)
padded_at (suc k) (x ∷ xs) zero h = refl
padded_at (suc k) (x ∷ xs) (suc i) h = padded_at k xs i (le_of_suc-le-suc h)

pub padded_none : (k : ℕ) → padded k [] ≡ replicate k 0
unfolding padded
padded_none zero = refl
padded_none (suc k) = ap {B = List ℕ} (λ (x : List ℕ). 0 ∷ x) (padded_none k)

pub padded_append : (k : ℕ) (xs : List ℕ) → length xs ≤ k → padded k xs ≡ xs ++ replicate (k - length xs) 0
unfolding padded
padded_append k [] h = rw sub-zero (padded_none k)
padded_append zero (x ∷ xs) h = absurd (not-suc-le-zero h)
padded_append (suc k) (x ∷ xs) h =
    rw suc-sub-suc (ap {B = List ℕ} (λ (y : List ℕ). x ∷ y) (padded_append k xs (le_of_suc-le-suc h)))

pub padded_take : (k : ℕ) (xs : List ℕ) → length xs ≤ k → take (length xs) (padded k xs) ≡ xs
unfolding padded
padded_take k [] h = refl
padded_take zero (x ∷ xs) h = absurd (not-suc-le-zero h)
padded_take (suc k) (x ∷ xs) h = ap {B = List ℕ} (λ (y : List ℕ). x ∷ y) (padded_take k xs (le_of_suc-le-suc h))

-- Tasks are read off padded starts as off the starts.
pub tasks_padded : (left i k : ℕ) (ws starts : List ℕ) → i + left ≤ k → tasks_at left i ws (padded k starts) ≡ tasks_at left i ws starts
unfolding tasks_at
tasks_padded zero i k ws starts h = refl
tasks_padded (suc left) i k ws starts h =
    ap₂ {C = List Task} (λ (x : ℕ) (rest : List Task). task_at ws x ∷ rest) (padded_at k starts i (omega arith))
    (tasks_padded left (suc i) k ws starts (omega arith))
