-- "P is the least common multiple of the periods, and the common multiple is reached through Euclid's rule." (document 01, "The verdict")
-- That it is the least one is the theorem `multiple_is_least`. Assumes nothing.
use Rattle.std.specs.Prelude.{ℕ, zero, suc, ◌*◌, ◌/◌, ◌%◌, ◌≤◌, ◌<◌, true, false, List, [], ◌∷◌, Option, Some, None, cond, eqb, ltb}
use Rattle.std.specs.Int.{◌∣◌}
use Rattle.table.specs.Limits.{most_multiple}
use Rattle.table.specs.Table.{Task, Table, tasks_of, task_of}

-- Euclid's rule: of a and 0 it is a; of a and b it is that of b and the remainder of a by b, which is less than b. So b calls are enough.
unfoldable pub divisor_in : ℕ → ℕ → ℕ → ℕ
divisor_in zero a b = a
divisor_in (suc calls) a b = elim (eqb b 0) [ true ↦ a | false ↦ divisor_in calls b (a % b) ]

-- The greatest common divisor.
abbrev pub divisor_of : ℕ → ℕ → ℕ
divisor_of a b = divisor_in b a b

-- The least common multiple of two numbers.
unfoldable pub multiple_of : ℕ → ℕ → ℕ
multiple_of a b = a / divisor_of a b * b

-- .. of a number and the periods of some tasks.
unfoldable pub multiple_with : ℕ → List Task → ℕ
multiple_with p [] = p
multiple_with p (task ∷ tasks) = multiple_with (multiple_of p task.T) tasks

-- P
abbrev pub multiple : Table → ℕ
multiple table = multiple_with 1 table.tasks

-- P where it is at most 1,000,000.
abbrev pub limited : ℕ → Option ℕ
limited p = cond (ltb most_multiple p) None (Some p)

-- What P is: a common multiple of the periods, and no other is less.
abbrev pub CommonMultiple : Table → ℕ → Type 0
CommonMultiple table p = (1 ≤ p) × ((i : ℕ) → i < tasks_of table → (task_of table i).T ∣ p)

pub record LeastCommonMultiple (table : Table) (p : ℕ) : Type 0 where
  pub common : CommonMultiple table p
  pub least : (m : ℕ) → CommonMultiple table m → p ≤ m
