-- Who is before whom, and who runs (document 01, "The machine's rules"). Assumes nothing.
use Rattle.std.specs.Prelude.{ℕ, zero, suc, ◌<◌, ◌≡◌, Bool, cond, ◌&&◌, ◌||◌, [], ltb, eqb, get_or, Option, Some, None}
use Rattle.sets.specs.Member.{has}
use Rattle.table.specs.Limits.{most_tasks}
use Rattle.machine.specs.declared.Job.{Job}
use Rattle.machine.specs.declared.Kept.{Kept}

-- What stands in a row that isn't there.
abbrev pub no_job : Job
no_job = record { base = 0; active = 0; number = 0; place = 0; saved = []; last = 0 }

-- The row of task i.
abbrev pub row_of : Kept → ℕ → Job
row_of kept i = get_or kept.rows i no_job

-- First by the deadline and then by the release: deadline d of the job that was released as number x, against deadline e of number y. The one order of
-- jobs: by the active deadline it says who runs, by the base deadline who is blocked. Its laws: proofs/Sooner.
pub data Sooner (d x e y : ℕ) : Type 0 where
  by_deadline : d < e → Sooner d x e y
  by_release : d ≡ e → x < y → Sooner d x e y

-- The same as a test (law `sooner_test`, and back `test_sooner`).
abbrev pub is_sooner : ℕ → ℕ → ℕ → ℕ → Bool
is_sooner d x e y = ltb d e || (eqb d e && ltb x y)

-- "the earliest active deadline. Among equals it is the one whose release was accepted first"
abbrev pub Earlier : Job → Job → Type 0
Earlier x y = Sooner x.active x.number y.active y.number

abbrev pub is_earlier : Job → Job → Bool
is_earlier x y = is_sooner x.active x.number y.active y.number

-- Task i against the best so far: it has to be ready, and earlier.
abbrev pub better : Kept → ℕ → Option ℕ → Option ℕ
better kept i None = cond (has kept.ready i) (Some i) None
better kept i (Some b) = cond (has kept.ready i && is_earlier (row_of kept i) (row_of kept b)) (Some i) (Some b)

-- The best of `left` tasks from task i on and of the best before them.
unfoldable pub best_from : ℕ → ℕ → Kept → Option ℕ → Option ℕ
best_from zero i kept best = best
best_from (suc left) i kept best = best_from left (suc i) kept (better kept i best)

-- "The running job is the ready one with the earliest active deadline." That it is, by `Earlier`, is law `who_least` (proofs/Order).
unfoldable pub who_runs : Kept → Option ℕ
who_runs kept = best_from most_tasks 0 kept None
