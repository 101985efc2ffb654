-- `show`: "One line for the clock, then one for each ready job by rising task number" (docs/SCRIPT.md), read off a state. Assumes nothing.
use Rattle.std.specs.Prelude.{ℕ, zero, suc, cond, List, [], ◌++◌, ltb}
use Rattle.sets.specs.Member.{has}
use Rattle.table.specs.Table.{Step, Table, task_of}
use Rattle.table.specs.Held.{held_by, held_set}
use Rattle.table.specs.Innermost.{innermost_of}
use Rattle.table.specs.Map.{table_at, map_of, next_of}
use Rattle.table.specs.Limits.{most_tasks}
use Rattle.table.specs.declared.Next.{Next}
use Rattle.table.specs.declared.Next.TheVariants as next
use Rattle.machine.specs.Order.{row_of}
use Rattle.machine.specs.declared.Job.{Job}
use Rattle.machine.specs.declared.Kept.{Kept}
use Rattle.dispatch.specs.State.{words_in}
use Rattle.dispatch.specs.declared.State.{State}
use Rattle.lines.specs.Lines.{line, clock_text, job_text}
use Rattle.lines.specs.declared.Doing.{Doing}
use Rattle.lines.specs.declared.Doing.TheVariants.{Lock, Unlock, Finish}

-- "`next` is the job's next step: `lock R`, `unlock R` (the innermost one that it holds) or `finish`."
abbrev pub doing_by : Next → ℕ → Doing
doing_by (next.Lock r l) inner = Lock r
doing_by next.Unlock inner = Unlock inner
doing_by next.Finish inner = Finish

abbrev pub doing_at : List Step → ℕ → Doing
doing_at plan place = doing_by (next_of plan place) (innermost_of (held_by plan place))

-- The line of the job of task i, whose plan and row are given.
abbrev pub row_text : ℕ → List Step → Job → List ℕ
row_text i plan job =
    line (job_text i job.base job.active job.number (held_set (held_by plan job.place)) (doing_at plan job.place))

-- The line of task i, if its job is ready.
unfoldable pub task_text : Table → Kept → ℕ → List ℕ
task_text t kept i = cond (has kept.ready i) (row_text i (task_of t i).plan (row_of kept i)) []

-- The lines of n tasks from i on, "by rising task number".
unfoldable pub jobs_text : ℕ → ℕ → Table → Kept → List ℕ
jobs_text zero i t kept = []
jobs_text (suc n) i t kept = task_text t kept i ++ jobs_text n (suc i) t kept

-- The same line as the code writes it, of a job that is ready: a task that is not there has none.
abbrev pub ready_text : Table → Kept → ℕ → List ℕ
ready_text t kept i = cond (ltb i most_tasks) (row_text i (task_of t i).plan (row_of kept i)) []

-- The clock, and the jobs.
abbrev pub lines_text : Table → Kept → List ℕ
lines_text t kept = line (clock_text kept.clock) ++ jobs_text most_tasks 0 t kept

unfoldable pub show_text : State → List ℕ
show_text s = lines_text (table_at (words_in s) (map_of (words_in s))) s.kept
