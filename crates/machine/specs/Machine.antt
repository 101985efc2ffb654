-- Document 01's machine: what each of its rules does to what is kept, over a table. Assumes nothing.
use Rattle.std.specs.Prelude.{ℕ, ◌+◌, ◌-◌, min, List, ℤ, pos, ◌-ℤ◌, length, get_or, set, replicate, Some, None}
use Rattle.sets.specs.Member.{width, with_of, without_of}
use Rattle.table.specs.Limits.{most_tasks, most_held}
use Rattle.table.specs.Table.{Table, task_of}
use Rattle.table.specs.Held.{Section, held_by}
use Rattle.table.specs.Floor.{floor_of}
use Rattle.table.specs.Map.{next_of}
use Rattle.table.specs.declared.Next.{Next}
use Rattle.machine.specs.Order.{row_of, who_runs}
use Rattle.machine.specs.Reply.{Turn, runs, idle}
use Rattle.machine.specs.Fields.{with_base, with_active, with_number, with_place, with_saved, with_clock, with_count, with_ready, with_had, with_row}
use Rattle.machine.specs.declared.Job.{Job}
use Rattle.machine.specs.declared.Kept.{Kept}

-- Four saved deadlines, none in use.
abbrev pub none_saved : List ℕ
none_saved = replicate most_held 0

-- A task's row with no job: "A finish sets the job's numbers to zero, all but the task's last release."
abbrev pub no_job_since : ℕ → Job
no_job_since last = record {
  base = 0;
  active = 0;
  number = 0;
  place = 0;
  saved = none_saved;
  last = last;
}

-- "A fresh state has clock 0, no jobs and no releases."
abbrev pub fresh : Kept
fresh = record {
  clock = 0;
  count = 0;
  ready = 0;
  had = 0;
  rows = replicate most_tasks (no_job_since 0);
}

-- "A release of task i at time t makes a job with base deadline t + D." "Its active deadline starts equal to the base (002, section 5)." "An accepted
-- release gives its job, as release number, the count of accepted releases before it."
abbrev pub new_job : ℕ → ℕ → ℕ → Job
new_job deadline number time = with_base deadline (with_active deadline (with_number number (no_job_since time)))

-- "An accepted event sets the clock to its time."
unfoldable pub released : Table → Kept → ℕ → ℕ → Kept
released table kept i time =
    with_clock time
    (with_count (kept.count + 1)
    (with_ready (with_of width kept.ready i)
    (with_had (with_of width kept.had i)
    (with_row i (new_job (time + (task_of table i).D) kept.count time) kept))))

-- What the job of task i holds, innermost first: "What a job holds is read from its plan and place."
abbrev pub held_of : Table → Kept → ℕ → List Section
held_of table kept i = held_by (task_of table i).plan (row_of kept i).place

-- The next step of task i's job.
abbrev pub next_in : Table → Kept → ℕ → Next
next_in table kept i = next_of (task_of table i).plan (row_of kept i).place

-- "A lock at time t sets the active deadline to the smaller of its present value and t + floor." The value from before goes into the slot of its depth.
abbrev pub lowered : ℕ → ℕ → Job → Job
lowered depth deadline job =
    with_active (min job.active deadline) (with_place (job.place + 1) (with_saved (set job.saved depth job.active) job))

unfoldable pub locked : Table → Kept → ℕ → ℕ → ℕ → Kept
locked table kept i r time =
    with_clock time (with_row i (lowered (length (held_of table kept i)) (time + floor_of table r) (row_of kept i)) kept)

-- "The unlock brings back the value from before that lock." Its slot is free again.
abbrev pub restored : ℕ → Job → Job
restored slot job =
    with_active (get_or job.saved slot 0) (with_place (job.place + 1) (with_saved (set job.saved slot 0) job))

unfoldable pub unlocked : Table → Kept → ℕ → ℕ → Kept
unlocked table kept i time = with_clock time (with_row i (restored (length (held_of table kept i) - 1) (row_of kept i)) kept)

-- A finish: the job is ready no more, and its row is cleared.
unfoldable pub cleared : Kept → ℕ → ℕ → Kept
cleared kept i time =
    with_clock time (with_ready (without_of width kept.ready i) (with_row i (no_job_since (row_of kept i).last) kept))

-- "A finish answers the lateness: time minus base deadline, signed."
unfoldable pub lateness : ℕ → ℕ → ℤ
lateness time base = pos time -ℤ pos base

-- "'runs' with task number and active deadline, or 'idle'"
unfoldable pub turn_of : Kept → Turn
turn_of kept = elim (who_runs kept) [ Some i ↦ runs i (row_of kept i).active | None ↦ idle ]
