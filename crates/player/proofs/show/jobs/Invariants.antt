-- `player::show::jobs` meets its contract. The loop's invariant: whatever lays the lines of the members still to come where the loop stands has laid all of them,
-- and that is within the room. Assumes nothing.
use Rattle.std.proofs.Common.{ℕ, ◌≤◌, List, length}
use Rattle.std.specs.List.{flat_map}
use Rattle.sets.specs.Member.{width, members}
use Rattle.table.specs.Limits.{most_tasks}
use Rattle.readers.specs.Read.{table_in}
use Rattle.text.specs.Room.{Laid}
use Rattle.player.specs.Show.{ready_text, jobs_text}
use Rattle.player.proofs.show.jobs.Given as goal

abbrev pub invariant-loop-task : goal.invariant-loop-task
invariant-loop-task l = record {
  within : l.at ≤ length l.out;
  left : (b : List ℕ) (to : ℕ) → Laid (flat_map (ready_text (table_in l.table) l.kept) (members width l.task-iterator.rest)) l.out l.at b to →
      Laid (jobs_text most_tasks 0 (table_in l.table) l.kept) l.initial.out 0 b to;
}
