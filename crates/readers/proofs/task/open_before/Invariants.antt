-- `task::open_before` meets its contract. The loop's invariant: what is held where the walk stands, but for as many sections as unlocks are still
-- to close one, is what is held at the place. Assumes nothing.
use Prim.Native.Nat.{◌+◌, ◌≤◌, min}
use mathlib.Core.Path.{◌≡◌}
use lib.ListN.{length, drop}
use Rattle.table.specs.Held.{held_by}
use Rattle.readers.specs.Read.{task_in}
use Rattle.readers.proofs.task.open_before.Given as goal

abbrev pub invariant-loop-k : goal.invariant-loop-k
invariant-loop-k l = record {
  within : l.closing + l.k ≤ min l.place (length (task_in l.words).plan);
  held : drop l.closing (held_by (task_in l.words).plan l.k) ≡ held_by (task_in l.words).plan l.place;
}
