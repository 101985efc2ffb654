-- `task::innermost` meets its contract: where a lock is open before the place, its section is the innermost that is held there. Assumes nothing.
use Prim.Native.Nat.{ℕ}
use mathlib.Core.Path.{◌≡◌}
use mathlib.Core.List.{List}
use Rattle.std.specs.Prelude.{Option, None, Some, MatchOption}
use Rattle.std.proofs.Common.{rules}
use Rattle.table.specs.Table.{Step}
use Rattle.table.specs.Held.{held_by}
use Rattle.table.specs.Innermost.{open_at, innermost_of}
use Rattle.readers.specs.Read.{task_in, OpenBefore}
use Rattle.readers.specs.declared.task.Open.{Open}
use Rattle.readers.proofs.task.innermost.Goals as goal

innermost_found : (plan : List Step) (place : ℕ) (found : Option Open) (r : ℕ) → OpenBefore plan place found
    → MatchOption found (r ≡ 0) (λ found. r ≡ found.resource) → r ≡ innermost_of (held_by plan place)
unfolding open_at
innermost_found plan place None r held e = rw held e
innermost_found plan place (Some found) r held e = rw held.1.1 e

pub returns : goal.returns
returns c =
    innermost_found (task_in c.args.words.now).plan c.args.place c.open_before.result c.map_or.result c.open_before.ensures (search rules)
