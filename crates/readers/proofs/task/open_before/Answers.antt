-- `task::open_before` meets its contract: where the walk stands at a lock and no unlock waits, it has found the innermost that is open.
-- Assumes nothing.
use Prim.Native.Nat.{◌≤◌}
use mathlib.Core.Path.{sym, ◌∙◌}
use native.Mathlib.Omega.{arith}
use lib.ListN.{length}
use Rattle.readers.specs.Read.{task_in}
use Rattle.readers.proofs.Closing.{walk_found}
use Rattle.readers.proofs.task.open_before.Goals as goal

pub returns-in-Some : goal.returns-in-Some
returns-in-Some c =
    let ws = c.args.words.now in
    let h = c.loop-k in
    let there : h.k ≤ length (task_in ws).plan = omega (arith, h.invariant.within) in
    let found = walk_found ws h.k c.loop-k-test.true there h.closing c.if-closing-eq0.true (sym c.locked.ensures ∙ c.in-Some.is) in
    (omega (arith, h.invariant.within), (found.0, sym h.invariant.held ∙ found.1))
