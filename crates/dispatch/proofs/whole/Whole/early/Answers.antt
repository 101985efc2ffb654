-- `Whole::early` meets its contract: the sum of a stored time and a period does not wrap. Assumes nothing.
use native.Mathlib.Omega.{arith}
use Rattle.torn.proofs.Untorn.{untorn, last_most}
use Rattle.dispatch.proofs.Held.{not_torn}
use Rattle.dispatch.proofs.whole.Whole.early.Goals as goal

pub overflow_add-result : goal.overflow_add-result
overflow_add-result c =
    let w = c.args.self.now in
    let last = last_most w.kept.now c.args.task (untorn _ _ (not_torn w).untorn).times c.requires in
    omega arith
