-- `Whole::unlocked` meets its contract: the size of the held set is the depth, and it is not 0. Assumes nothing.
use mathlib.Core.Path.{ap, ◌∙◌}
use native.Mathlib.Omega.{arith}
use Rattle.sets.specs.Member.{size_of}
use Rattle.readers.specs.Read.{table_in}
use Rattle.dispatch.proofs.After.{unlocked_is}
use Rattle.dispatch.proofs.Held.{not_torn, sections_held}
use Rattle.dispatch.proofs.whole.Whole.unlocked.Goals as goal

-- In the answers `held` is what the running job's unlock counts on.
pub overflow_sub-depth : goal.overflow_sub-depth
overflow_sub-depth c =
    let w = c.args.self.now in
    let held = sections_held (table_in w.table) w.kept.now c.args.task (not_torn w) c.requires.0 c.requires.1 in
    let depth = c.size-depth.ensures ∙ ap size_of c.held.ensures ∙ held.size in
    let some = c.requires.2 in
    omega arith

pub restore-requires : goal.restore-requires
restore-requires c =
    let w = c.args.self.now in
    let held = sections_held (table_in w.table) w.kept.now c.args.task (not_torn w) c.requires.0 c.requires.1 in
    let depth = c.size-depth.ensures ∙ ap size_of c.held.ensures ∙ held.size in
    let some = c.requires.2 in
    let most = held.most in
    let place = held.place in
    (omega arith, omega arith)

pub returns : goal.returns
returns c =
    let w = c.args.self.now in
    let held = sections_held (table_in w.table) w.kept.now c.args.task (not_torn w) c.requires.0 c.requires.1 in
    unlocked_is (table_in w.table) w.kept.now c.args.task c.args.time _ _ c.with_row.ensures c.size-depth.result c.restore.ensures
    (c.size-depth.ensures ∙ ap size_of c.held.ensures ∙ held.size)
