-- `Whole::locked` meets its contract: the size of the held set is the depth. Assumes nothing.
use mathlib.Core.Path.{ap, ◌∙◌}
use native.Mathlib.Omega.{arith}
use Rattle.sets.specs.Member.{size_of}
use Rattle.readers.specs.Read.{table_in}
use Rattle.dispatch.proofs.After.{locked_is}
use Rattle.dispatch.proofs.Held.{not_torn, sections_held}
use Rattle.dispatch.proofs.whole.Whole.locked.Goals as goal

-- In the answers `held` is what the running job's lock counts on.
pub lower-requires : goal.lower-requires
lower-requires c =
    let w = c.args.self.now in
    let held = sections_held (table_in w.table) w.kept.now c.args.task (not_torn w) c.requires.0 c.requires.1 in
    let depth = c.size-depth.ensures ∙ ap size_of c.held.ensures ∙ held.size in
    let slot = c.requires.2 in
    let place = held.place in
    (omega arith, omega arith)

pub returns : goal.returns
returns c =
    let w = c.args.self.now in
    let held = sections_held (table_in w.table) w.kept.now c.args.task (not_torn w) c.requires.0 c.requires.1 in
    locked_is (table_in w.table) w.kept.now c.args.task c.args.time _ _ c.with_row.ensures c.args.resource c.size-depth.result c.from-floor.result c.lower.ensures
    (c.size-depth.ensures ∙ ap size_of c.held.ensures ∙ held.size)
    (c.from-floor.ensures ∙ c.floor.ensures)
