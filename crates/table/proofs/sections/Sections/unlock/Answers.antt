-- `Sections::unlock` meets its contract, by the laws `unlock_keeps` and `unlock_read`. Assumes nothing.
use Rattle.table.proofs.Levels.{kept_in, unlock_keeps, unlock_read}
use Rattle.table.proofs.sections.Sections.unlock.Goals as goal

pub invariant_of-result : goal.invariant_of-result
invariant_of-result c = let s = c.args.self in
    let k = unlock_keeps s.set s.depth s.sections s.spare (kept_in s) c.if-self-eq0.false c.without.result c.without.ensures in
    record { places = k.places; levels = k.levels; room = k.room; held = k.held; apart = k.apart }

pub returns : goal.returns
returns c = let s = c.args.self in
    unlock_read s.set s.depth s.sections s.spare (kept_in s) c.if-self-eq0.false c.args.at
