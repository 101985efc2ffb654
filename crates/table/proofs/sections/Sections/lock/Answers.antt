-- `Sections::lock` meets its contract, by the laws `lock_keeps` and `lock_read`. Assumes nothing.
use mathlib.Core.Path.{◌≡◌, sym, ◌∙◌}
use mathlib.Core.Bool.{false}
use Rattle.table.specs.Check.{broken_lock}
use Rattle.table.specs.Walk.{sections_in}
use Rattle.table.proofs.Levels.{kept_in, lock_keeps, lock_read}
use Rattle.table.proofs.sections.Sections.lock.Goals as goal

pub invariant_of-result : goal.invariant_of-result
invariant_of-result c = let a = c.args in
    let s = a.self in
    let free : broken_lock a.resource a.length (sections_in s) ≡ false = sym c.broken_lock.ensures ∙ c.if-broken_lock.false in
    let k = lock_keeps s.set s.depth s.sections s.spare (kept_in s) a.resource a.length free c.with.result c.with.ensures c.requires in
    record { places = k.places; levels = k.levels; room = k.room; held = k.held; apart = k.apart }

pub returns : goal.returns
returns c = let a = c.args in
    let s = a.self in
    let free : broken_lock a.resource a.length (sections_in s) ≡ false = sym c.broken_lock.ensures ∙ c.if-broken_lock.false in
    lock_read s.set s.depth s.sections s.spare (kept_in s) a.resource a.length free a.at (sym c.crowded_lock.ensures ∙ c.if-crowded_lock.false)
