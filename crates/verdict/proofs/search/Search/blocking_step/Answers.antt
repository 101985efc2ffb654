-- `search::Search::blocking_step` meets its contract: a lock counts by the floor of its resource, which stands at the resource's place; an unlock, and
-- what isn't there, count nothing.
-- Assumes nothing.
use Prim.Native.Nat.{ℕ, ◌≤◌, ◌<◌}
use mathlib.Core.Path.{◌≡◌, sym, subst, ap, ◌∙◌}
use mathlib.Core.List.{List}
use native.Mathlib.Omega.{arith}
use lib.ListN.{get_or, get_or-eq_default}
use Rattle.table.specs.Table.{lock, unlock, Table, task_of}
use Rattle.table.specs.Floor.{floor_of}
use Rattle.table.specs.Map.{next_of}
use Rattle.table.specs.Valid.{Valid}
use Rattle.table.specs.declared.Next.{Next}
use Rattle.table.specs.declared.Next.TheVariants.{Lock, Unlock, Finish}
use Rattle.table.proofs.Plans.{lock_step, unlock_step, next_above}
use Rattle.verdict.specs.Blocking.{blocking_step}
use Rattle.verdict.specs.Floors.{AreFloors}
use Rattle.verdict.proofs.Blocking.{step_low, step_high}
use Rattle.verdict.proofs.Within.{sound_valid, lock_within}
use Rattle.verdict.proofs.search.Search.blocking_step.Goals as goal

module _ (table : Table) (within : Valid table) (floors : List ℕ) (all : AreFloors table floors) (task place t : ℕ)
    {next : Next} (said : next ≡ next_of (task_of table task).plan place) where
  step_is : {r l : ℕ} → next ≡ Lock r l → get_or (task_of table task).plan place unlock ≡ lock r l
  step_is e = lock_step (task_of table task).plan place (sym said ∙ e)

  floor_is : {r l : ℕ} → next ≡ Lock r l → get_or floors r 0 ≡ floor_of table r
  floor_is {r} e = all r (lock_within table within task place said e)

  counts : {r l : ℕ} → next ≡ Lock r l → get_or floors r 0 ≤ t → l ≡ blocking_step table t (get_or (task_of table task).plan place unlock)
  counts {r} {l} e h =
      sym (ap (blocking_step table t) (step_is e) ∙ step_low table t r l (subst (λ (x : ℕ). x ≤ t) (floor_is e) h))

  misses : {r l : ℕ} → next ≡ Lock r l → t < get_or floors r 0 → 0 ≡ blocking_step table t (get_or (task_of table task).plan place unlock)
  misses {r} {l} e h =
      sym (ap (blocking_step table t) (step_is e) ∙ step_high table t r l (subst (λ (x : ℕ). t < x) (floor_is e) h))

  unlocks : next ≡ Unlock → 0 ≡ blocking_step table t (get_or (task_of table task).plan place unlock)
  unlocks e = sym (ap (blocking_step table t) (unlock_step (task_of table task).plan place (sym said ∙ e)))

  finishes : next ≡ Finish → 0 ≡ blocking_step table t (get_or (task_of table task).plan place unlock)
  finishes e =
      sym (ap (blocking_step table t) (get_or-eq_default (task_of table task).plan unlock (next_above (task_of table task).plan place (sym said ∙ e))))

pub bounds-self-resource : goal.bounds-self-resource
bounds-self-resource c =
    let s = c.args.self.now in lock_within _ (sound_valid s.sound.now) c.args.task c.args.place c.next.ensures c.in-Lock.is

pub returns-in-Lock : goal.returns-in-Lock
returns-in-Lock c =
    let s = c.args.self.now in
    c.from.ensures ∙ counts _ (sound_valid s.sound.now) s.floors s.its_floors _ _ _ c.next.ensures c.in-Lock.is (omega (arith, c.if-self-resource.true))

pub returns-in_default : goal.returns-in_default
returns-in_default c =
    let s = c.args.self.now in
    misses _ (sound_valid s.sound.now) s.floors s.its_floors _ _ _ c.next.ensures c.in-Lock.is c.if-self-resource.false

pub returns-in_default-2 : goal.returns-in_default-2
returns-in_default-2 c =
    let s = c.args.self.now in
    grind (
      arith,
      unlocks _ (sound_valid s.sound.now) s.floors s.its_floors c.args.task c.args.place c.args.t c.next.ensures,
      finishes _ (sound_valid s.sound.now) s.floors s.its_floors c.args.task c.args.place c.args.t c.next.ensures,
    )
