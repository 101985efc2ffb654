-- Who runs, as a reply says it: who runs is named with its active deadline, and who is named runs. Assumes nothing.
use Prim.Native.Nat.{ℕ}
use mathlib.Core.Path.{◌≡◌, refl, ap, ◌∙◌}
use Rattle.std.specs.Prelude.{Option, Some, None}
use Rattle.numbers.proofs.Tests.{never}
use Rattle.machine.specs.Order.{row_of, who_runs}
use Rattle.machine.specs.Reply.{runs, idle}
use Rattle.machine.specs.Machine.{turn_of}
use Rattle.machine.specs.declared.Kept.{Kept}

pub turn_idle : (kept : Kept) → who_runs kept ≡ None → turn_of kept ≡ idle
unfolding turn_of
turn_idle kept e = rw (e, turn_of)

pub turn_runs : (kept : Kept) (i : ℕ) → who_runs kept ≡ Some i → turn_of kept ≡ runs i (row_of kept i).active
unfolding turn_of
turn_runs kept i e = rw (e, turn_of)

pub turn_told : (kept : Kept) (i deadline : ℕ) → turn_of kept ≡ runs i deadline → (who_runs kept ≡ Some i) × (deadline ≡ (row_of kept i).active)
turn_told kept i deadline e = go (who_runs kept) refl
  where
    go : (who : Option ℕ) → who_runs kept ≡ who → (who_runs kept ≡ Some i) × (deadline ≡ (row_of kept i).active)
    go None q = never (cc (turn_idle kept q))
    go (Some k) q =
        let same : k ≡ i = cc (turn_runs kept k q) in
        let at : deadline ≡ (row_of kept k).active = cc (turn_runs kept k q) in
        (q ∙ ap Some same, at ∙ ap (λ (j : ℕ). (row_of kept j).active) same)
