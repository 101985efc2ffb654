-- `dispatch::start::stored` meets its contract. Assumes nothing.
use mathlib.Core.Path.{ap, ◌∙◌}
use mathlib.Core.List.{List, ◌++◌}
use Prim.Native.Nat.{ℕ}
use lib.ListN.{length, drop, replicate}
use Rattle.table.specs.Limits.{room}
use Rattle.dispatch.proofs.Store.{over_zeros}
use Rattle.dispatch.proofs.start.stored.Goals as goal

pub returns : goal.returns
returns c =
    let words = c.args.words.now in
    ap (λ (xs : List ℕ). xs ++ drop (length words) (replicate room 0)) c.copy_from_slice.ensures.after ∙ over_zeros room words c.requires
