-- Members that come to a set one by one: their order does not matter. Assumes nothing.
use Prim.Native.Nat.{ℕ, ◌<◌}
use mathlib.Core.Path.{◌≡◌, refl, ap, ◌∙◌}
use mathlib.Core.Bool.{Bool, true, false}
use mathlib.Core.List.{List, [], ◌∷◌}
use lib.Dec.{ltb, eqb}
use borrow.Author.Tests.{ltb-true, ltb-false}
use Rattle.std.specs.List.{fold}
use Rattle.numbers.proofs.Tests.{or_swap}
use Rattle.sets.specs.Member.{has, with_of}
use Rattle.sets.proofs.Digit.{same_everywhere}
use Rattle.sets.proofs.Change.{with_beyond, has_with}

with_order : (w x j k : ℕ) → with_of w (with_of w x j) k ≡ with_of w (with_of w x k) j
with_order w x j k = go (ltb j w) refl (ltb k w) refl
  where
    same : j < w → k < w → (i : ℕ) → has (with_of w (with_of w x j) k) i ≡ has (with_of w (with_of w x k) j) i
    same l m i = rw (has_with w (with_of w x j) k i m, has_with w x j i l, has_with w (with_of w x k) j i l, has_with w x k i m) (or_swap (eqb i k) (eqb i j) (has x i))

    go : (b : Bool) → ltb j w ≡ b → (d : Bool) → ltb k w ≡ d → with_of w (with_of w x j) k ≡ with_of w (with_of w x k) j
    go true e true f = same_everywhere (with_of w (with_of w x j) k) (with_of w (with_of w x k) j) (same (ltb-true j w e) (ltb-true k w f))
    go true e false f = rw (with_beyond w (with_of w x j) k (ltb-false k w f), with_beyond w x k (ltb-false k w f))
    go false e d f = rw (with_beyond w x j (ltb-false j w e), with_beyond w (with_of w x k) j (ltb-false j w e))

-- who comes first may as well come last
pub fold_with : (w x k : ℕ) (ks : List ℕ) → fold (with_of w) (with_of w x k) ks ≡ with_of w (fold (with_of w) x ks) k
fold_with w x k [] = refl
fold_with w x k (j ∷ ks) = ap (λ (y : ℕ). fold (with_of w) y ks) (with_order w x k j) ∙ fold_with w (with_of w x j) k ks
