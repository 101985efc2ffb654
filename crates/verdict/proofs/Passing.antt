-- What `find` over `0..=end` finds, by a closure that tests `h` and changes nothing: the first number that passes, or that none does.
-- Assumes nothing.
use Prim.Native.Nat.{ℕ, ◌+◌, ◌≤◌, ◌<◌}
use mathlib.Core.Path.{◌≡◌, refl, sym, subst, ap, ◌∙◌}
use mathlib.Core.Bool.{Bool, true, false}
use native.Mathlib.Nat.{zero-add}
use native.Mathlib.Omega.{arith}
use denote.Ref.{Bor}
use denote.Param.Members.{Mut}
use Rattle.std.proofs.Common.{Option, Some, None, MatchOption, IfSome, IsSomeAnd, IsTrue}
use Rattle.std.proofs.iter.runs.Sources.{nat_range_inclusive_steps, inclusive_listed}
use Rattle.std.specs.declared.ops.RangeInclusive.{RangeInclusive}
use Rattle.std.specs.Fn.{CalledAt}
use Rattle.std.specs.Iterator.Runs.{Run, SomeRun, CallKeepsClosure, ItemsCountUp, NoItemPasses, EndsAtFirstPassing}
use Rattle.std.specs.Range.{range_inclusive_start, range_inclusive_end, range_inclusive_exhausted}
use Rattle.std.proofs.lemmas.Iterator.Adapters.{option_map_id}

-- the first up to `end` that passes
pub record FirstPassing (h : ℕ → Bool) (end t : ℕ) : Type 0 where
  pub within : t ≤ end
  pub passes : h t ≡ true
  pub before : (u : ℕ) → u < t → h u ≡ false

module _ {F : Type 0} (g : Mut F (Bor ℕ × Unit {0}) Bool) (f : F) (h : ℕ → Bool) (end : ℕ)
    (tests : (x : ℕ) (b : Bool) (q : F) → CalledAt g f x b q → (q ≡ f) × (b ≡ h x)) where
  keeps : CallKeepsClosure g f
  keeps a b q called = (tests a.0.now b q (record { shown = a.0; shows = refl; called = called })).0

  module _ (u : Run nat_range_inclusive_steps) (up : ItemsCountUp u 0 (end + 1)) where
    there : (k : ℕ) → k < u.len → u.at k ≡ Some k
    there k l = sym (option_map_id (u.at k)) ∙ up.3 k l ∙ ap Some (zero-add k)

    none : u.whole ≡ true → NoItemPasses u g f → (t : ℕ) → t ≤ end → h t ≡ false
    none whole passed t l =
        let called : CalledAt g f t false f = subst (λ (o : Option ℕ). IfSome o (λ x. CalledAt g f x false f)) (there t (omega (arith, up.1 whole))) (passed keeps t) in
        sym (tests t false f called).1

    some : (x : ℕ) → EndsAtFirstPassing u g f x → FirstPassing h end x
    some x (i, len, at, calls) =
        let place : (x ≡ 0 + i) × (x < end + 1) = subst (λ (o : Option ℕ). IfSome o (λ y. (y ≡ 0 + i) × (y < end + 1))) at (up.2 i) in
        record {
          within = omega arith;
          passes = sym (tests x true f (calls keeps).0).1;
          before = λ k l.
              let called : CalledAt g f k false f = subst (λ (o : Option ℕ). IsSomeAnd o (λ y. CalledAt g f y false f)) (there k (omega arith)) ((calls keeps).1 k (omega arith)) in
              sym (tests k false f called).1;
        }

  counts : (s : RangeInclusive ℕ) (u : Run nat_range_inclusive_steps) → range_inclusive_start s ≡ 0 → range_inclusive_end s ≡ end →
      range_inclusive_exhausted s ≡ false → u.from ≡ s → ItemsCountUp u 0 (end + 1)
  counts s u start to fresh from =
      let (a, b, low, high, up) = inclusive_listed u u.seen in
      let low₀ : a ≡ 0 = low ∙ ap range_inclusive_start from ∙ start in
      let high₀ : b ≡ end + 1 = high ∙ ap (λ (x : RangeInclusive ℕ). range_inclusive_end x + 1) from ∙ ap (λ (x : ℕ). x + 1) to in
      subst (λ (x : ℕ). ItemsCountUp u 0 x) high₀ (subst (λ (x : ℕ). ItemsCountUp u x b) low₀ (up (ap range_inclusive_exhausted from ∙ fresh)).0)

  pub first_passing : (s : RangeInclusive ℕ) (r : Option ℕ) → range_inclusive_start s ≡ 0 → range_inclusive_end s ≡ end → range_inclusive_exhausted s ≡ false →
      SomeRun nat_range_inclusive_steps s (λ u. MatchOption r (IsTrue u.whole × NoItemPasses u g f) (EndsAtFirstPassing u g f)) →
      MatchOption r ((t : ℕ) → t ≤ end → h t ≡ false) (FirstPassing h end)
  first_passing s None start to fresh (u, from, ends) = none u (counts s u start to fresh from) ends.0 ends.1
  first_passing s (Some x) start to fresh (u, from, ends) = some u (counts s u start to fresh from) x ends
