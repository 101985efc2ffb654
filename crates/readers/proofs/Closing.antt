-- What a plan's first steps hold, found by a walk back from a place: an unlock closes the nearest lock before it that is not closed yet. The walk
-- carries the number of unlocks that still close something, and goes past as many of the sections held where it stands.
-- Assumes nothing.
use Prim.Native.Nat.{ℕ, zero, suc, ◌+◌, ◌-◌, ◌≤◌, ◌<◌, min}
use mathlib.Core.Path.{◌≡◌, refl, ap, ◌∙◌}
use mathlib.Core.Logic.{◌≢◌}
use mathlib.Core.Bool.{Bool, true, false}
use mathlib.Core.List.{List, [], ◌∷◌, map}
use native.Mathlib.Numerals.{add-one}
use native.Mathlib.Omega.{arith}
use lib.Dec.{ltb}
use borrow.Author.Tests.{ltb-true, ltb-false}
use lib.ListN.{length, drop}
use lib.Seq.{take_all}
use Rattle.std.specs.Prelude.{None, Some}
use Rattle.std.specs.List.{fold}
use Rattle.numbers.proofs.Tests.{never}
use Rattle.sets.specs.Member.{width, with_of}
use Rattle.table.specs.Table.{Step, lock, unlock}
use Rattle.table.specs.Held.{Section, held_after, held_by, held_set}
use Rattle.table.proofs.Plans.{held_step, held_start}
use Rattle.readers.specs.Read.{task_in, step_in, locked_by}
use Rattle.readers.proofs.Raw.{plan_step}
use Rattle.readers.proofs.Gathered.{fold_with}

-- ---- the walk: at its start, for each kind of step, and at its end

-- A place past the plan's end holds what its end holds.
pub walk_start : (plan : List Step) (k : ℕ) → held_by plan (min k (length plan)) ≡ held_by plan k
walk_start plan k = go (ltb (length plan) k) refl
  where
    go : (t : Bool) → ltb (length plan) k ≡ t → held_by plan (min k (length plan)) ≡ held_by plan k
    go true e =
        let past : length plan < k = ltb-true (length plan) k e in
        let end : min k (length plan) ≡ length plan = omega arith in
        rw (end, take_all k plan (omega arith), take_all (length plan) plan (omega arith))
    go false e =
        let within : k ≤ length plan = ltb-false (length plan) k e in
        let same : min k (length plan) ≡ k = omega arith in
        rw same

module _ (ws : List ℕ) (left : ℕ) (some : 0 < left) (there : left ≤ length (task_in ws).plan) where
  last : held_by (task_in ws).plan left ≡ held_after (step_in ws (left - 1)) (held_by (task_in ws).plan (left - 1))
  last =
      let back : suc (left - 1) ≡ left = omega arith in
      let before : left - 1 < length (task_in ws).plan = omega arith in
      rw back at (held_step (task_in ws).plan (left - 1) before)
      ∙ ap (λ (s : Step). held_after s (held_by (task_in ws).plan (left - 1))) (plan_step ws (left - 1) before)

  -- a lock that no unlock closes: it is around what the steps behind it hold
  pub walk_found : (closing : ℕ) {r : ℕ} → closing ≡ 0 → locked_by (step_in ws (left - 1)) ≡ Some r
      → (l : ℕ) × (drop closing (held_by (task_in ws).plan left) ≡ record { resource = r; length = l } ∷ held_by (task_in ws).plan (left - 1))
  walk_found closing {r} none e = rw (none, last) (go (step_in ws (left - 1)) e)
    where
      go : (s : Step) → locked_by s ≡ Some r
          → (l : ℕ) × (held_after s (held_by (task_in ws).plan (left - 1)) ≡ record { resource = r; length = l } ∷ held_by (task_in ws).plan (left - 1))
      go (lock q l) e = (l, let same : q ≡ r = cc in rw same)
      go unlock e = never (cc)

  -- one that the nearest unlock behind it closes
  pub walk_closed : (closing : ℕ) {r : ℕ} → closing ≢ 0 → locked_by (step_in ws (left - 1)) ≡ Some r
      → drop (closing - 1) (held_by (task_in ws).plan (left - 1)) ≡ drop closing (held_by (task_in ws).plan left)
  walk_closed zero some_closing e = absurd (some_closing refl)
  walk_closed (suc n) {r} some_closing e =
      let less : suc n - 1 ≡ n = omega arith in
      rw (last, less) (go (step_in ws (left - 1)) e)
    where
      go : (s : Step) → locked_by s ≡ Some r → drop n (held_by (task_in ws).plan (left - 1)) ≡ drop (suc n) (held_after s (held_by (task_in ws).plan (left - 1)))
      go (lock q l) e = refl
      go unlock e = never (cc)

  -- an unlock
  pub walk_unlock : (closing : ℕ) → locked_by (step_in ws (left - 1)) ≡ None
      → drop (closing + 1) (held_by (task_in ws).plan (left - 1)) ≡ drop closing (held_by (task_in ws).plan left)
  walk_unlock closing e = rw (last, add-one closing) (go (step_in ws (left - 1)) e)
    where
      after : (n : ℕ) (held : List Section) → drop (suc n) held ≡ drop n (held_after unlock held)
      after zero [] = refl
      after (suc n) [] = refl
      after n (s ∷ held) = refl

      go : (s : Step) → locked_by s ≡ None → drop (suc closing) (held_by (task_in ws).plan (left - 1)) ≡ drop closing (held_after s (held_by (task_in ws).plan (left - 1)))
      go (lock q l) e = never (cc)
      go unlock e = after closing (held_by (task_in ws).plan (left - 1))

pub walk_end : (plan : List Step) (closing left : ℕ) → left ≡ 0 → drop closing (held_by plan left) ≡ []
walk_end plan closing left start = rw (start, held_start plan) (go closing)
  where
    go : (n : ℕ) → ◌≡◌ {A = List Section} (drop n []) []
    go zero = refl
    go (suc n) = refl

-- what the loop goes by
pub ruleset walk_steps = (walk_start, walk_closed, walk_unlock, walk_end)

-- ---- what is held, as a set: the resources come to it from the innermost on

-- a set, and the held resources that are still to come to it
abbrev pub held_on : ℕ → List Section → ℕ
held_on set held = fold (with_of width) set (map (λ (s : Section). s.resource) held)

pub held_all : (held : List Section) → held_on 0 held ≡ held_set held
unfolding held_set
held_all [] = refl
held_all (s ∷ held) =
    fold_with width 0 s.resource (map (λ (s : Section). s.resource) held) ∙ ap (λ (set : ℕ). with_of width set s.resource) (held_all held)
