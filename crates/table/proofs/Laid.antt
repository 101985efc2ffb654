-- The steps of a plan as they lie (`steps_at`), one by one, and what they hold, and which levels are open, with one step more. Assumes nothing.
use Prim.Native.Nat.{ℕ, zero, suc, ◌+◌, ◌*◌, ◌<◌}
use mathlib.Core.Path.{◌≡◌, refl, ap, ◌∙◌}
use mathlib.Core.List.{List, [], ◌∷◌, ◌++◌}
use native.Mathlib.Nat.{not-suc-le-zero, le_of_suc-le-suc}
use native.Mathlib.Omega.{arith}
use lib.ListN.{length, get_or}
use Rattle.table.specs.Limits.{step_size, at_resource, at_length}
use Rattle.table.specs.Table.{Step, unlock}
use Rattle.table.specs.Held.{Section, held_after, held_from}
use Rattle.table.specs.Claims.{Level, levels_after, levels_from}
use Rattle.table.specs.Check.{step_said}
use Rattle.table.specs.Map.{steps_at}

pub steps_length : (n : ℕ) (ws : List ℕ) (at : ℕ) → length (steps_at n ws at) ≡ n
unfolding steps_at
steps_length zero ws at = refl
steps_length (suc n) ws at = ap suc (steps_length n ws (at + step_size))

-- the step whose words start at a place
abbrev pub step_at : List ℕ → ℕ → Step
step_at ws at = step_said (get_or ws at 0) (get_or ws (at + at_resource) 0) (get_or ws (at + at_length) 0)

pub step_at_lem : (n k : ℕ) (ws : List ℕ) (at : ℕ) → k < n → get_or (steps_at n ws at) k unlock ≡ step_at ws (at + step_size * k)
unfolding steps_at
step_at_lem zero k ws at l = absurd (not-suc-le-zero l)
step_at_lem (suc n) zero ws at l =
    let e : at ≡ at + step_size * zero = omega arith in
    ap (step_at ws) e
step_at_lem (suc n) (suc k) ws at l =
    let e : at + step_size + step_size * k ≡ at + step_size * suc k = omega arith in
    step_at_lem n k ws (at + step_size) (le_of_suc-le-suc l) ∙ ap (step_at ws) e

-- ---- one step more

held_append : (held : List Section) (steps : List Step) (s : Step) → held_from held (steps ++ (s ∷ [])) ≡ held_after s (held_from held steps)
unfolding held_from
held_append held [] s = refl
held_append held (q ∷ steps) s = held_append (held_after q held) steps s

levels_append : (levels : List Level) (steps : List Step) (s : Step) → levels_from levels (steps ++ (s ∷ [])) ≡ levels_after s (levels_from levels steps)
unfolding levels_from
levels_append levels [] s = refl
levels_append levels (q ∷ steps) s = levels_append (levels_after q levels) steps s

steps_snoc : (n : ℕ) (ws : List ℕ) (at : ℕ) → steps_at (suc n) ws at ≡ steps_at n ws at ++ (step_at ws (at + step_size * n) ∷ [])
unfolding steps_at
steps_snoc zero ws at =
    let e : at ≡ at + step_size * zero = omega arith in
    ap (λ (place : ℕ). step_at ws place ∷ []) e
steps_snoc (suc n) ws at =
    let e : at + step_size + step_size * n ≡ at + step_size * suc n = omega arith in
    ap (λ (steps : List Step). step_at ws at ∷ steps) (steps_snoc n ws (at + step_size) ∙ ap (λ (place : ℕ). steps_at n ws (at + step_size) ++ (step_at ws place ∷ [])) e)

-- What the first steps hold, from a place on.
pub held_none : (ws : List ℕ) (at : ℕ) → held_from [] (steps_at zero ws at) ≡ []
unfolding steps_at held_from
held_none ws at = refl

pub held_more : (ws : List ℕ) (at n : ℕ) → held_from [] (steps_at (suc n) ws at) ≡ held_after (step_at ws (at + step_size * n)) (held_from [] (steps_at n ws at))
held_more ws at n = ap (held_from []) (steps_snoc n ws at) ∙ held_append [] (steps_at n ws at) (step_at ws (at + step_size * n))

-- And the levels that they leave open.
pub levels_none : (levels : List Level) (ws : List ℕ) (at : ℕ) → levels_from levels (steps_at zero ws at) ≡ levels
unfolding steps_at levels_from
levels_none levels ws at = refl

pub levels_more : (levels : List Level) (ws : List ℕ) (at n : ℕ) →
    levels_from levels (steps_at (suc n) ws at) ≡ levels_after (step_at ws (at + step_size * n)) (levels_from levels (steps_at n ws at))
levels_more levels ws at n = ap (levels_from levels) (steps_snoc n ws at) ∙ levels_append levels (steps_at n ws at) (step_at ws (at + step_size * n))
