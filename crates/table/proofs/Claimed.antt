-- What is left at each level, which the check goes by, and the sums of the lengths there, which `Valid` and `Broken` go by, are two ways to say the same
-- (`Balanced`): what was claimed and what is left make up the room. A step that isn't crowded keeps it so. Assumes nothing.
use Prim.Native.Nat.{ℕ, ◌+◌, ◌-◌, ◌≤◌, ◌<◌}
use mathlib.Core.Path.{◌≡◌, refl}
use mathlib.Core.Bool.{Bool, true, false}
use mathlib.Core.List.{List, [], ◌∷◌}
use native.Mathlib.Omega.{arith}
use lib.Dec.{eqb}
use lib.ListN.{drop}
use borrow.Author.Tests.{ltb-true, ltb-false, le-ltb, eqb-true}
use Rattle.numbers.proofs.Tests.{never}
use Rattle.table.specs.Table.{Step, lock, unlock}
use Rattle.table.specs.Spare.{spare_here, spare_after, crowded}
use Rattle.table.specs.Claims.{Level, unclaimed, claiming, level_here, levels_after, Over, Fitting, opens, closes}
use Rattle.table.specs.Check.{step_said}

pub data Balanced : List Level → List ℕ → Type 0 where
  none : Balanced [] []
  more : {level : Level} {levels : List Level} {s : ℕ} {spare : List ℕ} → level.claimed + s ≡ level.room → Balanced levels spare →
      Balanced (level ∷ levels) (s ∷ spare)

-- Before the first step.
pub balanced_first : (c : ℕ) → Balanced (unclaimed c ∷ []) (c ∷ [])
balanced_first c = more {level = unclaimed c} {s = c} (omega arith) none

pub balanced_here : {levels : List Level} {spare : List ℕ} → Balanced levels spare → (level_here levels).claimed + spare_here spare ≡ (level_here levels).room
balanced_here none = refl
balanced_here (more e b) = e

balanced_around : {levels : List Level} {spare : List ℕ} → Balanced levels spare → Balanced (drop 1 levels) (drop 1 spare)
balanced_around none = none
balanced_around (more e b) = b

-- What a lock that isn't crowded finds.
pub lock_fits : (r l : ℕ) {levels : List Level} {spare : List ℕ} → Balanced levels spare → crowded (lock r l) spare ≡ false →
    (level_here levels).claimed + l ≤ (level_here levels).room
lock_fits r l {levels} {spare} b e =
    let h : l ≤ spare_here spare = ltb-false (spare_here spare) l e in
    let here = balanced_here b in
    omega arith

-- And where it fits it isn't crowded.
pub fits_lock : (r l : ℕ) {levels : List Level} {spare : List ℕ} → Balanced levels spare → (level_here levels).claimed + l ≤ (level_here levels).room →
    crowded (lock r l) spare ≡ false
fits_lock r l {levels} {spare} b h =
    let here = balanced_here b in
    le-ltb (spare_here spare) l (omega arith)

pub balanced_after : (step : Step) {levels : List Level} {spare : List ℕ} → Balanced levels spare → crowded step spare ≡ false →
    Balanced (levels_after step levels) (spare_after step spare)
balanced_after (lock r l) {levels} {spare} b e =
    let h : l ≤ spare_here spare = ltb-false (spare_here spare) l e in
    let here = balanced_here b in
    more {level = unclaimed l} {s = l} (omega arith) (more {level = claiming (level_here levels) l} {s = spare_here spare - l} (omega arith) (balanced_around b))
balanced_after unlock b e = balanced_around b

-- One step more at the front of a plan that fits.
pub fits_more : (step : Step) {levels : List Level} {spare : List ℕ} {steps : List Step} → Balanced levels spare → crowded step spare ≡ false →
    Fitting (levels_after step levels) steps → Fitting levels (step ∷ steps)
fits_more (lock r l) b e f = opens (lock_fits r l b e) f
fits_more unlock b e f = closes f

-- What CROWDED tells.
pub record Overfull (kind l : ℕ) (levels : List Level) : Type 0 where
  pub locks : kind ≡ 1
  pub over : Over l (level_here levels)

pub crowded_over : (kind r l : ℕ) {levels : List Level} {spare : List ℕ} → Balanced levels spare → crowded (step_said kind r l) spare ≡ true → Overfull kind l levels
crowded_over kind r l {levels} {spare} b e = go (eqb kind 1) refl
  where
    go : (t : Bool) → eqb kind 1 ≡ t → Overfull kind l levels
    go true q =
        let h : spare_here spare < l = ltb-true (spare_here spare) l (rw q at e) in
        let here = balanced_here b in
        record { locks = eqb-true kind 1 q; over = omega arith }
    go false q =
        let z : ◌≡◌ {A = Bool} false true = rw q at e in
        never (cc)
