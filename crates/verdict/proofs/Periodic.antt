-- FITS speaks of every t without end, and a search up to P plus the largest D is enough: from the largest D on there is no blocking, and a period of
-- P adds the load to the demand, which is at most P where the table isn't HEAVY. So a break at t + P is one at t.
-- Assumes nothing.
use Prim.Native.Nat.{ℕ, zero, suc, ◌+◌, ◌-◌, ◌≤◌, ◌<◌}
use mathlib.Core.Path.{◌≡◌, refl, subst}
use mathlib.Core.Bool.{Bool, true, false}
use native.Mathlib.Nat.{le_refl}
use native.Mathlib.Omega.{arith}
use lib.Dec.{leb}
use borrow.Author.Tests.{leb-true, leb-false}
use Rattle.table.specs.Table.{Table}
use Rattle.verdict.proofs.Each.{Periods}
use Rattle.verdict.specs.Demand.{demand}
use Rattle.verdict.specs.Blocking.{blocking}
use Rattle.verdict.specs.Multiple.{multiple}
use Rattle.verdict.specs.Verdict.{load, largest}
use Rattle.verdict.proofs.Multiple.{multiple_positive}
use Rattle.verdict.proofs.Demand.{demand_repeats}
use Rattle.verdict.proofs.Blocking.{blocking_none}

-- h(t) + b(t) is at most t
abbrev pub Keeps : Table → ℕ → Type 0
Keeps table t = demand table t + blocking table t ≤ t

-- from the largest D on, what keeps at t keeps a period later
pub keeps_later : (table : Table) (t : ℕ) → Periods table.tasks → load table ≤ multiple table → largest table.tasks ≤ t →
    Keeps table t → Keeps table (t + multiple table)
keeps_later table t h light l k =
    let d : demand table (t + multiple table) ≡ demand table t + load table = demand_repeats table t h l in
    let b : blocking table (t + multiple table) ≡ 0 = blocking_none table (t + multiple table) (omega arith) in
    omega arith

module _ (table : Table) (h : Periods table.tasks) (light : load table ≤ multiple table)
    (near : (t : ℕ) → t ≤ multiple table + largest table.tasks → Keeps table t) where
  up_to : (n t : ℕ) → t ≤ n → Keeps table t
  up_to zero t l = near t (omega arith)
  up_to (suc n) t l = go (leb t (multiple table + largest table.tasks)) refl (λ p. up_to n (t - multiple table) p)
    where
      go : (b : Bool) → leb t (multiple table + largest table.tasks) ≡ b → (t - multiple table ≤ n → Keeps table (t - multiple table)) → Keeps table t
      go true e k = near t (leb-true t (multiple table + largest table.tasks) e)
      go false e k =
          let far : multiple table + largest table.tasks < t = leb-false t (multiple table + largest table.tasks) e in
          let some : zero < multiple table = multiple_positive table h in
          let back : t - multiple table + multiple table ≡ t = omega arith in
          subst (λ (x : ℕ). Keeps table x) back (keeps_later table (t - multiple table) h light (omega arith) (k (omega arith)))

  -- not HEAVY, and no break up to P plus the largest D: no break at all
  pub keeps_always : (t : ℕ) → Keeps table t
  keeps_always t = up_to t t (le_refl t)
