-- A search over the numbers from 0 to `end` that finds the first that breaks, or none, has found what `first_late` says.
-- Assumes nothing.
use Prim.Native.Nat.{ℕ, zero, suc, ◌+◌, ◌≤◌, ◌<◌}
use mathlib.Core.Path.{◌≡◌, sym, subst, ap, ◌∙◌}
use mathlib.Core.Logic.{⊎_elim}
use mathlib.Core.Bool.{false}
use native.Mathlib.Nat.{eq-or-lt_of_le}
use native.Mathlib.Omega.{arith}
use Rattle.std.proofs.Common.{Option, Some, None, MatchOption}
use borrow.Author.Tests.{ltb-true, ltb-false}
use Rattle.table.specs.Table.{Table}
use Rattle.verdict.specs.Demand.{demand}
use Rattle.verdict.specs.Blocking.{blocking}
use Rattle.verdict.specs.Verdict.{says, Breaks, breaks, first_late, late_said}
use Rattle.numbers.specs.Answers.{FITS, LATE}
use Rattle.verdict.proofs.Periodic.{Keeps}
use Rattle.verdict.proofs.Judged.{first_none, first_late_lem, first_next}
use Rattle.verdict.proofs.Passing.{FirstPassing}

none_late : (table : Table) (left t : ℕ) → ((s : ℕ) → t ≤ s → s < t + left → Keeps table s) → says FITS 0 ≡ first_late left t table
none_late table zero t f = sym (first_none t table)
none_late table (suc left) t f =
    none_late table left (suc t) (λ s l h. f s (omega arith) (omega arith)) ∙ sym (first_next left t table (f t (omega arith) (omega arith)))

some_late : (table : Table) (left t s : ℕ) → t ≤ s → s < t + left → Breaks table s → ((u : ℕ) → t ≤ u → u < s → Keeps table u) →
    says LATE s ≡ first_late left t table
some_late table zero t s l h b f = absurd (omega arith)
some_late table (suc left) t s l h b f = ⊎_elim here (λ m. later m (some_late table left (suc t) s m (omega arith) b (λ u k n. f u (omega arith) n))) (eq-or-lt_of_le l)
  where
    here : t ≡ s → says LATE s ≡ first_late (suc left) t table
    here e = ap (says LATE) (sym e) ∙ sym (first_late_lem left t table (subst (Breaks table) (sym e) b))

    later : t < s → says LATE s ≡ first_late left (suc t) table → says LATE s ≡ first_late (suc left) t table
    later m rest = rest ∙ sym (first_next left t table (f t (omega arith) m))

keeps_at : (table : Table) (t : ℕ) → breaks table t ≡ false → Keeps table t
keeps_at table t e = ltb-false t (demand table t + blocking table t) e

pub found : (table : Table) (end : ℕ) (r : Option ℕ) → MatchOption r ((t : ℕ) → t ≤ end → breaks table t ≡ false) (FirstPassing (breaks table) end) →
    late_said r ≡ first_late (suc end) 0 table
found table end None none = none_late table (suc end) 0 (λ s l h. keeps_at table s (none s (omega arith)))
found table end (Some t) first =
    some_late table (suc end) 0 t (omega arith) (omega (arith, first.within)) (ltb-true t (demand table t + blocking table t) first.passes)
    (λ u l h. keeps_at table u (first.before u h))
