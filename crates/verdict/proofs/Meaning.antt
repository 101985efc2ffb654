-- What a caller learns from the promise of `judge::verdict`: its answer is judged right, and FITS means that h(t) + b(t) is at most t for every t
-- without end. (That no two different answers keep the promise is `verdict_pinned` of crate `pinned`.)
-- Assumes nothing.
use Prim.Native.Nat.{ℕ, ◌<◌}
use mathlib.Core.Path.{◌≡◌, sym, subst}
use mathlib.Core.List.{List}
use Rattle.std.specs.Prelude.{Result}
use Rattle.table.specs.Table.{Table}
use Rattle.table.specs.Check.{sound, check_of}
use Rattle.table.specs.declared.Finding.{Finding}
use Rattle.numbers.proofs.Tests.{never}
use Rattle.verdict.specs.Verdict.{says, Breaks, verdict_of, Judged, is_refused, is_long, is_heavy, is_late, is_fits}
use Rattle.numbers.specs.Answers.{FITS, LATE}
use Rattle.verdict.specs.Said.{verdict_said}
use Rattle.verdict.specs.declared.Verdict.{Verdict}
use Rattle.verdict.proofs.Periodic.{Keeps}
use Rattle.verdict.proofs.Judged.{verdict_judged}

-- ---- an answer that keeps the promise is judged right

pub promise_judged : (ws : List ℕ) (answer : Result Verdict Finding) → verdict_said answer ≡ verdict_of ws → Judged ws (verdict_said answer)
promise_judged ws answer e = subst (Judged ws) (sym e) (verdict_judged ws)

-- ---- what FITS and LATE say of the table itself

pub fits_always : (ws : List ℕ) (table : Table) → check_of ws ≡ sound table → verdict_of ws ≡ says FITS 0 → (t : ℕ) → Keeps table t
fits_always ws table e said = go (verdict_judged ws)
  where
    go : Judged ws (verdict_of ws) → (t : ℕ) → Keeps table t
    go (is_refused number place q r) = never (cc)
    go (is_long other q l r) = never (cc)
    go (is_heavy other q l h r) = never (cc)
    go (is_late other t q l h b f r) = never (cc)
    go (is_fits other q l h f r) =
        let same : other ≡ table = cc in
        subst (λ (x : Table). (t : ℕ) → Keeps x t) same f

pub late_least : (ws : List ℕ) (table : Table) (t : ℕ) → check_of ws ≡ sound table → verdict_of ws ≡ says LATE t →
    Breaks table t × ((s : ℕ) → s < t → Keeps table s)
late_least ws table t e said = go (verdict_judged ws)
  where
    go : Judged ws (verdict_of ws) → Breaks table t × ((s : ℕ) → s < t → Keeps table s)
    go (is_refused number place q r) = never (cc)
    go (is_long other q l r) = never (cc)
    go (is_heavy other q l h r) = never (cc)
    go (is_late other u q l h b f r) =
        let same : other ≡ table = cc in
        let at : u ≡ t = cc in
        subst (λ (x : Table). Breaks x t × ((s : ℕ) → s < t → Keeps x s)) same
        (subst (λ (k : ℕ). Breaks other k × ((s : ℕ) → s < k → Keeps other s)) at (b, f))
    go (is_fits other q l h f r) = never (cc)
