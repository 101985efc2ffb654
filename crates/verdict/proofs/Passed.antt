-- What `judge::verdict` learns of a list from its survey: of one that passes, that the map reads the table of the words; of another, the refusal.
-- Assumes nothing.
use Prim.Native.Nat.{ℕ}
use mathlib.Core.Path.{◌≡◌, refl, sym, subst, ap, ◌∙◌}
use mathlib.Core.List.{List}
use Rattle.std.proofs.Common.{Result, Ok, Err}
use Rattle.table.specs.Table.{Table}
use Rattle.table.specs.Check.{Checked, sound, refused, check_of}
use Rattle.table.specs.Map.{table_at}
use Rattle.table.specs.Said.{finding_said, check_said, survey_said, survey_of, passes}
use Rattle.table.specs.Said as checks
use Rattle.table.specs.declared.Finding.{Finding}
use Rattle.table.specs.declared.Map.{Map}
use Rattle.table.proofs.Findings.{refusal, survey_passes, survey_map, survey_refuses}
use Rattle.table.proofs.Laws.{table_at_lem}
use Rattle.numbers.proofs.Tests.{never}
use Rattle.verdict.specs.Verdict.{VerdictReply, judge, verdict_of}
use Rattle.verdict.specs.Said.{refusal_said}
use Rattle.verdict.proofs.Judged.{verdict_sound, verdict_refused}

-- ---- a list that passes

record Passing (ws : List ℕ) : Type 0 where
  table : Table
  is : check_of ws ≡ sound table

passing : (ws : List ℕ) → check_said ws ≡ passes → Passing ws
passing ws e = go (check_of ws) refl
  where
    go : (k : Checked) → check_of ws ≡ k → Passing ws
    go (sound t) q = record { table = t; is = q }
    go (refused number place) q =
        let z : checks.says number place ≡ passes = sym (ap finding_said q) ∙ e in
        never (cc)

module _ (ws : List ℕ) (map : Map) (learnt : survey_said (Ok map) ≡ survey_of ws) where
  p : Passing ws
  p = passing ws (survey_passes map ws learnt)

  reads : table_at ws map ≡ p.table
  reads = ap (table_at ws) (survey_map map ws learnt) ∙ table_at_lem ws p.table p.is

  reads_own : check_of ws ≡ sound (table_at ws map)
  reads_own = p.is ∙ ap sound (sym reads)

  pub judged : (said : VerdictReply) → said ≡ judge (table_at ws map) → said ≡ verdict_of ws
  judged said e = e ∙ ap judge reads ∙ sym (verdict_sound ws p.table p.is)

pub passed : (ws : List ℕ) (map : Map) (answer : Result Map Finding) → survey_said answer ≡ survey_of ws → answer ≡ Ok map →
    check_of ws ≡ sound (table_at ws map)
passed ws map answer learnt is = reads_own ws map (subst (λ (x : Result Map Finding). survey_said x ≡ survey_of ws) is learnt)

-- ---- a list that is refused

pub refuses : (ws : List ℕ) (finding : Finding) → survey_said (Err finding) ≡ survey_of ws → refusal_said (checks.refusal_said finding) ≡ verdict_of ws
refuses ws finding learnt = go (check_of ws) refl
  where
    said : check_said ws ≡ checks.refusal_said finding
    said = survey_refuses finding ws learnt

    go : (k : Checked) → check_of ws ≡ k → refusal_said (checks.refusal_said finding) ≡ verdict_of ws
    go (sound t) q =
        let number = refusal finding in
        let z : passes ≡ checks.says number.number number.place = sym (ap finding_said q) ∙ said ∙ number.said in
        never (cc)
    go (refused number place) q = ap refusal_said (sym said ∙ ap finding_said q) ∙ sym (verdict_refused ws number place q)
