-- When LONG is said, and when never: it is never said of a table whose periods all divide a number up to 1,000,000, so of one period of
-- 1,000,000 it isn't (M9); and it is said of every table that has a period of 1,000,000 and one of 3 (M10).
-- The idea: P divides every common multiple, and is one.
-- Assumes nothing.
use Prim.Native.Nat.{ℕ, zero, ◌≤◌, ◌<◌, ◌∣◌}
use mathlib.Core.Path.{◌≡◌, refl, sym, subst, ap, ◌∙◌}
use mathlib.Core.Logic.{◌≢◌}
use mathlib.Core.Bool.{Bool, true, false}
use mathlib.Core.List.{List}
use native.Mathlib.Nat.{dvd_refl, le_of_dvd}
use native.Mathlib.Omega.{arith}
use lib.Dec.{ltb, lit<, lit≤}
use lib.ListN.{length, get_or}
use borrow.Author.Tests.{ltb-true, ltb-false}
use Rattle.table.specs.Limits.{most_multiple}
use Rattle.table.specs.Table.{Task, Table, no_task, tasks_of, task_of}
use Rattle.table.specs.Check.{sound, check_of}
use Rattle.table.specs.Valid.{Valid}
use Rattle.table.proofs.Laws.{checked_valid}
use Rattle.verdict.specs.Multiple.{divisor_in, multiple_of, multiple}
use Rattle.verdict.specs.Verdict.{VerdictReply, says, load, judge, verdict_of}
use Rattle.numbers.specs.Answers.{FITS, LATE, HEAVY, LONG}
use Rattle.verdict.proofs.Each.{each_all, each_at, valid_periods}
use Rattle.verdict.proofs.Multiple.{Multiples, multiple_least, multiple_multiples, multiple_divides, multiple_positive}
use Rattle.verdict.proofs.Judged.{judge_long, judge_heavy, judge_answers, Answer, fits, late, verdict_sound}

abbrev number_of : VerdictReply → ℕ
number_of (says number value) = number

-- an answer with another number isn't LONG
other : (number value : ℕ) (said : VerdictReply) → number ≢ LONG → said ≡ says number value → said ≢ says LONG 0
other number value said n p q = n (ap number_of (sym p ∙ q))

-- all periods divide a number up to 1,000,000: not LONG
pub never_long : (ws : List ℕ) (table : Table) (m : ℕ) → check_of ws ≡ sound table → zero < m → m ≤ most_multiple → Multiples table.tasks m →
    verdict_of ws ≢ says LONG 0
never_long ws table m e some small ms = go (ltb (multiple table) (load table)) refl
  where
    v : Valid table
    v = checked_valid ws table e

    within : multiple table ≤ most_multiple
    within = omega (arith, le_of_dvd some (multiple_divides table m (valid_periods table v) ms))

    whole : verdict_of ws ≡ judge table
    whole = verdict_sound ws table e

    answered : Answer table (judge table) → verdict_of ws ≢ says LONG 0
    answered (fits said f) = other FITS 0 (verdict_of ws) (omega arith) (whole ∙ said)
    answered (late t said b f) = other LATE t (verdict_of ws) (omega arith) (whole ∙ said)

    go : (b : Bool) → ltb (multiple table) (load table) ≡ b → verdict_of ws ≢ says LONG 0
    go true q = other HEAVY 0 (verdict_of ws) (omega arith) (whole ∙ judge_heavy table within (ltb-true (multiple table) (load table) q))
    go false q = answered (judge_answers table v within (ltb-false (multiple table) (load table) q))

-- M9: one task, of period 1,000,000
pub one_period : (ws : List ℕ) (table : Table) → check_of ws ≡ sound table → tasks_of table ≡ 1 → (task_of table 0).T ≡ 1_000_000 →
    verdict_of ws ≢ says LONG 0
one_period ws table e n q = never_long ws table 1_000_000 e (lit< tt) (lit≤ tt) (each_all (λ (task : Task). task.T ∣ 1_000_000) table.tasks at)
  where
    at : (i : ℕ) → i < length table.tasks → (get_or table.tasks i no_task).T ∣ 1_000_000
    at i l =
        let z : i ≡ 0 = omega arith in
        subst (λ (k : ℕ). (get_or table.tasks k no_task).T ∣ 1_000_000) (sym z) (subst (λ (x : ℕ). x ∣ 1_000_000) (sym q) (dvd_refl 1_000_000))

million_and_three : multiple_of 1_000_000 3 ≡ 3_000_000
unfolding multiple_of divisor_in
million_and_three = refl

-- M10: with a second period of 3, whatever else the table has
pub second_period : (ws : List ℕ) (table : Table) (i j : ℕ) → check_of ws ≡ sound table → i < tasks_of table → j < tasks_of table →
    (task_of table i).T ≡ 1_000_000 → (task_of table j).T ≡ 3 → verdict_of ws ≡ says LONG 0
second_period ws table i j e l h p q =
    let ms : Multiples table.tasks (multiple table) = multiple_multiples table in
    let a : 1_000_000 ∣ multiple table =
    subst (λ (x : ℕ). x ∣ multiple table) p (each_at (λ (task : Task). task.T ∣ multiple table) table.tasks ms i l) in
    let b : 3 ∣ multiple table = subst (λ (x : ℕ). x ∣ multiple table) q (each_at (λ (task : Task). task.T ∣ multiple table) table.tasks ms j h) in
    let both : multiple_of 1_000_000 3 ∣ multiple table = multiple_least 1_000_000 3 (multiple table) (lit< tt) (lit< tt) a b in
    let most : multiple_of 1_000_000 3 ≤ multiple table = le_of_dvd (multiple_positive table (valid_periods table (checked_valid ws table e))) both in
    verdict_sound ws table e ∙ judge_long table (omega (arith, million_and_three))
