-- The verdict (document 01, "The verdict"): what is answered, and what each answer means. `verdict_of` computes and looks no further than P plus the largest D;
-- `Judged` says what an answer means, for every t without end. The theorems: `verdict_of` is judged so (`verdict_judged`), and two answers judged so are equal (`judged_unique`). Assumes nothing.
use Rattle.numbers.specs.Answers.{FITS, LATE, HEAVY, LONG}
use Rattle.std.specs.Prelude.{ℕ, zero, suc, ◌+◌, ◌*◌, ◌/◌, ◌≤◌, ◌<◌, max, ◌≡◌, Bool, true, false, List, [], ◌∷◌, Option, Some, None, ltb}
use Rattle.table.specs.Limits.{most_multiple}
use Rattle.table.specs.Table.{Task, Table}
use Rattle.table.specs.Check.{Checked, sound, refused, check_of}
use Rattle.verdict.specs.Demand.{demand}
use Rattle.verdict.specs.Blocking.{blocking}
use Rattle.verdict.specs.Multiple.{multiple}

-- What is said: document 01's number, and with it a refusal's place, LATE's t, or 0.
pub data VerdictReply : Type 0 where
  says : ℕ → ℕ → VerdictReply

-- The number that is said, and what is said with it.
abbrev pub number_in : VerdictReply → ℕ
number_in (says number value) = number

abbrev pub value_in : VerdictReply → ℕ
value_in (says number value) = value

-- "the sum of C * P / T"
unfoldable pub load_of : ℕ → List Task → ℕ
load_of p [] = 0
load_of p (task ∷ tasks) = task.C * p / task.T + load_of p tasks

abbrev pub load : Table → ℕ
load table = load_of (multiple table) table.tasks

-- "h(t) + b(t) > t"
abbrev pub Breaks : Table → ℕ → Type 0
Breaks table t = t < demand table t + blocking table t

abbrev pub breaks : Table → ℕ → Bool
breaks table t = ltb t (demand table t + blocking table t)

-- The largest D.
unfoldable pub largest : List Task → ℕ
largest [] = 0
largest (task ∷ tasks) = max task.D (largest tasks)

-- The first of `left` numbers from t on that breaks, or FITS.
unfoldable pub first_late : ℕ → ℕ → Table → VerdictReply
first_late zero t table = says FITS 0
first_late (suc left) t table = elim (breaks table t) [ true ↦ says LATE t | false ↦ first_late left (suc t) table ]

-- .. as it is found: the t, or none.
abbrev pub late_said : Option ℕ → VerdictReply
late_said (Some t) = says LATE t
late_said None = says FITS 0

-- "in this order: 23 LONG if P is above 1,000,000; 22 HEAVY if the sum of C * P / T is above P; 21 LATE with the least t where h(t) + b(t) > t; else 20 FITS"
unfoldable pub judge : Table → VerdictReply
judge table =
    elim (ltb most_multiple (multiple table)) [
      | true ↦ says LONG 0
      | false ↦ elim (ltb (multiple table) (load table)) [
        | true ↦ says HEAVY 0
        | false ↦ first_late (suc (multiple table + largest table.tasks)) 0 table
      ]
    ]

-- "After refusals 1 to 5"
abbrev pub judge_from : Checked → VerdictReply
judge_from (sound table) = judge table
judge_from (refused number place) = says number place

unfoldable pub verdict_of : List ℕ → VerdictReply
verdict_of ws = judge_from (check_of ws)

-- What each answer means: FITS "speaks of every t without end", and LATE names the least t that breaks.
pub data Judged (ws : List ℕ) (said : VerdictReply) : Type 0 where
  is_refused : (number place : ℕ) → check_of ws ≡ refused number place → said ≡ says number place → Judged ws said
  is_long : (table : Table) → check_of ws ≡ sound table → most_multiple < multiple table → said ≡ says LONG 0 → Judged ws said
  is_heavy : (table : Table) → check_of ws ≡ sound table → multiple table ≤ most_multiple →
      multiple table < load table → said ≡ says HEAVY 0 → Judged ws said
  is_late : (table : Table) (t : ℕ) → check_of ws ≡ sound table → multiple table ≤ most_multiple → load table ≤ multiple table →
      Breaks table t → ((s : ℕ) → s < t → demand table s + blocking table s ≤ s) → said ≡ says LATE t → Judged ws said
  is_fits : (table : Table) → check_of ws ≡ sound table → multiple table ≤ most_multiple → load table ≤ multiple table →
      ((t : ℕ) → demand table t + blocking table t ≤ t) → said ≡ says FITS 0 → Judged ws said
