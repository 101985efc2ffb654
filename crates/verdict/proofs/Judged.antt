-- The verdict's two theorems: what `verdict_of` answers means what document 01 says it means (`verdict_judged`), and no other answer does
-- (`judged_unique`). So FITS, found by a search up to P plus the largest D, speaks of every t without end.
-- The idea: every answer that is judged right is the computed one. A table that passes the check is within the limits, so each T is at least 1, and
-- then the search has seen enough (`keeps_always`).
-- Assumes nothing.
use Prim.Native.Nat.{ℕ, zero, suc, ◌+◌, ◌≤◌, ◌<◌, zero-le}
use mathlib.Core.Path.{◌≡◌, refl, sym, subst, ap, ap₂, ◌∙◌}
use mathlib.Core.Logic.{⊎_elim}
use mathlib.Core.Bool.{Bool, true, false}
use mathlib.Core.List.{List}
use native.Mathlib.Nat.{not-le_of_lt, eq-or-lt_of_le}
use native.Mathlib.Omega.{arith}
use lib.Dec.{ltb}
use borrow.Author.Tests.{lt-ltb, le-ltb, ltb-true, ltb-false}
use Rattle.table.specs.Limits.{most_multiple}
use Rattle.table.specs.Table.{Table}
use Rattle.table.specs.Check.{Checked, sound, refused, check_of}
use Rattle.table.specs.Valid.{Valid}
use Rattle.table.proofs.Laws.{checked_valid}
use Rattle.verdict.specs.Demand.{demand}
use Rattle.verdict.specs.Blocking.{blocking}
use Rattle.verdict.specs.Multiple.{multiple}
use Rattle.verdict.specs.Verdict.{VerdictReply, says, load, largest, Breaks, first_late, judge, verdict_of, Judged, is_refused, is_long, is_heavy, is_late, is_fits}
use Rattle.numbers.specs.Answers.{FITS, LATE, HEAVY, LONG}
use Rattle.verdict.proofs.Each.{valid_periods}
use Rattle.verdict.proofs.Periodic.{Keeps, keeps_always}

-- ---- the search's cases

pub first_none : (t : ℕ) (table : Table) → first_late zero t table ≡ says FITS 0
unfolding first_late
first_none t table = refl

pub first_late_lem : (left t : ℕ) (table : Table) → Breaks table t → first_late (suc left) t table ≡ says LATE t
unfolding first_late
first_late_lem left t table b = rw (lt-ltb t (demand table t + blocking table t) b, first_late)

pub first_next : (left t : ℕ) (table : Table) → Keeps table t → first_late (suc left) t table ≡ first_late left (suc t) table
unfolding first_late
first_next left t table k = rw (le-ltb t (demand table t + blocking table t) k, first_late)

-- what a search of `left` numbers from t on finds
pub data Search (table : Table) (t left : ℕ) (said : VerdictReply) : Type 0 where
  none : said ≡ says FITS 0 → ((s : ℕ) → t ≤ s → s < t + left → Keeps table s) → Search table t left said
  some : (s : ℕ) → said ≡ says LATE s → Breaks table s → s < t + left → ((u : ℕ) → t ≤ u → u < s → Keeps table u) → Search table t left said

pub search_finds : (left t : ℕ) (table : Table) → Search table t left (first_late left t table)
search_finds zero t table = none (first_none t table) (λ s l h. absurd (omega arith))
search_finds (suc left) t table = go (ltb t (demand table t + blocking table t)) refl (search_finds left (suc t) table)
  where
    at_least : Keeps table t → (s u : ℕ) → ((v : ℕ) → suc t ≤ v → v < s → Keeps table v) → t ≤ u → u < s → Keeps table u
    at_least k s u f l h = ⊎_elim (λ e. subst (λ (x : ℕ). Keeps table x) e k) (λ m. f u m h) (eq-or-lt_of_le l)

    go : (b : Bool) → ltb t (demand table t + blocking table t) ≡ b → Search table (suc t) left (first_late left (suc t) table) →
        Search table t (suc left) (first_late (suc left) t table)
    go true e rest =
        let b : Breaks table t = ltb-true t (demand table t + blocking table t) e in
        some t (first_late_lem left t table b) b (omega arith) (λ u l h. absurd (omega arith))
    go false e (none said f) =
        let k : Keeps table t = ltb-false t (demand table t + blocking table t) e in
        none (first_next left t table k ∙ said) (λ s l h. at_least k (suc t + left) s f l (omega arith))
    go false e (some s said b l f) =
        let k : Keeps table t = ltb-false t (demand table t + blocking table t) e in
        some s (first_next left t table k ∙ said) b (omega arith) (λ u h i. at_least k s u f h i)

-- ---- the cases of a verdict

-- the two tests, and the answer that they pick
abbrev picked : Table → Bool → Bool → VerdictReply
picked table long heavy =
    elim long [ true ↦ says LONG 0 | false ↦ elim heavy [ true ↦ says HEAVY 0 | false ↦ first_late (suc (multiple table + largest table.tasks)) 0 table ] ]

judge_picks : (table : Table) (long heavy : Bool) → ltb most_multiple (multiple table) ≡ long → ltb (multiple table) (load table) ≡ heavy →
    judge table ≡ picked table long heavy
unfolding judge
judge_picks table long heavy p q = ap₂ (picked table) p q

pub judge_long : (table : Table) → most_multiple < multiple table → judge table ≡ says LONG 0
judge_long table l = judge_picks table true (ltb (multiple table) (load table)) (lt-ltb most_multiple (multiple table) l) refl

pub judge_heavy : (table : Table) → multiple table ≤ most_multiple → multiple table < load table → judge table ≡ says HEAVY 0
judge_heavy table l h = judge_picks table false true (le-ltb most_multiple (multiple table) l) (lt-ltb (multiple table) (load table) h)

pub judge_search : (table : Table) → multiple table ≤ most_multiple → load table ≤ multiple table →
    judge table ≡ first_late (suc (multiple table + largest table.tasks)) 0 table
judge_search table l h = judge_picks table false false (le-ltb most_multiple (multiple table) l) (le-ltb (multiple table) (load table) h)

pub verdict_sound : (ws : List ℕ) (table : Table) → check_of ws ≡ sound table → verdict_of ws ≡ judge table
unfolding verdict_of
verdict_sound ws table e = rw e

pub verdict_refused : (ws : List ℕ) (number place : ℕ) → check_of ws ≡ refused number place → verdict_of ws ≡ says number place
unfolding verdict_of
verdict_refused ws number place e = rw e

-- ---- a table within the limits that is neither LONG nor HEAVY: the search answers for every t

-- what the search answers of it
pub data Answer (table : Table) (said : VerdictReply) : Type 0 where
  fits : said ≡ says FITS 0 → ((t : ℕ) → Keeps table t) → Answer table said
  late : (t : ℕ) → said ≡ says LATE t → Breaks table t → ((s : ℕ) → s < t → Keeps table s) → Answer table said

pub judge_answers : (table : Table) → Valid table → multiple table ≤ most_multiple → load table ≤ multiple table → Answer table (judge table)
judge_answers table v l light = go (search_finds (suc (multiple table + largest table.tasks)) 0 table)
  where
    whole : judge table ≡ first_late (suc (multiple table + largest table.tasks)) 0 table
    whole = judge_search table l light

    go : Search table 0 (suc (multiple table + largest table.tasks)) (first_late (suc (multiple table + largest table.tasks)) 0 table) →
        Answer table (judge table)
    go (none said f) = fits (whole ∙ said) (keeps_always table (valid_periods table v) light (λ t h. f t zero-le (omega arith)))
    go (some t said b h f) = late t (whole ∙ said) b (λ s m. f s zero-le m)

-- ---- what is answered is judged right

judged_sound : (ws : List ℕ) (table : Table) → check_of ws ≡ sound table → Judged ws (verdict_of ws)
judged_sound ws table e = go (ltb most_multiple (multiple table)) refl (ltb (multiple table) (load table)) refl
  where
    whole : verdict_of ws ≡ judge table
    whole = verdict_sound ws table e

    answered : multiple table ≤ most_multiple → load table ≤ multiple table → Answer table (judge table) → Judged ws (verdict_of ws)
    answered l h (fits said f) = is_fits table e l h f (whole ∙ said)
    answered l h (late t said b f) = is_late table t e l h b f (whole ∙ said)

    go : (a : Bool) → ltb most_multiple (multiple table) ≡ a → (b : Bool) → ltb (multiple table) (load table) ≡ b → Judged ws (verdict_of ws)
    go true p b q =
        let l : most_multiple < multiple table = ltb-true most_multiple (multiple table) p in
        is_long table e l (whole ∙ judge_long table l)
    go false p true q =
        let l : multiple table ≤ most_multiple = ltb-false most_multiple (multiple table) p in
        let h : multiple table < load table = ltb-true (multiple table) (load table) q in
        is_heavy table e l h (whole ∙ judge_heavy table l h)
    go false p false q =
        let l : multiple table ≤ most_multiple = ltb-false most_multiple (multiple table) p in
        let h : load table ≤ multiple table = ltb-false (multiple table) (load table) q in
        answered l h (judge_answers table (checked_valid ws table e) l h)

pub verdict_judged : (ws : List ℕ) → Judged ws (verdict_of ws)
verdict_judged ws = go (check_of ws) refl
  where
    go : (c : Checked) → check_of ws ≡ c → Judged ws (verdict_of ws)
    go (sound table) e = judged_sound ws table e
    go (refused number place) e = is_refused number place e (verdict_refused ws number place e)

-- ---- and nothing else is

pub judged_is : (ws : List ℕ) (said : VerdictReply) → Judged ws said → said ≡ verdict_of ws
judged_is ws said (is_refused number place e q) = q ∙ sym (verdict_refused ws number place e)
judged_is ws said (is_long table e l q) = q ∙ sym (verdict_sound ws table e ∙ judge_long table l)
judged_is ws said (is_heavy table e l h q) = q ∙ sym (verdict_sound ws table e ∙ judge_heavy table l h)
judged_is ws said (is_late table t e l h b f q) = q ∙ go (judge_answers table (checked_valid ws table e) l h)
  where
    whole : verdict_of ws ≡ judge table
    whole = verdict_sound ws table e

    go : Answer table (judge table) → says LATE t ≡ verdict_of ws
    go (fits r g) = absurd (not-le_of_lt b (g t))
    go (late s r c g) = ap (λ (x : ℕ). says LATE x) (same (ltb t s) refl (ltb s t) refl) ∙ sym (whole ∙ r)
      where
        same : (x : Bool) → ltb t s ≡ x → (y : Bool) → ltb s t ≡ y → t ≡ s
        same true p y k = absurd (not-le_of_lt b (g t (ltb-true t s p)))
        same false p true k = absurd (not-le_of_lt c (f s (ltb-true s t k)))
        same false p false k = omega (arith, ltb-false t s p, ltb-false s t k)
judged_is ws said (is_fits table e l h f q) = q ∙ go (judge_answers table (checked_valid ws table e) l h)
  where
    go : Answer table (judge table) → says FITS 0 ≡ verdict_of ws
    go (fits r g) = sym (verdict_sound ws table e ∙ r)
    go (late t r b g) = absurd (not-le_of_lt b (f t))

-- two answers that are both judged right are equal
pub judged_unique : (ws : List ℕ) (a b : VerdictReply) → Judged ws a → Judged ws b → a ≡ b
judged_unique ws a b p q = judged_is ws a p ∙ sym (judged_is ws b q)
