-- TORN, put together from its grounds: "the first that applies" makes a state torn, and where none applies it isn't.
-- Assumes nothing.
use Prim.Native.Nat.{ℕ, ◌<◌, ◌≤◌, ◌^◌, min}
use native.Mathlib.Nat.{lt_of_lt_of_le}
use native.Mathlib.Omega.{arith}
use mathlib.Core.Path.{◌≡◌, refl, sym, ap, ap₂, ◌∙◌}
use Rattle.std.specs.Prelude.{Ok, Err}
use mathlib.Core.List.{List}
use mathlib.Core.Bool.{Bool, true, false, true≢false, ◌&&◌, ◌||◌}
use Rattle.std.proofs.Math.Bool.{or-false}
use Rattle.std.proofs.lemmas.Bool.{or_right}
use lib.Dec.{ltb, leb}
use lib.ListN.{length, take}
use lib.Pow.{pow_mono}
use lib.Seq.{take_all}
use borrow.Author.Tests.{ltb-true, ltb-false}
use Rattle.sets.specs.Member.{width, has}
use Rattle.numbers.specs.Any.{any_below}
use Rattle.numbers.proofs.Tests.{never, or_false_left, or_false_right}
use Rattle.table.specs.Limits.{room, most_tasks}
use Rattle.table.specs.Table.{Table, tasks_of}
use Rattle.table.specs.Check.{Checked, sound, refused, check_of}
use Rattle.table.specs.Map.{table_at, no_map, map_of}
use Rattle.table.specs.Said.{refusal_said, finding_said, passes, Surveyed, survey_said, survey_of}
use Rattle.table.proofs.Findings.{refusal, survey_passes, survey_map, survey_refuses}
use Rattle.table.specs.declared.Map.{Map}
use Rattle.table.specs.declared.Finding.{Finding}
use Rattle.table.proofs.Laws.{table_at_lem}
use Rattle.machine.specs.Order.{row_of}
use Rattle.machine.specs.declared.Kept.{Kept}
use Rattle.torn.specs.Torn.{not_sound, torn_table, torn_ready, torn_last, torn_by, torn_of}
use Rattle.torn.specs.Examined.{Examined, examined_of}

-- ---- a ground, as the code computes it

pub ready_is : (table : Table) (kept : Kept) (n : ℕ) (b : Bool) → tasks_of table ≡ n →
    any_below width (λ i. has kept.ready i && leb n i) ≡ b → torn_ready table kept ≡ b
unfolding torn_ready
ready_is table kept n b q e = ap (λ (k : ℕ). any_below width (λ i. has kept.ready i && leb k i)) q ∙ e

pub last_is : (table : Table) (kept : Kept) (n : ℕ) (b : Bool) → tasks_of table ≡ n →
    any_below n (λ i. has kept.had i && ltb kept.clock (row_of kept i).last) ≡ b → torn_last table kept ≡ b
unfolding torn_last
last_is table kept n b q e = ap (λ (k : ℕ). any_below k (λ i. has kept.had i && ltb kept.clock (row_of kept i).last)) q ∙ e

-- At most sixteen tasks, so a ready set of n digits is one of sixteen.
pub ready_sixteen : (ready tasks m : ℕ) → tasks ≡ min m most_tasks → ready < 2 ^ tasks → ready < 2 ^ most_tasks
ready_sixteen ready tasks m e h = lt_of_lt_of_le h (pow_mono (let l : tasks ≤ most_tasks = omega arith in l))

-- ---- the table's own ground

pub passed_sound : (checked : Checked) → finding_said checked ≡ passes → (t : Table) × (checked ≡ sound t)
passed_sound (sound t) e = (t, refl)
passed_sound (refused number place) e = never (cc)

-- A finding is a refusal.
pub not_sound_lem : (finding : Finding) (ws : List ℕ) → survey_said (Err finding) ≡ survey_of ws → not_sound (check_of ws) ≡ true
not_sound_lem finding ws e = go (check_of ws) refl (survey_refuses finding ws e)
  where
    go : (checked : Checked) → check_of ws ≡ checked → finding_said checked ≡ refusal_said finding → not_sound checked ≡ true
    go (refused number place) q f = refl
    go (sound t) q f = let r = refusal finding in never (cc)

-- Its map is zeros.
pub refused_map : (finding : Finding) (ws : List ℕ) → survey_said (Err finding) ≡ survey_of ws → no_map ≡ map_of ws
refused_map finding ws e = ap (λ (s : Surveyed). s.map) e

-- No more words are in use than there are.
pub take_end : (words : List ℕ) (used end : ℕ) → end ≡ min used (length words) → take end words ≡ take used words
take_end words used end e = go (ltb used (length words)) refl
  where
    go : (b : Bool) → ltb used (length words) ≡ b → take end words ≡ take used words
    go true p =
        let l = ltb-true used (length words) p in
        let all : end ≡ used = omega arith in
        ap (λ (k : ℕ). take k words) all
    go false p =
        let l = ltb-false used (length words) p in
        take_all end words (omega arith) ∙ sym (take_all used words l)

module _ (words : List ℕ) (used : ℕ) (kept : Kept) where
  pub table_refused : not_sound (check_of (take used words)) ≡ true → torn_of words used kept ≡ true
  unfolding torn_of torn_table
  table_refused e = rw (or_right (ltb room used) (not_sound (check_of (take used words))) e)

  -- Where the table passes, what is left of its ground is the length.
  pub table_sound : (t : Table) → check_of (take used words) ≡ sound t → torn_of words used kept ≡ (ltb room used || torn_by t kept)
  unfolding torn_of torn_table
  table_sound t e = rw (e, or-false (ltb room used))

  -- A state that isn't torn has a table that passes, and no other ground.
  pub untorn_parts : torn_of words used kept ≡ false →
      (used ≤ room) × ((t : Table) × (check_of (take used words) ≡ sound t) × (torn_by t kept ≡ false))
  unfolding torn_of torn_table
  untorn_parts e =
      (ltb-false room used (or_false_left (ltb room used) _ own), go (check_of (take used words)) refl (or_false_right (ltb room used) _ own))
    where
      own : torn_table words used ≡ false
      own = or_false_left (torn_table words used) _ e

      go : (checked : Checked) → check_of (take used words) ≡ checked → not_sound checked ≡ false →
          (t : Table) × (check_of (take used words) ≡ sound t) × (torn_by t kept ≡ false)
      go (sound t) q n = (t, q, or_false_right (ltb room used) _ (sym (table_sound t q) ∙ e))
      go (refused number place) q n = absurd (true≢false n)

-- The table that the map of a list reads off it is the one that the list is.
pub examined_table : (ws : List ℕ) (t : Table) (map : Map) → check_of ws ≡ sound t → map ≡ map_of ws → table_at ws map ≡ t
examined_table ws t map e m = ap (table_at ws) m ∙ table_at_lem ws t e

-- ---- the whole test, of the list that was walked: its words are those in use

module _ (words : List ℕ) (used end : ℕ) (kept : Kept) (least : end ≡ min used (length words)) (map : Map) where
  walked : take end words ≡ take used words
  walked = take_end words used end least

  -- What is said is whether the state is torn, and the map of the words in use.
  pub examined : (b : Bool) → torn_of words used kept ≡ b → map ≡ map_of (take end words) →
      ◌≡◌ {A = Examined} (record { torn = b; map = map }) (examined_of words used kept)
  examined b e m = ap₂ (λ (x : Bool) (y : Map). record { torn = x; map = y }) (sym e) (m ∙ ap map_of walked)

  -- The list is refused.
  pub refused_examined : (finding : Finding) → survey_said (Err finding) ≡ survey_of (take end words) → map ≡ map_of (take end words) →
      ◌≡◌ {A = Examined} (record { torn = true; map = map }) (examined_of words used kept)
  refused_examined finding said =
      examined true (table_refused words used kept (not_sound_lem finding (take used words) (said ∙ ap survey_of walked)))

  -- The list passes: what the length says and the grounds behind the table's own, of the list that was walked, they say of the state.
  pub judged_examined : (long by : Bool) → survey_said (Ok map) ≡ survey_of (take end words) →
      long ≡ ltb room used → by ≡ torn_by (table_at (take end words) map) kept →
      ◌≡◌ {A = Examined} (record { torn = long || by; map = map }) (examined_of words used kept)
  judged_examined long by said l e =
      let mapped = survey_map map (take end words) said in
      let (t, q) = passed_sound (check_of (take end words)) (survey_passes map (take end words) said) in
      let judged : by ≡ torn_by t kept = e ∙ ap (λ (x : Table). torn_by x kept) (examined_table (take end words) t map q mapped) in
      examined (long || by) (table_sound words used kept t (ap check_of (sym walked) ∙ q) ∙ sym (ap₂ (◌||◌) l judged)) mapped
