-- The held sections as the code keeps them: an array, innermost first, and a depth for the list (`sections_of`), a set for
-- its resources (`held_set`), and an array of what is left at each level (`spare_of`). Laws
-- of a lock, which shifts the arrays by one place, of an unlock, which shifts them back, and of what the tests on the arrays say of the list. No resource is held
-- twice (`apart`), so taking one out of the set leaves the set of the rest. Assumes nothing.
use Prim.Native.Nat.{ℕ, zero, suc, ◌+◌, ◌-◌, ◌≤◌, ◌<◌}
use mathlib.Core.Path.{◌≡◌, refl, sym, ap, subst, ◌∙◌}
use mathlib.Core.Bool.{true, false, not, ◌||◌}
use mathlib.Core.List.{List, [], ◌∷◌}
use native.Mathlib.Omega.{arith}
use lib.Dec.{ltb, leb, eqb}
use lib.ListN.{length, get_or, length-take}
use Rattle.std.proofs.lemmas.List.{length-map}
use borrow.Author.Tests.{ltb-true, leb-false, lt-ltb, ne_eqb, not-true}
use Rattle.sets.specs.Member.{width, has, with_of, without_of}
use Rattle.sets.proofs.Digit.{has_zero}
use Rattle.sets.proofs.Change.{has_with, without_with}
use Rattle.numbers.proofs.Tests.{eqb_sym, and_left, and_right, or_false_left, or_false_right}
use Rattle.table.specs.Limits.{most_held, most_levels, step_size}
use Rattle.table.specs.Table.{lock, unlock}
use Rattle.table.specs.Held.{Section, held_after, holds, held_set}
use Rattle.table.specs.Spare.{spare_here, spare_after}
use Rattle.table.specs.Check.{got, broken_lock, nothing_held}
use Rattle.table.specs.Levels.{section_of, sections_of, spare_of, apart}
use Rattle.table.specs.Walk.{Standing, judged}
use Rattle.table.specs.declared.sections.Section as kept
use Rattle.table.specs.declared.sections.Sections.{Sections}

-- ---- the set

-- What `apart` says of the innermost section and of the rest.
pub record Apart (s : Section) (held : List Section) : Type 0 where
  pub bit : s.resource < width
  pub free : holds held s.resource ≡ false
  pub rest : apart held ≡ true

pub apart_first : (s : Section) (held : List Section) → apart (s ∷ held) ≡ true → Apart s held
unfolding apart
apart_first s held e = record {
  bit = ltb-true s.resource width (and_left (ltb s.resource width) _ e);
  free = not-true (holds held s.resource) (and_left (not (holds held s.resource)) (apart held) (and_right (ltb s.resource width) _ e));
  rest = and_right (not (holds held s.resource)) (apart held) (and_right (ltb s.resource width) _ e);
}

-- The set has exactly the held.
pub has_held : (held : List Section) → apart held ≡ true → (r : ℕ) → has (held_set held) r ≡ holds held r
unfolding held_set holds
has_held [] a r = has_zero r
has_held (s ∷ held) a r =
    let f = apart_first s held a in
    rw (has_with width (held_set held) s.resource r f.bit, eqb_sym r s.resource, has_held held f.rest r)

-- ---- the arrays

-- What a lock and an unlock leave of the sections.
abbrev pub closed : kept.Section
closed = record { resource = 0; length = 0 }

abbrev pub locked : ℕ → ℕ → List kept.Section → List kept.Section
locked r l sections = record { resource = r; length = l } ∷ get_or sections 0 closed ∷ get_or sections 1 closed ∷ get_or sections 2 closed ∷ []

abbrev pub unlocked : List kept.Section → List kept.Section
unlocked sections = get_or sections 1 closed ∷ get_or sections 2 closed ∷ get_or sections 3 closed ∷ closed ∷ []

-- And of what is left.
abbrev pub taken : ℕ → List ℕ → List ℕ
taken l spare = l ∷ (get_or spare 0 0 - l) ∷ get_or spare 1 0 ∷ get_or spare 2 0 ∷ get_or spare 3 0 ∷ []

abbrev pub ended : List ℕ → List ℕ
ended spare = get_or spare 1 0 ∷ get_or spare 2 0 ∷ get_or spare 3 0 ∷ get_or spare 4 0 ∷ 0 ∷ []

-- The arrays by their places.
data Four : List kept.Section → Type 0 where
  four : (a b c d : kept.Section) → Four (a ∷ b ∷ c ∷ d ∷ [])

four_of : (sections : List kept.Section) → length sections ≡ most_held → Four sections
four_of [] p = absurd (omega arith)
four_of (a ∷ []) p = absurd (omega arith)
four_of (a ∷ b ∷ []) p = absurd (omega arith)
four_of (a ∷ b ∷ c ∷ []) p = absurd (omega arith)
four_of (a ∷ b ∷ c ∷ d ∷ []) p = four a b c d
four_of (a ∷ b ∷ c ∷ d ∷ e ∷ sections) p = absurd (omega arith)

data Five : List ℕ → Type 0 where
  five : (a b c d e : ℕ) → Five (a ∷ b ∷ c ∷ d ∷ e ∷ [])

five_of : (spare : List ℕ) → length spare ≡ most_levels → Five spare
five_of [] p = absurd (omega arith)
five_of (a ∷ []) p = absurd (omega arith)
five_of (a ∷ b ∷ []) p = absurd (omega arith)
five_of (a ∷ b ∷ c ∷ []) p = absurd (omega arith)
five_of (a ∷ b ∷ c ∷ d ∷ []) p = absurd (omega arith)
five_of (a ∷ b ∷ c ∷ d ∷ e ∷ []) p = five a b c d e
five_of (a ∷ b ∷ c ∷ d ∷ e ∷ f ∷ spare) p = absurd (omega arith)

sections_locked : (r l : ℕ) {sections : List kept.Section} → Four sections → (depth : ℕ) → depth < most_held →
    sections_of (suc depth) (locked r l sections) ≡ held_after (lock r l) (sections_of depth sections)
sections_locked r l (four a b c d) zero h = refl
sections_locked r l (four a b c d) (suc zero) h = refl
sections_locked r l (four a b c d) (suc (suc zero)) h = refl
sections_locked r l (four a b c d) (suc (suc (suc zero))) h = refl
sections_locked r l (four a b c d) (suc (suc (suc (suc depth)))) h = absurd (omega arith)

spare_taken : (r l : ℕ) {spare : List ℕ} → Five spare → (depth : ℕ) → depth < most_held → spare_of (suc depth) (taken l spare) ≡ spare_after (lock r l) (spare_of depth spare)
spare_taken r l (five a b c d e) zero h = refl
spare_taken r l (five a b c d e) (suc zero) h = refl
spare_taken r l (five a b c d e) (suc (suc zero)) h = refl
spare_taken r l (five a b c d e) (suc (suc (suc zero))) h = refl
spare_taken r l (five a b c d e) (suc (suc (suc (suc depth)))) h = absurd (omega arith)

-- The innermost section, and those around it.
four_top : {sections : List kept.Section} → Four sections → (depth : ℕ) → suc depth ≤ most_held →
    sections_of (suc depth) sections ≡ section_of (get_or sections 0 closed) ∷ sections_of depth (unlocked sections)
four_top (four a b c d) zero h = refl
four_top (four a b c d) (suc zero) h = refl
four_top (four a b c d) (suc (suc zero)) h = refl
four_top (four a b c d) (suc (suc (suc zero))) h = refl
four_top (four a b c d) (suc (suc (suc (suc depth)))) h = absurd (omega arith)

pub sections_top : (depth : ℕ) (sections : List kept.Section) → length sections ≡ most_held → depth ≤ most_held → (depth ≡ 0 → ⊥) →
    sections_of depth sections ≡ section_of (get_or sections 0 closed) ∷ sections_of (depth - 1) (unlocked sections)
sections_top depth sections places room deep =
    let less : suc (depth - 1) ≡ depth = omega arith in
    subst (λ (x : ℕ). sections_of x sections ≡ section_of (get_or sections 0 closed) ∷ sections_of (depth - 1) (unlocked sections)) less
    (four_top (four_of sections places) (depth - 1) (omega arith))

spare_ended : {spare : List ℕ} → Five spare → (depth : ℕ) → suc depth ≤ most_held → spare_of depth (ended spare) ≡ spare_after unlock (spare_of (suc depth) spare)
spare_ended (five a b c d e) zero h = refl
spare_ended (five a b c d e) (suc zero) h = refl
spare_ended (five a b c d e) (suc (suc zero)) h = refl
spare_ended (five a b c d e) (suc (suc (suc zero))) h = refl
spare_ended (five a b c d e) (suc (suc (suc (suc depth)))) h = absurd (omega arith)

-- As many sections as the depth says.
sections_length : (depth : ℕ) (sections : List kept.Section) → length sections ≡ most_held → depth ≤ most_held → length (sections_of depth sections) ≡ depth
sections_length depth sections all room = simp (length-map, length-take) (omega arith)

-- ---- a lock

-- A lock that is not refused finds room, and its resource free.
pub record Free (r : ℕ) (held : List Section) : Type 0 where
  pub fifth : length held < most_held
  pub free : holds held r ≡ false

pub lock_free : (r l : ℕ) (held : List Section) → broken_lock r l held ≡ false → Free r held
unfolding holds
lock_free r l [] e = record { fifth = omega arith; free = refl }
lock_free r l (s ∷ held) e =
    let rest = or_false_right (holds (s ∷ held) r) (leb most_held (length (s ∷ held)) || ltb s.length l) e in
    record {
      fifth = leb-false most_held (length (s ∷ held)) (or_false_left (leb most_held (length (s ∷ held))) (ltb s.length l) rest);
      free = or_false_left (holds (s ∷ held) r) (leb most_held (length (s ∷ held)) || ltb s.length l) e;
    }

broken_top : (r l : ℕ) {held rest : List Section} {s : Section} → held ≡ s ∷ rest →
    broken_lock r l held ≡ (holds held r || (leb most_held (length held) || ltb s.length l))
broken_top r l {held} {rest} {s} e =
    subst (λ (x : List Section). broken_lock r l x ≡ (holds x r || (leb most_held (length x) || ltb s.length l))) (sym e) refl

-- What the code keeps goes together.
pub record Kept (set depth : ℕ) (sections : List kept.Section) (spare : List ℕ) : Type 0 where
  pub places : length sections ≡ most_held
  pub levels : length spare ≡ most_levels
  pub room : depth ≤ most_held
  pub held : set ≡ held_set (sections_of depth sections)
  pub apart : apart (sections_of depth sections) ≡ true

pub kept_in : (s : Sections) → Kept s.set s.depth s.sections s.spare
kept_in s = record { places = s.places; levels = s.levels; room = s.room; held = s.held; apart = s.apart }

abbrev pub standing : ℕ → List kept.Section → List ℕ → Standing
standing depth sections spare = record { held = sections_of depth sections; spare = spare_of depth spare }

module _ (set depth : ℕ) (sections : List kept.Section) (spare : List ℕ) (keeps : Kept set depth sections spare) where
  module _ (r l : ℕ) (free : broken_lock r l (sections_of depth sections) ≡ false) where
    more : depth + 1 ≡ suc depth
    more = omega arith

    fewer : depth < most_held
    fewer =
        let f = lock_free r l (sections_of depth sections) free in
        omega (arith, sections_length depth sections keeps.places keeps.room, f.fifth)

    lock_sections : sections_of (depth + 1) (locked r l sections) ≡ held_after (lock r l) (sections_of depth sections)
    lock_sections = rw more (sections_locked r l (four_of sections keeps.places) depth fewer)

    lock_spare : spare_of (depth + 1) (taken l spare) ≡ spare_after (lock r l) (spare_of depth spare)
    lock_spare = rw more (spare_taken r l (five_of spare keeps.levels) depth fewer)

    pub lock_keeps : (set' : ℕ) → set' ≡ with_of width set r → r < width → Kept set' (depth + 1) (locked r l sections) (taken l spare)
    unfolding held_set apart
    lock_keeps set' e w =
        let f = lock_free r l (sections_of depth sections) free in
        record {
          places = refl;
          levels = refl;
          room = omega (arith, fewer);
          held = rw lock_sections (e ∙ ap (λ (x : ℕ). with_of width x r) keeps.held);
          apart = rw lock_sections (rw (lt-ltb r width w, f.free, keeps.apart));
        }

    pub lock_read : (at : ℕ) → ltb (spare_here (spare_of depth spare)) l ≡ false →
        got (standing (depth + 1) (locked r l sections) (taken l spare)) (at + step_size) ≡ judged (lock r l) (standing depth sections spare) at
    lock_read at fits = rw (lock_sections, lock_spare, free, fits)

  -- ---- an unlock

  module _ (deep : depth ≡ 0 → ⊥) where
    top : sections_of depth sections ≡ section_of (get_or sections 0 closed) ∷ sections_of (depth - 1) (unlocked sections)
    top = sections_top depth sections keeps.places keeps.room deep

    unlock_spare : spare_of (depth - 1) (ended spare) ≡ spare_after unlock (spare_of depth spare)
    unlock_spare =
        let less : suc (depth - 1) ≡ depth = omega arith in
        subst (λ (x : ℕ). spare_of (depth - 1) (ended spare) ≡ spare_after unlock (spare_of x spare)) less
        (spare_ended (five_of spare keeps.levels) (depth - 1) (omega (arith, keeps.room)))

    pub unlock_keeps : (set' : ℕ) → set' ≡ without_of width set (get_or sections 0 closed).resource → Kept set' (depth - 1) (unlocked sections) (ended spare)
    unfolding held_set
    unlock_keeps set' e =
        let s = section_of (get_or sections 0 closed) in
        let rest = sections_of (depth - 1) (unlocked sections) in
        let a = apart_first s rest (rw top at keeps.apart) in
        let t : set ≡ with_of width (held_set rest) s.resource = keeps.held ∙ ap held_set top in
        record {
          places = refl;
          levels = refl;
          room = omega (arith, keeps.room);
          held = e ∙ ap (λ (x : ℕ). without_of width x s.resource) t ∙ without_with width (held_set rest) s.resource a.bit (has_held rest a.rest s.resource ∙ a.free);
          apart = a.rest;
        }

    pub unlock_read : (at : ℕ) → got (standing (depth - 1) (unlocked sections) (ended spare)) (at + step_size) ≡ judged unlock (standing depth sections spare) at
    unlock_read at = rw (top, unlock_spare)

-- What the code asks before a lock, of what it keeps.
pub lock_tests : (r l depth : ℕ) (sections : List kept.Section) → length sections ≡ most_held → depth ≤ most_held → apart (sections_of depth sections) ≡ true → (depth ≡ 0 → ⊥) →
    broken_lock r l (sections_of depth sections)
    ≡ (has (held_set (sections_of depth sections)) r || (leb most_held depth || ltb (get_or sections 0 closed).length l))
lock_tests r l depth sections all room alone deep =
    let h : holds (sections_of depth sections) r ≡ has (held_set (sections_of depth sections)) r = sym (has_held (sections_of depth sections) alone r) in
    let n : length (sections_of depth sections) ≡ depth = sections_length depth sections all room in
    broken_top r l (sections_top depth sections all room deep) ∙ rw (h, n)

-- Nothing is held exactly at depth 0.
pub nothing_test : (depth : ℕ) (sections : List kept.Section) → length sections ≡ most_held → nothing_held (sections_of depth sections) ≡ eqb depth 0
nothing_test depth sections all = go (four_of sections all) depth
  where
    go : {sections : List kept.Section} → Four sections → (depth : ℕ) → nothing_held (sections_of depth sections) ≡ eqb depth 0
    go (four a b c d) zero = refl
    go (four a b c d) (suc depth) = sym (ne_eqb (suc depth) 0 (omega arith))
