-- The laws of a plan that nests: what it holds at each place, and what its next step may do there. The idea: from any place on, the rest of
-- the plan nests above what is held there, and every section held there was allowed when it was locked (`nested_at`); the laws read that off.
-- Assumes nothing.
use mathlib.Core.Path.{◌≡◌, refl, sym, ap, ◌∙◌, subst₂}
use mathlib.Core.Bool.{Bool, true, false, ◌||◌}
use mathlib.Core.List.{List, [], ◌∷◌}
use Prim.Native.Nat.{ℕ, zero, suc, ◌^◌, ◌≤◌, ◌<◌, zero-le, suc-le-suc}
use native.Mathlib.Nat.{not-suc-le-zero, le_of_suc-le-suc, le_trans}
use native.Mathlib.Numerals.{add-one}
use native.Mathlib.Omega.{arith}
use lib.Dec.{eqb, lit<}
use borrow.Author.Tests.{eq-eqb, lt-ltb}
use lib.ListN.{length, get_or, take, drop}
use Rattle.sets.specs.Member.{width, has, size_of}
use Rattle.sets.proofs.Change.{with_below}
use Rattle.sets.proofs.Count.{size_with, size_zero}
use Rattle.table.specs.Limits.{most_held}
use Rattle.table.specs.Table.{Step, lock, unlock}
use Rattle.table.specs.Held.{Section, held_after, held_from, held_by, holds, held_set}
use Rattle.table.specs.Valid.{Allowed, Nested, ends, locks, unlocks}
use Rattle.table.specs.Floor.{step_locks, locks as locksIn}
use Rattle.table.specs.Map.{next_of}
use Rattle.table.specs.Levels.{apart}
use Rattle.std.proofs.lemmas.Bool.{or_left, or_right}
use Rattle.numbers.proofs.Tests.{never}
use Rattle.table.proofs.Levels.{has_held as set-held}
use Rattle.table.specs.declared.Next.TheVariants.{Lock, Unlock, Finish}

-- Sections each of which was allowed while those below it were held.
pub data Open (m c : ℕ) : List Section → Type 0 where
  none : Open m c []
  more : {held : List Section} {r l : ℕ} → Allowed m c r l held → Open m c held → Open m c (record { resource = r; length = l } ∷ held)

-- ---- one step

pub held_one : (held : List Section) (plan : List Step) (k : ℕ) → k < length plan →
    held_from held (take (suc k) plan) ≡ held_after (get_or plan k unlock) (held_from held (take k plan))
unfolding held_from
held_one held [] k h = absurd (not-suc-le-zero h)
held_one held (s ∷ plan) zero h = refl
held_one held (s ∷ plan) (suc k) h = held_one (held_after s held) plan k (le_of_suc-le-suc h)

pub held_step : (plan : List Step) (k : ℕ) → k < length plan → held_by plan (suc k) ≡ held_after (get_or plan k unlock) (held_by plan k)
held_step plan k h = held_one [] plan k h

-- ---- from a place on

pub next_drop : (plan : List Step) (k : ℕ) → next_of plan k ≡ next_of (drop k plan) zero
unfolding next_of
next_drop [] zero = refl
next_drop [] (suc k) = refl
next_drop (s ∷ plan) zero = refl
next_drop (s ∷ plan) (suc k) = next_drop plan k

pub nested_at : {m c : ℕ} {held : List Section} {plan : List Step} → Nested m c held plan → Open m c held → (k : ℕ) →
    Nested m c (held_from held (take k plan)) (drop k plan) × Open m c (held_from held (take k plan))
unfolding held_from
nested_at n o zero = (n, o)
nested_at ends o (suc k) = (ends, o)
nested_at (locks a n) o (suc k) = nested_at n (more a o) k
nested_at (unlocks n) (more a o) (suc k) = nested_at n o k

-- ---- what the next step tells of the rest

lock_first : {m c : ℕ} {held : List Section} {rest : List Step} {r l : ℕ} → Nested m c held rest → next_of rest zero ≡ Lock r l →
    Allowed m c r l held
unfolding next_of
lock_first ends e = never (cc)
lock_first {m} {c} {held} (locks a n) e = subst₂ (λ (r l : ℕ). Allowed m c r l held) (cc) (cc) a
lock_first (unlocks n) e = never (cc)

unlock_first : {m c : ℕ} {held : List Section} {rest : List Step} → Nested m c held rest → next_of rest zero ≡ Unlock →
    (s : Section) × (left : List Section) × (held ≡ s ∷ left)
unfolding next_of
unlock_first ends e = never (cc)
unlock_first (locks a n) e = never (cc)
unlock_first (unlocks {held = left} {s = s} n) e = (s, left, refl)

finish_first : {m c : ℕ} {held : List Section} {rest : List Step} → Nested m c held rest → next_of rest zero ≡ Finish → held ≡ []
unfolding next_of
finish_first ends e = refl
finish_first (locks a n) e = never (cc)
finish_first (unlocks n) e = never (cc)

-- ---- where a step is, and which

pub next_below : (plan : List Step) (k : ℕ) {r l : ℕ} → next_of plan k ≡ Lock r l → k < length plan
unfolding next_of
next_below [] k e = never (cc)
next_below (s ∷ plan) zero e = omega arith
next_below (s ∷ plan) (suc k) e = suc-le-suc (next_below plan k e)

pub next_below_unlock : (plan : List Step) (k : ℕ) → next_of plan k ≡ Unlock → k < length plan
unfolding next_of
next_below_unlock [] k e = never (cc)
next_below_unlock (s ∷ plan) zero e = omega arith
next_below_unlock (s ∷ plan) (suc k) e = suc-le-suc (next_below_unlock plan k e)

pub next_above : (plan : List Step) (k : ℕ) → next_of plan k ≡ Finish → length plan ≤ k
unfolding next_of
next_above [] k e = zero-le
next_above (lock r l ∷ plan) zero e = never (cc)
next_above (unlock ∷ plan) zero e = never (cc)
next_above (s ∷ plan) (suc k) e = suc-le-suc (next_above plan k e)

pub next_finish : (plan : List Step) (k : ℕ) → length plan ≤ k → next_of plan k ≡ Finish
unfolding next_of
next_finish [] k h = refl
next_finish (s ∷ plan) zero h = absurd (not-suc-le-zero h)
next_finish (s ∷ plan) (suc k) h = next_finish plan k (le_of_suc-le-suc h)

pub lock_step : (plan : List Step) (k : ℕ) {r l : ℕ} → next_of plan k ≡ Lock r l → get_or plan k unlock ≡ lock r l
unfolding next_of
lock_step [] k e = never (cc)
lock_step (lock q j ∷ plan) zero e = cc
lock_step (unlock ∷ plan) zero e = never (cc)
lock_step (s ∷ plan) (suc k) e = lock_step plan k e

pub unlock_step : (plan : List Step) (k : ℕ) → next_of plan k ≡ Unlock → get_or plan k unlock ≡ unlock
unfolding next_of
unlock_step [] k e = refl
unlock_step (lock q j ∷ plan) zero e = never (cc)
unlock_step (unlock ∷ plan) zero e = refl
unlock_step (s ∷ plan) (suc k) e = unlock_step plan k e

-- ---- what is held, step by step

pub held_start : (plan : List Step) → held_by plan zero ≡ []
unfolding held_from
held_start plan = refl

pub held_lock : (plan : List Step) (k : ℕ) {r l : ℕ} → next_of plan k ≡ Lock r l →
    held_by plan (suc k) ≡ record { resource = r; length = l } ∷ held_by plan k
held_lock plan k e =
    held_step plan k (next_below plan k e) ∙ ap (λ (x : Step). held_after x (held_by plan k)) (lock_step plan k e)

-- ---- what is locked

pub lock_locks : (plan : List Step) (k : ℕ) {r l : ℕ} → next_of plan k ≡ Lock r l → locksIn plan r ≡ true
unfolding next_of locksIn
lock_locks [] k e = never (cc)
lock_locks (lock q j ∷ plan) zero {r} {l} e =
    let q_r : q ≡ r = cc in
    rw (eq-eqb q r q_r)
lock_locks (unlock ∷ plan) zero e = never (cc)
lock_locks (s ∷ plan) (suc k) {r} {l} e = or_right (step_locks s r) (locksIn plan r) (lock_locks plan k e)

moved : (a b c : Bool) → ((a || b) || c) ≡ true → (b || (a || c)) ≡ true
moved true true c e = refl
moved true false c e = refl
moved false b c e = e

before : (held : List Section) (s : Step) (plan : List Step) (r : ℕ) → (holds (held_after s held) r || locksIn plan r) ≡ true →
    (holds held r || locksIn (s ∷ plan) r) ≡ true
unfolding holds locksIn
before held (lock q l) plan r e = moved (eqb q r) (holds held r) (locksIn plan r) e
before [] unlock plan r e = e
before (x ∷ held) unlock plan r e = moved_in (eqb x.resource r) (holds held r) (locksIn plan r) e
  where
    moved_in : (a b c : Bool) → (b || c) ≡ true → ((a || b) || c) ≡ true
    moved_in true b c e = refl
    moved_in false b c e = e

-- A section that is held after some steps was held before them, or one of them locked it.
held_or_locked : (held : List Section) (plan : List Step) (k r : ℕ) → holds (held_from held (take k plan)) r ≡ true →
    (holds held r || locksIn plan r) ≡ true
unfolding held_from
held_or_locked held plan zero r e = or_left (holds held r) (locksIn plan r) e
held_or_locked held [] (suc k) r e = or_left (holds held r) (locksIn [] r) e
held_or_locked held (s ∷ plan) (suc k) r e = before held s plan r (held_or_locked (held_after s held) plan k r e)

pub holds_locks : (plan : List Step) (k r : ℕ) → holds (held_by plan k) r ≡ true → locksIn plan r ≡ true
unfolding holds
holds_locks plan k r e = held_or_locked [] plan k r e

-- ---- the laws of a plan that nests

-- A set of held resources is a number of the width.
pub held_set_below : (held : List Section) → held_set held < 2 ^ width
unfolding held_set
held_set_below [] = lit< tt
held_set_below (s ∷ held) = with_below width (held_set held) s.resource (held_set_below held)

open_most : {m c : ℕ} {held : List Section} → Open m c held → length held ≤ most_held
open_most none = zero-le
open_most (more a o) = a.fifth

-- No resource is held twice.
open_apart : {m c : ℕ} {held : List Section} → m ≤ width → Open m c held → apart held ≡ true
unfolding apart
open_apart h none = refl
open_apart {held = s ∷ held} h (more a o) = rw (lt-ltb s.resource width (le_trans a.resource h), a.free, open_apart h o)

-- "A set of tasks or resources is one unsigned number with a bit for each member": the held resources as a set are the held resources.
open_has : {m c : ℕ} {held : List Section} → m ≤ width → Open m c held → (r : ℕ) → has (held_set held) r ≡ holds held r
open_has {held = held} h o r = set-held held (open_apart h o) r

-- "its size is the number of ones": as many as there are held sections, since none is held twice.
open_size : {m c : ℕ} {held : List Section} → m ≤ width → Open m c held → size_of (held_set held) ≡ length held
unfolding held_set
open_size h none = size_zero
open_size h (more {held = held} {r = q} a o) =
    size_with width (held_set held) q (le_trans a.resource h) (open_has h o q ∙ a.free)
    ∙ add-one (size_of (held_set held)) ∙ ap suc (open_size h o)

module _ {m c : ℕ} {plan : List Step} (nested : Nested m c [] plan) (k : ℕ) where
  -- What is held at a place was allowed, section by section.
  pub open_at : Open m c (held_by plan k)
  open_at = (nested_at nested none k).1

  -- "sections held at once by a job | 0 | 4"
  pub held_most : length (held_by plan k) ≤ most_held
  held_most = open_most open_at

  -- Every lock is one that the nesting rules allow.
  pub lock_allowed : {r l : ℕ} → next_of plan k ≡ Lock r l → Allowed m c r l (held_by plan k)
  lock_allowed e = lock_first (nested_at nested none k).0 (sym (next_drop plan k) ∙ e)

  pub lock_room : {r l : ℕ} → next_of plan k ≡ Lock r l → length (held_by plan k) < most_held
  lock_room e = (lock_allowed e).fifth

  pub lock_free : {r l : ℕ} → next_of plan k ≡ Lock r l → holds (held_by plan k) r ≡ false
  lock_free e = (lock_allowed e).free

  pub lock_below : {r l : ℕ} → next_of plan k ≡ Lock r l → r < m
  lock_below e = (lock_allowed e).resource

  pub held_unlock : next_of plan k ≡ Unlock → (s : Section) × (held_by plan k ≡ s ∷ held_by plan (suc k))
  held_unlock e =
      let (s, left, q) = unlock_first (nested_at nested none k).0 (sym (next_drop plan k) ∙ e) in
      let after : held_by plan (suc k) ≡ left =
      held_step plan k (next_below_unlock plan k e) ∙ ap (λ (x : Step). held_after x (held_by plan k)) (unlock_step plan k e)
      ∙ ap (held_after unlock) q
      in
      (s, q ∙ ap (λ (x : List Section). s ∷ x) (sym after))

  pub held_finish : k ≤ length plan → next_of plan k ≡ Finish → (held_by plan k ≡ []) × (k ≡ length plan)
  held_finish h e =
      let above : length plan ≤ k = next_above plan k e in
      (finish_first (nested_at nested none k).0 (sym (next_drop plan k) ∙ e), omega arith)

-- Where a set has room for every resource.
module _ {m c : ℕ} {plan : List Step} (fits : m ≤ width) (nested : Nested m c [] plan) (k : ℕ) where
  pub has_held : (r : ℕ) → has (held_set (held_by plan k)) r ≡ holds (held_by plan k) r
  has_held r = open_has fits (open_at nested k) r

  pub size_held : size_of (held_set (held_by plan k)) ≡ length (held_by plan k)
  size_held = open_size fits (open_at nested k)
