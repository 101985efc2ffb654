-- What the check reads where the words of something valid are written: that thing, up to where its words end. The idea: `drop at ws` is what lies
-- from a place on, so a law for one word, one step, one plan, one task and the tasks follows the words down without any sum of places.
-- Assumes nothing.
use mathlib.Core.Path.{◌≡◌, refl, ap, ◌∙◌}
use mathlib.Core.Bool.{false}
use mathlib.Core.List.{List, [], ◌∷◌, ◌++◌, append_assoc}
use Prim.Native.Nat.{ℕ, zero, suc, ◌+◌, ◌≤◌, ◌<◌, zero-le, suc-le-suc}
use native.Mathlib.Numerals.{add-one, add-two, add-three}
use native.Mathlib.Omega.{arith}
use lib.ListN.{length, get_or, drop}
use borrow.Author.Tests.{lt-ltb, le-ltb, le-leb, lt-leb}
use Rattle.table.specs.Limits.{most_ticks, most_steps, most_held, step_size, at_resource, at_length}
use Rattle.table.specs.Table.{Step, lock, unlock, Task, no_task}
use Rattle.table.specs.Held.{Section, held_after}
use Rattle.table.specs.Spare.{spare_after, crowded}
use Rattle.table.specs.Claims.{Level, Fitting, opens, closes}
use Rattle.table.specs.Check.{Read, got, ◌and_then◌, word_in, broken_lock, step_in, plan_in, task_in, tasks_in}
use Rattle.numbers.specs.Answers.{RANGE, COUNT}
use Rattle.table.specs.Valid.{Allowed, Nested, ends, locks, unlocks, ValidTask}
use Rattle.table.specs.Words.{plan_words, task_words, tasks_words}
use Rattle.numbers.proofs.Tests.{never}
use Rattle.table.proofs.Claimed.{Balanced, balanced_first, balanced_after, fits_lock}
use Rattle.table.proofs.Passed.{after_plan, after_s, after_c, after_d, after_t}

-- A read got `a`, and `rest` lies behind it.
pub record Written {A : Type 0} (read : Read A) (a : A) (ws rest : List ℕ) : Type 0 where
  pub end : ℕ
  pub reads : read ≡ got a end
  pub left : drop end ws ≡ rest

-- One after another.
pub then_written : {A B : Type 0} {read : Read A} (then : A → ℕ → Read B) {a : A} {b : B} {ws mid rest : List ℕ} → Written read a ws mid →
    ((next : ℕ) → drop next ws ≡ mid → Written (then a next) b ws rest) → Written (read and_then then) b ws rest
then_written then one two =
    let more = two one.end one.left in
    record {
      end = more.end;
      reads = ap (λ r. r and_then then) one.reads ∙ more.reads;
      left = more.left;
    }

-- Nothing more to read.
pub done : {A : Type 0} (a : A) (ws : List ℕ) {rest : List ℕ} (end : ℕ) → drop end ws ≡ rest → Written (got a end) a ws rest
done a ws end e = record { end = end; reads = refl; left = e }

-- ---- one word

first_word : (ws : List ℕ) (at : ℕ) {x : ℕ} {rest : List ℕ} → drop at ws ≡ x ∷ rest →
    (at < length ws) × (get_or ws at 0 ≡ x) × (drop (suc at) ws ≡ rest)
first_word [] zero e = never (cc)
first_word [] (suc at) e = never (cc)
first_word (y ∷ ws) zero e = (omega arith, cc, cc)
first_word (y ∷ ws) (suc at) e =
    let more = first_word ws at e in
    (suc-le-suc more.0, more.1, more.2)

pub word_written : (number least most : ℕ) (ws : List ℕ) (at : ℕ) {x : ℕ} {rest : List ℕ} → drop at ws ≡ x ∷ rest → least ≤ x → x ≤ most →
    Written (word_in number least most ws at) x ws rest
unfolding word_in
word_written number least most ws at {x} {rest} e low high =
    let here = first_word ws at e in
    record {
      end = at + 1;
      reads = rw (lt-ltb at (length ws) here.0, here.1, le-leb least x low, le-leb x most high);
      left = rw add-one here.2;
    }

-- ---- one step

record Three (ws : List ℕ) (at kind r l : ℕ) (rest : List ℕ) : Type 0 where
  there : at + step_size ≤ length ws
  is_kind : get_or ws at 0 ≡ kind
  is_r : get_or ws (at + at_resource) 0 ≡ r
  is_l : get_or ws (at + at_length) 0 ≡ l
  left : drop (at + step_size) ws ≡ rest

three : (ws : List ℕ) (at : ℕ) {kind r l : ℕ} {rest : List ℕ} → drop at ws ≡ kind ∷ r ∷ l ∷ rest → Three ws at kind r l rest
three ws at e =
    let one = first_word ws at e in
    let two = first_word ws (suc at) one.2 in
    let last = first_word ws (suc (suc at)) two.2 in
    let there : suc (suc at) < length ws = last.0 in
    record {
      there = omega arith;
      is_kind = one.1;
      is_r = rw add-one two.1;
      is_l = rw add-two last.1;
      left = rw add-three last.2;
    }

-- An allowed lock isn't broken.
allowed_whole : (m c r l : ℕ) (held : List Section) → Allowed m c r l held → broken_lock r l held ≡ false
allowed_whole m c r l [] a = refl
allowed_whole m c r l (s ∷ held) a =
    rw (a.free, lt-leb most_held (length (s ∷ held)) a.fifth, le-ltb s.length l a.inner)

lock_written : (m c r l : ℕ) (held : List Section) (spare ws : List ℕ) (at : ℕ) {rest : List ℕ} → Allowed m c r l held → crowded (lock r l) spare ≡ false →
    drop at ws ≡ 1 ∷ r ∷ l ∷ rest → Written (step_in m c held spare ws at) (lock r l) ws rest
unfolding step_in
lock_written m c r l held spare ws at a f e =
    let t = three ws at e in
    record {
      end = at + step_size;
      reads = rw (
        le-leb (at + step_size) (length ws) t.there,
        t.is_kind,
        t.is_r,
        t.is_l,
        lt-ltb r m a.resource,
        le-leb 1 l a.least,
        le-leb l c a.most,
        allowed_whole m c r l held a,
        f,
      );
      left = t.left;
    }

unlock_written : (m c : ℕ) (s : Section) (held : List Section) (spare ws : List ℕ) (at : ℕ) {rest : List ℕ} → drop at ws ≡ 2 ∷ 0 ∷ 0 ∷ rest →
    Written (step_in m c (s ∷ held) spare ws at) unlock ws rest
unfolding step_in
unlock_written m c s held spare ws at e =
    let t = three ws at e in
    record {
      end = at + step_size;
      reads = rw (le-leb (at + step_size) (length ws) t.there, t.is_kind, t.is_r, t.is_l);
      left = t.left;
    }

-- ---- a plan

plan_then : (m c left : ℕ) (held : List Section) (spare ws : List ℕ) (at : ℕ) (step : Step) (steps : List Step) {mid rest : List ℕ} →
    Written (step_in m c held spare ws at) step ws mid →
    ((next : ℕ) → drop next ws ≡ mid → Written (plan_in left m c (held_after step held) (spare_after step spare) ws next) steps ws rest) →
    Written (plan_in (suc left) m c held spare ws at) (step ∷ steps) ws rest
unfolding plan_in
plan_then m c left held spare ws at step steps one rest =
    then_written
    (λ (s : Step) (next : ℕ). ◌and_then◌ (plan_in left m c (held_after s held) (spare_after s spare) ws next) (λ (ss : List Step) (end : ℕ). got (s ∷ ss) end))
    one
    (λ next e. then_written (λ (ss : List Step) (end : ℕ). got (step ∷ ss) end) (rest next e) (λ end q. done (step ∷ steps) ws end q))

pub plan_written : {m c : ℕ} {held : List Section} {levels : List Level} {spare : List ℕ} {plan : List Step} → Nested m c held plan → Fitting levels plan →
    Balanced levels spare → (ws : List ℕ) (at : ℕ) {rest : List ℕ} → drop at ws ≡ plan_words plan ++ rest →
    Written (plan_in (length plan) m c held spare ws at) plan ws rest
unfolding plan_in plan_words
plan_written ends f b ws at e = done [] ws at e
plan_written {m} {c} {held} {spare = spare} (locks {steps = steps} {r = r} {l = l} a n) (opens h f) b ws at e =
    let fits = fits_lock r l b h in
    plan_then m c (length steps) held spare ws at (lock r l) steps (lock_written m c r l held spare ws at a fits e)
    (λ next q. plan_written n f (balanced_after (lock r l) b fits) ws next q)
plan_written {m} {c} {spare = spare} (unlocks {held = held} {steps = steps} {s = s} n) (closes f) b ws at e =
    plan_then m c (length steps) (s ∷ held) spare ws at unlock steps (unlock_written m c s held spare ws at e)
    (λ next q. plan_written n f (balanced_after unlock b refl) ws next q)

-- ---- a task

pub task_written : (m : ℕ) (task : Task) (ws : List ℕ) (at : ℕ) {rest : List ℕ} → ValidTask m task → drop at ws ≡ task_words task ++ rest →
    Written (task_in m ws at) task ws rest
unfolding task_in task_words
task_written m task ws at v e =
    then_written (after_t m ws) (word_written RANGE 1 most_ticks ws at e v.T_least v.T_most)
    (λ at₁ e₁. then_written (after_d m ws task.T) (word_written RANGE 1 most_ticks ws at₁ e₁ v.D_least v.D_most)
    (λ at₂ e₂. then_written (after_c m ws task.T task.D) (word_written RANGE 1 most_ticks ws at₂ e₂ v.C_least v.C_most)
    (λ at₃ e₃. then_written (after_s m ws task.T task.D task.C) (word_written COUNT 0 most_steps ws at₃ e₃ zero-le v.steps)
    (λ at₄ e₄. then_written (after_plan task.T task.D task.C) (plan_written v.nested v.fitting (balanced_first task.C) ws at₄ e₄)
    (λ end e₅. done task ws end e₅)))))

-- ---- the tasks

pub tasks_written : (m : ℕ) (tasks : List Task) (ws : List ℕ) (at : ℕ) {rest : List ℕ} →
    ((i : ℕ) → i < length tasks → ValidTask m (get_or tasks i no_task)) → drop at ws ≡ tasks_words tasks ++ rest →
    Written (tasks_in (length tasks) m ws at) tasks ws rest
unfolding tasks_in tasks_words
tasks_written m [] ws at each e = done [] ws at e
tasks_written m (task ∷ tasks) ws at {rest} each e =
    then_written
    (λ (t : Task) (next : ℕ). ◌and_then◌ (tasks_in (length tasks) m ws next) (λ (ts : List Task) (end : ℕ). got (t ∷ ts) end))
    (task_written m task ws at (each zero (suc-le-suc zero-le)) (e ∙ append_assoc (task_words task) (tasks_words tasks) rest))
    (λ next q. then_written (λ (ts : List Task) (end : ℕ). got (task ∷ ts) end)
    (tasks_written m tasks ws next (λ (i : ℕ) (h : i < length tasks). each (suc i) (suc-le-suc h)) q) (λ end x. done (task ∷ tasks) ws end x))
