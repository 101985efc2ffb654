-- The laws of users and floors: the floor is at most the D of every user, it is the D of one of them, and the set of users has exactly the
-- tasks whose plan locks the resource. The idea: the floor is the least of a list, and a number is in that list exactly when a user has it as D.
-- Assumes nothing.
use mathlib.Core.Path.{◌≡◌, refl, sym, ap, ◌∙◌}
use mathlib.Core.Logic.{◌≢◌}
use mathlib.Core.Bool.{Bool, true, false, ◌&&◌}
use mathlib.Core.List.{List, [], ◌∷◌}
use Prim.Native.Nat.{ℕ, zero, suc, ◌+◌, ◌^◌, ◌≤◌, ◌<◌, min, zero-le, suc-le-suc}
use native.Mathlib.Nat.{not-suc-le-zero, le_of_suc-le-suc, add-zero, zero-add, min-eq_left, min-eq_right, le_of_lt}
use native.Mathlib.Omega.{arith}
use lib.Dec.{ltb, leb, lit<, leb-suc-zero, leb-suc-suc}
use borrow.Author.Tests.{lt-ltb, leb-true, leb-false}
use lib.ListN.{length, get_or}
use Rattle.sets.specs.Member.{width, has, with_of}
use Rattle.sets.proofs.Digit.{has_zero}
use Rattle.sets.proofs.Change.{has_with_same, has_with_other, with_below}
use Rattle.table.specs.Table.{Task, Table, no_task, tasks_of, task_of}
use Rattle.table.specs.Floor.{uses, users_from, users_of, deadlines_of, least, floor_of}

-- A number is in a list.
data Among (x : ℕ) : List ℕ → Type 0 where
  first : {xs : List ℕ} → Among x (x ∷ xs)
  later : {y : ℕ} {xs : List ℕ} → Among x xs → Among x (y ∷ xs)

least_le : {x : ℕ} {xs : List ℕ} → Among x xs → least xs ≤ x
unfolding least
least_le (first {xs = []}) = omega arith
least_le (first {xs = y ∷ xs}) = omega arith
least_le {x = x} (later {y = y} {xs = []} a) = elim a [ ]
least_le {x} (later {y = y} {xs = z ∷ xs} a) =
    let below : least (z ∷ xs) ≤ x = least_le a in
    omega arith

pub least_one : (x : ℕ) → least (x ∷ []) ≡ x
unfolding least
least_one x = refl

least_more : (x y : ℕ) (xs : List ℕ) → least (x ∷ y ∷ xs) ≡ min x (least (y ∷ xs))
unfolding least
least_more x y xs = refl

least_among : (x : ℕ) (xs : List ℕ) → Among (least (x ∷ xs)) (x ∷ xs)
least_among x [] = rw least_one first
least_among x (y ∷ xs) = go (leb x (least (y ∷ xs))) refl (least_among y xs)
  where
    go : (t : Bool) → leb x (least (y ∷ xs)) ≡ t → Among (least (y ∷ xs)) (y ∷ xs) → Among (least (x ∷ y ∷ xs)) (x ∷ y ∷ xs)
    go true e a =
        let here : least (x ∷ y ∷ xs) ≡ x = least_more x y xs ∙ min-eq_left (leb-true x (least (y ∷ xs)) e) in
        rw here first
    go false e a =
        let there : least (x ∷ y ∷ xs) ≡ least (y ∷ xs) = least_more x y xs ∙ min-eq_right (le_of_lt (leb-false x (least (y ∷ xs)) e)) in
        rw there (later a)

-- ---- whose D are in the list

deadlines_user : (task : Task) (tasks : List Task) (r : ℕ) → uses task r ≡ true →
    deadlines_of (task ∷ tasks) r ≡ task.D ∷ deadlines_of tasks r
unfolding deadlines_of
deadlines_user task tasks r e = rw e

deadlines_other : (task : Task) (tasks : List Task) (r : ℕ) → uses task r ≡ false → deadlines_of (task ∷ tasks) r ≡ deadlines_of tasks r
unfolding deadlines_of
deadlines_other task tasks r e = rw e

-- The D of every user.
among_user : (tasks : List Task) (i r : ℕ) → i < length tasks → uses (get_or tasks i no_task) r ≡ true →
    Among (get_or tasks i no_task).D (deadlines_of tasks r)
among_user [] i r h e = absurd (not-suc-le-zero h)
among_user (task ∷ tasks) zero r h e = rw (deadlines_user task tasks r e) first
among_user (task ∷ tasks) (suc i) r h e = go (uses task r) refl (among_user tasks i r (le_of_suc-le-suc h) e)
  where
    go : (t : Bool) → uses task r ≡ t → Among (get_or tasks i no_task).D (deadlines_of tasks r) →
        Among (get_or tasks i no_task).D (deadlines_of (task ∷ tasks) r)
    go true q a = rw (deadlines_user task tasks r q) (later a)
    go false q a = rw (deadlines_other task tasks r q) a

-- A user with a given D.
record User (tasks : List Task) (r d : ℕ) : Type 0 where
  place : ℕ
  below : place < length tasks
  user : uses (get_or tasks place no_task) r ≡ true
  deadline : d ≡ (get_or tasks place no_task).D

next_user : {task : Task} {tasks : List Task} {r d : ℕ} → User tasks r d → User (task ∷ tasks) r d
next_user u = record {
  place = suc u.place;
  below = suc-le-suc u.below;
  user = u.user;
  deadline = u.deadline;
}

among_cons : {P : Type 0} {x y : ℕ} {xs : List ℕ} → (x ≡ y → P) → (Among x xs → P) → Among x (y ∷ xs) → P
among_cons here there first = here refl
among_cons here there (later a) = there a

-- The D of nobody else.
user_among : (tasks : List Task) (r : ℕ) {d : ℕ} → Among d (deadlines_of tasks r) → User tasks r d
unfolding deadlines_of
user_among [] r a = elim a [ ]
user_among (task ∷ tasks) r {d} a = go (uses task r) refl (λ (b : Among d (deadlines_of tasks r)). user_among tasks r b)
  where
    go : (t : Bool) → uses task r ≡ t → (Among d (deadlines_of tasks r) → User tasks r d) → User (task ∷ tasks) r d
    go true q rest =
        let b : Among d (task.D ∷ deadlines_of tasks r) = rw (deadlines_user task tasks r q) at a in
        among_cons (λ e. record { place = zero; below = suc-le-suc zero-le; user = q; deadline = e }) (λ c. next_user (rest c)) b
    go false q rest =
        let b : Among d (deadlines_of tasks r) = rw (deadlines_other task tasks r q) at a in
        next_user (rest b)

-- ---- the floor: "the least D among its users"

pub floor_most : (t : Table) (i r : ℕ) → i < tasks_of t → uses (task_of t i) r ≡ true → floor_of t r ≤ (task_of t i).D
floor_most t i r h e = least_le (among_user t.tasks i r h e)

some_least : {x : ℕ} {xs : List ℕ} → Among x xs → Among (least xs) xs
some_least (first {xs = xs}) = least_among _ xs
some_least (later {y = y} {xs = xs} a) = least_among y xs

pub floor_user : (t : Table) (i r : ℕ) → i < tasks_of t → uses (task_of t i) r ≡ true →
    (j : ℕ) × (j < tasks_of t) × (uses (task_of t j) r ≡ true) × (floor_of t r ≡ (task_of t j).D)
floor_user t i r h e =
    let u = user_among t.tasks r (some_least (among_user t.tasks i r h e)) in
    (u.place, u.below, u.user, u.deadline)

-- ---- the set of users

pub users_user : (j : ℕ) (task : Task) (tasks : List Task) (r : ℕ) → uses task r ≡ true →
    users_from j (task ∷ tasks) r ≡ with_of width (users_from (suc j) tasks r) j
unfolding users_from
users_user j task tasks r e = rw e

pub users_other : (j : ℕ) (task : Task) (tasks : List Task) (r : ℕ) → uses task r ≡ false →
    users_from j (task ∷ tasks) r ≡ users_from (suc j) tasks r
unfolding users_from
users_other j task tasks r e = rw e

pub users_none : (j r : ℕ) → users_from j [] r ≡ 0
unfolding users_from
users_none j r = refl

-- One task more changes its own membership alone.
pub users_next : (j : ℕ) (task : Task) (tasks : List Task) (r i : ℕ) → i ≢ j →
    has (users_from j (task ∷ tasks) r) i ≡ has (users_from (suc j) tasks r) i
users_next j task tasks r i n = go (uses task r) refl
  where
    go : (t : Bool) → uses task r ≡ t → has (users_from j (task ∷ tasks) r) i ≡ has (users_from (suc j) tasks r) i
    go true e = rw (users_user j task tasks r e) (has_with_other width (users_from (suc j) tasks r) j i n)
    go false e = rw (users_other j task tasks r e)

pub users_before : (j : ℕ) (tasks : List Task) (r i : ℕ) → i < j → has (users_from j tasks r) i ≡ false
users_before j [] r i h = rw (users_none j r) (has_zero i)
users_before j (task ∷ tasks) r i h = users_next j task tasks r i (omega arith) ∙ users_before (suc j) tasks r i (omega arith)

pub users_here : (j : ℕ) (task : Task) (tasks : List Task) (r : ℕ) → j < width → has (users_from j (task ∷ tasks) r) j ≡ uses task r
users_here j task tasks r h = go (uses task r) refl
  where
    go : (t : Bool) → uses task r ≡ t → has (users_from j (task ∷ tasks) r) j ≡ t
    go true e = rw (users_user j task tasks r e) (has_with_same width (users_from (suc j) tasks r) j h)
    go false e = rw (users_other j task tasks r e) (users_before (suc j) tasks r j (omega arith))

users_at : (j : ℕ) (tasks : List Task) (r i : ℕ) → j + length tasks ≤ width →
    has (users_from j tasks r) (j + i) ≡ (ltb i (length tasks) && uses (get_or tasks i no_task) r)
users_at j [] r i h = rw (users_none j r, leb-suc-zero i) (has_zero (j + i))
users_at j (task ∷ tasks) r zero h =
    rw (add-zero j, lt-ltb zero (suc (length tasks)) (suc-le-suc zero-le)) (users_here j task tasks r (omega arith))
users_at j (task ∷ tasks) r (suc i) h =
    let at : j + suc i ≡ suc j + i = omega arith in
    users_next j task tasks r (j + suc i) (omega arith) ∙ ap (has (users_from (suc j) tasks r)) at
    ∙ users_at (suc j) tasks r i (omega arith) ∙ ap (λ (t : Bool). t && uses (get_or tasks i no_task) r) (sym (leb-suc-suc (suc i) (length tasks)))

pub has_users : (t : Table) (r i : ℕ) → tasks_of t ≤ width → has (users_of t r) i ≡ (ltb i (tasks_of t) && uses (task_of t i) r)
has_users t r i h = ap (has (users_of t r)) (sym (zero-add i)) ∙ users_at zero t.tasks r i (omega arith)

-- The users are a number of the width.
pub users_below : (t : Table) (r : ℕ) → users_of t r < 2 ^ width
users_below t r = go zero t.tasks
  where
    go : (j : ℕ) (tasks : List Task) → users_from j tasks r < 2 ^ width
    go j [] = rw (users_none j r) (lit< tt)
    go j (task ∷ tasks) = pick (uses task r) refl (go (suc j) tasks)
      where
        pick : (t : Bool) → uses task r ≡ t → users_from (suc j) tasks r < 2 ^ width → users_from j (task ∷ tasks) r < 2 ^ width
        pick true e h = rw (users_user j task tasks r e) (with_below width (users_from (suc j) tasks r) j h)
        pick false e h = rw (users_other j task tasks r e) h
