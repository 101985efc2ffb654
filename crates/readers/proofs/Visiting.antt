-- The users of a resource, gathered into a set from the first task on, and its floor by the members of that set: they are the users, in the tasks'
-- order, so the least D of them is the floor. Stated for every list of tasks that a set has room for.
-- Assumes nothing.
use Prim.Native.Nat.{ℕ, zero, suc, ◌+◌, ◌-◌, ◌≤◌, ◌<◌, min}
use mathlib.Core.Path.{◌≡◌, refl, sym, ap, ◌∙◌}
use mathlib.Core.Bool.{Bool, true, false, cond}
use mathlib.Core.List.{List, [], ◌∷◌, map}
use native.Mathlib.Nat.{not-suc-le-zero, le_of_suc-le-suc}
use native.Mathlib.Numerals.{add-one}
use native.Mathlib.Omega.{arith}
use lib.ListN.{length, get_or}
use Rattle.std.specs.Prelude.{unwrap_or}
use Rattle.std.specs.List.{fold, reduce, filter, range_with_len}
use Rattle.sets.specs.Member.{width, has, with_of, members_from, members}
use Rattle.sets.proofs.Digit.{has_zero}
use Rattle.sets.proofs.Visit.{from_has, from_not}
use Rattle.table.specs.Table.{Task, Table, no_task, tasks_of, task_of}
use Rattle.table.specs.Floor.{uses, users_from, users_of, deadlines_of, least, floor_of}
use Rattle.table.specs.Map.{table_at}
use Rattle.table.specs.declared.Map.{Map}
use Rattle.table.proofs.Floors.{users_user as user_first, users_other as other_first, users_none, users_next as user_next, users_here}
use Rattle.readers.proofs.Raw.{tasks_at_lem, task_read}
use Rattle.readers.proofs.Gathered.{fold_with}

-- ---- the users, gathered from the first task on

-- a set, and the users among the tasks from the i-th on that are still to come to it
unfoldable pub users_on : Table → ℕ → ℕ → ℕ → ℕ
users_on t r set i = fold (with_of width) set (filter (λ (j : ℕ). uses (task_of t j) r) (range_with_len i (tasks_of t - i)))

users_from_lem : (tasks : List Task) (i r : ℕ) (user : ℕ → Bool) → ((j : ℕ) → user (i + j) ≡ uses (get_or tasks j no_task) r)
    → fold (with_of width) 0 (filter user (range_with_len i (length tasks))) ≡ users_from i tasks r
users_from_lem [] i r user same = sym (users_none i r)
users_from_lem (task ∷ tasks) i r user same =
    let here : user i ≡ uses task r = let e : i + 0 ≡ i = omega arith in sym (ap user e) ∙ same 0 in
    let rest : fold (with_of width) 0 (filter user (range_with_len (i + 1) (length tasks))) ≡ users_from (suc i) tasks r =
    users_from_lem tasks (i + 1) r user (λ j. let e : i + 1 + j ≡ i + suc j = omega arith in ap user e ∙ same (suc j))
    ∙ ap (λ (k : ℕ). users_from k tasks r) (add-one i)
    in
    rw here (go rest (uses task r) refl)
  where
    go : fold (with_of width) 0 (filter user (range_with_len (i + 1) (length tasks))) ≡ users_from (suc i) tasks r → (b : Bool) → uses task r ≡ b
        → fold (with_of width) 0 (cond b (i ∷ filter user (range_with_len (i + 1) (length tasks))) (filter user (range_with_len (i + 1) (length tasks))))
        ≡ users_from i (task ∷ tasks) r
    go rest true e =
        fold_with width 0 i (filter user (range_with_len (i + 1) (length tasks))) ∙ ap (λ (set : ℕ). with_of width set i) rest
        ∙ sym (user_first i task tasks r e)
    go rest false e = rest ∙ sym (other_first i task tasks r e)

pub users_start : (t : Table) (r : ℕ) → users_on t r 0 0 ≡ users_of t r
unfolding users_on
users_start t r =
    let all : tasks_of t - 0 ≡ tasks_of t = omega arith in
    rw all
    (users_from_lem t.tasks 0 r (λ (i : ℕ). uses (task_of t i) r)
    (λ j. let e : 0 + j ≡ j = omega arith in ap (λ (i : ℕ). uses (task_of t i) r) e))

users_next : (t : Table) (r set i : ℕ) → i < tasks_of t
    → users_on t r set i ≡ users_on t r (cond (uses (task_of t i) r) (with_of width set i) set) (i + 1)
unfolding users_on
users_next t r set i l = let e : tasks_of t - i ≡ suc (tasks_of t - (i + 1)) = omega arith in rw e (go (uses (task_of t i) r))
  where
    rest : List ℕ
    rest = filter (λ (j : ℕ). uses (task_of t j) r) (range_with_len (i + 1) (tasks_of t - (i + 1)))

    go : (b : Bool) → fold (with_of width) set (cond b (i ∷ rest) rest) ≡ fold (with_of width) (cond b (with_of width set i) set) rest
    go true = refl
    go false = refl

pub users_user : (t : Table) (r set i : ℕ) → i < tasks_of t → uses (task_of t i) r ≡ true → users_on t r (with_of width set i) (i + 1) ≡ users_on t r set i
users_user t r set i l e = sym (users_next t r set i l ∙ rw e)

pub users_other : (t : Table) (r set i : ℕ) → i < tasks_of t → uses (task_of t i) r ≡ false → users_on t r set (i + 1) ≡ users_on t r set i
users_other t r set i l e = sym (users_next t r set i l ∙ rw e)

pub users_end : (t : Table) (r set i : ℕ) → i ≡ tasks_of t → users_on t r set i ≡ set
unfolding users_on
users_end t r set i end = let e : tasks_of t - tasks_of t ≡ 0 = omega arith in rw (end, e)

-- what the loop goes by
pub ruleset users_steps = (task_read, tasks_at_lem, users_start, users_user, users_other, users_end)

-- ---- the members of that set, and the D of each

nobody : (n i x : ℕ) → ((k : ℕ) → i ≤ k → has x k ≡ false) → members_from n i x ≡ []
unfolding members_from
nobody zero i x e = refl
nobody (suc n) i x e = from_not n i x (e i (omega arith)) ∙ nobody n (suc i) x (λ k l. e k (omega arith))

visited : (tasks : List Task) (n i x r : ℕ) (d : ℕ → ℕ) → length tasks ≤ n → i + n ≤ width
    → ((k : ℕ) → i ≤ k → has x k ≡ has (users_from i tasks r) k) → ((j : ℕ) → d (i + j) ≡ (get_or tasks j no_task).D)
    → map d (members_from n i x) ≡ deadlines_of tasks r
unfolding deadlines_of
visited [] n i x r d l w same ds =
    ap (map d) (nobody n i x (λ k h. same k h ∙ ap (λ (set : ℕ). has set k) (users_none i r) ∙ has_zero k))
visited (task ∷ tasks) zero i x r d l w same ds = absurd (not-suc-le-zero l)
visited (task ∷ tasks) (suc n) i x r d l w same ds =
    go
    (visited tasks n (suc i) x r d (le_of_suc-le-suc l) (omega arith) (λ k h. same k (omega arith) ∙ user_next i task tasks r k (omega arith))
    (λ j. let e : suc i + j ≡ i + suc j = omega arith in ap d e ∙ ds (suc j)))
    (uses task r) refl
  where
    here : has x i ≡ uses task r
    here = same i (omega arith) ∙ users_here i task tasks r (omega arith)

    first : d i ≡ task.D
    first = let e : i ≡ i + zero = omega arith in ap d e ∙ ds zero

    go : map d (members_from n (suc i) x) ≡ deadlines_of tasks r → (b : Bool) → uses task r ≡ b
        → map d (members_from (suc n) i x) ≡ cond b (task.D ∷ deadlines_of tasks r) (deadlines_of tasks r)
    go rest true e = rw (from_has n i x (here ∙ e), first, rest)
    go rest false e = rw (from_not n i x (here ∙ e)) rest

-- the D of each member of a set of tasks, lowest member first
abbrev deadlines_in : Table → ℕ → List ℕ
deadlines_in t set = map (λ (i : ℕ). (task_of t i).D) (members width set)

-- those of the users are the D of each user, in the tasks' order
pub users_deadlines : (t : Table) (r : ℕ) → tasks_of t ≤ width → deadlines_in t (users_of t r) ≡ deadlines_of t.tasks r
unfolding members
users_deadlines t r l =
    visited t.tasks width 0 (users_of t r) r (λ (i : ℕ). (task_of t i).D) l (omega arith) (λ k h. refl)
    (λ j. let e : 0 + j ≡ j = omega arith in ap (λ (i : ℕ). (task_of t i).D) e)

-- ---- the least of them

least_fold : (a : ℕ) (ds : List ℕ) → fold min a ds ≡ least (a ∷ ds)
unfolding least
least_fold a [] = refl
least_fold a (d ∷ ds) = least_fold (min a d) ds ∙ go a d ds
  where
    go : (a d : ℕ) (ds : List ℕ) → least (min a d ∷ ds) ≡ least (a ∷ d ∷ ds)
    go a d [] = refl
    go a d (e ∷ ds) = omega arith

least_reduce : (ds : List ℕ) → unwrap_or (reduce min ds) 0 ≡ least ds
unfolding least
least_reduce [] = refl
least_reduce (d ∷ ds) = least_fold d ds

-- a map has no more tasks than a set has room for
pub tasks_few : (ws : List ℕ) (map : Map) → tasks_of (table_at ws map) ≤ width
tasks_few ws map = omega (arith, tasks_at_lem ws map)

pub floor_least : (ws : List ℕ) (map : Map) (r : ℕ)
    → unwrap_or (reduce min (deadlines_in (table_at ws map) (users_of (table_at ws map) r))) 0 ≡ floor_of (table_at ws map) r
floor_least ws map r =
    least_reduce (deadlines_in (table_at ws map) (users_of (table_at ws map) r))
    ∙ ap least (users_deadlines (table_at ws map) r (tasks_few ws map))
