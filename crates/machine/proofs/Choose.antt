-- Choosing who runs as the code does: of the ready tasks, in rising order, the one with the least deadline and then the least release number, and of equals the
-- first. That is `who_runs` of `Order`. Assumes nothing.
use Prim.Native.Nat.{ℕ, zero, suc, ◌+◌, ◌<◌}
use mathlib.Core.Path.{◌≡◌, refl, sym, ap, subst, ◌∙◌}
use mathlib.Core.Logic.{◌⊎◌, inl, inr}
use mathlib.Core.Bool.{Bool, true, false, cond}
use mathlib.Core.List.{List, [], ◌∷◌}
use native.Mathlib.Omega.{arith}
use denote.Param.Members.{Mut}
use denote.Ref.{Bor}
use lib.Dec.{ltb}
use borrow.Author.Tests.{lt-ltb, le-ltb, eq-eqb, ne_eqb}
use Rattle.std.proofs.lemmas.Bool.{cases_order}
use Rattle.std.specs.Prelude.{Option, Some, None, MatchOption}
use Rattle.std.specs.declared.cmp.Ordering.{Ordering}
use Rattle.std.specs.Fn.{CalledAt}
use Rattle.std.specs.Iterator.Runs.{Run}
use Rattle.std.specs.Iterator.{Drains, KeyTurn, PicksMinByKey}
use Rattle.std.specs.List.{filter, fold, reduce, range_with_len, FoldsTo}
use Rattle.std.specs.Ordering.{nat_cmp, ordering_then, min_by_ordering}
use Rattle.sets.specs.Member.{has}
use Rattle.table.specs.Limits.{most_tasks}
use Rattle.machine.specs.Order.{row_of, is_sooner, is_earlier, best_from, who_runs}
use Rattle.machine.specs.declared.Kept.{Kept}

-- ---- the order of the keys

-- Of two keys the first stays but where the second is sooner.
pub key_order : {A : Type 0} (d x e y : ℕ) (a b : A) → min_by_ordering (ordering_then (nat_cmp d e) (nat_cmp x y)) a b ≡ cond (is_sooner e y d x) b a
key_order d x e y a b = by_deadline (cases_order d e)
  where
    by_release : (x ≡ y) ⊎ ((x < y) ⊎ (y < x)) → min_by_ordering (nat_cmp x y) a b ≡ cond (ltb y x) b a
    by_release (inl s) = rw (le-ltb x y (omega arith), eq-eqb x y s, le-ltb y x (omega arith)) refl
    by_release (inr (inl l)) = rw (lt-ltb x y l, le-ltb y x (omega arith)) refl
    by_release (inr (inr m)) = rw (le-ltb x y (omega arith), ne_eqb x y (omega arith), lt-ltb y x m) refl

    by_deadline : (d ≡ e) ⊎ ((d < e) ⊎ (e < d)) → min_by_ordering (ordering_then (nat_cmp d e) (nat_cmp x y)) a b ≡ cond (is_sooner e y d x) b a
    by_deadline (inl s) =
        rw (le-ltb d e (omega arith), eq-eqb d e s, le-ltb e d (omega arith), eq-eqb e d (sym s)) (by_release (cases_order x y))
    by_deadline (inr (inl l)) = rw (lt-ltb d e l, le-ltb e d (omega arith), ne_eqb e d (omega arith)) refl
    by_deadline (inr (inr m)) = rw (le-ltb d e (omega arith), ne_eqb d e (omega arith), lt-ltb e d m) refl

-- ---- the ready tasks, one by one

-- Of two tasks the earlier, and of equals the first.
abbrev pub earlier_of : Kept → ℕ → ℕ → ℕ
earlier_of kept b i = cond (is_earlier (row_of kept i) (row_of kept b)) i b

-- The ready ones of `left` tasks from task i on.
abbrev pub ready_from : Kept → ℕ → ℕ → List ℕ
ready_from kept left i = filter (has kept.ready) (range_with_len i left)

one_on : {A : Type 0} (f : ℕ → A) (i : ℕ) → f (i + 1) ≡ f (suc i)
one_on f i = ap f (omega arith)

best_ready : (left i b : ℕ) (kept : Kept) → Some (fold (earlier_of kept) b (ready_from kept left i)) ≡ best_from left i kept (Some b)
unfolding best_from
best_ready zero i b kept = refl
best_ready (suc left) i b kept =
    go (λ x. one_on (λ (k : ℕ). Some (fold (earlier_of kept) x (ready_from kept left k))) i ∙ best_ready left (suc i) x kept) (has kept.ready i) refl
  where
    Left : Type 0
    Left = (x : ℕ) → Some (fold (earlier_of kept) x (ready_from kept left (i + 1))) ≡ best_from left (suc i) kept (Some x)

    pick : Left → (a : Bool) →
        Some (fold (earlier_of kept) (cond a i b) (ready_from kept left (i + 1))) ≡ best_from left (suc i) kept (cond a (Some i) (Some b))
    pick rest true = rest i
    pick rest false = rest b

    go : Left → (r : Bool) → has kept.ready i ≡ r → Some (fold (earlier_of kept) b (ready_from kept (suc left) i)) ≡ best_from (suc left) i kept (Some b)
    go rest true e = rw e (pick rest (is_earlier (row_of kept i) (row_of kept b)))
    go rest false e = rw e (rest b)

first_ready : (left i : ℕ) (kept : Kept) → reduce (earlier_of kept) (ready_from kept left i) ≡ best_from left i kept None
unfolding best_from
first_ready zero i kept = refl
first_ready (suc left) i kept =
    go (one_on (λ (k : ℕ). Some (fold (earlier_of kept) i (ready_from kept left k))) i ∙ best_ready left (suc i) i kept)
    (one_on (λ (k : ℕ). reduce (earlier_of kept) (ready_from kept left k)) i ∙ first_ready left (suc i) kept)
    (has kept.ready i) refl
  where
    go : Some (fold (earlier_of kept) i (ready_from kept left (i + 1))) ≡ best_from left (suc i) kept (Some i) →
        reduce (earlier_of kept) (ready_from kept left (i + 1)) ≡ best_from left (suc i) kept None →
        (r : Bool) → has kept.ready i ≡ r → reduce (earlier_of kept) (ready_from kept (suc left) i) ≡ best_from (suc left) i kept None
    go one rest true e = rw e one
    go one rest false e = rw e rest

pub ready_best : (kept : Kept) → reduce (earlier_of kept) (ready_from kept most_tasks 0) ≡ who_runs kept
unfolding who_runs
ready_best kept = first_ready most_tasks 0 kept

-- ---- the turns of `min_by_key`

-- The key of task i: its job's deadline and release number.
abbrev pub key_of : Kept → ℕ → ℕ × ℕ
key_of kept i = ((row_of kept i).active, (row_of kept i).number)

abbrev pub key_cmp : ℕ × ℕ → ℕ × ℕ → Ordering
key_cmp x y = ordering_then (nat_cmp x.0 y.0) (nat_cmp x.1 y.1)

-- Of what goes with the keys of tasks b and i, what goes with the earlier one's stays; its key too.
earlier_kept : {A : Type 0} (kept : Kept) (b i : ℕ) (x y : A) →
    min_by_ordering (key_cmp (key_of kept b) (key_of kept i)) x y ≡ cond (is_earlier (row_of kept i) (row_of kept b)) y x
earlier_kept kept b i x y = key_order (row_of kept b).active (row_of kept b).number (row_of kept i).active (row_of kept i).number x y

earlier_key : (kept : Kept) (b i : ℕ) →
    min_by_ordering (key_cmp (key_of kept b) (key_of kept i)) (key_of kept b) (key_of kept i) ≡ key_of kept (earlier_of kept b i)
earlier_key kept b i = earlier_kept kept b i (key_of kept b) (key_of kept i) ∙ go (is_earlier (row_of kept i) (row_of kept b))
  where
    go : (a : Bool) → cond a (key_of kept i) (key_of kept b) ≡ key_of kept (cond a i b)
    go true = refl
    go false = refl

module _ {F : Type 0} (kept : Kept) (g : Mut F (Bor ℕ × Unit {0}) (ℕ × ℕ)) (f : F)
    (computes : (i : ℕ) (k : ℕ × ℕ) (q : F) → CalledAt g f i k q → (q ≡ f) × (k ≡ key_of kept i)) where
  abbrev Turn : (F × (ℕ × ℕ)) × ℕ → ℕ → (F × (ℕ × ℕ)) × ℕ → Type 0
  Turn = KeyTurn min_by_ordering min_by_ordering g key_cmp

  turn : (b i : ℕ) (j : (F × (ℕ × ℕ)) × ℕ) → Turn ((f, key_of kept b), b) i j → j ≡ ((f, key_of kept (earlier_of kept b i)), earlier_of kept b i)
  turn b i ((jf, jk), jb) (k, o, called, e, ek, eb) =
      let (still, key) = computes i k jf called in
      let keys : jk ≡ key_of kept (earlier_of kept b i) = rw (ek, sym e, key) (earlier_key kept b i) in
      let best : jb ≡ earlier_of kept b i = rw (eb, sym e, key) (earlier_kept kept b i b i) in
      rw (still, keys, best) refl

  turns : (xs : List ℕ) (b y : ℕ) (q : F × (ℕ × ℕ)) → FoldsTo Turn ((f, key_of kept b), b) xs (q, y) →
      FoldsTo (λ p z c. c ≡ earlier_of kept p z) b xs y
  turns [] b y q h = ap (λ (p : (F × (ℕ × ℕ)) × ℕ). p.1) h
  turns (i ∷ xs) b y q (j, one, rest) =
      let after = earlier_of kept b i in
      (after, refl, turns xs after y q (subst (λ (p : (F × (ℕ × ℕ)) × ℕ). FoldsTo Turn p xs (q, y)) (turn b i j one) rest))

-- What `min_by_key` says, of tasks alone. A run of the iterator is given only to say which steps it makes.
pub picked : {F S : Type 0} {steps : S → Option ℕ → S → Type 0} (kept : Kept) (g : Mut F (Bor ℕ × Unit {0}) (ℕ × ℕ)) (f : F) (s : S) (r : Option ℕ) →
    Run steps → PicksMinByKey steps g key_cmp s f r →
    ((i : ℕ) (k : ℕ × ℕ) (q : F) → CalledAt g f i k q → (q ≡ f) × (k ≡ key_of kept i)) →
    MatchOption r (Drains steps s []) (λ y. (x : ℕ) × (xs : List ℕ) × Drains steps s (x ∷ xs) × FoldsTo (λ p z c. c ≡ earlier_of kept p z) x xs y)
picked kept g f s None run h computes = h
picked kept g f s (Some y) run (x, xs, k, f', q, drains, called, folds) computes =
    let (still, key) = computes x k f' called in
    (x, xs, drains, turns kept g f computes xs x y q (rw (still, key) at folds))
