-- How `sets::members` goes through a set: it takes the lowest member by trailing zeros, takes it out, and goes on. The laws of `proofs/Visit.antt` say
-- that this visits exactly the members of `specs/Member.antt`, lowest first, each once.
-- Assumes nothing.
use Rattle.std.specs.Prelude.{List, [], ◌∷◌, ℕ, zero, suc, ◌≤◌}
use Rattle.std.specs.Int.Count.{count_trailing_zeros}
use Rattle.sets.specs.Member.{without_of}

-- the first n members of x that come: the lowest, and those of the set without it
unfoldable pub visit : (n w x : ℕ) → List ℕ
visit zero w x = []
visit (suc n) w x = count_trailing_zeros w x ∷ visit n w (without_of w x (count_trailing_zeros w x))

-- what a loop makes of its members, one after the other, from a on
unfoldable pub fold_of {ℓ} : {A : Type ℓ} → (A → ℕ → A) → A → List ℕ → A
fold_of f a [] = a
fold_of f a (k ∷ ks) = fold_of f (f a k) ks

-- each number of the list is above the one before it, and the first at least j
abbrev pub Rising : ℕ → List ℕ → Type 0
Rising j [] = Unit {0}
Rising j (k ∷ ks) = (j ≤ k) × Rising (suc k) ks
