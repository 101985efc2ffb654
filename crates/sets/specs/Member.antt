-- What a set is, as definitions a reader can believe: document 01, "A set of tasks or resources is one unsigned number with a bit for
-- each member, and its size is the number of ones".
-- Every definition is total, and quick on written numbers, whatever the index. The laws are in `proofs/`.
-- Assumes nothing.
use Rattle.std.specs.Prelude.{Bool, cond, List, [], ◌∷◌, ℕ, zero, suc, ◌+◌, ◌-◌, ◌/◌, ◌%◌, ◌^◌, ltb, eqb}

-- how many digits the number has that holds a set: a `u32`
abbrev pub width : ℕ
width = 32

-- how many digits a number of 64 bits has, in which a set lies among a state's numbers
abbrev pub wide : ℕ
wide = 64

-- "one unsigned number with a bit for each member": digit k of x, from 0 at the lowest. To come to the next digit the number is halved.
-- A number that has come to 0 has no more ones, so an index of any size is answered after as many steps as x has digits.
unfoldable pub bit : ℕ → ℕ → ℕ
bit x zero = x % 2
bit zero (suc k) = zero
bit (suc x) (suc k) = bit (suc x / 2) k

-- k is a member of x
unfoldable pub has : ℕ → ℕ → Bool
unfolding bit
has x k = eqb (bit x k) 1

-- x with k among its members. An index at or above the width w names nobody, and changes nothing.
-- (What a `let` names is computed only where it is read: no large power of two for a large index.)
unfoldable pub with_of : (w x k : ℕ) → ℕ
unfolding has
with_of w x k =
    let joined = cond (has x k) x (x + 2 ^ k) in
    cond (ltb k w) joined x

-- x without k among its members
unfoldable pub without_of : (w x k : ℕ) → ℕ
unfolding has
without_of w x k =
    let left = cond (has x k) (x - 2 ^ k) x in
    cond (ltb k w) left x

-- "its size is the number of ones": the lowest digit, and the ones of the rest, as long as there is a rest. The first argument is how many
-- digits to look at; x has no more than x. (`ones` of lib.Count is the same number, law `size_ones`; it goes on past the last digit.)
unfoldable pub ones_of : (digits x : ℕ) → ℕ
ones_of zero x = zero
ones_of (suc d) zero = zero
ones_of (suc d) (suc x) = suc x % 2 + ones_of d (suc x / 2)

unfoldable pub size_of : ℕ → ℕ
unfolding ones_of
size_of x = ones_of x x

-- the members of x among the n numbers from j on, lowest first
unfoldable pub members_from : (n j x : ℕ) → List ℕ
unfolding has
members_from zero j x = []
members_from (suc n) j x =
    let rest = members_from n (suc j) x in
    cond (has x j) (j ∷ rest) rest

-- the members of x below the width w, lowest first, each once
unfoldable pub members : (w x : ℕ) → List ℕ
unfolding members_from
members w x = members_from w zero x
