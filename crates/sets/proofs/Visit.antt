-- Members visited by trailing zeros are exactly the members, lowest first, each once: what the iterator `sets::members` goes by is
-- `members_zero` and `members_step`, and what is made of its items `fold_zero` and `fold_step`. Stated over the width w.
-- Assumes nothing.
use mathlib.Core.Path.{◌≡◌, refl, sym, ap, ◌∙◌}
use mathlib.Core.Logic.{◌≢◌, ◌⊎◌, inl, inr}
use mathlib.Core.Bool.{Bool, true, false, true≢false}
use mathlib.Core.List.Memᴰ
use mathlib.Core.List.{List, [], ◌∷◌, Memᴰ}
use Prim.Native.Nat.{ℕ, zero, suc, ◌+◌, ◌^◌, ◌≤◌, ◌<◌, zero-le}
use native.Mathlib.Nat.{le_refl}
use native.Mathlib.Omega.{arith}
use lib.Count.{count_trailing_zeros}
use lib.Dec.{eqb}
use lib.ListN.{length}
use borrow.Author.Tests.{eqb-true, eqb-false}
use Rattle.sets.specs.Member.{has, without_of, size_of, members_from, members}
use Rattle.sets.specs.Visit.{visit, fold_of, Rising}
use Rattle.sets.proofs.Digit.{has_zero}
use Rattle.sets.proofs.Change.{has_without_same, has_without_other, without_below}
use Rattle.sets.proofs.Trailing.{lowest_below, lowest_has, lowest_least}
use Rattle.sets.proofs.Count.{size_empty, size_zero, size_rest}

-- ---- one index

pub from_has : (n j x : ℕ) → has x j ≡ true → members_from (suc n) j x ≡ j ∷ members_from n (suc j) x
unfolding members_from
from_has n j x e = rw e

pub from_not : (n j x : ℕ) → has x j ≡ false → members_from (suc n) j x ≡ members_from n (suc j) x
unfolding members_from
from_not n j x e = rw e

from_none : (j x : ℕ) → members_from zero j x ≡ []
unfolding members_from
from_none j x = refl

-- ---- the empty set, and the lowest taken out

zero_from : (n j : ℕ) → members_from n j zero ≡ []
zero_from zero j = from_none j zero
zero_from (suc n) j = from_not n j zero (has_zero j) ∙ zero_from n (suc j)

pub members_zero : (w : ℕ) → members w zero ≡ []
unfolding members
members_zero w = zero_from w zero

-- two sets that agree from j on
agree_from : (n j x y : ℕ) → ((i : ℕ) → j ≤ i → has x i ≡ has y i) → members_from n j x ≡ members_from n j y
agree_from zero j x y e = from_none j x ∙ sym (from_none j y)
agree_from (suc n) j x y e = go (agree_from n (suc j) x y (λ i l. e i (omega arith))) (has x j) refl
  where
    go : members_from n (suc j) x ≡ members_from n (suc j) y → (b : Bool) → has x j ≡ b → members_from (suc n) j x ≡ members_from (suc n) j y
    go rest true t = from_has n j x t ∙ ap (λ (l : List ℕ). j ∷ l) rest ∙ sym (from_has n j y (sym (e j (omega arith)) ∙ t))
    go rest false t = from_not n j x t ∙ rest ∙ sym (from_not n j y (sym (e j (omega arith)) ∙ t))

-- at the member t itself
from_hit : (w n t x : ℕ) → t < w → has x t ≡ true → members_from (suc n) t x ≡ t ∷ members_from (suc n) t (without_of w x t)
from_hit w n t x l e =
    from_has n t x e
    ∙ ap (λ (ks : List ℕ). t ∷ ks)
    (agree_from n (suc t) x (without_of w x t) (λ i g. sym (has_without_other w x t i (omega arith)))
    ∙ sym (from_not n t (without_of w x t) (has_without_same w x t l)))

-- and from an index j on, where t is the first
from_step : (w n j x t : ℕ) → t < w → has x t ≡ true → ((i : ℕ) → i < t → has x i ≡ false) → j ≤ t → t < j + n
    → members_from n j x ≡ t ∷ members_from n j (without_of w x t)
from_step w zero j x t l e none a b = absurd (omega arith)
from_step w (suc n) j x t l e none a b = go (from_step w n (suc j) x t l e none) (eqb j t) refl
  where
    go : (suc j ≤ t → t < suc j + n → members_from n (suc j) x ≡ t ∷ members_from n (suc j) (without_of w x t)) → (q : Bool) → eqb j t ≡ q
        → members_from (suc n) j x ≡ t ∷ members_from (suc n) j (without_of w x t)
    go rest true q = rw (eqb-true j t q) (from_hit w n t x l e)
    go rest false q =
        let n≢ : j ≢ t = eqb-false j t q in
        let g : has x j ≡ false = none j (omega arith) in
        from_not n j x g ∙ rest (omega arith) (omega arith)
        ∙ ap (λ (ks : List ℕ). t ∷ ks) (sym (from_not n j (without_of w x t) (has_without_other w x t j n≢ ∙ g)))

pub members_step : (w x : ℕ) → x ≢ zero → x < 2 ^ w → members w x ≡ count_trailing_zeros w x ∷ members w (without_of w x (count_trailing_zeros w x))
unfolding members
members_step w x n h =
    let l : count_trailing_zeros w x < w = lowest_below w x n h in
    from_step w w zero x (count_trailing_zeros w x) l (lowest_has w x n h) (lowest_least w x) zero-le (omega arith)

-- ---- visiting

visit_some : (n w x : ℕ) → x < 2 ^ w → size_of x ≡ n → visit n w x ≡ members w x
unfolding visit
visit_some zero w x h e = rw (size_empty x e) (sym (members_zero w))
visit_some (suc n) w x h e =
    let some : x ≢ zero = λ (q : x ≡ zero). let z : ◌≡◌ {A = ℕ} 0 (suc n) = sym size_zero ∙ ap size_of (sym q) ∙ e in omega arith in
    let less : size_of (without_of w x (count_trailing_zeros w x)) + 1 ≡ size_of x = size_rest w x some h in
    ap (λ (ks : List ℕ). count_trailing_zeros w x ∷ ks)
    (visit_some n w (without_of w x (count_trailing_zeros w x)) (without_below w x (count_trailing_zeros w x) h) (omega arith))
    ∙ sym (members_step w x some h)

-- taking the lowest out, as often as the set has members, visits the members
pub visit_members : (w x : ℕ) → x < 2 ^ w → visit (size_of x) w x ≡ members w x
visit_members w x h = visit_some (size_of x) w x h refl

visit_length : (n w x : ℕ) → length (visit n w x) ≡ n
unfolding visit
visit_length zero w x = refl
visit_length (suc n) w x = ap suc (visit_length n w (without_of w x (count_trailing_zeros w x)))

-- there are as many as the size says
pub members_length : (w x : ℕ) → x < 2 ^ w → length (members w x) ≡ size_of x
members_length w x h = ap length (sym (visit_members w x h)) ∙ visit_length (size_of x) w x

-- ---- exactly the members

from_in : (n j x k : ℕ) → j ≤ k → k < j + n → has x k ≡ true → Memᴰ k (members_from n j x)
from_in zero j x k a b e = absurd (omega arith)
from_in (suc n) j x k a b e = go (from_in n (suc j) x k) (eqb k j) refl (has x j) refl
  where
    go : (suc j ≤ k → k < suc j + n → has x k ≡ true → Memᴰ k (members_from n (suc j) x)) → (q : Bool) → eqb k j ≡ q → (t : Bool) → has x j ≡ t
        → Memᴰ k (members_from (suc n) j x)
    go rest true q true t = rw (from_has n j x t) (Memᴰ.head (eqb-true k j q))
    go rest true q false t = absurd (true≢false (sym e ∙ ap (has x) (eqb-true k j q) ∙ t))
    go rest false q true t =
        let n≢ : k ≢ j = eqb-false k j q in
        rw (from_has n j x t) (Memᴰ.tail (rest (omega arith) (omega arith) e))
    go rest false q false t =
        let n≢ : k ≢ j = eqb-false k j q in
        rw (from_not n j x t) (rest (omega arith) (omega arith) e)

from_out : (n j x k : ℕ) → Memᴰ k (members_from n j x) → (j ≤ k) × (k < j + n) × (has x k ≡ true)
from_out zero j x k m = absurd (Memᴰ.not-nil (rw (from_none j x) at m))
from_out (suc n) j x k m = go (from_out n (suc j) x k) (has x j) refl
  where
    later : (suc j ≤ k) × (k < suc j + n) × (has x k ≡ true) → (j ≤ k) × (k < j + suc n) × (has x k ≡ true)
    later r = (omega (arith, r.0), omega (arith, r.1), r.2)

    here : has x j ≡ true → (k ≡ j) ⊎ Memᴰ k (members_from n (suc j) x)
        → (Memᴰ k (members_from n (suc j) x) → (suc j ≤ k) × (k < suc j + n) × (has x k ≡ true))
        → (j ≤ k) × (k < j + suc n) × (has x k ≡ true)
    here t (inl e) rest = (omega arith, omega arith, ap (has x) e ∙ t)
    here t (inr r) rest = later (rest r)

    go : (Memᴰ k (members_from n (suc j) x) → (suc j ≤ k) × (k < suc j + n) × (has x k ≡ true)) → (t : Bool) → has x j ≡ t
        → (j ≤ k) × (k < j + suc n) × (has x k ≡ true)
    go rest true t = here t (Memᴰ.cases_cons (rw (from_has n j x t) at m)) rest
    go rest false t = later (rest (rw (from_not n j x t) at m))

-- a member below the width is in the list
pub members_all : (w x k : ℕ) → k < w → has x k ≡ true → Memᴰ k (members w x)
unfolding members
members_all w x k l e = from_in w zero x k zero-le (omega arith) e

-- and who is in the list is a member below the width
pub members_only : (w x k : ℕ) → Memᴰ k (members w x) → (k < w) × (has x k ≡ true)
unfolding members
members_only w x k m =
    let r : (zero ≤ k) × (k < zero + w) × (has x k ≡ true) = from_out w zero x k m in
    (omega (arith, r.1), r.2)

-- ---- each once: the list rises

rising_down : (j : ℕ) (ks : List ℕ) → Rising (suc j) ks → Rising j ks
rising_down j [] r = tt
rising_down j (k ∷ ks) r = (omega (arith, r.0), r.1)

from_rising : (n j x : ℕ) → Rising j (members_from n j x)
from_rising zero j x = rw (from_none j x) tt
from_rising (suc n) j x = go (from_rising n (suc j) x) (has x j) refl
  where
    go : Rising (suc j) (members_from n (suc j) x) → (t : Bool) → has x j ≡ t → Rising j (members_from (suc n) j x)
    go rest true t = rw (from_has n j x t) (le_refl j, rest)
    go rest false t = rw (from_not n j x t) (rising_down j (members_from n (suc j) x) rest)

pub members_rising : (w x : ℕ) → Rising zero (members w x)
unfolding members
members_rising w x = from_rising w zero x

-- ---- what a loop makes of the members

pub fold_zero {ℓ} : {A : Type ℓ} (w : ℕ) (f : A → ℕ → A) (a : A) → fold_of f a (members w zero) ≡ a
unfolding fold_of
fold_zero w f a = rw (members_zero w)

pub fold_step {ℓ} : {A : Type ℓ} (w : ℕ) (f : A → ℕ → A) (a : A) (x : ℕ) → x ≢ zero → x < 2 ^ w
    → fold_of f a (members w x) ≡ fold_of f (f a (count_trailing_zeros w x)) (members w (without_of w x (count_trailing_zeros w x)))
unfolding fold_of
fold_step w f a x n h = rw (members_step w x n h)
