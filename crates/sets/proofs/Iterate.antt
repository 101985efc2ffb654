-- What a caller learns of `sets::members`: a chain that begins there gives the members, what a closure may be asked there, and that `any` tells whether some
-- member passes.
-- Assumes nothing.
use Rattle.std.proofs.Common.{◌≡◌, refl, sym, ap, subst, ◌∙◌, ℕ, zero, suc, ◌<◌, ◌≤◌, ◌^◌, Bool, true, false, ◌&&◌, ◌||◌, List, [], ◌∷◌, Option, Some, None, length, get_or, arith}
use Rattle.std.specs.Prelude.{MatchOption}
use Rattle.std.specs.Fn.{Called}
use Rattle.std.specs.Iterator.{YieldsFirst, YieldsThen, Yields, CallableAtEachTurn}
use Rattle.std.specs.List.{FoldsTo, list_any}
use Rattle.std.proofs.lemmas.Iterator.{YieldsList}
use Rattle.std.proofs.lemmas.Iterator.Consumers.{YieldsList-from_first}
use Rattle.std.proofs.lemmas.Iterator.Adapters.{serves_from_places}
use denote.Param.Members.{Mut}
use mathlib.Core.Bool.{true≢false}
use mathlib.Core.Logic.{◌⊎◌, inl, inr}
use mathlib.Core.List.Memᴰ
use mathlib.Core.List.{Memᴰ}
use Rattle.numbers.proofs.Any.{any_hit, any_false}
use Rattle.std.proofs.lemmas.Bool.{or_left, or_right}
use Rattle.sets.specs.declared.each.Members.{Members}
use Rattle.sets.specs.Member.{width, has, members}
use Rattle.sets.proofs.Digit.{has_below}
use Rattle.sets.proofs.Search.{any_member}
use Rattle.sets.proofs.Visit.{members_all, members_only}

-- ---- the list of the members

at_in : (xs : List ℕ) (k d : ℕ) → k < length xs → Memᴰ (get_or xs k d) xs
at_in [] k d l = absurd (omega arith)
at_in (x ∷ xs) zero d l = Memᴰ.head refl
at_in (x ∷ xs) (suc k) d l = Memᴰ.tail (at_in xs k d (omega arith))

-- ---- a test of some member

hit : (test : ℕ → Bool) (xs : List ℕ) (k : ℕ) → Memᴰ k xs → test k ≡ true → list_any test xs ≡ true
hit test [] k m t = absurd (Memᴰ.not-nil m)
hit test (x ∷ xs) k m t = go (hit test xs k) (Memᴰ.cases_cons m)
  where
    go : (Memᴰ k xs → test k ≡ true → list_any test xs ≡ true) → (k ≡ x) ⊎ Memᴰ k xs → list_any test (x ∷ xs) ≡ true
    go rest (inl e) = or_left (test x) (list_any test xs) (sym (ap test e) ∙ t)
    go rest (inr r) = or_right (test x) (list_any test xs) (rest r t)

found : (test : ℕ → Bool) (xs : List ℕ) → list_any test xs ≡ true → (k : ℕ) × Memᴰ k xs × (test k ≡ true)
found test [] e = absurd (true≢false (sym e))
found test (x ∷ xs) e = go (found test xs) (test x) refl e
  where
    go : (list_any test xs ≡ true → (k : ℕ) × Memᴰ k xs × (test k ≡ true)) → (b : Bool) → test x ≡ b → (b || list_any test xs) ≡ true
        → (k : ℕ) × Memᴰ k (x ∷ xs) × (test k ≡ true)
    go rest true t e = (x, Memᴰ.head refl, t)
    go rest false t e = let r = rest e in (r.0, Memᴰ.tail r.1, r.2)

pub any_listed : (n x : ℕ) (test : ℕ → Bool) → n ≤ width → x < 2 ^ n → list_any test (members width x) ≡ any_member n x test
any_listed n x test few fits = go (list_any test (members width x)) refl
  where
    passes : (i : ℕ) → has x i ≡ true → test i ≡ true → (has x i && test i) ≡ true
    passes i h t = rw (h, t) refl

    fails : list_any test (members width x) ≡ false → (i : ℕ) → i < n → (b c : Bool) → has x i ≡ b → test i ≡ c → (b && c) ≡ false
    fails e i l false c h t = refl
    fails e i l true false h t = refl
    fails e i l true true h t = absurd (true≢false (sym (hit test (members width x) i (members_all width x i (omega arith) h) t) ∙ e))

    go : (b : Bool) → list_any test (members width x) ≡ b → list_any test (members width x) ≡ any_member n x test
    go true e =
        let r = found test (members width x) e in
        let m = members_only width x r.0 r.1 in
        e ∙ sym (any_hit n r.0 (λ i. has x i && test i) (has_below n x r.0 fits m.1) (passes r.0 m.1 r.2))
    go false e = e ∙ sym (any_false n (λ i. has x i && test i) (λ i l. fails e i l (has x i) (test i) refl refl))

-- ---- a chain that begins at the members

-- What `next` gives.
abbrev pub steps : Members → Option ℕ → Members → Type 0
steps = YieldsFirst (λ m. members width m.rest)

-- It gives the members of x.
pub YieldsList-from_members : {m : Members} (x : ℕ) → m.rest ≡ x → YieldsList steps (λ i. i) m (members width x)
YieldsList-from_members x e = YieldsList-from_first (λ i. i) (λ m. members width m.rest) (members width x) (ap (members width) e)

module _ (n x : ℕ) (few : n ≤ width) (fits : x < 2 ^ n) where
  -- The closure may be called at each item: at each member of x it may.
  pub callable_at_members : {F : Type 0} {R : F → ℕ → F → Type 0} {Q : F → ℕ → Type 0} {f : F} (m : Members) → m.rest ≡ x
      → ((i : ℕ) (q : F) → R f i q → q ≡ f) → ((i : ℕ) → i < n → has x i ≡ true → Q f i) → CallableAtEachTurn steps R Q m f
  callable_at_members {Q = Q} {f = f} m e same may =
      serves_from_places (YieldsList-from_members x e) same
      (λ i k l at. let h = members_only width x (get_or (members width x) k i) (at_in (members width x) k i l) in
      subst (λ j. Q f j) (sym at) (may (get_or (members width x) k i) (has_below n x (get_or (members width x) k i) fits h.1) h.1))

  module _ {F : Type 0} (g : Mut F (ℕ × Unit {0}) Bool) (test : ℕ → Bool) (f : F)
      (tests : (i : ℕ) → i < n → has x i ≡ true → (b : Bool) (q : F) → Called g f (i, tt) b q → (q ≡ f) × (b ≡ test i)) where
    over : (r : Bool) (u m : Members) → ((i : ℕ) → Memᴰ i (members width m.rest) → (i < n) × (has x i ≡ true))
        → (xs : List ℕ) (o : Option ℕ) (t : Members) (j p : F) → p ≡ f → Yields steps m xs t → steps t o u → FoldsTo (λ p i q. Called g p (i, tt) false q) p xs j
        → MatchOption o (r ≡ false) (λ i. (r ≡ true) × ((h : F) × Called g j (i, tt) true h)) → r ≡ list_any test (members width m.rest)
    over r u m are [] None t j p z y s k a = a ∙ sym (ap (λ l. list_any test (members width l.rest)) y ∙ ap (list_any test) s.0)
    over r u m are [] (Some i) t j p z y s k a =
        let first : members width m.rest ≡ i ∷ members width u.rest = ap (λ l. members width l.rest) y ∙ s in
        let in_x = are i (subst (λ l. Memᴰ i l) (sym first) (Memᴰ.head refl)) in
        let told = tests i in_x.0 in_x.1 true a.1.0 (subst (λ q. Called g q (i, tt) true a.1.0) (sym k ∙ z) a.1.1) in
        a.0 ∙ sym (ap (list_any test) first ∙ or_left (test i) (list_any test (members width u.rest)) (sym told.1))
    over r u m are (i ∷ xs) o t j p z y s k a =
        let first : members width m.rest ≡ i ∷ members width y.0.rest = y.1 in
        let in_x = are i (subst (λ l. Memᴰ i l) (sym first) (Memᴰ.head refl)) in
        let told = tests i in_x.0 in_x.1 false k.0 (subst (λ q. Called g q (i, tt) false k.0) z k.1) in
        let rest = over r u y.0 (λ h d. are h (subst (λ l. Memᴰ h l) (sym first) (Memᴰ.tail d))) xs o t j k.0 told.0 y.2 s k.2 a in
        rest ∙ sym (ap (list_any test) first ∙ ap (λ b. b || list_any test (members width y.0.rest)) (sym told.1))

    -- `any` answers whether some member passes.
    pub any_of_members : (r : Bool) (u m : Members) → m.rest ≡ x
        → (xs : List ℕ) × (o : Option ℕ) × (j : F) × YieldsThen steps m xs o u × FoldsTo (λ p i q. Called g p (i, tt) false q) f xs j
        × MatchOption o (r ≡ false) (λ i. (r ≡ true) × ((h : F) × Called g j (i, tt) true h))
        → r ≡ any_member n x test
    any_of_members r u m e ran =
        over r u m (λ i d. let h = members_only width x i (subst (λ y. Memᴰ i (members width y)) e d) in (has_below n x i fits h.1, h.1))
        ran.0 ran.1 ran.3.0 ran.2 f refl ran.3.1 ran.3.2 ran.4 ran.5
        ∙ ap (λ y. list_any test (members width y)) e ∙ any_listed n x test few fits
