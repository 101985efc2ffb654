-- An array that `array::from_fn` makes is the list whose elements its closure answers, place by place, where a call leaves the closure as it was. By induction on
-- how many elements there are. Assumes nothing.
use Rattle.std.proofs.Common.{◌≡◌, ℕ, zero, suc, ◌+◌, ◌<◌, List, length, get_or, subst, sym, ◌∙◌, arith}
use Rattle.std.proofs.lemmas.List.{same_lists, get_or_default}
use Rattle.std.specs.Array.{IsElementAt, IsFromFnResultFrom, IsFromFnResult}
use denote.Param.Members.{Mut, Called}

module _ {F B : Type 0} (g : Mut F (ℕ × Unit {0}) B) (f : F) (ys : List B) (R : ℕ → B → Type 0) where
  -- what the calls from the i-th on gave
  abbrev Gave : ℕ → Type 0
  Gave k = (y : B) × IsElementAt ys k y × R k y

  gave : (top i n : ℕ) → ((k : ℕ) (y : B) (q : F) → k < top → Called g f (k, tt) y q → R k y × (q ≡ f)) → i + n ≡ top →
      IsFromFnResultFrom g f ys i n → (j : ℕ) → j < n → Gave (i + j)
  gave top i zero call e made j h = absurd (omega arith)
  gave top i (suc n) call e made zero h =
      let here : i + zero ≡ i = omega arith in
      subst Gave (sym here) (made.1, made.2, (call i made.1 made.0 (omega arith) made.3).0)
  gave top i (suc n) call e made (suc j) h =
      let stays : made.0 ≡ f = (call i made.1 made.0 (omega arith) made.3).1 in
      let next : i + 1 + j ≡ i + suc j = omega arith in
      subst Gave next (gave top (i + 1) n call (omega arith) (subst (λ p. IsFromFnResultFrom g p ys (i + 1) n) stays made.4) j (omega arith))

pub filled : {F B : Type 0} (g : Mut F (ℕ × Unit {0}) B) (f : F) (ys xs : List B) (n : ℕ) (d : B) → length xs ≡ n →
    ((k : ℕ) (y : B) (q : F) → k < n → Called g f (k, tt) y q → (y ≡ get_or xs k d) × (q ≡ f)) → IsFromFnResult g f ys n → ys ≡ xs
filled {F} {B} g f ys xs n d e call made =
    same_lists ys xs (made.long ∙ sym e) (λ k c h.
    let below : k < n = omega (arith, made.long) in
    let inside : k < length xs = omega arith in
    let from : 0 + k ≡ k = omega arith in
    let one : Gave g f ys (λ i y. y ≡ get_or xs i d) k = subst (Gave g f ys (λ i y. y ≡ get_or xs i d)) from (gave g f ys _ n 0 n call (omega arith) made.each k below) in
    one.1.1 c ∙ one.2 ∙ get_or_default xs k d c inside)
