-- An array that `from_fn` makes: where each call answers `h` at its number and leaves the closure as it was, place k has `h k`.
-- Assumes nothing.
use Prim.Native.Nat.{ℕ, zero, suc, ◌+◌, ◌≤◌, ◌<◌}
use mathlib.Core.Path.{◌≡◌, subst, ◌∙◌}
use mathlib.Core.Logic.{⊎_elim}
use mathlib.Core.List.{List}
use native.Mathlib.Nat.{eq-or-lt_of_le}
use native.Mathlib.Omega.{arith}
use lib.ListN.{get_or}
use denote.Param.Members.{Mut, Called}
use Rattle.std.specs.Array.{IsFromFnResult, IsFromFnResultFrom}

-- a call at each number below `room`
abbrev pub Answers : {F : Type 0} → Mut F (ℕ × Unit {0}) ℕ → F → (ℕ → ℕ) → ℕ → Type 0
Answers {F} g f h room = (i y : ℕ) (q : F) → i < room → Called g f (i, tt) y q → (q ≡ f) × (y ≡ h i)

made_from : {F : Type 0} (g : Mut F (ℕ × Unit {0}) ℕ) (f p : F) (h : ℕ → ℕ) (room : ℕ) (ys : List ℕ) (i n : ℕ) → Answers g f h room → i + n ≡ room → p ≡ f →
    IsFromFnResultFrom g p ys i n → (k : ℕ) → i ≤ k → k < room → get_or ys k 0 ≡ h k
made_from g f p h room ys i zero answers e same made k l m = absurd (omega arith)
made_from {F} g f p h room ys i (suc n) answers e same (q, y, is, called, made) k l m =
    let said = answers i y q (omega arith) (subst (λ (x : F). Called g x (i, tt) y q) same called) in
    ⊎_elim
    (λ at. subst (λ (x : ℕ). get_or ys x 0 ≡ h x) at (is.1 0 ∙ said.1))
    (λ later. made_from g f q h room ys (i + 1) n answers (omega arith) said.0 made k (omega arith) m)
    (eq-or-lt_of_le l)

pub made_at : {F : Type 0} {g : Mut F (ℕ × Unit {0}) ℕ} {f : F} (h : ℕ → ℕ) {room : ℕ} {ys : List ℕ} → Answers g f h room → IsFromFnResult g f ys room →
    (k : ℕ) → k < room → get_or ys k 0 ≡ h k
made_at {g = g} {f = f} h {room} {ys} answers made k l = made_from g f f h room ys 0 room answers (omega arith) (λ i. f) made.each k (omega arith) l
