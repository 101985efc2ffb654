-- What is written piece by piece is the whole: `lay` and `past` go over a sum of texts, and from place 0 on they are `written` and `room_for`. By induction
-- on the text. Assumes nothing.
use Prim.Native.Nat.{ℕ, suc, ◌+◌, ◌≤◌, ◌<◌, min}
use mathlib.Core.Path.{◌≡◌, refl, sym, ap, ◌∙◌}
use mathlib.Core.Bool.{Bool, true, false, cond}
use mathlib.Core.List.{List, [], ◌∷◌, ◌++◌, append-nil}
use native.Mathlib.Numerals.{add-one}
use native.Mathlib.Omega.{arith}
use borrow.Author.Tests.{lt-ltb, le-ltb, ltb-true, ltb-false}
use lib.Dec.{ltb}
use lib.ListN.{length, take, drop, set, get_or, length-set, length-append, length-drop, take-append-drop}
use lib.Seq.{take-length, take_all, length-take-le, set_out, set-append_seam, append_snoc}
use Rattle.std.proofs.lemmas.List.{take_more}
use Rattle.text.specs.Room.{written, Written, onward, lay, past, Laid}

pub lay_length : {A : Type 0} (text b : List A) (at : ℕ) → length (lay b at text) ≡ length b
unfolding lay
lay_length [] b at = refl
lay_length (c ∷ text) b at = lay_length text (set b at c) (onward (length b) at) ∙ length-set b at c

pub lay_append : {A : Type 0} (x y b : List A) (at : ℕ) → lay b at (x ++ y) ≡ lay (lay b at x) (past (length b) at x) y
unfolding lay past
lay_append [] y b at = refl
lay_append (c ∷ x) y b at =
    lay_append x y (set b at c) (onward (length b) at) ∙
    ap (λ (n : ℕ). lay (lay (set b at c) (onward (length b) at) x) (past n (onward (length b) at) x) y) (length-set b at c)

pub past_append : {A : Type 0} (x y : List A) (room at : ℕ) → past room at (x ++ y) ≡ past room (past room at x) y
unfolding past
past_append [] y room at = refl
past_append (c ∷ x) y room at = past_append x y room (onward room at)

-- Nothing is written in no step, one byte in one, and what is written after something else is written behind it.
pub none_laid : {A : Type 0} (b : List A) (at : ℕ) → Laid [] b at b at
unfolding lay past
none_laid b at = record { buffer = refl; next = refl }

pub one_laid : {A : Type 0} (c : A) (b : List A) (at : ℕ) → at < length b → Laid (c ∷ []) b at (set b at c) (at + 1)
unfolding lay past
one_laid c b at h = record { buffer = refl; next = rw (add-one at, lt-ltb at (length b) h) }

pub one_dropped : {A : Type 0} (c : A) (b : List A) (at : ℕ) → length b ≤ at → Laid (c ∷ []) b at b at
unfolding lay past
one_dropped c b at h = record { buffer = sym (set_out b at c h); next = rw (le-ltb at (length b) h) }

pub then : {A : Type 0} {x y b b₁ b₂ : List A} {at at₁ at₂ : ℕ} → Laid x b at b₁ at₁ → Laid y b₁ at₁ b₂ at₂ → Laid (x ++ y) b at b₂ at₂
then {A} {x} {y} {b} {b₁} {b₂} {at} {at₁} {at₂} p q =
    let same : length b₁ ≡ length b = ap length p.buffer ∙ lay_length x b at in
    record {
      buffer = q.buffer ∙ (rw (p.buffer, p.next) (sym (lay_append x y b at)));
      next = q.next ∙ (rw (same, p.next) (sym (past_append x y (length b) at)));
    }

-- A text that is laid item after item: one more of its items, and all of them.
pub one_more_laid : {A : Type 0} (text b b₁ b₂ : List A) (at at₁ at₂ i : ℕ) (c : A) → Laid (take i text) b at b₁ at₁ → Laid (c ∷ []) b₁ at₁ b₂ at₂ →
    i < length text → c ≡ get_or text i c → Laid (take (i + 1) text) b at b₂ at₂
one_more_laid text b b₁ b₂ at at₁ at₂ i c p q h e = rw (take_more text i c h, ← e) (then p q)

pub all_laid : {A : Type 0} (text b b₁ : List A) (at at₁ i : ℕ) → Laid (take i text) b at b₁ at₁ → length text ≤ i → Laid text b at b₁ at₁
all_laid text b b₁ at at₁ i p h = rw (take_all i text h) at p

pub laid_length : {A : Type 0} {x b b₁ : List A} {at at₁ : ℕ} → Laid x b at b₁ at₁ → length b₁ ≡ length b
laid_length {A} {x} {b} {b₁} {at} p = ap length p.buffer ∙ lay_length x b at

-- From the start on it is `written` and `room_for`.
lay_behind : {A : Type 0} (text p q : List A) → lay (p ++ q) (length p) text ≡ p ++ written text q
unfolding lay written
lay_behind {A = A} [] p q = ap (λ (l : List A). p ++ l) (sym (take-length q))
lay_behind {A = A} (c ∷ text) p [] =
    let out : length (p ++ []) ≤ length p = rw (append-nil p) (omega arith) in
    rw (set_out (p ++ []) (length p) c out, le-ltb (length p) (length (p ++ [])) out) (lay_behind text p [])
lay_behind {A = A} (c ∷ text) p (d ∷ q) =
    let inside : length p < length (p ++ d ∷ q) = rw (length-append p (d ∷ q)) (omega arith) in
    let long : length (p ++ (c ∷ [])) ≡ suc (length p) = length-append p (c ∷ []) ∙ add-one (length p) in
    rw (set-append_seam p d q c, lt-ltb (length p) (length (p ++ d ∷ q)) inside, ← long, ← append_snoc p c q)
    (lay_behind text (p ++ (c ∷ [])) q ∙ append_snoc p c (written text q))

past_step : {A : Type 0} (text : List A) (room at : ℕ) (t : Bool) → ltb at room ≡ t → at ≤ room →
    ((at' : ℕ) → at' ≤ room → past room at' text ≡ min (at' + length text) room) →
    past room (cond t (suc at) at) text ≡ min (at + suc (length text)) room
past_step text room at true e h rest = rest (suc at) (ltb-true at room e) ∙ (omega arith)
past_step text room at false e h rest =
    let full : room ≤ at = ltb-false at room e in
    rest at h ∙ (omega arith)

past_is : {A : Type 0} (text : List A) (room at : ℕ) → at ≤ room → past room at text ≡ min (at + length text) room
unfolding past
past_is [] room at h = omega arith
past_is (c ∷ text) room at h = past_step text room at (ltb at room) refl h (past_is text room)

-- The place behind lies within the room.
pub laid_within : {A : Type 0} (text b b' : List A) (at at' : ℕ) → Laid text b at b' at' → at ≤ length b → at' ≤ length b
laid_within text b b' at at' p h = omega (arith, p.next, past_is text (length b) at h)

pub whole : {A : Type 0} {text b b' : List A} {r : ℕ} → Laid text b 0 b' r → Written text b b' r
whole {A} {text} {b} {b'} {r} p = record {
  buffer = p.buffer ∙ lay_behind text [] b;
  count = p.next ∙ past_is text (length b) 0 (omega arith) ∙ (omega arith);
}

-- And back: what is written at the start is laid from place 0 on, and what is written at the start of a part is laid from the part's place on.
pub from_written : {A : Type 0} {text b b' : List A} {r : ℕ} → Written text b b' r → Laid text b 0 b' r
from_written {A} {text} {b} {b'} {r} w = record {
  buffer = w.buffer ∙ sym (lay_behind text [] b);
  next = w.count ∙ (omega (arith, past_is text (length b) 0 (omega arith)));
}

pub from_part : {A : Type 0} {text b q : List A} {at r : ℕ} → at ≤ length b → Written text (drop at b) q r → Laid text b at (take at b ++ q) (at + r)
from_part {A} {text} {b} {q} {at} {r} h w =
    let long : length (take at b) ≡ at = length-take-le at b h in
    let whole' : lay b at text ≡ take at b ++ written text (drop at b) =
    rw (long, take-append-drop at b) at (lay_behind text (take at b) (drop at b)) in
    record {
      buffer = ap (λ (l : List A). take at b ++ l) w.buffer ∙ sym whole';
      next = omega (arith, past_is text (length b) at h, w.count, length-drop at b);
    }

-- Behind the end nothing is laid.
pub laid_full : {A : Type 0} (text b : List A) (at : ℕ) → length b ≤ at → Laid text b at b at
laid_full [] b at h = none_laid b at
laid_full (c ∷ text) b at h = then (one_dropped c b at h) (laid_full text b at h)
