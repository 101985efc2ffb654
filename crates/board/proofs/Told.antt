-- Five numbers tell answers apart: two that have the same numbers are the same answer, as long as a refusal's number is one of document 01's and a lateness fits its
-- 64 bits, which it does by its type. So nothing of a reply is lost on the way to C. Assumes nothing.
use Prim.Native.Nat.{ℕ, ◌^◌, ◌<◌}
use mathlib.Core.Path.{◌≡◌, refl, sym, ap, ◌∙◌}
use mathlib.Core.List.{List}
use native.Mathlib.Omega.{arith}
use lib.ListN.{get_or}
use lib.IntN.{ℤ}
use lib.Signed.{mag}
use mir.Syntax.{w64}
use mir.Val.{SFits, to_z, of_z}
use mir.Facts.{to_z-of_z}
use Rattle.table.specs.Said as table
use Rattle.machine.specs.Reply.{Turn, runs, idle, EventReply, refused, went_on, finished}
use Rattle.dispatch.specs.Heard.{number_of}
use Rattle.dispatch.specs.declared.Refusal.{Refusal}
use Rattle.dispatch.specs.declared.Refusal.TheVariants.{Torn, Back, End, Nobody, Active, Early, Held}
use Rattle.verdict.specs.Verdict as verdict
use Rattle.board.specs.Answer.{ACCEPTED, FINISHED, bits_of, turn_answer, event_answer, check_answer, verdict_answer}

at : (k : ℕ) {xs ys : List ℕ} → xs ≡ ys → get_or xs k 0 ≡ get_or ys k 0
at k e = ap (λ xs. get_or xs k 0) e

-- Two's complement of 64 bits loses nothing.
bits_apart : (a b : ℤ) → mag a < 2 ^ 63 → mag b < 2 ^ 63 → bits_of a ≡ bits_of b → a ≡ b
bits_apart a b f g e =
    let fits : SFits w64 a = record { sfits = f } in
    let also : SFits w64 b = record { sfits = g } in
    sym (to_z-of_z {w = w64} fits) ∙ ap (to_z w64) (same a b e) ∙ to_z-of_z {w = w64} also
  where
    is : (z : ℤ) → bits_of z ≡ of_z w64 z
    is (lib.IntN.pos n) = refl
    is (lib.IntN.negsuc n) = refl

    same : (x y : ℤ) → bits_of x ≡ bits_of y → of_z w64 x ≡ of_z w64 y
    same x y p = sym (is x) ∙ p ∙ is y

turn_apart : (number v w : ℕ) (t u : Turn) → turn_answer number v t ≡ turn_answer number w u → t ≡ u
turn_apart number v w (runs i deadline) (runs j later) e = λ k. runs (at 3 e k) (at 4 e k)
turn_apart number v w (runs i deadline) idle e = absurd (omega (arith, at 2 e))
turn_apart number v w idle (runs j later) e = absurd (omega (arith, at 2 e))
turn_apart number v w idle idle e = refl

first : (number v : ℕ) (t : Turn) → get_or (turn_answer number v t) 0 0 ≡ number
first number v (runs i deadline) = refl
first number v idle = refl

second : (number v : ℕ) (t : Turn) → get_or (turn_answer number v t) 1 0 ≡ v
second number v (runs i deadline) = refl
second number v idle = refl

-- What a reply can be: a refusal's number between the two that are ours, a lateness that fits.
abbrev pub Sayable : EventReply → Type 0
Sayable (refused number) = (ACCEPTED < number) × (number < FINISHED)
Sayable (went_on turn) = Unit {0}
Sayable (finished late turn) = mag late < 2 ^ 63

pub refusal_sayable : (refusal : Refusal) → Sayable (refused (number_of refusal))
refusal_sayable Torn = omega arith
refusal_sayable Back = omega arith
refusal_sayable End = omega arith
refusal_sayable Nobody = omega arith
refusal_sayable Active = omega arith
refusal_sayable Early = omega arith
refusal_sayable Held = omega arith

pub told_apart : (a b : EventReply) → Sayable a → Sayable b → event_answer a ≡ event_answer b → a ≡ b
told_apart (refused n) (refused m) p q e = ap refused (at 0 e)
told_apart (refused n) (went_on t) p q e = absurd (omega (arith, at 0 e ∙ first ACCEPTED 0 t))
told_apart (refused n) (finished late t) p q e = absurd (omega (arith, at 0 e ∙ first FINISHED (bits_of late) t))
told_apart (went_on t) (refused m) p q e = absurd (omega (arith, sym (first ACCEPTED 0 t) ∙ at 0 e))
told_apart (went_on t) (went_on u) p q e = ap went_on (turn_apart ACCEPTED 0 0 t u e)
told_apart (went_on t) (finished late u) p q e =
    absurd (omega (arith, sym (first ACCEPTED 0 t) ∙ at 0 e ∙ first FINISHED (bits_of late) u))
told_apart (finished late t) (refused m) p q e = absurd (omega (arith, sym (first FINISHED (bits_of late) t) ∙ at 0 e))
told_apart (finished late t) (went_on u) p q e =
    absurd (omega (arith, sym (first FINISHED (bits_of late) t) ∙ at 0 e ∙ first ACCEPTED 0 u))
told_apart (finished late t) (finished later u) p q e =
    let same_late : late ≡ later =
    bits_apart late later p q (sym (second FINISHED (bits_of late) t) ∙ at 1 e ∙ second FINISHED (bits_of later) u) in
    λ i. finished (same_late i) (turn_apart FINISHED (bits_of late) (bits_of later) t u e i)

-- The check's answers, whose numbers are not 0, and the verdict's.
abbrev pub Numbered : table.CheckReply → Type 0
Numbered table.passes = Unit {0}
Numbered (table.says number place) = ACCEPTED < number

pub found_apart : (a b : table.CheckReply) → Numbered a → Numbered b → check_answer a ≡ check_answer b → a ≡ b
found_apart table.passes table.passes p q e = refl
found_apart table.passes (table.says n place) p q e = absurd (omega (arith, at 0 e))
found_apart (table.says n place) table.passes p q e = absurd (omega (arith, at 0 e))
found_apart (table.says n place) (table.says m other) p q e = λ i. table.says (at 0 e i) (at 1 e i)

pub judged_apart : (a b : verdict.VerdictReply) → verdict_answer a ≡ verdict_answer b → a ≡ b
judged_apart (verdict.says n v) (verdict.says m w) e = λ i. verdict.says (at 0 e i) (at 1 e i)
