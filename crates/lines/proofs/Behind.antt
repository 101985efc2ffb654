-- What is written with a pen, text behind text, is the whole (`behind`), and what is written from the start of a buffer on is the line (`line_written`).
-- Assumes nothing.
use Rattle.std.proofs.Common.{◌≡◌, refl, ℕ, ◌+◌, ◌/◌, ◌%◌, ◌≤◌, ◌<◌, List, [], ◌∷◌, ◌++◌, sym, ◌∙◌, subst, arith}
use Rattle.text.proofs.Digits.{digits_low, digits_high}
use Rattle.text.proofs.Lay.{none_laid, then, whole}
use Rattle.text.specs.Decimal.{digits}
use Rattle.text.specs.Room.{Written, Laid}
use Rattle.lines.specs.declared.pen.Pen.{Pen}
use Rattle.lines.specs.Puts.{Puts}

pub behind : {x y : List ℕ} {p q r : Pen} → Puts x p q → Puts y q r → Puts (x ++ y) p r
behind a b = record { laid = then a.laid b.laid; same_room = b.same_room ∙ a.same_room }

-- The buffer is seen again when the pen is put away: it is what the pen's room has become, if that is still the same one.
pub line_written : (text b : List ℕ) (p q : Pen) → p.at ≡ 0 → Puts text p q → (q.room.ghost_name ≡ p.room.ghost_name → b ≡ q.room.now) → Written text p.room.now b q.at
line_written text b p q start put seen =
    whole (subst (λ l. Laid text p.room.now 0 l q.at) (sym (seen put.same_room)) (subst (λ n. Laid text p.room.now n q.room.now q.at) start put.laid))

pub nothing_put : (p : Pen) → Puts [] p p
nothing_put p = record { laid = none_laid p.room.now p.at; same_room = refl }

-- A number's last digit is written behind the digits of its tenth, if that has any.
pub last_digit : {p q r : Pen} (n : ℕ) → 10 ≤ n → Puts (digits (n / 10)) p q → Puts ((48 + n % 10) ∷ []) q r → Puts (digits n) p r
last_digit n h front last = rw (digits_high n h) (behind front last)

pub only_digit : {p r : Pen} (n : ℕ) → n < 10 → Puts ((48 + n % 10) ∷ []) p r → Puts (digits n) p r
only_digit n h last = let itself : n % 10 ≡ n = omega arith in rw (digits_low n h, ← itself) last
