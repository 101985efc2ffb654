-- Numbers as words: how one is read. That writing is the inverse is proved in `proofs/Decimal.antt`.
-- Assumes nothing.
use Rattle.std.specs.Prelude.{ℕ, ◌+◌, ◌*◌, ◌-◌, Bool, true, cond, ◌&&◌, List, [], ◌∷◌, leb, Result, Ok, Err}
use Rattle.script.specs.Signs.{is_digit}
use Rattle.text.specs.declared.Fault.{Fault}
use Rattle.text.specs.declared.Fault.TheVariants.{Malformed, Large}

-- "A number is a word of digits only"
unfoldable pub digits_only : List ℕ → Bool
digits_only [] = true
digits_only (c ∷ w) = is_digit c && digits_only w

-- The decimal value of digits behind those that say v.
unfoldable pub value_from : ℕ → List ℕ → ℕ
value_from v [] = v
value_from v (c ∷ w) = value_from (v * 10 + (c - 48)) w

-- "Leading zeros change nothing."
abbrev pub value_of : List ℕ → ℕ
value_of w = value_from 0 w

-- `number too large`: "a number doesn't fit its place"
abbrev pub bounded : ℕ → ℕ → Result ℕ Fault
bounded most n = cond (leb n most) (Ok n) (Err Large)

-- `malformed number`: "a word that isn't digits only stands where a number must stand"
abbrev pub number_said : ℕ → List ℕ → Result ℕ Fault
number_said most w = cond (digits_only w) (bounded most (value_of w)) (Err Malformed)
