-- What the digits of a word say, from a place of it on: one byte is passed at a time. Assumes nothing.
use Rattle.std.proofs.Common.{◌≡◌, ℕ, ◌+◌, ◌*◌, ◌-◌, ◌<◌, ◌≤◌, Bool, ◌&&◌, List, [], ◌∷◌, length, drop, get_or, refl, ap, arith, drop_of_length-le, drop-cons, add-one}
use Rattle.std.specs.List.{list_all}
use Rattle.std.specs.Char.{is_ascii_digit}
use Rattle.script.specs.Signs.{is_digit}
use Rattle.script.specs.Number.{digits_only, value_from}

pub value_end : (n i : ℕ) (w : List ℕ) → length w ≤ i → value_from n (drop i w) ≡ n
unfolding value_from
value_end n i w h = rw (drop_of_length-le w h)

pub value_more : (n i : ℕ) (w : List ℕ) → i < length w →
    value_from n (drop i w) ≡ value_from (n * 10 + (get_or w i 0 - 48)) (drop (i + 1) w)
unfolding value_from
value_more n i w h = rw (drop-cons w i 0 h, add-one i)

-- Further digits make it no less.
pub value_grows : (n : ℕ) (w : List ℕ) → n ≤ value_from n w
unfolding value_from
value_grows n [] = omega arith
value_grows n (c ∷ w) = omega (arith, value_grows (n * 10 + (c - 48)) w)

pub ruleset valued = (value_end, value_more, value_grows)

-- The test of a whole word, as `all` makes it.
pub all_digits : (w : List ℕ) → list_all is_ascii_digit w ≡ digits_only w
unfolding digits_only
all_digits [] = refl
all_digits (c ∷ w) = ap (λ (b : Bool). is_digit c && b) (all_digits w)
