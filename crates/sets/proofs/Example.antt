-- The definitions compute: a few sets written out, with indices at, below and far beyond the width.
-- Assumes nothing.
use mathlib.Core.Path.{◌≡◌, refl}
use mathlib.Core.Bool.{true, false}
use mathlib.Core.List.{[], ◌∷◌}
use Rattle.sets.specs.Member.{width, has, with_of, without_of, size_of, members}
use Rattle.sets.specs.Visit.{visit}

-- {0, 2, 31} is 1 + 4 + 2147483648
there : has 2147483653 31 ≡ true
unfolding has
there = refl

not_there : has 2147483653 30 ≡ false
unfolding has
not_there = refl

-- the largest index that a `u32` holds
far_away : has 4294967295 4294967295 ≡ false
unfolding has
far_away = refl

joins : with_of width 5 31 ≡ 2147483653
unfolding with_of
joins = refl

joins_twice : with_of width 2147483653 31 ≡ 2147483653
unfolding with_of
joins_twice = refl

joins_far : with_of width 5 4294967295 ≡ 5
unfolding with_of
joins_far = refl

leaves : without_of width 2147483653 31 ≡ 5
unfolding without_of
leaves = refl

leaves_twice : without_of width 5 31 ≡ 5
unfolding without_of
leaves_twice = refl

leaves_far : without_of width 5 4294967295 ≡ 5
unfolding without_of
leaves_far = refl

full : size_of 4294967295 ≡ 32
unfolding size_of
full = refl

three : members width 2147483653 ≡ 0 ∷ 2 ∷ 31 ∷ []
unfolding members
three = refl

three_visited : visit 3 width 2147483653 ≡ 0 ∷ 2 ∷ 31 ∷ []
unfolding visit without_of lib.Count.count_trailing_zeros
three_visited = refl
