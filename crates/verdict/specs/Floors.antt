-- The floors of all the resources that a table may have, side by side, so that a search computes them once. Assumes nothing.
use Rattle.std.specs.Prelude.{ℕ, ◌<◌, ◌≡◌, List, get_or}
use Rattle.table.specs.Limits.{most_resources}
use Rattle.table.specs.Table.{Table}
use Rattle.table.specs.Floor.{floor_of}

-- Place r has the floor of resource r.
abbrev pub AreFloors : Table → List ℕ → Type 0
AreFloors table floors = (r : ℕ) → r < most_resources → get_or floors r 0 ≡ floor_of table r
