-- What the test of TORN learns. Assumes nothing.
use Rattle.std.specs.Prelude.{ℕ, Bool, true, false, List, take, Result, Ok, Err}
use Rattle.table.specs.Map.{map_of}
use Rattle.table.specs.declared.Map.{Map}
use Rattle.machine.specs.declared.Kept.{Kept}
use Rattle.torn.specs.Torn.{torn_of}
use Rattle.torn.specs.declared.Torn.{Torn}

-- Whether the state is torn, and the map of its table.
pub record Examined : Type 0 where
  pub torn : Bool
  pub map : Map

abbrev pub examined_of : List ℕ → ℕ → Kept → Examined
examined_of words used kept = record { torn = torn_of words used kept; map = map_of (take used words) }

-- What an answer of the test says: the map, and that the state isn't torn, or that it is.
abbrev pub tested : Result Map Torn → Examined
tested (Ok map) = record { torn = false; map = map }
tested (Err torn) = record { torn = true; map = torn.map }
