-- When a state is torn, and its row in the table of refusals. Assumes nothing.
use Rattle.std.specs.Prelude.{Bool}
use Rattle.numbers.specs.Answers.{TORN}
use Rattle.machine.specs.Away.{Ground}
use Rattle.torn.specs.Torn.{torn_of}
use Rattle.dispatch.specs.declared.State.{State}

unfoldable pub torn : State → Bool
torn s = torn_of s.words s.length s.kept

-- "the state's own ranges fail": the row that goes before those of the machine.
abbrev pub torn_ground : State → Ground
torn_ground s = record { number = TORN; applies = torn s }
