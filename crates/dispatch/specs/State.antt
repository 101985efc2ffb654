-- A state's table. Assumes nothing.
use Rattle.std.specs.Prelude.{ℕ, List, take, replicate}
use Rattle.table.specs.Limits.{room}
use Rattle.table.specs.Table.{Table}
use Rattle.table.specs.Check.{check_of}
use Rattle.table.specs.Map.{padded}
use Rattle.machine.specs.Machine.{fresh}
use Rattle.machine.specs.declared.Kept.{Kept}
use Rattle.torn.specs.Torn.{table_from}
use Rattle.dispatch.specs.declared.State.{State}

-- A state from its parts: its words, as many of them as are in use, and what is kept.
abbrev pub state_of : List ℕ → ℕ → Kept → State
state_of words length kept = record { words = words; length = length; kept = kept }

-- The words of a state's table: as many of its words as its length says.
abbrev pub words_in : State → List ℕ
words_in s = take s.length s.words

unfoldable pub table_in : State → Table
table_in s = table_from (check_of (words_in s))

-- A fresh state over a list of words; the room behind them is 0.
unfoldable pub fresh_state : List ℕ → ℕ → State
fresh_state ws n = record { words = padded room ws; length = n; kept = fresh }

-- "a state whose numbers are all zero"
unfoldable pub zero_state : State
zero_state = record { words = replicate room 0; length = 0; kept = fresh }
