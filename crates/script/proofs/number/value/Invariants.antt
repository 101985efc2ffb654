-- `script::number::value` meets its contract. The loop's invariant: the digits behind what they say so far say what the whole word says, and what they say so far
-- has room. Assumes nothing.
use Rattle.std.proofs.Common.{◌≡◌, ◌≤◌, drop}
use Rattle.script.specs.Number.{value_from, value_of}
use Rattle.script.specs.Grammar.{most_time}
use Rattle.script.proofs.number.value.Given as goal

abbrev pub invariant-loop-byte : goal.invariant-loop-byte
invariant-loop-byte l = record { has_room : l.n ≤ most_time; says : value_from l.n (drop l.byte-index l.word) ≡ value_of l.word }
