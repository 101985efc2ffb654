-- `script::read::table` meets its contract. The loop's invariant: the words that are left, behind as many numbers as are counted, say what all the words say, and no
-- more numbers are counted than words have passed. Assumes nothing.
use Rattle.std.proofs.Common.{◌≡◌, ◌+◌, ◌≤◌, length}
use Rattle.script.specs.Words.{line_words}
use Rattle.script.specs.Grammar.{table_said}
use Rattle.script.proofs.read.table.Given as goal

abbrev pub invariant-loop-word : goal.invariant-loop-word
invariant-loop-word l = record {
  few : l.count + length (line_words l.word-iterator.rest.now) ≤ length (line_words l.fn.words.rest.now);
  says : table_said l.count (line_words l.word-iterator.rest.now) ≡ table_said 0 (line_words l.fn.words.rest.now);
}
