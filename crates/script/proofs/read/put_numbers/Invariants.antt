-- `script::read::put_numbers` meets its contract. The loop's invariant: whatever lays the numbers of the words that are left has laid all of them from the start on.
-- Assumes nothing.
use Rattle.std.proofs.Common.{ℕ, List}
use Rattle.script.specs.Words.{line_words}
use Rattle.script.specs.Grammar.{numbers_in}
use Rattle.text.specs.Room.{Laid}
use Rattle.script.proofs.read.put_numbers.Given as goal

abbrev pub invariant-loop-word : goal.invariant-loop-word
invariant-loop-word l = (b : List ℕ) (to : ℕ) →
    Laid (numbers_in (line_words l.word-iterator.rest.now)) l.room l.next b to → Laid (numbers_in (line_words l.fn.words.rest.now)) l.initial.room 0 b to
