-- `lines::texts::put_members` meets its contract. The loop's invariant: whatever writes the members still to come has written all of them. Assumes nothing.
use Rattle.sets.specs.Member.{width, members}
use Rattle.lines.specs.declared.pen.Pen.{Pen}
use Rattle.lines.specs.Lines.{each_text}
use Rattle.lines.specs.Puts.{Puts}
use Rattle.lines.proofs.texts.put_members.Given as goal

abbrev pub invariant-loop-k : goal.invariant-loop-k
invariant-loop-k l =
    (after : Pen) → Puts (each_text (members width l.k-iterator.rest)) l.pen after → Puts (each_text (members width l.held)) l.initial.pen after
