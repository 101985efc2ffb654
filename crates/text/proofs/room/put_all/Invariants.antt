-- `text::room::put_all` meets its contract. The loop's invariant: the items passed are laid from `at` on. Assumes nothing.
use Rattle.std.proofs.Common.{take}
use Rattle.text.specs.Room.{Laid}
use Rattle.text.proofs.room.put_all.Given as goal

abbrev pub invariant-loop-item : goal.invariant-loop-item
invariant-loop-item g l = Laid (take l.item-index l.text) l.initial.room l.at l.room l.next
