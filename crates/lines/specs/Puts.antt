-- What it is to write with a pen: the text is laid in the pen's room from its place on, the pen stands behind it, and its room is the same one. Assumes nothing.
use Rattle.std.specs.Prelude.{◌≡◌, ℕ, List}
use Rattle.text.specs.Room.{Laid}
use Rattle.lines.specs.declared.pen.Pen.{Pen}

pub record Puts (text : List ℕ) (before after : Pen) : Type 0 where
  pub laid : Laid text before.room.now before.at after.room.now after.at
  pub same_room : after.room.ghost_name ≡ before.room.ghost_name
