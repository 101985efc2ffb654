-- What is held is written as its members, or as `nothing` where there are none. Assumes nothing.
use Prim.Native.Nat.{ℕ, zero, ◌^◌, ◌<◌}
use mathlib.Core.Path.{◌≡◌}
use mathlib.Core.Logic.{◌≢◌}
use Rattle.sets.specs.Member.{width, members}
use Rattle.sets.proofs.Visit.{members_zero, members_step}
use Rattle.text.specs.Bytes.{bytes}
use Rattle.lines.specs.Lines.{each_text, held_text}

pub held_none : held_text 0 ≡ bytes " nothing"
unfolding held_text
held_none = rw (members_zero width)

pub held_some : (held : ℕ) → held ≢ zero → held < 2 ^ width → held_text held ≡ each_text (members width held)
unfolding held_text
held_some held n h = rw (members_step width held n h)
