-- `player::show::lines` meets its contract: the clock's line, and the tasks' lines behind it. Assumes nothing.
use Rattle.std.proofs.Common.{◌≤◌, length, arith}
use Rattle.text.proofs.Lay.{then, from_written, whole}
use Rattle.player.proofs.Told.{from_middle}
use Rattle.player.proofs.show.lines.Goals as goal

pub returns : goal.returns
returns c =
    let within : c.write_clock-at.result ≤ length c.write_clock-at.new.buffer = omega (arith, c.write_clock-at.ensures.count) in
    whole (then (from_written c.write_clock-at.ensures) (from_middle within (rw c.map_of.ensures at c.jobs.ensures)))
