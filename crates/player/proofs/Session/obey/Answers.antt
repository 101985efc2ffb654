-- `player::Session::obey` meets its contract: a table is not answered. Assumes nothing.
use Rattle.text.proofs.Lay.{none_laid, whole}
use Rattle.player.proofs.Session.obey.Goals as goal

pub returns-in-Table : goal.returns-in-Table
returns-in-Table c = rw c.in-Table.is (record { session = c.lend.ensures; answer = whole (none_laid _ 0) })
