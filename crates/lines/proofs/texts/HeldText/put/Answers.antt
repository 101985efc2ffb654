-- A set that is not 0 has a member (`held_some`). Assumes nothing.
use Rattle.std.proofs.Common.{rules}
use Rattle.lines.proofs.Members.{held_none, held_some}
use Rattle.lines.proofs.texts.HeldText.put.Goals as goal

pub returns-then-self-eq0 : goal.returns-then-self-eq0
returns-then-self-eq0 c = rw (c.if-self-eq0.true, held_none) c.put.ensures

pub returns-else-self-eq0 : goal.returns-else-self-eq0
returns-else-self-eq0 c = rw (held_some c.args.self.0 c.if-self-eq0.false (search rules)) c.put_members.ensures
