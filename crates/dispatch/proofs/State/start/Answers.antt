-- `dispatch::State::start` meets its contract: the state goes with what the check says. Assumes nothing.
use Rattle.dispatch.proofs.Begun.{start_refused, start_sound, start_room}
use Rattle.dispatch.proofs.State.start.Goals as goal

pub fresh-state-requires : goal.fresh-state-requires
fresh-state-requires c = start_room c.args.words.now c.check-finding.result c.check-finding.ensures c.in-Ok.is

pub returns-in-Ok : goal.returns-in-Ok
returns-in-Ok c = start_sound c.args.words.now c.check-finding.result c.check-finding.ensures _ c.in-Ok.is c.fresh-state.ensures

pub returns-in-Err : goal.returns-in-Err
returns-in-Err c = start_refused c.args.words.now c.check-finding.result c.check-finding.ensures _ _ c.in-Err.is c.zero-state.ensures
