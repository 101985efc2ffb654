-- `dispatch::event::release` meets its contract: TORN goes first, the table that the map reads is the state's, and the words stay. Assumes nothing.
use Rattle.std.proofs.lemmas.Result.{err_from_is_err_and}
use Rattle.machine.specs.Event.{release}
use Rattle.dispatch.specs.State.{state_of}
use Rattle.dispatch.specs.Dispatch.{release_of}
use Rattle.dispatch.proofs.Grounds.{refused_torn, event_said}
use Rattle.dispatch.proofs.event.release.Goals as goal

pub returns-in_err-of : goal.returns-in_err-of
unfolding release_of
returns-in_err-of c =
    let a = c.args in
    let p = err_from_is_err_and c.from_residual.result c.from_residual.ensures.1 in
    rw (p.1, p.2) (refused_torn (state_of a.words.now a.used a.kept) (release c.args.task c.args.time) _ c.in_err-of.ensures.torn)

pub returns : goal.returns
unfolding release_of
returns c =
    let a = c.args in
    event_said (state_of a.words.now a.used a.kept) (release c.args.task c.args.time) _ _ _ c.in_ok-of.ensures.whole c.release.ensures
