use Rattle.std.proofs.Common.{sym, ◌∙◌}
use Rattle.std.proofs.lemmas.Result.{err_from_is_err_and}
use Rattle.script.proofs.Entries.{said_fault}
use Rattle.script.proofs.read.table.Goals as goal

-- the first word that is no number says what is wrong
pub returns-in_err-small_number : goal.returns-in_err-small_number
returns-in_err-small_number c =
    let p = err_from_is_err_and c.from_residual.result c.from_residual.ensures.1 in
    let says = said_fault _ _ c.in-Some.word.now _ _ c.in-Some.ensures.steps (sym c.ne.ensures ∙ c.if-ne.true) c.in_err-small_number.ensures in
    rw (p.1, p.2) (sym says ∙ c.loop-word.invariant.says)
