-- `torn::examine` meets its contract: the table is judged by a walk over the words in use, and then the other grounds. Assumes nothing.
use mathlib.Core.Bool.{true, false}
use mathlib.Core.Path.{refl, sym, ◌∙◌}
use Rattle.numbers.proofs.Tests.{never}
use Rattle.table.specs.Map.{padded}
use Rattle.torn.proofs.Grounds.{refused_examined, refused_map, judged_examined}
use Rattle.torn.proofs.examine.Goals.{then-too_long, else-too_long}
use Rattle.torn.proofs.examine.Goals as goal

pub returns-in-Ok : goal.returns-in-Ok
returns-in-Ok c =
    let a = c.args in
    elim c.if-too_long.branch [
      | then-too_long w ↦
          judged_examined a.words.now a.used _ a.kept c.lesser.ensures c.in-Ok.map true _ c.in-Ok.ensures (sym w.if-too_long.true ∙ c.too_long.ensures) refl
      | else-too_long w ↦
          judged_examined a.words.now a.used _ a.kept c.lesser.ensures c.in-Ok.map false true c.in-Ok.ensures
          (sym w.if-too_long.false ∙ c.too_long.ensures) (sym c.if-torn_by.true ∙ w.value-is ∙ w.torn_by.ensures)
    ]

pub returns-in-Ok-2 : goal.returns-in-Ok-2
returns-in-Ok-2 c =
    let a = c.args in
    elim c.if-too_long.branch [
      | then-too_long w ↦ never (cc)
      | else-too_long w ↦
          judged_examined a.words.now a.used _ a.kept c.lesser.ensures c.in-Ok.map false false c.in-Ok.ensures
          (sym w.if-too_long.false ∙ c.too_long.ensures) (sym c.if-torn_by.false ∙ w.value-is ∙ w.torn_by.ensures)
    ]

pub returns-in-Err : goal.returns-in-Err
unfolding padded
returns-in-Err c =
    let a = c.args in
    refused_examined a.words.now a.used _ a.kept c.lesser.ensures _ _ c.in-Err.ensures (refused_map _ _ c.in-Err.ensures)
