-- `check::map_of` meets its contract: it is the survey's map, and a refused list's has zeros (law `survey_map_of`). Assumes nothing.
use mathlib.Core.Path.{◌∙◌}
use Rattle.table.specs.Map.{padded}
use Rattle.table.proofs.Findings.{survey_map_of}
use Rattle.table.proofs.check.map_of.Goals as goal

pub returns : goal.returns
unfolding padded
returns c = c.unwrap_or.ensures ∙ survey_map_of c.survey.result c.args.words.now c.survey.ensures
