-- What an answer of this crate says, in document 01's numbers and values. Assumes nothing.
use Rattle.std.specs.Prelude.{ℕ, List, Result, Ok, Err}
use Rattle.table.specs.Check.{Checked, sound, refused, check_of}
use Rattle.table.specs.Map.{no_map, map_of}
use Rattle.numbers.specs.Answers.{SHORT, COUNT, RANGE, STEP, NEST, CROWDED}
use Rattle.table.specs.declared.Finding.{Finding}
use Rattle.table.specs.declared.Map.{Map}
use Rattle.table.specs.declared.Finding.TheVariants.{Short, Count, Range, Step, Nest, Crowded}

-- That a list passes, or a refusal's number and place.
pub data CheckReply : Type 0 where
  passes : CheckReply
  says : ℕ → ℕ → CheckReply

-- The number of each refusal, as document 01's table has it.
abbrev pub refusal_said : Finding → CheckReply
refusal_said (Short place) = says SHORT place
refusal_said (Count place) = says COUNT place
refusal_said (Range place) = says RANGE place
refusal_said (Step place) = says STEP place
refusal_said (Nest place) = says NEST place
refusal_said (Crowded place) = says CROWDED place

-- An answer that is no refusal says that the list passes, whatever is given with it.
abbrev pub said_of : {A : Type 0} → Result A Finding → CheckReply
said_of (Ok x) = passes
said_of (Err finding) = refusal_said finding

-- What the check has to say of what a list is.
abbrev pub finding_said : Checked → CheckReply
finding_said (sound t) = passes
finding_said (refused number place) = says number place

-- "The check stops at the first broken word and gives its number and place."
abbrev pub check_said : List ℕ → CheckReply
check_said ws = finding_said (check_of ws)

-- What one pass over the words learns: what the check has to say, and where each task starts.
pub record Surveyed : Type 0 where
  pub said : CheckReply
  pub map : Map

-- A refused list's map has zeros.
abbrev pub survey_said : Result Map Finding → Surveyed
survey_said (Ok map) = record { said = passes; map = map }
survey_said (Err finding) = record { said = refusal_said finding; map = no_map }

abbrev pub survey_of : List ℕ → Surveyed
survey_of ws = record { said = check_said ws; map = map_of ws }

-- The number that is said, and the place with it: of a list that passes 0, which is no refusal's number.
abbrev pub number_in : CheckReply → ℕ
number_in passes = 0
number_in (says number place) = number

abbrev pub place_in : CheckReply → ℕ
place_in passes = 0
place_in (says number place) = place
