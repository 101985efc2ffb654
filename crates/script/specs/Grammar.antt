-- What a line says: a command, or what is wrong with it. "Its words are judged from left to right, and the first fault is the answer."
-- Assumes nothing.
use Rattle.std.specs.Prelude.{ℕ, suc, ◌-◌, ◌^◌, cond, List, [], ◌∷◌, ltb, length, Option, Some, None, Result, Ok, Err}
use Rattle.text.specs.Bytes.{bytes}
use Rattle.script.specs.Signs.{same}
use Rattle.script.specs.Number.{number_said}
use Rattle.script.specs.Words.{line_words}
use Rattle.text.specs.declared.Fault.{Fault}
use Rattle.text.specs.declared.Fault.TheVariants.{Unknown, Missing, LeftOver, TooLong}
use Rattle.script.specs.declared.Command.{Command}
use Rattle.script.specs.declared.Command.TheVariants.{Table, Check, Start, Release, Step, Verdict, Show}

-- "the line has more than 65,536 bytes"
abbrev pub most_bytes : ℕ
most_bytes = 65_536

-- "a word of a table, a task number | below 2^32", "a time | below 2^64"
abbrev pub most_word : ℕ
most_word = 2 ^ 32 - 1

abbrev pub most_time : ℕ
most_time = 2 ^ 64 - 1

-- What is read at the front of some words: a number and the words behind it, or what is wrong.
abbrev pub Front : Type 0
Front = Result (ℕ × List (List ℕ)) Fault

abbrev pub front_of : Result ℕ Fault → List (List ℕ) → Front
front_of (Ok n) ws = Ok (n, ws)
front_of (Err fault) ws = Err fault

-- A number in front: "the line ends where a number, or `at`, must stand" is `number missing`.
unfoldable pub number_first : ℕ → List (List ℕ) → Front
number_first most [] = Err Missing
number_first most (w ∷ ws) = front_of (number_said most w) ws

-- "another word stands where `at` must stand": `unknown word`
unfoldable pub at_first : List (List ℕ) → Result (List (List ℕ)) Fault
at_first [] = Err Missing
at_first (w ∷ ws) = cond (same w (bytes "at")) (Ok ws) (Err Unknown)

-- A whole command: "a word follows a whole command" is `something left over`.
unfoldable pub alone : Command → List (List ℕ) → Result Command Fault
alone command [] = Ok command
alone command (w ∷ ws) = Err LeftOver

-- `at T`, behind a release or a step.
abbrev pub time_behind : Result (List (List ℕ)) Fault → Front
time_behind (Ok ws) = number_first most_time ws
time_behind (Err fault) = Err fault

unfoldable pub time_first : List (List ℕ) → Front
time_first ws = time_behind (at_first ws)

-- `step at T`
abbrev pub step_with : Front → Result Command Fault
step_with (Ok (t, ws)) = alone (Step t) ws
step_with (Err fault) = Err fault

abbrev pub step_command : List (List ℕ) → Result Command Fault
step_command ws = step_with (time_first ws)

-- `release I at T`
abbrev pub release_at : ℕ → Front → Result Command Fault
release_at i (Ok (t, ws)) = alone (Release i t) ws
release_at i (Err fault) = Err fault

abbrev pub release_with : Front → Result Command Fault
release_with (Ok (i, ws)) = release_at i (time_first ws)
release_with (Err fault) = Err fault

abbrev pub release_said : List (List ℕ) → Result Command Fault
release_said ws = release_with (number_first most_word ws)

-- "In a `table` line the word `/` stands for nothing"
abbrev pub slash : List ℕ
slash = bytes "/"

-- The numbers of a table's words, up to the first word that is none.
abbrev pub number_then : Result ℕ Fault → List ℕ → List ℕ
number_then (Ok n) ns = n ∷ ns
number_then (Err fault) ns = []

unfoldable pub numbers_in : List (List ℕ) → List ℕ
numbers_in [] = []
numbers_in (w ∷ ws) = cond (same w slash) (numbers_in ws) (number_then (number_said most_word w) (numbers_in ws))

-- `table N N N ..`, behind `count` numbers: numbers and `/` to the line's end. "A `table` line without any words lends the empty list."
abbrev pub table_then : Result ℕ Fault → Result Command Fault → Result Command Fault
table_then (Ok n) rest = rest
table_then (Err fault) rest = Err fault

unfoldable pub table_said : ℕ → List (List ℕ) → Result Command Fault
table_said count [] = Ok (Table count)
table_said count (w ∷ ws) =
    cond (same w slash)
    (table_said count ws)
    (table_then (number_said most_word w) (table_said (suc count) ws))

-- Which command a line's first word is, and the words behind it; `unknown word`: "the first word is no command".
unfoldable pub command_said : List ℕ → List (List ℕ) → Result Command Fault
command_said w ws =
    cond (same w (bytes "table")) (table_said 0 ws)
    (cond (same w (bytes "check")) (alone Check ws)
    (cond (same w (bytes "start")) (alone Start ws)
    (cond (same w (bytes "release")) (release_said ws)
    (cond (same w (bytes "step")) (step_command ws)
    (cond (same w (bytes "verdict")) (alone Verdict ws)
    (cond (same w (bytes "show")) (alone Show ws) (Err Unknown)))))))

-- A command, where one is said.
abbrev pub some_command : Result Command Fault → Result (Option Command) Fault
some_command (Ok command) = Ok (Some command)
some_command (Err fault) = Err fault

-- "A line with nothing in it, or with a comment only, is skipped".
abbrev pub command_in : List (List ℕ) → Result (Option Command) Fault
command_in [] = Ok None
command_in (w ∷ ws) = some_command (command_said w ws)

-- "the line has more than 65,536 bytes; nothing else of it is judged, not even a comment"
unfoldable pub command_of : List ℕ → Result (Option Command) Fault
command_of line = cond (ltb most_bytes (length line)) (Err TooLong) (command_in (line_words line))

-- The words of the table that a line lends; a line that lends none has none.
abbrev pub numbers_behind : List (List ℕ) → List ℕ
numbers_behind [] = []
numbers_behind (w ∷ ws) = numbers_in ws

abbrev pub numbers_for : Result (Option Command) Fault → List (List ℕ) → List ℕ
numbers_for (Ok (Some (Table count))) ws = numbers_behind ws
numbers_for (Ok (Some Check)) ws = []
numbers_for (Ok (Some Start)) ws = []
numbers_for (Ok (Some (Release i t))) ws = []
numbers_for (Ok (Some (Step t))) ws = []
numbers_for (Ok (Some Verdict)) ws = []
numbers_for (Ok (Some Show)) ws = []
numbers_for (Ok None) ws = []
numbers_for (Err fault) ws = []

unfoldable pub table_of : List ℕ → List ℕ
table_of line = numbers_for (command_of line) (line_words line)
