-- What a line says, by its length and its words. Assumes nothing.
use Rattle.std.proofs.Common.{◌≡◌, ℕ, ◌≤◌, ◌<◌, List, [], ◌∷◌, length, refl, sym, lt-ltb, le-ltb, Option, Some, None, MatchOption, Result, Ok, Err, Bor}
use Rattle.text.specs.Room.{Written, Laid}
use Rattle.text.proofs.Lay.{none_laid, whole}
use Rattle.script.specs.Words.{line_words}
use Rattle.script.specs.Grammar.{most_bytes, command_said, command_of, numbers_in, numbers_for, table_of}
use Rattle.script.specs.declared.Command.{Command}
use Rattle.script.specs.declared.Command.TheVariants.{Table, Check, Start, Release, Step, Verdict, Show}
use Rattle.text.specs.declared.Fault.{Fault}
use Rattle.text.specs.declared.Fault.TheVariants.{TooLong}

pub command_long : (line : List ℕ) → most_bytes < length line → command_of line ≡ Err TooLong
unfolding command_of
command_long line h = rw (lt-ltb most_bytes (length line) h)

pub command_none : (line : List ℕ) → length line ≤ most_bytes → line_words line ≡ [] → command_of line ≡ Ok None
unfolding command_of
command_none line h e = rw (le-ltb most_bytes (length line) h, e)

pub command_some : (line : List ℕ) (w : List ℕ) (ws : List (List ℕ)) (command : Command) → length line ≤ most_bytes → line_words line ≡ w ∷ ws →
    Ok command ≡ command_said w ws → command_of line ≡ Ok (Some command)
unfolding command_of
command_some line w ws command h e f = rw (le-ltb most_bytes (length line) h, e, sym f)

pub command_fault : (line : List ℕ) (w : List ℕ) (ws : List (List ℕ)) (fault : Fault) → length line ≤ most_bytes → line_words line ≡ w ∷ ws →
    Err fault ≡ command_said w ws → command_of line ≡ Err fault
unfolding command_of
command_fault line w ws fault h e f = rw (le-ltb most_bytes (length line) h, e, sym f)

pub ruleset says = (command_long, command_none, command_some, command_fault)

-- The words that a line lends: those behind its first one if it is a table, else none.
pub lends_other : (said : Result (Option Command) Fault) (ws : List (List ℕ)) → ((count : ℕ) → said ≡ Ok (Some (Table count)) → ⊥) → numbers_for said ws ≡ []
lends_other (Ok (Some (Table count))) ws other = absurd (other count refl)
lends_other (Ok (Some Check)) ws other = refl
lends_other (Ok (Some Start)) ws other = refl
lends_other (Ok (Some (Release i t))) ws other = refl
lends_other (Ok (Some (Step t))) ws other = refl
lends_other (Ok (Some Verdict)) ws other = refl
lends_other (Ok (Some Show)) ws other = refl
lends_other (Ok None) ws other = refl
lends_other (Err fault) ws other = refl

pub lends_none : (line room : List ℕ) → ((count : ℕ) → command_of line ≡ Ok (Some (Table count)) → ⊥) → Written (table_of line) room room 0
unfolding table_of
lends_none line room other = rw (lends_other (command_of line) (line_words line) other) (whole (none_laid room 0))

-- A table has a first word, or no word at all is left to lend; what the first step over the line's words said of it.
pub lends : (line room room' : List ℕ) (all ws : List (List ℕ)) (first : Option (Bor (List ℕ))) (count n : ℕ) → Ok (Some (Table count)) ≡ command_of line →
    all ≡ line_words line → MatchOption first ((all ≡ []) × (ws ≡ [])) (λ w. all ≡ w.now ∷ ws) → Laid (numbers_in ws) room 0 room' n →
    Written (table_of line) room room' n
unfolding table_of numbers_in
lends line room room' all ws None count n e f s laid = rw (sym e, sym f, s.0) (whole (rw s.1 at laid))
lends line room room' all ws (Some w) count n e f s laid = rw (sym e, sym f, s) (whole laid)
