-- Document 01's numbers of what is answered, each with its name: they stand here and, for the code, in src/answers.rt. A new refusal is a line in each.
-- Assumes nothing.
use Rattle.std.specs.Prelude.{ℕ, cond, List, [], ◌∷◌, eqb}
use Prim.Native.String.{String}

-- "When the table check says no"
abbrev pub SHORT : ℕ
SHORT = 1

abbrev pub COUNT : ℕ
COUNT = 2

abbrev pub RANGE : ℕ
RANGE = 3

abbrev pub STEP : ℕ
STEP = 4

abbrev pub NEST : ℕ
NEST = 5

-- Request 105: "New refusal 14 CROWDED, place: the lock step that goes over."
abbrev pub CROWDED : ℕ
CROWDED = 14

-- "When an event is turned away"
abbrev pub TORN : ℕ
TORN = 6

abbrev pub BACK : ℕ
BACK = 7

abbrev pub END : ℕ
END = 8

abbrev pub NOBODY : ℕ
NOBODY = 9

abbrev pub ACTIVE : ℕ
ACTIVE = 10

abbrev pub EARLY : ℕ
EARLY = 11

abbrev pub HELD : ℕ
HELD = 12

-- "The verdict"
abbrev pub FITS : ℕ
FITS = 20

abbrev pub LATE : ℕ
LATE = 21

abbrev pub HEAVY : ℕ
HEAVY = 22

abbrev pub LONG : ℕ
LONG = 23

-- A number and its name.
pub record Named : Type 0 where
  pub number : ℕ
  pub name : String

infix 4 ◌called◌
abbrev pub ◌called◌ : ℕ → String → Named
number called name = record { number = number; name = name }

abbrev pub answers : List Named
answers =
    (SHORT called "SHORT") ∷
    (COUNT called "COUNT") ∷
    (RANGE called "RANGE") ∷
    (STEP called "STEP") ∷
    (NEST called "NEST") ∷
    (CROWDED called "CROWDED") ∷
    (TORN called "TORN") ∷
    (BACK called "BACK") ∷
    (END called "END") ∷
    (NOBODY called "NOBODY") ∷
    (ACTIVE called "ACTIVE") ∷
    (EARLY called "EARLY") ∷
    (HELD called "HELD") ∷
    (FITS called "FITS") ∷
    (LATE called "LATE") ∷
    (HEAVY called "HEAVY") ∷
    (LONG called "LONG") ∷
    []

-- The name of a number; a number that is no answer's has none.
unfoldable pub name_in : List Named → ℕ → String
name_in [] number = ""
name_in (answer ∷ rest) number = cond (eqb answer.number number) answer.name (name_in rest number)

abbrev pub name_of : ℕ → String
name_of number = name_in answers number
