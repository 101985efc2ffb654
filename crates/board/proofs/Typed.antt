-- Every state of the program is `TypedState`: the relation between a value and its machine words, which the types of the fields give, says how long its lists are and
-- that its fields of 32 bits hold no more. Assumes nothing.
use Prim.Native.Nat.{ℕ}
use mathlib.Core.Path.{◌≡◌, subst}
use mathlib.Core.List.{List, [], ◌∷◌}
use lib.ListN.{length}
use mir.Val.{Val}
use denote.Shadow.{shadow}
use denote.Array.{each}
use denote.Laws.{Is}
use denote.Struct.Field.{u32-field}
use denote.Struct.Declared.{row}
use denote.Enum.Declared as enum
use Rattle.machine.specs.contracts.Job as job
use Rattle.machine.specs.contracts.Kept as keptRow
use Rattle.dispatch.specs.contracts.State as state
use Rattle.std.specs.contracts.result.Result as result
use Rattle.std.specs.Prelude.{Result, Ok, Err}
use Rattle.dispatch.specs.contracts.Outcome as outcome
use Rattle.dispatch.specs.contracts.Refusal as refusal
use Rattle.dispatch.specs.declared.Refusal.{Refusal}
use Rattle.dispatch.specs.contracts.Started as started
use Rattle.table.specs.Limits.{room}
use Rattle.machine.specs.declared.Job.{Job}
use Rattle.machine.specs.declared.Kept.{Kept}
use Rattle.dispatch.specs.State.{state_of}
use Rattle.dispatch.specs.declared.State.{State}
use Rattle.dispatch.specs.declared.Outcome.{Outcome}
use Rattle.dispatch.specs.declared.Started.{Started}
use Rattle.numbers.specs.Each.{Each}
use Rattle.board.specs.Image.{Half, TypedJob, TypedState}

pub job_typed : (j : Job) (vs : List Val) → Is (row job.the_type) j vs → TypedJob j
job_typed j vs p = record { place_half = p.1.1.1.1.1.0.1; four_saved = p.1.1.1.1.1.1.0.1.0.1 }

pub words_half_of : (xs : List ℕ) (us : List Val) → shadow (each ℕ u32-field.row.own_val xs us) → Each Half xs
words_half_of [] us p = tt
words_half_of (x ∷ xs) [] p = absurd p
words_half_of (x ∷ xs) (u ∷ us) p = (p.0.1, words_half_of xs us p.1)

rows_typed_of : (xs : List Job) (us : List Val) → shadow (each (job.the_row).Denot (job.the_row).own_val xs us) → Each TypedJob xs
rows_typed_of [] us p = tt
rows_typed_of (x ∷ xs) [] p = absurd p
rows_typed_of (x ∷ xs) (u ∷ us) p = (job_typed x (u ∷ []) p.0, rows_typed_of xs us p.1)

-- A state from its parts: its words, and what is kept.
pub parts_typed : (words : List ℕ) (used : ℕ) (kept : Kept) (vs : List Val) → length words ≡ room → Each Half words → Is (row keptRow.the_type) kept vs →
    TypedState (state_of words used kept)
parts_typed words used kept vs all halves p = record {
  all_words = all;
  words_half = halves;
  ready_half = p.1.1.1.1.0.1;
  had_half = p.1.1.1.1.1.0.1;
  all_rows = p.1.1.1.1.1.1.0.1.0.1;
  rows_typed = rows_typed_of kept.rows p.1.1.1.1.1.1.0.0 p.1.1.1.1.1.1.0.1.1;
}

pub state_typed : (s : State) (vs : List Val) → Is (row state.the_type) s vs → TypedState s
state_typed s vs p = parts_typed s.words s.length s.kept p.0.1.1.0 p.1.1.0.1.0.1 (words_half_of s.words p.1.1.0.0 p.1.1.0.1.1) p.1.1.1.1.0

-- What an event that isn't turned away hands back, with the words that it was lent.
pub outcome_typed : (words : List ℕ) (used : ℕ) (out : Outcome) (vs : List Val) → length words ≡ room → Each Half words → Is (row outcome.the_type) out vs →
    TypedState (state_of words used out.kept)
outcome_typed words used out vs all halves p = parts_typed words used out.kept p.0.0 all halves p.1.1.0

-- The same by what an event answers.
pub heard_typed : (words : List ℕ) (used : ℕ) (heard : Result Outcome Refusal) (vs : List Val) → length words ≡ room → Each Half words →
    Is (enum.row (result.the_type outcome.the_row refusal.the_row)) heard vs → (out : Outcome) → heard ≡ Ok out → TypedState (state_of words used out.kept)
heard_typed words used (Ok kept) vs all halves p out e =
    let q = p.1.1.1.1.0 in
    let same : kept ≡ out = cc in
    subst (λ (o : Outcome). TypedState (state_of words used o.kept)) same (parts_typed words used kept.kept _ all halves q.1.1.0)
heard_typed words used (Err why) vs all halves p out e = cc

pub started_typed : (a : Started) (vs : List Val) → Is (row started.the_type) a vs → TypedState a.state
started_typed a vs p = state_typed a.state p.0.1.0 p.1.1.1.0
