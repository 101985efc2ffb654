-- What a marked case of document 01 claims ("Two mornings at the chair"): a run with every reply, a finding of the check, a verdict, or a statement
-- about many tables. Assumes nothing.
use Rattle.std.specs.Prelude.{ℕ, ◌≡◌, List, [], ◌∷◌, map, ℤ, pos, neg_ℤ}
use Rattle.table.specs.Said.{check_said}
use Rattle.table.specs.Said as table
use Rattle.machine.specs.Reply.{EventReply}
use Rattle.verdict.specs.Verdict.{verdict_of}
use Rattle.verdict.specs.Verdict as verdict
use Rattle.runs.specs.Run.{Event, replies, begin}

-- One line of a run: an event and its reply.
pub record Line : Type 0 where
  pub event : Event
  pub reply : EventReply

infix 4 ◌answers◌
abbrev pub ◌answers◌ : Event → EventReply → Line
event answers reply = record { event = event; reply = reply }

-- A negative lateness, as document 01 writes it.
abbrev pub minus : ℕ → ℤ
minus n = neg_ℤ (pos n)

-- A case, with its words.
pub data Morning : Type 1 where
  run : List ℕ → List Line → Morning
  checked : List ℕ → table.CheckReply → Morning
  judged : List ℕ → verdict.VerdictReply → Morning
  every : Type 0 → Morning

-- What it claims.
abbrev pub Holds : Morning → Type 0
Holds (run ws lines) = replies (begin ws) (map (λ (line : Line). line.event) lines) ≡ map (λ (line : Line). line.reply) lines
Holds (checked ws said) = check_said ws ≡ said
Holds (judged ws said) = verdict_of ws ≡ said
Holds (every claim) = claim

-- All of a list hold.
abbrev pub All : List Morning → Type 0
All [] = Unit {0}
All (morning ∷ mornings) = Holds morning × All mornings
