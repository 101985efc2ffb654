-- "Checks go from top to bottom; the first that applies is given" (document 01): the laws of `given`, for any list of grounds and any accepted outcome. Each
-- number is given exactly when its own ground holds and none above it does, an event is accepted exactly when no ground holds, and a refused one changes
-- nothing. Nothing else opens the order of the refusals. Assumes nothing.
use Prim.Native.Nat.{ℕ}
use mathlib.Core.Path.{◌≡◌, refl, ap, subst}
use mathlib.Core.Logic.{◌↔◌}
use mathlib.Core.List.{List, [], ◌∷◌}
use mathlib.Core.Bool.{Bool, true, false}
use Rattle.numbers.proofs.Tests.{never}
use Rattle.numbers.specs.Each.{Each}
use Rattle.machine.specs.Reply.{EventReply, refused, went_on, finished, Accepted}
use Rattle.machine.specs.Moves.{Outcome}
use Rattle.machine.specs.Away.{Ground, turned_away, given, Given, here, later, NoGround, none, more}
use Rattle.machine.specs.declared.Kept.{Kept}

pub not_refused : (said : EventReply) (number : ℕ) → Accepted said → said ≡ refused number → ⊥
not_refused (refused n) number ok e = ok
not_refused (went_on turn) number ok e = never (cc)
not_refused (finished late turn) number ok e = never (cc)

-- ---- a test at a time

module _ (kept : Kept) (out : Outcome) where
  pub given_here : (ground : Ground) (below : List Ground) → ground.applies ≡ true → given (ground ∷ below) kept out ≡ turned_away kept ground.number
  unfolding given
  given_here ground below h = rw h

  pub given_later : (ground : Ground) (below : List Ground) → ground.applies ≡ false → given (ground ∷ below) kept out ≡ given below kept out
  unfolding given
  given_later ground below h = rw h

  pub given_none : {grounds : List Ground} → NoGround grounds → given grounds kept out ≡ out
  unfolding given
  given_none none = refl
  given_none (more h rest) = rw h (given_none rest)

  pub given_number : {number : ℕ} {grounds : List Ground} → Given number grounds → given grounds kept out ≡ turned_away kept number
  unfolding given
  given_number (here e h) = rw (h, e)
  given_number (later h rest) = rw h (given_number rest)

pub no_head : {ground : Ground} {below : List Ground} → NoGround (ground ∷ below) → ground.applies ≡ false
no_head (more h rest) = h

pub no_tail : {ground : Ground} {below : List Ground} → NoGround (ground ∷ below) → NoGround below
no_tail (more h rest) = rest

-- ---- either a row is given, or none holds

pub data Decided (grounds : List Ground) : Type 0 where
  away : (number : ℕ) → Given number grounds → Decided grounds
  on : NoGround grounds → Decided grounds

pub decided : (grounds : List Ground) → Decided grounds
decided [] = on none
decided (ground ∷ below) = go ground.applies refl (decided below)
  where
    go : (b : Bool) → ground.applies ≡ b → Decided below → Decided (ground ∷ below)
    go true h rest = away ground.number (here refl h)
    go false h (away number g) = away number (later h g)
    go false h (on n) = on (more h n)

-- ---- exactly when, and what is left as it was

module _ (grounds : List Ground) (kept : Kept) (out : Outcome) (ok : Accepted out.said) where
  said_refused : (number : ℕ) → Given number grounds → (given grounds kept out).said ≡ refused number
  said_refused number g = ap (λ (o : Outcome). o.said) (given_number kept out g)

  said_on : NoGround grounds → (given grounds kept out).said ≡ out.said
  said_on n = ap (λ (o : Outcome). o.said) (given_none kept out n)

  pub given_exactly : (number : ℕ) → ((given grounds kept out).said ≡ refused number) ↔ Given number grounds
  given_exactly number = (λ e. go e (decided grounds), said_refused number)
    where
      go : (given grounds kept out).said ≡ refused number → Decided grounds → Given number grounds
      go e (away n g) =
          let same : n ≡ number = cc (said_refused n g) in
          subst (λ (k : ℕ). Given k grounds) same g
      go e (on n) = absurd (not_refused out.said number ok (cc (said_on n)))

  pub given_accepted : Accepted (given grounds kept out).said ↔ NoGround grounds
  given_accepted = (λ a. go a (decided grounds), λ n. rw (said_on n) ok)
    where
      go : Accepted (given grounds kept out).said → Decided grounds → NoGround grounds
      go a (away n g) = absurd (rw (said_refused n g) at a)
      go a (on n) = n

  pub given_unchanged : (number : ℕ) → (given grounds kept out).said ≡ refused number → (given grounds kept out).kept ≡ kept
  given_unchanged number e = ap (λ (o : Outcome). o.kept) (given_number kept out ((given_exactly number).0 e))

  pub given_on : Accepted (given grounds kept out).said → given grounds kept out ≡ out
  given_on a = given_none kept out (given_accepted.0 a)

-- ---- what each row tells

-- A fact for each row.
-- What every row whose ground holds says of its number, the number that is given says.
pub given_each : {number : ℕ} {grounds : List Ground} (P : ℕ → Type 0) → Given number grounds →
    Each (λ ground. ground.applies ≡ true → P ground.number) grounds → P number
given_each P (here e h) (first, rest) = subst P e (first h)
given_each P (later h g) (first, rest) = given_each P g rest
