-- A job's stack: the sections that it holds, innermost first, each with its entry value, which is the active deadline right after its lock. The
-- entry value of the innermost is the active deadline; that of any other is what the next inner lock saved. `Stack` says that entry values
-- fall inwards from the base and that each is at most the clock plus its floor; it is kept by a lock and by an unlock, and by time.
-- Assumes nothing.
use Prim.Native.Nat.{ℕ, ◌+◌, ◌≤◌, ◌<◌}
use mathlib.Core.Path.{◌≡◌, refl, sym, ap, ◌∙◌}
use mathlib.Core.Logic.{◌⊎◌, inl, inr}
use mathlib.Core.Bool.{Bool, true, false, ◌||◌}
use mathlib.Core.List.{List, [], ◌∷◌}
use native.Mathlib.Nat.{le_refl, le_trans}
use native.Mathlib.Omega.{arith}
use lib.Dec.{eqb}
use lib.ListN.{length, get_or, set}
use lib.Seq.{get_or-set_same, get_or-set_other}
use borrow.Author.Tests.{eqb-true}
use Rattle.table.specs.Held.{Section, holds}
use Rattle.numbers.proofs.Tests.{never}

-- What the lock around which `held` was held saved: its slot is its depth.
abbrev pub slot : List ℕ → List Section → ℕ
slot saved held = get_or saved (length held) 0

-- A job with this base and these saved deadlines, which holds `held`, has an active deadline as its locks have made it.
pub data Stack (floor : ℕ → ℕ) (clock base : ℕ) (saved : List ℕ) : List Section → ℕ → Type 0 where
  bare : Stack floor clock base saved [] base
  inside : {s : Section} {held : List Section} {a : ℕ} → a ≤ slot saved held → a ≤ clock + floor s.resource →
      Stack floor clock base saved held (slot saved held) → Stack floor clock base saved (s ∷ held) a

-- Section s is held, and v is its entry value.
pub data Entry (saved : List ℕ) : List Section → ℕ → Section → ℕ → Type 0 where
  inmost : {s : Section} {held : List Section} {a : ℕ} → Entry saved (s ∷ held) a s a
  further : {s t : Section} {held : List Section} {a v : ℕ} → Entry saved held (slot saved held) s v → Entry saved (t ∷ held) a s v

-- ---- what a stack tells

module _ {floor : ℕ → ℕ} {clock base : ℕ} {saved : List ℕ} where
  -- Where nothing is held the active deadline is the base.
  pub stack_none : {a : ℕ} → Stack floor clock base saved [] a → a ≡ base
  stack_none bare = refl

  -- The active deadline never lies above the base.
  pub stack_base : {held : List Section} {a : ℕ} → Stack floor clock base saved held a → a ≤ base
  stack_base bare = le_refl base
  stack_base (inside l f h) = le_trans l (stack_base h)

  -- No entry value is below the active deadline.
  pub entry_least : {held : List Section} {a : ℕ} {s : Section} {v : ℕ} → Stack floor clock base saved held a → Entry saved held a s v →
      a ≤ v
  entry_least h (inmost {a = a}) = le_refl a
  entry_least (inside l f h) (further e) = le_trans l (entry_least h e)

  -- None is above the clock plus the floor.
  pub entry_most : {held : List Section} {a : ℕ} {s : Section} {v : ℕ} → Stack floor clock base saved held a → Entry saved held a s v →
      v ≤ clock + floor s.resource
  entry_most {s = s} {v = v} bare e = elim e [ ]
  entry_most (inside l f h) inmost = f
  entry_most (inside l f h) (further e) = entry_most h e

  -- The clock goes on.
  pub stack_clock : {later : ℕ} {held : List Section} {a : ℕ} → clock ≤ later → Stack floor clock base saved held a →
      Stack floor later base saved held a
  stack_clock l bare = bare
  stack_clock l (inside {s = s} m f h) = inside {s = s} m (omega arith) (stack_clock l h)

-- Whoever holds r holds it in a section with an entry value.
pub record HeldAt (saved : List ℕ) (held : List Section) (a r : ℕ) : Type 0 where
  pub section : Section
  pub entry : ℕ
  pub resource : section.resource ≡ r
  pub entered : Entry saved held a section entry

pub held_entry : (saved : List ℕ) (held : List Section) (a r : ℕ) → holds held r ≡ true → HeldAt saved held a r
unfolding holds
held_entry saved [] a r h = never (cc)
held_entry saved (s ∷ held) a r h = go (eqb s.resource r) refl (held_entry saved held (slot saved held) r)
  where
    deeper : HeldAt saved held (slot saved held) r → HeldAt saved (s ∷ held) a r
    deeper h = record { section = h.section; entry = h.entry; resource = h.resource; entered = further h.entered }

    go : (b : Bool) → eqb s.resource r ≡ b → (holds held r ≡ true → HeldAt saved held (slot saved held) r) → HeldAt saved (s ∷ held) a r
    go true e rest = record { section = s; entry = a; resource = eqb-true _ _ e; entered = inmost }
    go false e rest = deeper (rest (ap (λ (b : Bool). b || holds held r) (sym e) ∙ h))

-- ---- a slot at or above the depth is not read

module _ (saved : List ℕ) (d v : ℕ) where
  slot_kept : (held : List Section) → length held < d → slot (set saved d v) held ≡ slot saved held
  slot_kept held h = get_or-set_other saved d (length held) v 0 (omega arith)

  pub stack_kept : {floor : ℕ → ℕ} {clock base : ℕ} {held : List Section} {a : ℕ} → length held ≤ d →
      Stack floor clock base saved held a → Stack floor clock base (set saved d v) held a
  stack_kept l bare = bare
  stack_kept {floor} {clock} {base} l (inside {held = held} {a = a} m f h) =
      inside {held = held} {a = a} (rw (slot_kept held l) m) f (rw (slot_kept held l) (stack_kept (omega arith) h))

  pub entry_kept : {held : List Section} {a : ℕ} {s : Section} {w : ℕ} → length held ≤ d → Entry (set saved d v) held a s w →
      Entry saved held a s w
  entry_kept l inmost = inmost
  entry_kept l (further {held = held} e) = further (rw (slot_kept held l) at (entry_kept (omega arith) e))

-- ---- a lock: its slot is the depth, it saves the active deadline, and makes it the smaller of that and a deadline within clock and floor

module _ (saved : List ℕ) (held : List Section) (a : ℕ) (free : length held < length saved) where
  slot_locked : slot (set saved (length held) a) held ≡ a
  slot_locked = get_or-set_same saved (length held) a 0 free

  pub stack_lock : {floor : ℕ → ℕ} {clock base : ℕ} (s : Section) (b : ℕ) → b ≤ a → b ≤ clock + floor s.resource →
      Stack floor clock base saved held a → Stack floor clock base (set saved (length held) a) (s ∷ held) b
  stack_lock s b l f h =
      inside {held = held} {a = b} (rw slot_locked l) f (rw slot_locked (stack_kept saved (length held) a (le_refl _) h))

  -- A section held afterwards is the new one, or was held before.
  pub entry_lock : {s t : Section} {b v : ℕ} → Entry (set saved (length held) a) (s ∷ held) b t v →
      ((t ≡ s) × (v ≡ b)) ⊎ Entry saved held a t v
  entry_lock inmost = inl (refl, refl)
  entry_lock (further e) = inr (entry_kept saved (length held) a (le_refl _) (rw slot_locked at e))

-- ---- an unlock: it brings back what its lock saved, and its slot is free again

module _ (saved : List ℕ) where
  pub stack_unlock : {floor : ℕ → ℕ} {clock base : ℕ} {s : Section} {held : List Section} {a : ℕ} →
      Stack floor clock base saved (s ∷ held) a → Stack floor clock base (set saved (length held) 0) held (slot saved held)
  stack_unlock (inside {held = held} l f h) = stack_kept saved (length held) 0 (le_refl _) h

  -- The active deadline only grows.
  pub unlock_grows : {floor : ℕ → ℕ} {clock base : ℕ} {s : Section} {held : List Section} {a : ℕ} →
      Stack floor clock base saved (s ∷ held) a → a ≤ slot saved held
  unlock_grows (inside l f h) = l

  -- What is held afterwards was held before, with the same entry value.
  pub entry_unlock : {s t : Section} {held : List Section} {a v : ℕ} → Entry (set saved (length held) 0) held (slot saved held) t v →
      Entry saved (s ∷ held) a t v
  entry_unlock {held = held} e = further (entry_kept saved (length held) 0 (le_refl _) e)
