-- A table's words, one after the other: what stands for nothing, a number, and what is none. Assumes nothing.
use Rattle.std.proofs.Common.{◌≡◌, ℕ, ◌+◌, Bool, true, false, not, true≢false, List, [], ◌∷◌, refl, sym, ◌∙◌, add-one, Ok, Err}
use Rattle.std.specs.Prelude.{nat_eq}
use lib.Pointwise.{pointwise}
use Rattle.script.specs.Signs.{same}
use Rattle.script.specs.Number.{number_said}
use Rattle.script.specs.Grammar.{most_word, slash, numbers_in, table_said}
use Rattle.script.specs.declared.Command.TheVariants.{Table}
use Rattle.text.specs.declared.Fault.{Fault}
use Rattle.script.proofs.Named.{same_is}

-- What `!=` answered of a word.
is_slash : (w : List ℕ) → not (pointwise nat_eq w slash) ≡ false → same w slash ≡ true
is_slash w e = sym (same_is w slash) ∙ go (pointwise nat_eq w slash) e
  where
    go : (t : Bool) → not t ≡ false → t ≡ true
    go true h = refl
    go false h = absurd (true≢false h)

no_slash : (w : List ℕ) → not (pointwise nat_eq w slash) ≡ true → same w slash ≡ false
no_slash w e = sym (same_is w slash) ∙ go (pointwise nat_eq w slash) e
  where
    go : (t : Bool) → not t ≡ true → t ≡ false
    go true h = absurd (true≢false (sym h))
    go false h = refl

-- How many numbers they say.
pub said_end : (count : ℕ) (ws : List (List ℕ)) → ws ≡ [] → table_said count ws ≡ Ok (Table count)
unfolding table_said
said_end count ws e = rw e

pub said_slash : (count : ℕ) (w : List ℕ) (all ws : List (List ℕ)) → all ≡ w ∷ ws → not (pointwise nat_eq w slash) ≡ false →
    table_said count all ≡ table_said count ws
unfolding table_said
said_slash count w all ws a e = rw (a, is_slash w e)

pub said_number : (count n : ℕ) (w : List ℕ) (all ws : List (List ℕ)) → all ≡ w ∷ ws → not (pointwise nat_eq w slash) ≡ true →
    Ok n ≡ number_said most_word w → table_said count all ≡ table_said (count + 1) ws
unfolding table_said
said_number count n w all ws a e f = rw (a, no_slash w e, sym f, add-one count)

pub said_fault : (count : ℕ) (fault : Fault) (w : List ℕ) (all ws : List (List ℕ)) → all ≡ w ∷ ws → not (pointwise nat_eq w slash) ≡ true →
    Err fault ≡ number_said most_word w → table_said count all ≡ Err fault
unfolding table_said
said_fault count fault w all ws a e f = rw (a, no_slash w e, sym f)

pub ruleset counted = (said_end, said_slash, said_number, said_fault)

-- And which: whatever lays those that are left lays all of them.
pub in_end : (ws : List (List ℕ)) → ws ≡ [] → numbers_in ws ≡ []
unfolding numbers_in
in_end ws e = rw e

pub in_slash : (w : List ℕ) (all ws : List (List ℕ)) → all ≡ w ∷ ws → not (pointwise nat_eq w slash) ≡ false → numbers_in all ≡ numbers_in ws
unfolding numbers_in
in_slash w all ws a e = rw (a, is_slash w e)

pub in_number : (n : ℕ) (w : List ℕ) (all ws : List (List ℕ)) → all ≡ w ∷ ws → not (pointwise nat_eq w slash) ≡ true →
    Ok n ≡ number_said most_word w → numbers_in all ≡ n ∷ numbers_in ws
unfolding numbers_in
in_number n w all ws a e f = rw (a, no_slash w e, sym f)

pub in_fault : (fault : Fault) (w : List ℕ) (all ws : List (List ℕ)) → all ≡ w ∷ ws → not (pointwise nat_eq w slash) ≡ true →
    Err fault ≡ number_said most_word w → numbers_in all ≡ []
unfolding numbers_in
in_fault fault w all ws a e f = rw (a, no_slash w e, sym f)
