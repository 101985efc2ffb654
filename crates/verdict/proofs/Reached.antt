-- What `euclid::multiple` has reached before task i: the periods still to come make P of it, and what has passed the limit divides P. Every product is
-- at most 1,000,000 * 1,000,000.
-- Assumes nothing.
use Prim.Native.Nat.{ℕ, zero, suc, ◌+◌, ◌*◌, ◌/◌, ◌≤◌, ◌<◌}
use mathlib.Core.Path.{◌≡◌, sym, subst, ap, ◌∙◌}
use mathlib.Core.List.{List, [], ◌∷◌, map}
use native.Mathlib.Nat.{mul-le-mul, div-le_self, le_trans}
use native.Mathlib.Numerals.{add-one}
use native.Mathlib.Omega.{arith}
use lib.ListN.{length, get_or, drop, drop_of_length-le}
use lib.Seq.{drop-cons}
use borrow.Author.Tests.{lt-ltb, le-ltb}
use Rattle.std.proofs.Common.{Some, None}
use Rattle.table.specs.Limits.{most_ticks, most_multiple}
use Rattle.verdict.specs.Multiple.{divisor_of, multiple_of, multiple_with, limited}
use Rattle.verdict.specs.Times.{timed}
use Rattle.verdict.specs.declared.times.Times.{Times}
use Rattle.verdict.proofs.Each.{Periods}
use Rattle.verdict.proofs.Divisor.{divisor_pos}
use Rattle.verdict.proofs.Multiple.{multiple_pos, with_nil, with_cons, with_passes}

-- the periods of any times are at least 1
periods : (times : List Times) → Periods (map timed times)
periods [] = tt
periods (x ∷ times) = (x.period_least, periods times)

-- p before task i
pub record Reached (times : List Times) (p i : ℕ) : Type 0 where
  pub within : i ≤ length times
  pub least : 1 ≤ p
  pub most : p ≤ most_multiple
  pub goes : multiple_with p (map timed (drop i times)) ≡ multiple_with 1 (map timed times)

pub some_divisor : (p : ℕ) (x : Times) {g : ℕ} → g ≡ divisor_of p x.period → zero < g
some_divisor p x e = subst (λ (y : ℕ). zero < y) (sym e) (divisor_pos p x.period x.period_least)

pub small : (p g : ℕ) (x : Times) → p ≤ most_multiple → p / g * x.period ≤ most_multiple * most_ticks
small p g x l = mul-le-mul (le_trans (div-le_self p g) l) x.period_most

-- what the code computes is the least common multiple with the next period
next_is : (p : ℕ) (x : Times) {g : ℕ} → g ≡ divisor_of p x.period → p / g * x.period ≡ multiple_of p x.period
unfolding multiple_of
next_is p x e = ap (λ (g : ℕ). p / g * x.period) e

module _ {times : List Times} {p i : ℕ} (h : Reached times p i) (l : i < length times) {x : Times} (is : x ≡ get_or times i x) {g : ℕ} (e : g ≡ divisor_of p x.period) where
  off : drop i times ≡ x ∷ drop (i + 1) times
  off =
      drop-cons times i x l ∙ ap (λ (y : Times). y ∷ drop (suc i) times) (sym is) ∙ ap (λ (k : ℕ). x ∷ drop k times) (sym (add-one i))

  goes_on : multiple_with (p / g * x.period) (map timed (drop (i + 1) times)) ≡ multiple_with 1 (map timed times)
  goes_on =
      ap (λ (n : ℕ). multiple_with n (map timed (drop (i + 1) times))) (next_is p x e)
      ∙ sym (with_cons p (timed x) (map timed (drop (i + 1) times)))
      ∙ ap (λ (xs : List Times). multiple_with p (map timed xs)) (sym off) ∙ h.goes

  pub again : p / g * x.period ≤ most_multiple → Reached times (p / g * x.period) (i + 1)
  again m = record {
    within = omega arith;
    least = subst (λ (n : ℕ). 1 ≤ n) (sym (next_is p x e)) (multiple_pos p x.period h.least x.period_least);
    most = m;
    goes = goes_on;
  }

  -- once the limit is passed, P has passed it
  pub passed : most_multiple < p / g * x.period → None ≡ limited (multiple_with 1 (map timed times))
  passed far =
      let beyond : most_multiple < multiple_with (p / g * x.period) (map timed (drop (i + 1) times)) =
      with_passes most_multiple (p / g * x.period) (map timed (drop (i + 1) times)) far (periods (drop (i + 1) times)) in
      sym (rw (lt-ltb most_multiple (multiple_with 1 (map timed times)) (subst (λ (n : ℕ). most_multiple < n) goes_on beyond)))

-- no period is left
pub ended : (times : List Times) (p i : ℕ) → Reached times p i → length times ≤ i → Some p ≡ limited (multiple_with 1 (map timed times))
ended times p i h l =
    let is : p ≡ multiple_with 1 (map timed times) =
    sym (ap (λ (xs : List Times). multiple_with p (map timed xs)) (drop_of_length-le times l) ∙ with_nil p) ∙ h.goes in
    ap Some is ∙ sym (rw (le-ltb most_multiple (multiple_with 1 (map timed times)) (subst (λ (n : ℕ). n ≤ most_multiple) is h.most)))
