-- The tests of `judge::judge`, in document 01's order, on what is computed of the tasks' times: what each of them finds is what the definition says of the
-- table.
-- Assumes nothing.
use Prim.Native.Nat.{ℕ, suc, ◌+◌, ◌≤◌, ◌<◌}
use mathlib.Core.Path.{◌≡◌, refl, sym, subst, ap, ◌∙◌}
use mathlib.Core.Bool.{Bool, true, false, cond}
use mathlib.Core.List.{List, map}
use native.Mathlib.Omega.{arith}
use lib.Dec.{ltb}
use borrow.Author.Tests.{ltb-true, ltb-false}
use Rattle.std.proofs.Common.{Option, Some, None}
use Rattle.table.specs.Limits.{most_multiple}
use Rattle.table.specs.Table.{Table}
use Rattle.numbers.specs.Answers.{LONG, HEAVY}
use Rattle.numbers.proofs.Tests.{never}
use Rattle.verdict.specs.Multiple.{multiple_with, multiple, limited}
use Rattle.verdict.specs.Times.{timed, AreTimes}
use Rattle.verdict.specs.Verdict.{says, load_of, load, largest, first_late, late_said, judge}
use Rattle.verdict.specs.declared.times.Times.{Times}
use Rattle.verdict.proofs.Alone.{multiple_is, load_is}
use Rattle.verdict.proofs.Judged.{judge_long, judge_heavy, judge_search}

-- P where it is within the limit, and not
record WithinLimit (p m : ℕ) : Type 0 where
  is : p ≡ m
  most : m ≤ most_multiple

limited_some : (p m : ℕ) → Some p ≡ limited m → WithinLimit p m
limited_some p m e = go (ltb most_multiple m) refl e
  where
    go : (b : Bool) → ltb most_multiple m ≡ b → Some p ≡ cond b None (Some m) → WithinLimit p m
    go true far e = never (cc)
    go false near e = record { is = cc; most = ltb-false most_multiple m near }

limited_none : (m : ℕ) → None ≡ limited m → most_multiple < m
limited_none m e = go (ltb most_multiple m) refl e
  where
    go : (b : Bool) → ltb most_multiple m ≡ b → None ≡ cond b None (Some m) → most_multiple < m
    go true far e = ltb-true most_multiple m far
    go false near e = never (cc)

module _ (table : Table) {times : List Times} (are : AreTimes table.tasks times) where
  pub long : None ≡ limited (multiple_with 1 (map timed times)) → says LONG 0 ≡ judge table
  long e = sym (judge_long table (limited_none (multiple table) (e ∙ ap limited (multiple_is are 1))))

  module _ {p : ℕ} (is : Some p ≡ limited (multiple_with 1 (map timed times))) where
    its : WithinLimit p (multiple table)
    its = limited_some p (multiple table) (is ∙ ap limited (multiple_is are 1))

    pub near : p ≤ most_multiple
    near = subst (λ (x : ℕ). x ≤ most_multiple) (sym its.is) its.most

    module _ {sum : ℕ} (loaded : sum ≡ load_of p (map timed times)) where
      its_load : sum ≡ load table
      its_load = loaded ∙ load_is are p ∙ ap (λ (x : ℕ). load_of x table.tasks) its.is

      pub heavy : p < sum → says HEAVY 0 ≡ judge table
      heavy h = sym (judge_heavy table its.most (omega (arith, its.is, its_load)))

      pub light : sum ≤ p → (searched : Table) (r : Option ℕ) → searched ≡ table →
          late_said r ≡ first_late (suc (p + largest searched.tasks)) 0 searched → late_said r ≡ judge table
      light h searched r same q =
          q ∙ ap (λ (x : Table). first_late (suc (p + largest x.tasks)) 0 x) same ∙ ap (λ (x : ℕ). first_late (suc (x + largest table.tasks)) 0 table) its.is
          ∙ sym (judge_search table its.most (omega (arith, its.is, its_load)))
