-- The lowest member is the first of the list, and without it the list is the rest.
-- Assumes nothing.
use Rattle.std.proofs.Common.{rules, sym, ap, ◌∙◌, ◌∷◌, length}
use lib.Count.{count_trailing_zeros}
use Rattle.sets.specs.Member.{width, members}
use Rattle.sets.proofs.Visit.{members_zero, members_step}
use Rattle.sets.proofs.each.MembersIterator.next.Goals as goal

pub returns-then-self-eq0-clause-steps : goal.returns-then-self-eq0-clause-steps
returns-then-self-eq0-clause-steps c =
    let none = ap (members width) c.if-self-eq0.true ∙ members_zero width in
    (none, none)

pub returns-clause-steps : goal.returns-clause-steps
returns-clause-steps c =
    members_step width c.args.self.now.rest c.if-self-eq0.false (search rules)
    ∙ ap (λ xs. count_trailing_zeros width c.args.self.now.rest ∷ members width xs) (sym c.without-self.ensures)

pub returns-clause-goes : goal.returns-clause-goes
returns-clause-goes c =
    let step = ap length (returns-clause-steps c) in
    search (rules, step)
