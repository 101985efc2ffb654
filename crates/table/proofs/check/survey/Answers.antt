-- `check::survey` meets its contract: at each return the readings so far say what `check_of` comes to, and with it the map (laws of `Checked`). Assumes nothing.
use mathlib.Core.Path.{sym, ap, ◌∙◌}
use mathlib.Core.List.{List, ◌++◌}
use Prim.Native.Nat.{ℕ}
use lib.ListN.{drop, replicate}
use Rattle.table.proofs.Findings.{exits}
use Rattle.numbers.specs.Answers.{COUNT}
use Rattle.table.specs.Limits.{most_tasks, most_resources, at_tasks}
use Rattle.table.proofs.Passed.{word_got}
use Rattle.table.proofs.Starts.{starts_padded}
use Rattle.table.proofs.Checked.{first_room, first_refused, second_refused, task_refused, extra_refused, all_sound}
use Rattle.table.proofs.check.survey.Goals as goal

pub returns-in_err-tasks : goal.returns-in_err-tasks
returns-in_err-tasks c = let r = c.from_residual in
    rw (exits r.result c.in_err-tasks.field-0.0 r.ensures.1) (first_refused c.args.words.now _ (rw (c.new.ensures.start, c.new.ensures.end) at c.in_err-tasks.ensures))

pub returns-in_err-resources : goal.returns-in_err-resources
returns-in_err-resources c = let r = c.from_residual-in_err-resources in
    let n = c.in_ok-tasks in
    rw (exits r.result c.in_err-resources.field-0.0 r.ensures.1) (second_refused c.args.words.now n.tasks (rw (c.new.ensures.start, c.new.ensures.end) at n.ensures) _
    (rw (c.new-2.ensures.start, c.new-2.ensures.end) at c.in_err-resources.ensures))

pub slice_bounds-starts-end : goal.slice_bounds-starts-end
slice_bounds-starts-end c = (word_got COUNT 1 most_tasks c.args.words.now 0 (sym (rw (c.new.ensures.start, c.new.ensures.end) at c.in_ok-tasks.ensures))).high

pub slice_bounds-read_tasks-end : goal.slice_bounds-read_tasks-end
slice_bounds-read_tasks-end c = sym (first_room c.args.words.now c.in_ok-tasks.tasks (rw (c.new.ensures.start, c.new.ensures.end) at c.in_ok-tasks.ensures))

pub invariant_of-walk : goal.invariant_of-walk
invariant_of-walk c = record { most = (word_got COUNT 0 most_resources c.args.words.now 1 (sym (rw (c.new-2.ensures.start, c.new-2.ensures.end) at c.in_ok-resources.ensures))).high }

pub read_tasks-requires : goal.read_tasks-requires
read_tasks-requires c = (word_got COUNT 0 most_resources c.args.words.now 1 (sym (rw (c.new-2.ensures.start, c.new-2.ensures.end) at c.in_ok-resources.ensures))).there

pub returns-in_err-end : goal.returns-in_err-end
returns-in_err-end c = let r = c.from_residual-in_err-end in
    let ws = c.args.words.now in
    let n = c.in_ok-tasks in
    let m = c.in_ok-resources in
    let first = rw (c.new.ensures.start, c.new.ensures.end) at n.ensures in
    let second = rw (c.new-2.ensures.start, c.new-2.ensures.end) at m.ensures in
    let room = first_room ws n.tasks first in
    rw (exits r.result c.in_err-end.field-0.0 r.ensures.1)
    (task_refused ws n.tasks first m.resources second _ (rw room at c.in_err-end.ensures.read))

pub returns-in_err-read_end : goal.returns-in_err-read_end
returns-in_err-read_end c = let r = c.from_residual-in_err-read_end in
    let ws = c.args.words.now in
    let n = c.in_ok-tasks in
    let m = c.in_ok-resources in
    let first = rw (c.new.ensures.start, c.new.ensures.end) at n.ensures in
    let second = rw (c.new-2.ensures.start, c.new-2.ensures.end) at m.ensures in
    let e = c.in_ok-end in
    let extra = c.in_err-read_end.ensures in
    let room = first_room ws n.tasks first in
    rw (exits r.result c.in_err-read_end.field-0.0 r.ensures.1, extra.0)
    (extra_refused ws n.tasks first m.resources second e.end (rw room at e.ensures.read) extra.1)

pub returns : goal.returns
returns c = let ws = c.args.words.now in
    let n = c.in_ok-tasks in
    let m = c.in_ok-resources in
    let first = rw (c.new.ensures.start, c.new.ensures.end) at n.ensures in
    let second = rw (c.new-2.ensures.start, c.new-2.ensures.end) at m.ensures in
    let e = c.in_ok-end in
    let room = first_room ws n.tasks first in
    let most = (word_got COUNT 1 most_tasks ws 0 (sym first)).high in
    let marked = rw room at e.ensures.marked in
    all_sound ws n.tasks first m.resources second e.end (rw room at e.ensures.read) _
    (ap (λ (starts : List ℕ). starts ++ drop n.tasks (replicate most_tasks 0)) marked ∙ starts_padded most_tasks n.tasks ws at_tasks most) c.in_ok-read_end.ensures
