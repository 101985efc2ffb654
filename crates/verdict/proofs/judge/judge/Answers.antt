-- `judge::judge` meets its contract: the tests go in document 01's order, each on the value that the definition has.
-- Assumes nothing.
use Prim.Native.Nat.{ℕ, min}
use mathlib.Core.List.{List}
use mathlib.Core.Path.{◌≡◌, sym, subst, ap, ◌∙◌}
use lib.ListN.{take}
use Rattle.table.specs.Limits.{most_tasks}
use Rattle.table.specs.Table.{tasks_of}
use Rattle.readers.specs.Read.{table_in}
use Rattle.readers.specs.declared.Table.{Table}
use Rattle.readers.proofs.Raw.{tasks_at_lem}
use Rattle.verdict.specs.Times.{AreTimes}
use Rattle.verdict.specs.Verdict.{late_said}
use Rattle.verdict.specs.declared.times.Times.{Times}
use Rattle.verdict.proofs.Judging.{long, near, heavy, light}
use Rattle.verdict.proofs.judge.judge.Goals as goal

-- the first n places have the times of the table's tasks
first_n : (table : Table) (all : List Times) {n : ℕ} → n ≡ min table.map.tasks most_tasks →
    AreTimes (table_in table).tasks (take (tasks_of (table_in table)) all) → AreTimes (table_in table).tasks (take n all)
first_n table all e = subst (λ (k : ℕ). AreTimes (table_in table).tasks (take k all)) (tasks_at_lem table.words.now table.map ∙ sym e)

pub returns-in_default : goal.returns-in_default
returns-in_default c =
    long _ (first_n c.args.sound.now.table c.gather-all.result c.tasks.ensures c.gather-all.ensures) c.in_default.ensures

pub returns-then-load-p : goal.returns-then-load-p
returns-then-load-p c =
    heavy _ (first_n c.args.sound.now.table c.gather-all.result c.tasks.ensures c.gather-all.ensures) c.in-Some.ensures c.load.ensures c.if-load-p.true

pub new-requires : goal.new-requires
new-requires c = first_n c.args.sound.now.table c.gather-all.result c.tasks.ensures c.gather-all.ensures

pub first_late-requires : goal.first_late-requires
first_late-requires c = near (table_in c.args.sound.now.table) (first_n c.args.sound.now.table c.gather-all.result c.tasks.ensures c.gather-all.ensures) c.in-Some.ensures

pub returns-in-Some-first_late : goal.returns-in-Some-first_late
returns-in-Some-first_late c =
    ap late_said (sym c.in-Some-first_late.is)
    ∙ light _ (first_n c.args.sound.now.table c.gather-all.result c.tasks.ensures c.gather-all.ensures) c.in-Some.ensures c.load.ensures c.if-load-p.false _ _
    c.new.ensures c.first_late.ensures

pub returns-in-None : goal.returns-in-None
returns-in-None c =
    ap late_said (sym c.in-None.is)
    ∙ light _ (first_n c.args.sound.now.table c.gather-all.result c.tasks.ensures c.gather-all.ensures) c.in-Some.ensures c.load.ensures c.if-load-p.false _ _
    c.new.ensures c.first_late.ensures
