-- `search::Search::first_late` meets its contract: what `find` finds, of all t up to P + the largest D, is the first that breaks, or that none does.
-- Assumes nothing.
use Prim.Native.Nat.{ℕ, suc, ◌+◌}
use mathlib.Core.Path.{ap, ◌∙◌}
use Rattle.std.proofs.Common.{rules, tests}
use Rattle.verdict.specs.Searched.{searched}
use Rattle.verdict.specs.Verdict.{breaks, first_late}
use Rattle.verdict.proofs.Passing.{first_passing}
use Rattle.verdict.proofs.Found.{found}
use Rattle.verdict.proofs.search.Search.first_late.Goals as goal

pub returns : goal.returns
returns c =
    let s = c.args.self.now in
    let table = searched s in
    let end = c.args.p + s.last in
    found table end c.find.result
    (first_passing _ _ (breaks table) end (λ x b q called. search (rules, tests)) c.new.result c.find.result c.new.ensures.start c.new.ensures.end c.new.ensures.exhausted c.find.ensures.runs)
    ∙ ap (λ (x : ℕ). first_late (suc (c.args.p + x)) 0 table) s.its_last
