-- `search::Search::demand_and_blocking` meets its contract: h(t) + b(t) stays within 64 bits, at most sixteen times 1,000,000 * (1 + 2,000,000), and 1,000,000.
-- That from the largest D on b(t) is 0 is left to the tactic.
-- Assumes nothing.
use native.Mathlib.Omega.{arith}
use Rattle.verdict.specs.Searched.{searched}
use Rattle.verdict.proofs.Within.{sound_valid, times_few, demand_within, both_within}
use Rattle.verdict.proofs.search.Search.demand_and_blocking.Goals as goal

pub demand-asked-requires-clause-few : goal.demand-asked-requires-clause-few
demand-asked-requires-clause-few c = times_few c.args.self.now

pub overflow_add-result : goal.overflow_add-result
overflow_add-result c =
    let s = c.args.self.now in
    omega (arith, demand_within s.its_times c.args.t, both_within (searched s) (sound_valid s.sound.now) c.args.t c.requires)
