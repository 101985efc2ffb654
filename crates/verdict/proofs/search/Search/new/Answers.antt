-- `search::Search::new` meets its contract: the largest D is that of the times, and each place of the floors has what the reader says of its resource.
-- Assumes nothing.
use mathlib.Core.Path.{◌∙◌}
use Rattle.std.proofs.Common.{arith, rules, tests}
use Rattle.table.specs.Floor.{floor_of}
use Rattle.readers.specs.Read.{table_in}
use Rattle.verdict.proofs.Alone.{largest_is}
use Rattle.verdict.proofs.Demand.{largest_most}
use Rattle.verdict.proofs.Each.{valid_each}
use Rattle.verdict.proofs.Made.{made_at}
use Rattle.verdict.proofs.Within.{sound_valid}
use Rattle.verdict.proofs.search.Search.new.Goals as goal

pub invariant_of-result : goal.invariant_of-result
invariant_of-result c =
    let sound = c.args.sound.now in
    let table = table_in sound.table in
    let last = c.largest.ensures ∙ largest_is c.requires in
    record {
      its_times = ∣ c.requires ∣₁;
      its_last = last;
      last_most = omega (arith, last, largest_most table.resources table.tasks (valid_each table (sound_valid sound)));
      its_floors = made_at (floor_of table) (λ i y q l called. search (rules, tests)) c.from_fn.ensures.items;
    }
