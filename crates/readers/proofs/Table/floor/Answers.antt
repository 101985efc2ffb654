-- `Table::floor` meets its contract: the members of the set of users are the users, in the tasks' order, so the least D of those visited is the
-- floor. Assumes nothing.
use Prim.Native.Nat.{min}
use mathlib.Core.Path.{sym, ap, ◌∙◌}
use mathlib.Core.List.{map}
use Rattle.std.specs.List.{reduce}
use Rattle.std.proofs.Common.{rules, unwrap_or}
use Rattle.std.proofs.lemmas.Iterator.{YieldsList-from_map}
use Rattle.std.proofs.lemmas.Iterator.Consumers.{min_from_yields_List}
use Rattle.std.proofs.lemmas.Iterator.Adapters.{option_map_id}
use Rattle.sets.specs.Member.{width, members}
use Rattle.sets.proofs.Iterate.{YieldsList-from_members}
use Rattle.table.specs.Table.{task_of}
use Rattle.readers.specs.Read.{table_in}
use Rattle.readers.proofs.Visiting.{floor_least}
use Rattle.readers.proofs.Table.floor.Goals as goal

pub returns : goal.returns
returns c =
    let t = table_in c.args.self.now in
    c.unwrap_or.ensures
    ∙ ap (λ o. unwrap_or o 0)
    (sym (option_map_id c.min.result)
    ∙ min_from_yields_List _ _ c.min.ensures.ran
    (YieldsList-from_map _ (λ i. (task_of t i).D) (YieldsList-from_members c.users.result (ap (λ m. m.rest) c.map.ensures.source ∙ c.members.ensures))
    c.map.ensures.closure (λ i r q k. search rules)))
    ∙ ap (λ set. unwrap_or (reduce min (map (λ i. (task_of t i).D) (members width set))) 0) c.users.ensures
    ∙ floor_least c.args.self.now.words.now c.args.self.now.map c.args.resource
