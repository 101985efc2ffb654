-- `script::read::table_words` meets its contract: of a table the numbers behind its first word are laid from the start on, and of any other line none. Assumes
-- nothing.
use Rattle.std.proofs.Common.{arith}
use Rattle.script.proofs.Says.{lends, lends_none}
use Rattle.script.proofs.read.table_words.Goals as goal

pub returns-in_default : goal.returns-in_default
returns-in_default c = lends_none c.args.line.now _ (λ count e. grind arith)

pub returns-in_default-2 : goal.returns-in_default-2
returns-in_default-2 c = lends_none c.args.line.now _ (λ count e. cc)

pub returns-in_default-3 : goal.returns-in_default-3
returns-in_default-3 c = lends_none c.args.line.now _ (λ count e. cc)

pub returns : goal.returns
returns c =
    let table = c.in-Ok-Some-Table in
    lends c.args.line.now _ _ _ _ c.next.result table.field-0-0-0 _ (rw (table.field-0-is, table.field-0-0-is) at table.ensures) c.words_of-words.ensures c.next.ensures.steps c.put_numbers.ensures
