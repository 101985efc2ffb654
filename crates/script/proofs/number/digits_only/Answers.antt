-- `script::number::digits_only` meets its contract: `all` tests each byte. Assumes nothing.
use Rattle.std.proofs.Common.{◌∙◌, rules, tests}
use Rattle.std.proofs.lemmas.Iterator.{YieldsList-from_slice}
use Rattle.std.proofs.lemmas.Iterator.Search.{all_from_yields_List}
use Rattle.std.specs.Char.{is_ascii_digit}
use Rattle.script.proofs.Digits.{all_digits}
use Rattle.script.proofs.number.digits_only.Goals as goal

pub returns : goal.returns
returns c =
    let word = c.args.word.now in
    all_from_yields_List is_ascii_digit _ _ c.all.result c.all.ensures.ran (YieldsList-from_slice word c.iter.ensures.rest) (λ x b q k. search (rules, tests)) ∙ all_digits word
