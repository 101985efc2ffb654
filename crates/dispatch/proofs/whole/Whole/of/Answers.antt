-- `Whole::of` meets its contract: the map that `examine` finds is that of the words in use, with which nothing is torn. Assumes nothing.
use borrow.Author.Rules.{rules}
use mathlib.Core.Path.{refl}
use Rattle.dispatch.proofs.Grounds.{used_fits, found_whole, found_map, found_untorn, found_table}
use Rattle.dispatch.proofs.whole.Whole.of.Goals as goal

pub shared_ref_as_front-words : goal.shared_ref_as_front-words
shared_ref_as_front-words c =
    let a = c.args in
    used_fits a.words.now a.used a.kept.now _ c.in_ok-map.ensures

pub invariant_of-result : goal.invariant_of-result
invariant_of-result c =
    let a = c.args in
    record {
      mapped = found_map a.words.now a.used a.kept.now _ c.in_ok-map.ensures;
      untorn = found_untorn a.words.now a.used a.kept.now _ c.in_ok-map.ensures (search rules);
    }

pub returns-clause-whole : goal.returns-clause-whole
returns-clause-whole c =
    let a = c.args in (
      found_whole a.words.now a.used a.kept.now _ c.in_ok-map.ensures,
      found_table a.words.now a.used a.kept.now _ c.in_ok-map.ensures,
      refl,
    )
