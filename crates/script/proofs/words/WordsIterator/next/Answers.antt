-- `script::words::Words::next` meets its contract: the bytes from the first that is no blank up to the next blank or `#` are the first word; where there are none,
-- no word is left. Assumes nothing.
use Rattle.std.proofs.Common.{◌≡◌, ◌-◌, not, length, take, drop, ap, refl, sym, ◌∙◌, rules, tests}
use Rattle.std.proofs.lemmas.Iterator.{YieldsList-from_slice}
use Rattle.std.proofs.lemmas.Iterator.Search.{position_from_yields_List}
use Rattle.std.specs.List.{position, position_or_len}
use Rattle.script.specs.Signs.{blank}
use Rattle.script.proofs.Split.{ends_word, first_or_end, no_word, comment, a_word}
use Rattle.script.proofs.words.WordsIterator.next.Goals as goal

pub returns-in_err-from-clause-steps : goal.returns-in_err-from-clause-steps
returns-in_err-from-clause-steps c =
    let rest = c.args.self.now.rest.now in
    let found : c.position.result ≡ position (λ b. not (blank b)) rest = position_from_yields_List (λ b. not (blank b)) _ _ c.position.result c.position.ensures.ran (YieldsList-from_slice rest c.iter.ensures.rest) (λ x b q k. search (rules, tests)) in
    let none = no_word rest (sym c.in_err-from.was ∙ found) in
    rw c.from_residual.ensures (none, none)

pub returns-then-to-eq0-clause-steps : goal.returns-then-to-eq0-clause-steps
returns-then-to-eq0-clause-steps c =
    let rest = c.args.self.now.rest.now in
    let line = take (length rest - c.in_ok-from.from) (drop c.in_ok-from.from rest) in
    let found : c.position.result ≡ position (λ b. not (blank b)) rest = position_from_yields_List (λ b. not (blank b)) _ _ c.position.result c.position.ensures.ran (YieldsList-from_slice rest c.iter.ensures.rest) (λ x b q k. search (rules, tests)) in
    let ends : c.position-2.result ≡ position ends_word line = position_from_yields_List ends_word _ _ c.position-2.result c.position-2.ensures.ran (YieldsList-from_slice line c.iter-2.ensures.rest) (λ x b q k. search (rules, tests)) in
    let to : c.unwrap_or-to.result ≡ position_or_len ends_word line = c.unwrap_or-to.ensures ∙ (rw ends (first_or_end ends_word line)) in
    let none = comment rest line c.in_ok-from.from c.unwrap_or-to.result (sym c.in_ok-from.was ∙ found) refl to c.if-to-eq0.true in
    (none, none)

pub returns-clause-steps : goal.returns-clause-steps
returns-clause-steps c =
    let rest = c.args.self.now.rest.now in
    let line = take (length rest - c.in_ok-from.from) (drop c.in_ok-from.from rest) in
    let found : c.position.result ≡ position (λ b. not (blank b)) rest = position_from_yields_List (λ b. not (blank b)) _ _ c.position.result c.position.ensures.ran (YieldsList-from_slice rest c.iter.ensures.rest) (λ x b q k. search (rules, tests)) in
    let ends : c.position-2.result ≡ position ends_word line = position_from_yields_List ends_word _ _ c.position-2.result c.position-2.ensures.ran (YieldsList-from_slice line c.iter-2.ensures.rest) (λ x b q k. search (rules, tests)) in
    let to : c.unwrap_or-to.result ≡ position_or_len ends_word line = c.unwrap_or-to.ensures ∙ (rw ends (first_or_end ends_word line)) in
    rw (c.split_at.ensures.front, c.split_at.ensures.back) (a_word rest line c.in_ok-from.from c.unwrap_or-to.result (sym c.in_ok-from.was ∙ found) refl to c.if-to-eq0.false)

pub returns-clause-goes : goal.returns-clause-goes
returns-clause-goes c = let e = ap length (returns-clause-steps c) in search rules
