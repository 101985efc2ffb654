-- Laws of a finding, and of what a survey's promise tells.
-- Assumes nothing.
use Prim.Native.Nat.{ℕ}
use mathlib.Core.Path.{◌≡◌, refl, sym, ap, ◌∙◌}
use mathlib.Core.List.{List}
use Rattle.numbers.specs.Answers.{SHORT, COUNT, RANGE, STEP, NEST, CROWDED}
use Rattle.table.specs.Said.{passes, says, refusal_said, Surveyed, survey_said, survey_of, check_said}
use Rattle.table.specs.Map.{no_map, map_of}
use Rattle.std.specs.Prelude.{Result, Ok, Err}
use Rattle.std.specs.Result.{IsErrAnd, result_unwrap_or}
use Rattle.std.proofs.lemmas.Result.{err_from_is_err_and}
use Rattle.table.specs.declared.Map.{Map}
use Rattle.table.specs.declared.Finding.{Finding}
use Rattle.table.specs.declared.Finding.TheVariants as finding

-- Every finding has a number and a place.
pub record Refusal (finding : Finding) : Type 0 where
  pub number : ℕ
  pub place : ℕ
  pub said : refusal_said finding ≡ says number place

pub refusal : (finding : Finding) → Refusal finding
refusal (finding.Short place) = record { number = SHORT; place = place; said = refl }
refusal (finding.Count place) = record { number = COUNT; place = place; said = refl }
refusal (finding.Range place) = record { number = RANGE; place = place; said = refl }
refusal (finding.Step place) = record { number = STEP; place = place; said = refl }
refusal (finding.Nest place) = record { number = NEST; place = place; said = refl }
refusal (finding.Crowded place) = record { number = CROWDED; place = place; said = refl }

-- What a survey's promise tells of a list that passes, and of one that is refused.
pub survey_passes : (map : Map) (ws : List ℕ) → survey_said (Ok map) ≡ survey_of ws → check_said ws ≡ passes
survey_passes map ws e = sym (ap (λ (s : Surveyed). s.said) e)

pub survey_map : (map : Map) (ws : List ℕ) → survey_said (Ok map) ≡ survey_of ws → map ≡ map_of ws
survey_map map ws e = ap (λ (s : Surveyed). s.map) e

pub survey_refuses : (finding : Finding) (ws : List ℕ) → survey_said (Err finding) ≡ survey_of ws → check_said ws ≡ refusal_said finding
survey_refuses finding ws e = sym (ap (λ (s : Surveyed). s.said) e)

-- The map of any list.
pub survey_map_of : (survey : Result Map Finding) (ws : List ℕ) → survey_said survey ≡ survey_of ws → result_unwrap_or survey no_map ≡ map_of ws
survey_map_of (Ok map) ws e = ap (λ (s : Surveyed). s.map) e
survey_map_of (Err finding) ws e = ap (λ (s : Surveyed). s.map) e

-- What the exit of a `?` returns.
pub exits : {A : Type 0} (result : Result A Finding) (finding : Finding) → IsErrAnd result (λ found. found ≡ finding) → result ≡ Err finding
exits {A} result finding h =
    let p = err_from_is_err_and result h in
    p.1 ∙ ap {B = Result A Finding} Err p.2
