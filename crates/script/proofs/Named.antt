-- A word that is compared with a text byte by byte: what holds where all its bytes are the text's and it ends there, and what holds where not. By induction on the
-- text. Assumes nothing.
use Rattle.std.proofs.Common.{◌≡◌, ℕ, suc, ◌+◌, ◌<◌, Bool, true, false, ◌&&◌, List, [], ◌∷◌, length, drop, get_or, refl, sym, ap, ◌∙◌, arith, drop_of_length-le, Err}
use Rattle.std.specs.Cmp.Lexicographic.{same_text}
use Rattle.std.specs.Prelude.{nat_eq}
use lib.Seq.{drop-cons}
use lib.Pointwise.{pointwise}
use Rattle.text.specs.Bytes.{bytes}
use Rattle.script.specs.Signs.{same}
use Rattle.script.specs.Grammar.{command_said, table_said, alone, release_said, step_command}
use Rattle.script.specs.declared.Command.TheVariants.{Check, Start, Verdict, Show}
use Rattle.text.specs.declared.Fault.TheVariants.{Unknown}

-- What `==` on slices says.
pub same_is : (v w : List ℕ) → pointwise nat_eq v w ≡ same v w
unfolding same
same_is [] [] = refl
same_is [] (d ∷ w) = refl
same_is (c ∷ v) [] = refl
same_is (c ∷ v) (d ∷ w) = ap (λ (b : Bool). nat_eq c d && b) (same_is v w)

-- G holds of a word that has the bytes of a text from place i on, and ends there.
abbrev pub Where : ℕ → List ℕ → List ℕ → Type 0 → Type 0
Where i w [] G = length w ≡ i → G
Where i w (c ∷ cs) G = get_or w i 0 ≡ c → Where (suc i) w cs G

-- What holds of the text holds where the bytes are the text's; and the text has its bytes.
holds_from : (i : ℕ) (w text : List ℕ) (G : Type 0) → (length w ≡ i + length text → drop i w ≡ text → G) → Where i w text G
holds_from i w [] G h = λ long. h (omega arith) (drop_of_length-le w (omega arith))
holds_from i w (c ∷ cs) G h = λ e. holds_from (suc i) w cs G
    (λ long rest.
    let inside : i < length w = omega arith in
    h (omega arith) (drop-cons w i 0 inside ∙ (rw (e, rest))))

has_from : (i : ℕ) (w text : List ℕ) (G : Type 0) → Where i w text G → length w ≡ i + length text → drop i w ≡ text → G
has_from i w [] G h long e = h (omega arith)
has_from i w (c ∷ cs) G h long e =
    let inside : i < length w = omega arith in
    let first = sym (drop-cons w i 0 inside) ∙ e in
    has_from (suc i) w cs G (h (cc)) (omega arith) (cc)

holds : (w text : List ℕ) (G : Type 0) → (w ≡ text → G) → Where 0 w text G
holds w text G h = holds_from 0 w text G (λ long e. h e)

other : (w text : List ℕ) → Where 0 w text ⊥ → same w text ≡ false
other w text h = go (same w text) refl
  where
    go : (t : Bool) → same w text ≡ t → t ≡ false
    go true e =
        let is : w ≡ text = same_text w text (sym (same_is w text ∙ e)) in
        absurd (has_from 0 w text ⊥ h (ap length is ∙ (omega arith)) is)
    go false e = refl

-- Behind a release or a step.
pub is_at : (w : List ℕ) → Where 0 w (bytes "at") (same w (bytes "at") ≡ true)
unfolding same
is_at w = holds w (bytes "at") _ (λ e. rw e)

pub no_at : (w : List ℕ) → Where 0 w (bytes "at") ⊥ → same w (bytes "at") ≡ false
no_at w h = other w (bytes "at") h

pub ruleset at = (is_at, no_at)

-- In front of a line.
pub is_table : (w : List ℕ) (ws : List (List ℕ)) → Where 0 w (bytes "table") (command_said w ws ≡ table_said 0 ws)
unfolding same command_said
is_table w ws = holds w (bytes "table") _ (λ e. rw e)

pub is_check : (w : List ℕ) (ws : List (List ℕ)) → Where 0 w (bytes "check") (command_said w ws ≡ alone Check ws)
unfolding same command_said
is_check w ws = holds w (bytes "check") _ (λ e. rw e)

pub is_start : (w : List ℕ) (ws : List (List ℕ)) → Where 0 w (bytes "start") (command_said w ws ≡ alone Start ws)
unfolding same command_said
is_start w ws = holds w (bytes "start") _ (λ e. rw e)

pub is_release : (w : List ℕ) (ws : List (List ℕ)) → Where 0 w (bytes "release") (command_said w ws ≡ release_said ws)
unfolding same command_said
is_release w ws = holds w (bytes "release") _ (λ e. rw e)

pub is_step : (w : List ℕ) (ws : List (List ℕ)) → Where 0 w (bytes "step") (command_said w ws ≡ step_command ws)
unfolding same command_said
is_step w ws = holds w (bytes "step") _ (λ e. rw e)

pub is_verdict : (w : List ℕ) (ws : List (List ℕ)) → Where 0 w (bytes "verdict") (command_said w ws ≡ alone Verdict ws)
unfolding same command_said
is_verdict w ws = holds w (bytes "verdict") _ (λ e. rw e)

pub is_show : (w : List ℕ) (ws : List (List ℕ)) → Where 0 w (bytes "show") (command_said w ws ≡ alone Show ws)
unfolding same command_said
is_show w ws = holds w (bytes "show") _ (λ e. rw e)

pub no_command : (w : List ℕ) (ws : List (List ℕ)) → Where 0 w (bytes "table") ⊥ → Where 0 w (bytes "check") ⊥ → Where 0 w (bytes "start") ⊥ →
    Where 0 w (bytes "release") ⊥ → Where 0 w (bytes "step") ⊥ → Where 0 w (bytes "verdict") ⊥ → Where 0 w (bytes "show") ⊥ →
    command_said w ws ≡ Err Unknown
unfolding command_said
no_command w ws a b c d e f g =
    rw (other w (bytes "table") a, other w (bytes "check") b, other w (bytes "start") c, other w (bytes "release") d, other w (bytes "step") e, other w (bytes "verdict") f, other w (bytes "show") g)

pub ruleset commands = (is_table, is_check, is_start, is_release, is_step, is_verdict, is_show, no_command)
