-- The words of a line, as the code goes over it: the blanks in front of a word, and the bytes up to the next blank or `#`. By induction on the bytes. Assumes
-- nothing.
use Rattle.std.proofs.Common.{◌≡◌, ℕ, suc, ◌+◌, ◌-◌, ◌<◌, ◌≤◌, Bool, true, false, not, ◌||◌, true≢false, cond, eqb, ltb, List, [], ◌∷◌, length, take, drop, Some, None, unwrap_or, refl, sym, ap, ◌∙◌, arith, eqb-true, ltb-true, ltb-false, length-drop, drop_of_length-le, take_all}
use Rattle.std.proofs.Math.Numerals.{one-add}
use Rattle.std.specs.List.{position, position_or_len}
use Rattle.script.specs.Signs.{blank, hash}
use Rattle.script.specs.Words.{cut, joined, before, split, line_words}

-- What ends a word.
abbrev pub ends_word : ℕ → Bool
ends_word c = blank c || eqb c hash

-- What stands before the first byte that passes a test: all, where none does.
pub first_within : (test : ℕ → Bool) (s : List ℕ) → position_or_len test s ≤ length s
first_within test [] = omega arith
first_within test (c ∷ cs) = go (test c) (first_within test cs)
  where
    go : (t : Bool) → position_or_len test cs ≤ length cs → cond (not t) (1 + position_or_len test cs) 0 ≤ suc (length cs)
    go true h = omega arith
    go false h = omega arith

pub first_or_end : (test : ℕ → Bool) (s : List ℕ) → unwrap_or (position test s) (length s) ≡ position_or_len test s
first_or_end test s = go (ltb (position_or_len test s) (length s)) refl
  where
    go : (t : Bool) → ltb (position_or_len test s) (length s) ≡ t → unwrap_or (cond t (Some (position_or_len test s)) None) (length s) ≡ position_or_len test s
    go true e = refl
    go false e = omega (arith, first_within test s, ltb-false (position_or_len test s) (length s) e)

-- A blank begins no comment.
no_comment : (c : ℕ) → blank c ≡ true → eqb c hash ≡ false
no_comment c b = go (eqb c hash) refl
  where
    go : (t : Bool) → eqb c hash ≡ t → t ≡ false
    go true e = let is : c ≡ hash = eqb-true c hash e in absurd (true≢false (sym (rw is at b)))
    go false e = refl

-- One byte in front: a blank changes no word, a `#` hides all, and every other is one more byte of the word that goes on behind it.
blank_first : (c : ℕ) (cs : List ℕ) → blank c ≡ true → line_words (c ∷ cs) ≡ line_words cs
unfolding split cut line_words
blank_first c cs b = rw (no_comment c b, b)

hash_first : (c : ℕ) (cs : List ℕ) → eqb c hash ≡ true → line_words (c ∷ cs) ≡ []
unfolding split cut line_words
hash_first c cs e = rw e

joined_first : (c d : ℕ) (cs : List ℕ) → blank c ≡ false → eqb c hash ≡ false → blank d ≡ false → eqb d hash ≡ false →
    line_words (c ∷ d ∷ cs) ≡ joined c (line_words (d ∷ cs))
unfolding split cut line_words
joined_first c d cs b e u t = rw (e, t, b, u)

-- The blanks in front change no word; where there is nothing behind them, there is no word.
pub gap : (s : List ℕ) → line_words s ≡ line_words (drop (position_or_len (λ c. not (blank c)) s) s)
gap [] = refl
gap (c ∷ cs) = go (blank c) refl (gap cs)
  where
    go : (t : Bool) → blank c ≡ t → line_words cs ≡ line_words (drop (position_or_len (λ d. not (blank d)) cs) cs) →
        line_words (c ∷ cs) ≡ line_words (drop (cond (not (not t)) (1 + position_or_len (λ d. not (blank d)) cs) 0) (c ∷ cs))
    go true e h = blank_first c cs e ∙ simp one-add h
    go false e h = refl

-- What follows them begins with no blank.
abbrev pub Begins : List ℕ → Type 0
Begins [] = ⊥
Begins (c ∷ cs) = blank c ≡ false

pub gap_left : (s : List ℕ) → position_or_len (λ c. not (blank c)) s < length s → Begins (drop (position_or_len (λ c. not (blank c)) s) s)
gap_left [] = λ h. absurd (omega arith)
gap_left (c ∷ cs) = go (blank c) refl (gap_left cs)
  where
    go : (t : Bool) → blank c ≡ t → (position_or_len (λ d. not (blank d)) cs < length cs → Begins (drop (position_or_len (λ d. not (blank d)) cs) cs)) →
        cond (not (not t)) (1 + position_or_len (λ d. not (blank d)) cs) 0 < suc (length cs) →
        Begins (drop (cond (not (not t)) (1 + position_or_len (λ d. not (blank d)) cs) 0) (c ∷ cs))
    go true e h inside = simp one-add (h (omega arith))
    go false e h inside = e

-- The first word is what stands before the next blank or `#`.
run : (c : ℕ) (s : List ℕ) → blank c ≡ false → eqb c hash ≡ false →
    line_words (c ∷ s) ≡ (c ∷ take (position_or_len ends_word s) s) ∷ line_words (drop (position_or_len ends_word s) s)
unfolding split cut line_words
run c [] b e = rw (e, b)
run c (d ∷ ds) b e = go (blank d) (eqb d hash) refl refl (run d ds)
  where
    go : (u t : Bool) → blank d ≡ u → eqb d hash ≡ t →
        (blank d ≡ false → eqb d hash ≡ false →
        line_words (d ∷ ds) ≡ (d ∷ take (position_or_len ends_word ds) ds) ∷ line_words (drop (position_or_len ends_word ds) ds)) →
        line_words (c ∷ d ∷ ds) ≡
        (c ∷ take (cond (not (u || t)) (1 + position_or_len ends_word ds) 0) (d ∷ ds)) ∷
        line_words (drop (cond (not (u || t)) (1 + position_or_len ends_word ds) 0) (d ∷ ds))
    go true t f g rest = rw (e, no_comment d f, b, f)
    go false true f g rest = rw (e, g, b)
    go false false f g rest = joined_first c d ds b e f g ∙ simp one-add (ap (joined c) (rest f g))

-- What one step finds: the place of the first byte that is no blank, and of the first blank or `#` from there on.
pub no_word : (s : List ℕ) → None ≡ position (λ c. not (blank c)) s → line_words s ≡ []
unfolding split cut line_words
no_word s e = gap s ∙ go (ltb (position_or_len (λ c. not (blank c)) s) (length s)) refl e
  where
    go : (t : Bool) → ltb (position_or_len (λ c. not (blank c)) s) (length s) ≡ t →
        None ≡ cond t (Some (position_or_len (λ c. not (blank c)) s)) None → line_words (drop (position_or_len (λ c. not (blank c)) s) s) ≡ []
    go true e h = let z : ◌≡◌ {A = ℕ} 0 1 = cc in absurd (omega arith)
    go false e h = rw (drop_of_length-le s (ltb-false (position_or_len (λ c. not (blank c)) s) (length s) e))

behind : (s line : List ℕ) (from : ℕ) → Some from ≡ position (λ c. not (blank c)) s → line ≡ take (length s - from) (drop from s) →
    (line_words s ≡ line_words line) × (Begins line)
behind s line from f l = go (ltb (position_or_len (λ c. not (blank c)) s) (length s)) refl f
  where
    go : (u : Bool) → ltb (position_or_len (λ c. not (blank c)) s) (length s) ≡ u →
        Some from ≡ cond u (Some (position_or_len (λ c. not (blank c)) s)) None → (line_words s ≡ line_words line) × (Begins line)
    go true e h =
        let there : from ≡ position_or_len (λ c. not (blank c)) s = cc in
        let whole : line ≡ drop from s = l ∙ take_all (length s - from) (drop from s) (omega (arith, length-drop from s)) in
        (gap s ∙ (rw (whole, there)), rw (whole, there) (gap_left s (ltb-true (position_or_len (λ c. not (blank c)) s) (length s) e)))
    go false e h = let z : ◌≡◌ {A = ℕ} 0 1 = cc in absurd (omega arith)

at_once : (line : List ℕ) → Begins line → position_or_len ends_word line ≡ 0 → line_words line ≡ []
at_once [] b = absurd b
at_once (c ∷ cs) b = go (eqb c hash) refl
  where
    go : (t : Bool) → eqb c hash ≡ t → cond (not (blank c || eqb c hash)) (1 + position_or_len ends_word cs) 0 ≡ 0 → line_words (c ∷ cs) ≡ []
    go true e h = hash_first c cs e
    go false e h = let more = rw (b, e) at h in absurd (omega arith)

first_word : (line : List ℕ) → Begins line → (position_or_len ends_word line ≡ 0 → ⊥) →
    line_words line ≡ take (position_or_len ends_word line) line ∷ line_words (drop (position_or_len ends_word line) line)
first_word [] b = absurd b
first_word (c ∷ cs) b = go (eqb c hash) refl
  where
    go : (t : Bool) → eqb c hash ≡ t → (cond (not (blank c || eqb c hash)) (1 + position_or_len ends_word cs) 0 ≡ 0 → ⊥) →
        line_words (c ∷ cs) ≡
        take (cond (not (blank c || eqb c hash)) (1 + position_or_len ends_word cs) 0) (c ∷ cs) ∷
        line_words (drop (cond (not (blank c || eqb c hash)) (1 + position_or_len ends_word cs) 0) (c ∷ cs))
    go true e some = absurd (some (rw (b, e)))
    go false e some = rw (b, e) (simp one-add (run c cs b e))

pub comment : (s line : List ℕ) (from to : ℕ) → Some from ≡ position (λ c. not (blank c)) s → line ≡ take (length s - from) (drop from s) →
    to ≡ position_or_len ends_word line → to ≡ 0 → line_words s ≡ []
comment s line from to f l t none =
    let b = behind s line from f l in
    b.0 ∙ at_once line b.1 (sym t ∙ none)

pub a_word : (s line : List ℕ) (from to : ℕ) → Some from ≡ position (λ c. not (blank c)) s → line ≡ take (length s - from) (drop from s) →
    to ≡ position_or_len ends_word line → (to ≡ 0 → ⊥) → line_words s ≡ take to line ∷ line_words (drop to line)
a_word s line from to f l t some =
    let b = behind s line from f l in
    b.0 ∙ (rw t (first_word line b.1 (λ e. some (t ∙ e))))

-- There are no more words than bytes: one more byte makes at most one more word.
few_before : (c : ℕ) (cs : List ℕ) (ws : List (List ℕ)) → length (before c cs ws) ≤ suc (length ws)
few_before c [] ws = omega arith
few_before c (d ∷ cs) [] = go (blank d)
  where
    go : (t : Bool) → length (cond t ((c ∷ []) ∷ []) ((c ∷ []) ∷ [])) ≤ 1
    go true = omega arith
    go false = omega arith
few_before c (d ∷ cs) (w ∷ ws) = go (blank d)
  where
    go : (t : Bool) → length (cond t ((c ∷ []) ∷ w ∷ ws) ((c ∷ w) ∷ ws)) ≤ suc (suc (length ws))
    go true = omega arith
    go false = omega arith

pub few_split : (s : List ℕ) → length (split s) ≤ length s
unfolding split
few_split [] = omega arith
few_split (c ∷ cs) = go (blank c) (few_split cs) (few_before c cs (split cs))
  where
    go : (t : Bool) → length (split cs) ≤ length cs → length (before c cs (split cs)) ≤ suc (length (split cs)) →
        length (cond t (split cs) (before c cs (split cs))) ≤ suc (length cs)
    go true h g = omega arith
    go false h g = omega arith

cut_within : (s : List ℕ) → length (cut s) ≤ length s
unfolding cut
cut_within [] = omega arith
cut_within (c ∷ cs) = go (eqb c hash) (cut_within cs)
  where
    go : (t : Bool) → length (cut cs) ≤ length cs → length (cond t [] (c ∷ cut cs)) ≤ suc (length cs)
    go true h = omega arith
    go false h = omega arith

pub few_words : (s : List ℕ) → length (line_words s) ≤ length s
unfolding line_words
few_words s = omega (arith, few_split (cut s), cut_within s)
