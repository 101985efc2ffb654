-- What an event does to a state, as far as an image is concerned: the words and their length stay, and an event that is turned away changes nothing. So writing what changes
-- with an event over the old image gives the image of the new state, and what is then read is that state. Assumes nothing.
use Prim.Native.Nat.{ℕ}
use mathlib.Core.Path.{◌≡◌, refl, sym, ap, subst, ◌∙◌}
use mathlib.Core.List.{List, ◌∷◌, ◌++◌}
use native.Mathlib.Omega.{arith}
use lib.IntN.{ℤ}
use lib.ListN.{length, get_or, take}
use lib.Seq.{take-suc, append_snoc}
use Rattle.std.specs.Fn.{Once}
use Rattle.std.proofs.Common.{Bor}
use Rattle.machine.specs.declared.Kept.{Kept}
use Rattle.machine.specs.Reply.{Turn, EventReply, refused, went_on, finished, Accepted}
use Rattle.dispatch.specs.declared.State.{State}
use Rattle.dispatch.specs.State.{state_of}
use Rattle.dispatch.specs.Heard.{Heard, turn_said, went_with, outcome_of}
use Rattle.dispatch.specs.declared.Outcome.{Outcome}
use Rattle.dispatch.specs.declared.Refusal.{Refusal}
use Rattle.std.specs.Prelude.{Option, Some, None, Result, Ok, Err}
use Rattle.dispatch.specs.Dispatch.{after, release_of, step_of}
use Rattle.dispatch.proofs.Handed.{release_unchanged, step_unchanged, release_words, step_words_lem}
use Rattle.board.specs.Image.{length_at, clock_at, image_size, unpacked, packed, decode, kept_cells, encode, TypedState}
use Rattle.board.specs.Answer.{event_answer}
use Rattle.board.specs.Calls.{image_after, image_heard}
use Rattle.board.specs.Kept.{image_kept, heard_said, Hears}
use Rattle.board.proofs.Codec.{packed_unpacked, decode_encode}

-- "the state comes back equal": of a refusal, that the two are equal; of an accepted event, nothing.
abbrev pub SameIf : {A : Type 0} → EventReply → A → A → Type 0
SameIf (refused number) x y = x ≡ y
SameIf (went_on turn) x y = Unit {0}
SameIf (finished late turn) x y = Unit {0}

same_if : {A : Type 0} (said : EventReply) (x y : A) → ((number : ℕ) → said ≡ refused number → x ≡ y) → SameIf said x y
same_if (refused number) x y h = h number refl
same_if (went_on turn) x y h = tt
same_if (finished late turn) x y h = tt

-- The parts that are read from an image are those of the state that it is.
pub decoded_parts : (image words : List ℕ) (kept : Kept) → words ≡ unpacked (take length_at image) → kept ≡ (decode image).kept →
    state_of words (get_or image length_at 0) kept ≡ decode image
unfolding decode
decoded_parts image words kept e f = λ i. state_of (e i) (get_or image length_at 0) (f i)

-- On the state.
pub record Stays (s : State) (heard : Heard) : Type 0 where
  pub same_words : heard.state.words ≡ s.words
  pub same_length : heard.state.length ≡ s.length
  pub same_if : SameIf heard.said heard.state s

pub release_kept : (s : State) (i time : ℕ) → Stays s (release_of s i time)
release_kept s i time = record {
  same_words = (release_words s i time).0;
  same_length = (release_words s i time).1;
  same_if = same_if (release_of s i time).said (release_of s i time).state s (release_unchanged s i time);
}

pub step_kept : (s : State) (time : ℕ) → Stays s (step_of s time)
step_kept s time = record {
  same_words = (step_words_lem s time).0;
  same_length = (step_words_lem s time).1;
  same_if = same_if (step_of s time).said (step_of s time).state s (step_unchanged s time);
}

-- What changes with an event, written over the old image, is the image of the new state.
pub over_old : (image : List ℕ) (heard : Heard) → length image ≡ image_size → Stays (decode image) heard →
    take clock_at image ++ kept_cells heard.state.kept ≡ encode heard.state
unfolding decode encode
over_old image heard whole kept =
    let cells = kept_cells heard.state.kept in
    ap (λ l. l ++ cells) (take-suc image length_at 0 (omega arith))
    ∙ append_snoc (take length_at image) (get_or image length_at 0) cells
    ∙ ap (λ l. l ++ (get_or image length_at 0 ∷ cells)) (sym (packed_unpacked (take length_at image)) ∙ ap packed (sym kept.same_words))
    ∙ ap (λ n. packed heard.state.words ++ (n ∷ cells)) (sym kept.same_length)

-- So the image that a call leaves is the one that is promised.
pub left_in_image : (image l : List ℕ) (heard : Heard) → length image ≡ image_size → Stays (decode image) heard →
    l ≡ image_after image (take clock_at image ++ kept_cells heard.state.kept) heard.said → l ≡ image_heard image heard
left_in_image image l heard whole kept e = e ∙ ap (λ m. image_after image m heard.said) (over_old image heard whole kept)

-- What is then read is the state that the event hands back.
said_read : (image : List ℕ) (s : State) (said : EventReply) → (Accepted said → TypedState s) → SameIf said s (decode image) → decode (image_after image (encode s) said) ≡ s
said_read image s (refused number) whole same = sym same
said_read image s (went_on turn) whole same = decode_encode s (whole tt)
said_read image s (finished late turn) whole same = decode_encode s (whole tt)

pub read_after : (image : List ℕ) (heard : Heard) → TypedState heard.state → Stays (decode image) heard → decode (image_heard image heard) ≡ heard.state
read_after image heard whole kept = said_read image heard.state heard.said (λ _. whole) kept.same_if

went_after : (before after : List ℕ) (late : Option ℤ) (turn : Turn) → after ≡ image_after before after (went_with late turn)
went_after before after None turn = refl
went_after before after (Some late) turn = refl

-- What `events::keep` leaves, in the image and in the reply, by the cases of what `dispatch` answers.
kept_after : (image : List ℕ) (kept : Kept) (heard : Result Outcome Refusal) →
    image_kept image heard ≡ image_after image (take clock_at image ++ kept_cells (outcome_of kept heard).kept) (outcome_of kept heard).said
kept_after image kept (Ok out) = went_after image (take clock_at image ++ kept_cells out.kept) out.accepted.late (turn_said out.accepted.turn)
kept_after image kept (Err why) = refl

said_after : (kept : Kept) (heard : Result Outcome Refusal) → heard_said heard ≡ (outcome_of kept heard).said
said_after kept (Ok out) = refl
said_after kept (Err why) = refl

-- Of an accepted event, what is kept is as its fields' types say.
abbrev pub KeptTyped : State → Result Outcome Refusal → Type 0
KeptTyped s heard = (out : Outcome) → heard ≡ Ok out → TypedState (state_of s.words s.length out.kept)

typed_after : (s : State) (kept : Kept) (heard : Result Outcome Refusal) → KeptTyped s heard → Accepted (outcome_of kept heard).said →
    TypedState (state_of s.words s.length (outcome_of kept heard).kept)
typed_after s kept (Ok out) typed on = typed out refl
typed_after s kept (Err why) typed on = absurd on

-- An event through an image, whatever the event: the image, the answer and the state that are promised.
abbrev pub Leaves : List ℕ → List ℕ → List ℕ → Heard → Type 0
Leaves image after numbers heard = (after ≡ image_heard image heard) × (numbers ≡ event_answer heard.said) × (decode after ≡ heard.state)

left_by : (image l numbers : List ℕ) (heard : Result Outcome Refusal) → length image ≡ image_size →
    Stays (decode image) (after (decode image) (outcome_of (decode image).kept heard)) → KeptTyped (decode image) heard →
    l ≡ image_kept image heard → numbers ≡ event_answer (heard_said heard) →
    Leaves image l numbers (after (decode image) (outcome_of (decode image).kept heard))
left_by image l numbers heard size stays typed left said =
    let s = decode image in
    let out = after s (outcome_of s.kept heard) in
    let kept : l ≡ image_heard image out = left_in_image image l out size stays (left ∙ kept_after image s.kept heard) in
    (kept, said ∙ ap event_answer (said_after s.kept heard), ap decode kept ∙ said_read image out.state out.said (typed_after s s.kept heard typed) stays.same_if)

-- The event on the parts that are read from an image is that on the state that the image is.
pub event_left : {F : Type 0} {g : Once F (Bor (List ℕ) × (ℕ × (Kept × Unit {0}))) (Result Outcome Refusal)} {f : F} (image l numbers : List ℕ) (event : State → Heard) →
    length image ≡ image_size → (h : Hears g f image l numbers) →
    let parts = state_of h.words.now (get_or image length_at 0) h.kept in
    after parts (outcome_of h.kept h.heard) ≡ event parts → Stays (decode image) (event (decode image)) → Leaves image l numbers (event (decode image))
event_left image l numbers event size h same stays =
    let whole = decoded_parts image h.words.now h.kept h.words_are h.kept_is in
    let is : after (decode image) (outcome_of (decode image).kept h.heard) ≡ event (decode image) =
    subst (λ (s : State). after s (outcome_of s.kept h.heard) ≡ event s) whole same in
    let fit : KeptTyped (decode image) h.heard = subst (λ (s : State). KeptTyped s h.heard) whole h.typed in
    subst (Leaves image l numbers) is (left_by image l numbers h.heard size (subst (Stays (decode image)) (sym is) stays) fit h.image_is h.answer_is)
