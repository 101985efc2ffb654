-- The starts that the walk has marked so far, and those that it marks behind them (`starts_from`). Assumes nothing.
use Prim.Native.Nat.{ℕ, zero, suc, ◌+◌, ◌-◌, ◌≤◌, ◌<◌}
use mathlib.Core.Path.{◌≡◌, refl, sym, ap, ◌∙◌}
use mathlib.Core.List.{List, ◌++◌, append_assoc, append-nil}
use native.Mathlib.Numerals.{add-one}
use native.Mathlib.Omega.{arith}
use lib.ListN.{length, set, take, drop, replicate, length-take, length-replicate}
use lib.Seq.{take-suc-set, take-length}
use Rattle.std.proofs.lemmas.List.{drop-replicate}
use Rattle.table.specs.Map.{behind, starts_from, padded}
use Rattle.table.proofs.Padded.{padded_append}

pub start_marked : (n left i at : ℕ) (ws starts whole : List ℕ) → n ≡ suc left → i < length starts → take i starts ++ starts_from n ws at ≡ whole →
    take (i + 1) (set starts i at) ++ starts_from left ws (behind ws at) ≡ whole
unfolding starts_from
start_marked n left i at ws starts whole e h marked =
    let p : take i starts ++ starts_from (suc left) ws at ≡ whole = rw e at marked in
    rw (add-one, take-suc-set starts i at h) (rw append_assoc p)

pub starts_marked : (left i at : ℕ) (ws starts whole : List ℕ) → left ≡ 0 → i ≡ length starts → take i starts ++ starts_from left ws at ≡ whole → starts ≡ whole
unfolding starts_from
starts_marked left i at ws starts whole none all e =
    let f : take (length starts) starts ++ starts_from 0 ws at ≡ whole = rw (all, none) at e in
    sym (append-nil (take (length starts) starts) ∙ take-length starts) ∙ f

starts_length : (n : ℕ) (ws : List ℕ) (at : ℕ) → length (starts_from n ws at) ≡ n
unfolding starts_from
starts_length zero ws at = refl
starts_length (suc n) ws at = ap suc (starts_length n ws (behind ws at))

-- As many starts as tasks are marked in an array of zeros.
pub starts_room : (k n : ℕ) → n ≤ k → length {A = ℕ} (take n (replicate k 0)) ≡ n
starts_room k n h = omega (arith, length-take {A = ℕ}, length-replicate {A = ℕ})

pub starts_padded : (k n : ℕ) (ws : List ℕ) (at : ℕ) → n ≤ k → starts_from n ws at ++ drop n (replicate k 0) ≡ padded k (starts_from n ws at)
starts_padded k n ws at h =
    let l : k - length (starts_from n ws at) ≡ k - n = ap (λ (x : ℕ). k - x) (starts_length n ws at) in
    rw (padded_append k (starts_from n ws at) (omega (arith, starts_length n ws at)), drop-replicate {X = ℕ} n k 0, l)
