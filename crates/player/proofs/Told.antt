-- What the calls below promise, as this crate's definitions say it: the lines of the jobs. Assumes nothing.
use Rattle.std.proofs.Common.{◌≡◌, ℕ, zero, suc, ◌+◌, ◌-◌, ◌<◌, ◌≤◌, Bool, true, false, cond, List, [], ◌∷◌, ◌++◌, length, take, drop, refl, append-nil, arith, lt-ltb, le-ltb, length-drop, drop_of_length-le, take_all}
use Rattle.std.specs.List.{flat_map}
use Rattle.sets.specs.Member.{width, has, members_from, members}
use Rattle.table.specs.Limits.{most_tasks}
use Rattle.table.specs.Table.{Table, task_of}
use Rattle.machine.specs.Order.{row_of}
use Rattle.machine.specs.declared.Kept.{Kept}
use Rattle.text.specs.Room.{Written, Laid}
use Rattle.player.specs.Show.{row_text, task_text, ready_text, jobs_text}
use Rattle.text.proofs.Lay.{from_part}

-- The lines of a state's ready jobs, member after member, are those of its tasks. Members past the last task have none.
ready_past : (n j : ℕ) (t : Table) (kept : Kept) → most_tasks ≤ j → flat_map (ready_text t kept) (members_from n j kept.ready) ≡ []
unfolding members_from
ready_past zero j t kept h = refl
ready_past (suc n) j t kept h = go (has kept.ready j) (ready_past n (suc j) t kept (omega arith))
  where
    go : (b : Bool) → flat_map (ready_text t kept) (members_from n (suc j) kept.ready) ≡ [] →
        flat_map (ready_text t kept) (cond b (j ∷ members_from n (suc j) kept.ready) (members_from n (suc j) kept.ready)) ≡ []
    go true rest = rw (le-ltb j most_tasks h) rest
    go false rest = rest

ready_jobs : (m n j : ℕ) (t : Table) (kept : Kept) → m ≤ n → j + m ≡ most_tasks →
    flat_map (ready_text t kept) (members_from n j kept.ready) ≡ jobs_text m j t kept
unfolding members_from jobs_text task_text
ready_jobs zero n j t kept h e = ready_past n j t kept (omega arith)
ready_jobs (suc m) zero j t kept h e = absurd (omega arith)
ready_jobs (suc m) (suc n) j t kept h e = go (has kept.ready j) (ready_jobs m n (suc j) t kept (omega arith) (omega arith))
  where
    go : (b : Bool) → flat_map (ready_text t kept) (members_from n (suc j) kept.ready) ≡ jobs_text m (suc j) t kept →
        flat_map (ready_text t kept) (cond b (j ∷ members_from n (suc j) kept.ready) (members_from n (suc j) kept.ready)) ≡
        cond b (row_text j (task_of t j).plan (row_of kept j)) [] ++ jobs_text m (suc j) t kept
    go true rest = let below : j < most_tasks = omega arith in rw (lt-ltb j most_tasks below, rest)
    go false rest = rest

pub all_ready : (t : Table) (kept : Kept) → flat_map (ready_text t kept) (members width kept.ready) ≡ jobs_text most_tasks 0 t kept
unfolding members
all_ready t kept = ready_jobs most_tasks width 0 t kept (omega arith) refl

-- What is written at the start of the part behind a place, lent and come back, is laid from the place on.
pub from_middle : {text b q : List ℕ} {at r : ℕ} → at ≤ length b → Written text (take (length b - at) (drop at b)) q r →
    Laid text b at (take at b ++ (q ++ drop (length b - at) (drop at b))) (at + r)
from_middle {text} {b} {q} {at} {r} h w =
    let long : length (drop at b) ≤ length b - at = omega (arith, length-drop at b) in
    rw (drop_of_length-le (drop at b) long, append-nil q) (from_part h (rw (take_all (length b - at) (drop at b) long) at w))
