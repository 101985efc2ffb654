-- What is particular to floors in demand 3's blocking: the running job is least by its active deadline, and the invariant Ahead. A job that has had its first
-- turn is, by its base deadline, before the active deadline of every ready job that comes after it.
-- Ahead begins at the first turn, when the job runs and holds nothing, so that its base is its active deadline and least; while it holds, the other does not run,
-- so its active deadline does not change. That y stands in x's way is: y comes after x by base, and y's active deadline is before x's base.
-- The facts about active deadlines are taken as `Floors` over the run of General. Assumes nothing.
use Prim.Native.Nat.{ℕ, zero, suc, ◌≤◌, ◌<◌}
use mathlib.Core.Path.{◌≡◌, sym, subst}
use mathlib.Core.Logic.{◌⊎◌, inl, inr}
use native.Mathlib.Omega.{arith}
use native.Mathlib.Nat.{eq-or-lt_of_le}
use Rattle.machine.specs.Order.{Sooner}
use Rattle.machine.proofs.Sooner.{sooner_not, sooner_one_way, sooner_trans, sooner_higher, Ordered, before, itself, after, ordered}
use Rattle.demand3.proofs.General.{Run, Facts, Policy, Started, Blocks, running_started, holding_started}

-- What floors make of a run: each ready job has an active deadline, and the running job is the one for which it is least.
pub record Floors (run : Run) : Type 1 where
  -- at a position, a job is ready, with an active deadline
  pub Active : ℕ → ℕ → ℕ → Type 0
  pub has_active : {p x d : ℕ} → run.Ready p x d → (a : ℕ) × Active p x a × (a ≤ d)
  -- who holds nothing has its base deadline for active deadline
  pub plain : {p x d a : ℕ} → run.Ready p x d → Active p x a → (run.Holding p x) ⊎ (a ≡ d)
  -- only the running job's active deadline changes
  pub active_back : {p x d a : ℕ} → run.Ready p x d → Active (suc p) x a → (Active p x a) ⊎ (run.Running p x)
  -- "The running job is the ready one with the earliest active deadline. Among equals it is the one whose release was accepted first"
  pub least : {p x y a b : ℕ} → run.Running p x → Active p x a → Active p y b → (x ≡ y) ⊎ (Sooner a x b y)
  -- a reply names the job that runs after it
  pub named_running : {p x : ℕ} → run.Named p x → run.Running (suc p) x

-- y stands in x's way: it comes after x in the order by base deadline and its active deadline comes before.
pub record Lowered (run : Run) (floors : Floors run) (p x y : ℕ) : Type 0 where
  pub base : ℕ
  pub other : ℕ
  pub active : ℕ
  pub ready : run.Ready p x base
  pub stands : run.Ready p y other
  pub actively : floors.Active p y active
  pub after : Sooner base x other y
  pub ahead : Sooner active y base x

-- Ahead, at a position.
pub record Ahead (run : Run) (floors : Floors run) (p : ℕ) : Type 0 where
  pub base_before : {x y d e a : ℕ} → Started run p x → run.Ready p x d → run.Ready p y e → floors.Active p y a →
      Sooner d x e y → Sooner d x a y

module _ (run : Run) (facts : Facts run) (floors : Floors run) where
  -- A job has its base deadline for active deadline right after its release.
  released_plain : {p x d a : ℕ} → run.Released p x → run.Ready (suc p) x d → floors.Active (suc p) x a → a ≡ d
  released_plain {p} {x} {d} {a} r h act = pick (floors.plain h act)
    where
      pick : (run.Holding (suc p) x) ⊎ (a ≡ d) → a ≡ d
      pick (inl o) = let early = facts.later r (facts.holding_ready (facts.holding_released r o)).1 in absurd (omega arith)
      pick (inr e) = e

  -- A job that has had its first turn was released before.
  started_ready : {p x d : ℕ} → Started run p x → run.Ready (suc p) x d → run.Ready p x d
  started_ready {p} {x} {d} s h = pick (facts.ready_back h)
    where
      pick : (run.Ready p x d) ⊎ (run.Released p x) → run.Ready p x d
      pick (inl r) = r
      pick (inr r) =
          let late = facts.later r (facts.running_ready (floors.named_running s.named)).1 in
          absurd (omega (arith, s.before))

  -- The running job's active deadline is before the base deadline of every other.
  running_before : {p x y d a : ℕ} → run.Running p y → floors.Active p y a → run.Ready p x d → (y ≡ x) ⊎ (Sooner a y d x)
  running_before {p} {x} {y} {d} {a} r act h = pick (floors.least r act c.1)
    where
      c : (b : ℕ) × floors.Active p x b × (b ≤ d)
      c = floors.has_active h

      pick : (y ≡ x) ⊎ (Sooner a y c.0 x) → (y ≡ x) ⊎ (Sooner a y d x)
      pick (inl e) = inl e
      pick (inr s) = inr (sooner_higher c.2 s)

  -- Who comes after x by base is another job.
  other_job : {p x y d e : ℕ} → run.Ready p x d → run.Ready p y e → Sooner d x e y → y ≡ x → ⊥
  other_job {p} {x} {y} {d} {e} h k s same =
      sooner_not (omega (arith, facts.one_base h (subst (λ (z : ℕ). run.Ready p z e) same k))) (subst (λ (z : ℕ). Sooner d x e z) same s)

  -- One event keeps Ahead for a job that had its first turn before it.
  ahead_kept : (p : ℕ) → Ahead run floors p → {x y d e a : ℕ} → Started run p x → run.Ready (suc p) x d → run.Ready (suc p) y e →
      floors.Active (suc p) y a → Sooner d x e y → Sooner d x a y
  ahead_kept p ih {x} {y} {d} {e} {a} s h k act less = pick (facts.ready_back k)
    where
      ready : run.Ready p x d
      ready = started_ready s h

      runs : run.Ready p y e → run.Running p y → ⊥
      runs old r =
          let c = floors.has_active old in
          let first = ih.base_before s ready old c.1 less in
          elim (running_before r c.1 ready) [
            | inl q ↦ other_job ready old less q
            | inr q ↦ sooner_one_way first q
          ]

      changes : run.Ready p y e → (floors.Active p y a) ⊎ (run.Running p y) → Sooner d x a y
      changes old (inl b) = ih.base_before s ready old b less
      changes old (inr r) = absurd (runs old r)

      pick : (run.Ready p y e) ⊎ (run.Released p y) → Sooner d x a y
      pick (inl old) = changes old (floors.active_back old act)
      pick (inr new) = rw (released_plain new k act) less

  -- One event brings Ahead: a job at its first turn runs and holds nothing, so its base deadline is its active one.
  ahead_next : (p : ℕ) → Ahead run floors p → {x y d e a : ℕ} → Started run (suc p) x → run.Ready (suc p) x d → run.Ready (suc p) y e →
      floors.Active (suc p) y a → Sooner d x e y → Sooner d x a y
  ahead_next p ih {x} {y} {d} {e} {a} s h k act less = pick (eq-or-lt_of_le s.before)
    where
      kept : Started run p x → Sooner d x a y
      kept old = ahead_kept p ih old h k act less

      entered : (run.Holding p x) ⊎ (run.Entered p x × run.Running p x) → Started run p x
      entered (inl o) = holding_started run facts p x o
      entered (inr o) = running_started run facts p x o.1

      first : run.Running (suc p) x → Sooner d x a y
      first r =
          let c = floors.has_active h in
          elim (floors.plain h c.1) [
            | inl o ↦ kept (entered (facts.holding_back o))
            | inr q ↦ elim (floors.least r c.1 act) [
              | inl z ↦ absurd (other_job h k less (sym z))
              | inr z ↦ rw q at z
            ]
          ]

      pick : (suc s.event ≡ suc p) ⊎ (suc s.event < suc p) → Sooner d x a y
      pick (inl q) = let same : s.event ≡ p = omega arith in first (floors.named_running (rw same at s.named))
      pick (inr l) = kept (record { event = s.event; before = omega arith; named = s.named })

  -- Ahead holds at every position.
  pub ahead : (p : ℕ) → Ahead run floors p
  ahead zero = record { base_before = λ s h k act less. absurd (facts.nobody h) }
  ahead (suc p) = let ih = ahead p in record { base_before = λ s h k act less. ahead_next p ih s h k act less }

  -- ---- who stands in the way

  -- A started job is never blocked: the running job would be before it.
  started_not_blocked : {p x y : ℕ} → Started run p x → Blocks run p x y → ⊥
  started_not_blocked {p} {x} {y} s b =
      let c = floors.has_active b.runs in
      let first = (ahead p).base_before s b.ready b.runs c.1 b.after in
      elim (running_before b.running c.1 b.ready) [
        | inl q ↦ other_job b.ready b.runs b.after q
        | inr q ↦ sooner_one_way first q
      ]

  -- A blocker stands in the way.
  blocker_lowered : {p x y : ℕ} → Blocks run p x y → Lowered run floors p x y
  blocker_lowered {p} {x} {y} b =
      let c = floors.has_active b.runs in
      record {
        base = b.base;
        other = b.other;
        active = c.0;
        ready = b.ready;
        stands = b.runs;
        actively = c.1;
        after = b.after;
        ahead = elim (running_before b.running c.1 b.ready) [
          | inl q ↦ absurd (other_job b.ready b.runs b.after q)
          | inr q ↦ q
        ];
      }

  -- Who stands in the way holds something: its active deadline is not its base.
  lowered_holds : {p x y : ℕ} → Lowered run floors p x y → run.Holding p y
  lowered_holds w = elim (floors.plain w.stands w.actively) [
    | inl o ↦ o
    | inr q ↦ absurd (sooner_one_way w.after (rw q at w.ahead))
  ]

  -- Nobody comes to stand in the way of a ready job: who is not in it does not run, and a new job's active deadline is its base.
  lowered_back : {p x y d : ℕ} → run.Ready p x d → Lowered run floors (suc p) x y → Lowered run floors p x y
  lowered_back {p} {x} {y} {d} h w = ready (facts.ready_back w.ready)
    where
      build : (a : ℕ) → run.Ready p x w.base → run.Ready p y w.other → floors.Active p y a → Sooner a y w.base x → Lowered run floors p x y
      build a r old act less =
          record {
            base = w.base;
            other = w.other;
            active = a;
            ready = r;
            stands = old;
            actively = act;
            after = w.after;
            ahead = less;
          }

      runs : run.Ready p x w.base → run.Ready p y w.other → run.Running p y → Lowered run floors p x y
      runs r old run-y =
          let c = floors.has_active old in
          elim (running_before run-y c.1 r) [
            | inl q ↦ absurd (other_job r old w.after q)
            | inr q ↦ build c.0 r old c.1 q
          ]

      changes : run.Ready p x w.base → run.Ready p y w.other → (floors.Active p y w.active) ⊎ (run.Running p y) →
          Lowered run floors p x y
      changes r old (inl act) = build w.active r old act w.ahead
      changes r old (inr run-y) = runs r old run-y

      stands : run.Ready p x w.base → (run.Ready p y w.other) ⊎ (run.Released p y) → Lowered run floors p x y
      stands r (inl old) = changes r old (floors.active_back old w.actively)
      stands r (inr new) =
          absurd (sooner_one_way w.after (rw (released_plain new w.stands w.actively) at w.ahead))

      ready : (run.Ready p x w.base) ⊎ (run.Released p x) → Lowered run floors p x y
      ready (inl r) = stands r (facts.ready_back w.stands)
      ready (inr new) = let late = facts.later new h in absurd (omega arith)

  -- One at a time: of two, both have had their first turn, and the one with the smaller base would be ahead of the other.
  lowered_two : {p x y z : ℕ} (v : Lowered run floors p x y) (w : Lowered run floors p x z) → Sooner v.other y w.other z → ⊥
  lowered_two {p} {x} {y} {z} v w less =
      let same : v.base ≡ w.base = facts.one_base v.ready w.ready in
      let first = (ahead p).base_before (holding_started run facts p y (lowered_holds v)) v.stands w.stands w.actively less in
      sooner_one_way first (sooner_trans w.ahead (rw same at v.after))

  lowered_one : {p x y z : ℕ} → Lowered run floors p x y → Lowered run floors p x z → y ≡ z
  lowered_one {p} {x} {y} {z} v w = pick (ordered v.other y w.other z)
    where
      pick : Ordered v.other y w.other z → y ≡ z
      pick (before s) = absurd (lowered_two v w s)
      pick (itself e) = e
      pick (after s) = absurd (lowered_two w v s)

  -- Floors are a choice of the running job for which the three sentences hold.
  pub floors_policy : Policy run
  floors_policy = record {
    InTheWay = Lowered run floors;
    blocks = blocker_lowered;
    holds = lowered_holds;
    back = lowered_back;
    one = lowered_one;
    turned = started_not_blocked;
  }
