-- The part of demand 3's blocking that does not ask who runs. A run is taken as six relations on positions, events and jobs (`Run`), with facts that hold
-- whoever runs (`Facts`): a job is ready from its release on with one base deadline, only the running job enters a section, and an accepted reply names
-- the running job. What a choice of the running job has to add is `Policy`: a relation, y stands in x's way, that holds while y blocks x, that began no
-- later than x's release, and that one job at a time is in. From these follow the three blocking sentences.
-- The idea: who is in the way only shrinks after x's release, so the blocker stood in the way at every position since; it held something at each of them and before
-- the release itself, so it entered its outermost section earlier. Assumes nothing.
use Prim.Native.Nat.{ℕ, zero, suc, ◌≤◌, ◌<◌}
use mathlib.Core.Path.{◌≡◌, sym, ◌∙◌, subst}
use mathlib.Core.Logic.{◌⊎◌, inl, inr}
use native.Mathlib.Omega.{arith}
use native.Mathlib.Nat.{eq-or-lt_of_le}
use Rattle.std.proofs.lemmas.Bool.{cases_order}
use Rattle.machine.specs.Order.{Sooner}

-- What is seen of a run. A position is a number of events; event p leads from position p to position suc p; a job is its release number.
pub record Run : Type 1 where
  -- at a position, a job is ready, with a base deadline
  pub Ready : ℕ → ℕ → ℕ → Type 0
  -- at a position, a job is the running one
  pub Running : ℕ → ℕ → Type 0
  -- at a position, a job is ready and holds something
  pub Holding : ℕ → ℕ → Type 0
  -- an event's reply names a job as running
  pub Named : ℕ → ℕ → Type 0
  -- an event is the accepted release that made a job
  pub Released : ℕ → ℕ → Type 0
  -- at an event a job goes from holding nothing to holding something
  pub Entered : ℕ → ℕ → Type 0

-- What holds of every run, whoever runs.
pub record Facts (run : Run) : Type 0 where
  pub nobody : {x d : ℕ} → run.Ready 0 x d → ⊥
  pub ready_back : {p x d : ℕ} → run.Ready (suc p) x d → (run.Ready p x d) ⊎ (run.Released p x)
  pub one_base : {p x d e : ℕ} → run.Ready p x d → run.Ready p x e → d ≡ e
  pub later : {m p x d : ℕ} → run.Released m x → run.Ready p x d → m < p
  pub running_ready : {p x : ℕ} → run.Running p x → (d : ℕ) × run.Ready p x d
  pub running_one : {p x y : ℕ} → run.Running p x → run.Running p y → x ≡ y
  pub running_back : {p x : ℕ} → run.Running (suc p) x → (run.Named p x) ⊎ (run.Running p x)
  pub holding_ready : {p x : ℕ} → run.Holding p x → (d : ℕ) × run.Ready p x d
  pub holding_back : {p x : ℕ} → run.Holding (suc p) x → (run.Holding p x) ⊎ (run.Entered p x × run.Running p x)
  pub holding_released : {p x y : ℕ} → run.Released p x → run.Holding (suc p) y → run.Holding p y
  pub entered_free : {p x : ℕ} → run.Entered p x → run.Holding p x → ⊥

-- A job has had its first turn at or before a position: one of the events up to it named the job.
pub record Started (run : Run) (p x : ℕ) : Type 0 where
  pub event : ℕ
  pub before : event < p
  pub named : run.Named event x

-- Job y is at position p inside the outermost section that it entered at event q.
pub record Within (run : Run) (q p y : ℕ) : Type 0 where
  pub since : q < p
  pub entered : run.Entered q y
  pub between : (r : ℕ) → q < r → r ≤ p → run.Holding r y

-- At position p job x is ready and the running job y comes after it.
pub record Blocks (run : Run) (p x y : ℕ) : Type 0 where
  pub base : ℕ
  pub other : ℕ
  pub ready : run.Ready p x base
  pub running : run.Running p y
  pub runs : run.Ready p y other
  pub after : Sooner base x other y

-- What a choice of the running job adds: who stands in whose way.
pub record Policy (run : Run) : Type 1 where
  pub InTheWay : ℕ → ℕ → ℕ → Type 0
  -- a blocker stands in the way
  pub blocks : {p x y : ℕ} → Blocks run p x y → InTheWay p x y
  -- who stands in the way holds something
  pub holds : {p x y : ℕ} → InTheWay p x y → run.Holding p y
  -- nobody comes to stand in a ready job's way
  pub back : {p x y d : ℕ} → run.Ready p x d → InTheWay (suc p) x y → InTheWay p x y
  -- one at a time
  pub one : {p x y z : ℕ} → InTheWay p x y → InTheWay p x z → y ≡ z
  -- a job that has had its first turn is not blocked
  pub turned : {p x y : ℕ} → Started run p x → Blocks run p x y → ⊥

-- ---- what a run's facts give, whoever runs

module _ (run : Run) (facts : Facts run) where
  started_later : {p x : ℕ} → Started run p x → Started run (suc p) x
  started_later s = record { event = s.event; before = omega arith; named = s.named }

  -- The running job has had its first turn: the last accepted reply named it.
  pub running_started : (p x : ℕ) → run.Running p x → Started run p x
  running_started zero x h = absurd (facts.nobody (facts.running_ready h).1)
  running_started (suc p) x h = go (running_started p x) (facts.running_back h)
    where
      go : (run.Running p x → Started run p x) → (run.Named p x) ⊎ (run.Running p x) → Started run (suc p) x
      go ih (inl n) = record { event = p; before = omega arith; named = n }
      go ih (inr r) = started_later (ih r)

  -- Only a job that has had its first turn holds anything.
  pub holding_started : (p x : ℕ) → run.Holding p x → Started run p x
  holding_started zero x h = absurd (facts.nobody (facts.holding_ready h).1)
  holding_started (suc p) x h = started_later (go (holding_started p x) (facts.holding_back h))
    where
      go : (run.Holding p x → Started run p x) → (run.Holding p x) ⊎ (run.Entered p x × run.Running p x) → Started run p x
      go ih (inl b) = ih b
      go ih (inr b) = running_started p x b.1

  -- Who holds something is inside an outermost section, entered at some event.
  pub holding_within : (p x : ℕ) → run.Holding p x → (q : ℕ) × Within run q p x
  holding_within zero x h = absurd (facts.nobody (facts.holding_ready h).1)
  holding_within (suc p) x h = go (holding_within p x) (facts.holding_back h)
    where
      last : (q : ℕ) → (((r : ℕ) → q < r → r ≤ p → run.Holding r x)) → (r : ℕ) → q < r → r ≤ suc p → run.Holding r x
      last q f r a b = pick (eq-or-lt_of_le b)
        where
          pick : (r ≡ suc p) ⊎ (r < suc p) → run.Holding r x
          pick (inl e) = rw e h
          pick (inr l) = f r a (omega arith)

      go : (run.Holding p x → (q : ℕ) × Within run q p x) → (run.Holding p x) ⊎ (run.Entered p x × run.Running p x) →
          (q : ℕ) × Within run q (suc p) x
      go ih (inl b) =
          let w = ih b in
          (w.0, record { since = omega (arith, w.1.since); entered = w.1.entered; between = last w.0 w.1.between })
      go ih (inr b) =
          (p, record { since = omega arith; entered = b.0; between = last p (λ r a c. absurd (omega arith)) })

  -- The event at which a job entered the section that it is inside of is one.
  pub one_entry : {q r p x : ℕ} → Within run q p x → Within run r p x → q ≡ r
  one_entry {q} {r} {p} {x} v w = pick (cases_order q r)
    where
      two : {a b : ℕ} → Within run a p x → Within run b p x → a < b → ⊥
      two {a} {b} f g l = facts.entered_free g.entered (f.between b l (omega (arith, g.since)))

      pick : (q ≡ r) ⊎ ((q < r) ⊎ (r < q)) → q ≡ r
      pick (inl e) = e
      pick (inr (inl l)) = absurd (two v w l)
      pick (inr (inr m)) = absurd (two w v m)

-- ---- the three sentences, for a choice of the running job

-- At every position since x's release, y stands in x's way.
pub record Since (run : Run) (policy : Policy run) (p x y : ℕ) : Type 0 where
  pub release : ℕ
  pub before : release < p
  pub released : run.Released release x
  pub stands : (r : ℕ) → release < r → r ≤ p → policy.InTheWay r x y

-- The second sentence: the blocker is inside an outermost section that it entered at an event before the blocked job's release.
pub record EntersBefore (run : Run) (p x y : ℕ) : Type 0 where
  pub entry : ℕ
  pub release : ℕ
  pub within : Within run entry p y
  pub released : run.Released release x
  pub before : entry < release
  pub since : release < p

module _ (run : Run) (facts : Facts run) (policy : Policy run) where
  pub since_release : (p x y d : ℕ) → run.Ready p x d → policy.InTheWay p x y → Since run policy p x y
  since_release zero x y d h w = absurd (facts.nobody h)
  since_release (suc p) x y d h w = go (since_release p x y d) (facts.ready_back h)
    where
      last : (m : ℕ) → ((r : ℕ) → m < r → r ≤ p → policy.InTheWay r x y) → (r : ℕ) → m < r → r ≤ suc p → policy.InTheWay r x y
      last m f r a b = pick (eq-or-lt_of_le b)
        where
          pick : (r ≡ suc p) ⊎ (r < suc p) → policy.InTheWay r x y
          pick (inl e) = rw e w
          pick (inr l) = f r a (omega arith)

      go : (run.Ready p x d → policy.InTheWay p x y → Since run policy p x y) → (run.Ready p x d) ⊎ (run.Released p x) →
          Since run policy (suc p) x y
      go ih (inl b) =
          let s = ih b (policy.back b w) in
          record { release = s.release; before = omega (arith, s.before); released = s.released; stands = last s.release s.stands }
      go ih (inr b) =
          record { release = p; before = omega arith; released = b; stands = last p (λ r a c. absurd (omega arith)) }

  blocked_since : {p x y : ℕ} → Blocks run p x y → Since run policy p x y
  blocked_since {p} {x} {y} b = since_release p x y b.base b.ready (policy.blocks b)

  -- Who has stood in the way since the release entered its outermost section before it.
  since_within : {p x y : ℕ} (s : Since run policy p x y) → (q : ℕ) × (q < s.release) × Within run q p y
  since_within {p} {x} {y} s = (
    w.0,
    w.1.since,
    record {
      since = omega (arith, w.1.since, s.before);
      entered = w.1.entered;
      between = λ r a b. pick r a b (cases_order m r);
    },
  )
    where
      m : ℕ
      m = s.release

      after : run.Holding (suc m) y
      after = policy.holds (s.stands (suc m) (omega arith) s.before)

      w : (q : ℕ) × Within run q m y
      w = holding_within run facts m y (facts.holding_released s.released after)

      pick : (r : ℕ) → w.0 < r → r ≤ p → (m ≡ r) ⊎ ((m < r) ⊎ (r < m)) → run.Holding r y
      pick r a b (inl e) = w.1.between r a (omega arith)
      pick r a b (inr (inl l)) = policy.holds (s.stands r l b)
      pick r a b (inr (inr k)) = w.1.between r a (omega arith)

  pub blocked_entered : {p x y : ℕ} → Blocks run p x y → EntersBefore run p x y
  blocked_entered {p} {x} {y} b =
      let s = blocked_since b in
      let w = since_within s in
      record { entry = w.0; release = s.release; within = w.2; released = s.released; before = w.1; since = s.before }

  -- The third sentence, where the second position is no earlier than the first: since the release the later blocker stood in the way at the first one too.
  blocked_same_later : {p r q s x y z : ℕ} → p ≤ r → Blocks run p x y → Within run q p y → Blocks run r x z → Within run s r z →
      (y ≡ z) × (q ≡ s)
  blocked_same_later {p} {r} {q} {s} {x} {y} {z} le b v c w =
      (job, one_entry run facts (subst (λ (k : ℕ). Within run q p k) job v) early ∙ one_entry run facts e.2 w)
    where
      late : Since run policy r x z
      late = blocked_since c

      e : (a : ℕ) × (a < late.release) × Within run a r z
      e = since_within late

      within : late.release < p
      within = facts.later late.released b.ready

      job : y ≡ z
      job = policy.one (policy.blocks b) (late.stands p within le)

      early : Within run e.0 p z
      early = record {
        since = omega (arith, e.1, within);
        entered = e.2.entered;
        between = λ k a l. e.2.between k a (omega arith);
      }

  pub blocked_same : {p r q s x y z : ℕ} → Blocks run p x y → Within run q p y → Blocks run r x z → Within run s r z → (y ≡ z) × (q ≡ s)
  blocked_same {p} {r} {q} {s} {x} {y} {z} b v c w = pick (cases_order p r)
    where
      pick : (p ≡ r) ⊎ ((p < r) ⊎ (r < p)) → (y ≡ z) × (q ≡ s)
      pick (inl e) = blocked_same_later (omega arith) b v c w
      pick (inr (inl l)) = blocked_same_later (omega arith) b v c w
      pick (inr (inr m)) = let t = blocked_same_later (omega arith) c w b v in (sym t.0, sym t.1)
