-- The two events (document 01, "The chair's dispatcher and where it ends"). Assumes nothing.
use Rattle.std.specs.Prelude.{ℕ}

-- "two events on that state (a release, and the running job's next step)": task and time, or the time.
pub data Event : Type 0 where
  release : ℕ → ℕ → Event
  step : ℕ → Event

abbrev pub time_of : Event → ℕ
time_of (release i time) = time
time_of (step time) = time
