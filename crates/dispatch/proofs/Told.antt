-- What an event answers by the tests that were made, row by row of its table. Assumes nothing.
use Prim.Native.Nat.{ℕ, ◌≤◌, ◌<◌, min}
use mathlib.Core.Path.{◌≡◌, refl, sym, ap, ◌∙◌}
use mathlib.Core.Bool.{true, false}
use native.Mathlib.Omega.{arith}
use borrow.Author.Tests.{lt-leb, le-leb, le-ltb}
use Rattle.std.specs.Prelude.{Option, Some, None, Ok, Err}
use Rattle.std.specs.Option.{ok_or}
use Rattle.numbers.specs.Answers.{NOBODY, ACTIVE, EARLY}
use Rattle.numbers.proofs.Tests.{never}
use Rattle.sets.specs.Member.{has}
use Rattle.table.specs.Limits.{most_tasks}
use Rattle.table.specs.Table.{Table, tasks_of}
use Rattle.readers.proofs.Raw.{tasks_at_lem}
use Rattle.readers.specs.Read.{table_in}
use Rattle.machine.specs.Order.{who_runs}
use Rattle.machine.specs.Event.{release, step}
use Rattle.machine.specs.Moves.{to_release, carried_out}
use Rattle.machine.specs.Away.{here, later, more, none, turned_away, early, event_in}
use Rattle.machine.specs.declared.Kept.{Kept}
use Rattle.machine.proofs.Moves.{Timely, event_away, release_carried, none_ready_lem}
use Rattle.dispatch.specs.Heard.{number_of}
use Rattle.dispatch.specs.Parts.{in_time_of}
use Rattle.dispatch.specs.declared.Refusal.{Refusal}
use Rattle.dispatch.specs.declared.Refusal.TheVariants.{Nobody}
use Rattle.dispatch.specs.declared.whole.Whole.{Whole}
use Rattle.dispatch.proofs.Timely.{timely}

-- At a time that is neither BACK nor END.
module _ (w : Whole) (time : ℕ) (in_time : in_time_of w.kept.now.clock time ≡ Ok (tt {0})) where
  abbrev pub table : Table
  table = table_in w.table

  abbrev pub kept : Kept
  kept = w.kept.now

  timed : Timely kept time
  timed = timely kept time in_time

  -- ---- a release

  module _ (i n : ℕ) (tasks : n ≡ min w.table.map.tasks most_tasks) where
    told : tasks_of table ≡ n
    told = tasks_at_lem _ _ ∙ sym tasks

    pub release_nobody : n ≤ i → turned_away kept NOBODY ≡ event_in table kept (release i time)
    release_nobody l =
        sym (event_away table kept (release i time) NOBODY
        (later (le-ltb _ _ timed.back) (later (lt-leb _ _ timed.end) (here refl (le-leb _ _ (omega (arith, told)))))))

    module _ (below : i < n) where
      there : i < tasks_of table
      there = omega (arith, told)

      pub release_active : has kept.ready i ≡ true → turned_away kept ACTIVE ≡ event_in table kept (release i time)
      release_active h =
          sym (event_away table kept (release i time) ACTIVE
          (later (le-ltb _ _ timed.back) (later (lt-leb _ _ timed.end) (later (lt-leb _ _ there) (here refl h)))))

      module _ (idle : has kept.ready i ≡ false) where
        pub release_early : early table kept i time ≡ true → turned_away kept EARLY ≡ event_in table kept (release i time)
        release_early h =
            sym (event_away table kept (release i time) EARLY
            (later (le-ltb _ _ timed.back) (later (lt-leb _ _ timed.end) (later (lt-leb _ _ there) (later idle (here refl h))))))

        pub release_done : early table kept i time ≡ false →
            carried_out table kept time (to_release i) ≡ event_in table kept (release i time)
        release_done h =
            release_carried table kept i time
            (more (le-ltb _ _ timed.back) (more (lt-leb _ _ timed.end) (more (lt-leb _ _ there) (more idle (more h none)))))

  -- ---- a step: nobody runs, or somebody

  pub step_nobody : (refusal : Refusal) → ok_or (who_runs kept) Nobody ≡ Err refusal →
      turned_away kept (number_of refusal) ≡ event_in table kept (step time)
  step_nobody refusal e = go (who_runs kept) refl e
    where
      go : (who : Option ℕ) → who_runs kept ≡ who → ok_or who Nobody ≡ Err refusal → turned_away kept (number_of refusal) ≡ event_in table kept (step time)
      go None q f =
          let same : refusal ≡ Nobody = cc in
          ap (λ (r : Refusal). turned_away kept (number_of r)) same
          ∙ sym (event_away table kept (step time) NOBODY (later (le-ltb _ _ timed.back) (later (lt-leb _ _ timed.end) (here refl (none_ready_lem kept q)))))
      go (Some k) q f = never (cc)

pub runs_some : (kept : Kept) (i : ℕ) → ok_or (who_runs kept) Nobody ≡ Ok i → who_runs kept ≡ Some i
runs_some kept i e = go (who_runs kept) refl e
  where
    go : (who : Option ℕ) → who_runs kept ≡ who → ok_or who Nobody ≡ Ok i → who_runs kept ≡ Some i
    go None q f = never (cc)
    go (Some k) q f = q ∙ ap Some (cc)
