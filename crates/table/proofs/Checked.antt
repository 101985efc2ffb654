-- What the check of a list comes to (`check_of`), from the ends of its readings, and with it what `check::survey` answers. Assumes nothing.
use Prim.Native.Nat.{ℕ, ◌≤◌, ◌<◌}
use mathlib.Core.Path.{◌≡◌, refl, sym, ◌∙◌}
use mathlib.Core.List.{List}
use lib.ListN.{length, take, replicate}
use borrow.Author.Tests.{lt-ltb, le-ltb}
use Rattle.std.specs.Prelude.{Ok, Err}
use Rattle.numbers.specs.Answers.{SHORT, COUNT}
use Rattle.numbers.proofs.Tests.{never}
use Rattle.table.specs.Limits.{most_tasks, most_resources, at_tasks}
use Rattle.table.specs.Table.{Task, Table}
use Rattle.table.specs.Check.{Read, got, bad, ◌and_then◌, word_in, tasks_in, sound, refused, ended, check_of}
use Rattle.table.specs.Map.{starts_from, padded, map_of}
use Rattle.table.specs.Said.{refusal_said, number_in, place_in, survey_said, survey_of}
use Rattle.table.specs.Walk.{refusal_read, end_of}
use Rattle.table.specs.declared.Finding.{Finding}
use Rattle.table.specs.declared.Finding.TheVariants.{Short}
use Rattle.table.proofs.Findings.{refusal}
use Rattle.table.proofs.Passed.{word_got, tasks_got}
use Rattle.table.proofs.Starts.{starts_room}

-- A refusal of the check, as `check::survey` answers it.
survey_refused : (ws : List ℕ) (finding : Finding) → check_of ws ≡ refused (number_in (refusal_said finding)) (place_in (refusal_said finding)) →
    survey_said (Err finding) ≡ survey_of ws
unfolding map_of
survey_refused ws finding e =
    let r = refusal finding in
    let f : check_of ws ≡ refused r.number r.place = rw r.said at e in
    rw (f, r.said)

module _ (ws : List ℕ) where
  -- The first word that is not sound.
  pub first_refused : (finding : Finding) → refusal_read finding ≡ word_in COUNT 1 most_tasks ws 0 → survey_said (Err finding) ≡ survey_of ws
  unfolding check_of
  first_refused finding e = survey_refused ws finding (rw (← e, check_of))

  module _ (n : ℕ) (first : got n 1 ≡ word_in COUNT 1 most_tasks ws 0) where
    -- As many starts as tasks are marked in the array.
    pub first_room : length {A = ℕ} (take n (replicate most_tasks 0)) ≡ n
    first_room = starts_room most_tasks n (word_got COUNT 1 most_tasks ws 0 (sym first)).high

    pub second_refused : (finding : Finding) → refusal_read finding ≡ word_in COUNT 0 most_resources ws 1 → survey_said (Err finding) ≡ survey_of ws
    unfolding check_of
    second_refused finding e = survey_refused ws finding (rw (← first, check_of) (rw (← e)))

    module _ (m : ℕ) (second : got m at_tasks ≡ word_in COUNT 0 most_resources ws 1) where
      abbrev table_of : Read (List Task) → Read Table
      table_of read = read and_then λ tasks end. got (record { resources = m; tasks = tasks }) end

      checks : check_of ws ≡ ended ws (table_of (tasks_in n m ws at_tasks))
      unfolding check_of
      checks = rw (← first, check_of) (rw (← second))

      -- A refused task.
      pub task_refused : (finding : Finding) → refusal_read finding ≡ end_of (tasks_in n m ws at_tasks) → survey_said (Err finding) ≡ survey_of ws
      task_refused finding e = survey_refused ws finding (checks ∙ go (tasks_in n m ws at_tasks) e)
        where
          go : (x : Read (List Task)) → refusal_read finding ≡ end_of x → ended ws (table_of x) ≡ refused (number_in (refusal_said finding)) (place_in (refusal_said finding))
          go (got tasks end) e = never (cc)
          go (bad number place) e =
              let i : number_in (refusal_said finding) ≡ number = cc in
              let j : place_in (refusal_said finding) ≡ place = cc in
              rw (i, j)

      module _ (end : ℕ) (ends : got tt end ≡ end_of (tasks_in n m ws at_tasks)) where
        -- "words remain after the last task"
        pub extra_refused : end < length ws → survey_said (Err (Short end)) ≡ survey_of ws
        extra_refused h = survey_refused ws (Short end) (checks ∙ go (tasks_in n m ws at_tasks) ends)
          where
            go : (x : Read (List Task)) → got tt end ≡ end_of x → ended ws (table_of x) ≡ refused SHORT end
            go (got tasks place) e =
                let j : end ≡ place = cc in
                rw (← j) (rw (lt-ltb end (length ws) h))
            go (bad number place) e = never (cc)

        -- A sound list.
        pub all_sound : (starts : List ℕ) → starts ≡ padded most_tasks (starts_from n ws at_tasks) → length ws ≤ end →
            survey_said (Ok (record { tasks = n; resources = m; starts = starts })) ≡ survey_of ws
        unfolding map_of
        all_sound starts marked h = go (tasks_in n m ws at_tasks) refl ends
          where
            go : (x : Read (List Task)) → tasks_in n m ws at_tasks ≡ x → got tt end ≡ end_of x →
                survey_said (Ok (record { tasks = n; resources = m; starts = starts })) ≡ survey_of ws
            go (got tasks place) f e =
                let j : end ≡ place = cc in
                let l : length tasks ≡ n = (tasks_got n m ws at_tasks f).count in
                let s : check_of ws ≡ sound (record { resources = m; tasks = tasks }) = checks ∙ rw f (rw (← j) (rw (le-ltb end (length ws) h))) in
                rw s (rw (l, marked))
            go (bad number place) f e = never (cc)
