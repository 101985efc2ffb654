-- A job and what is kept, with one field changed: a rule names the fields that it changes and no other, so that a new field is written here and in
-- `no_job_since` and `no_job`, or `fresh`, and no rule moves. Assumes nothing.
use Rattle.std.specs.Prelude.{ℕ, List, set}
use Rattle.machine.specs.declared.Job.{Job}
use Rattle.machine.specs.declared.Kept.{Kept}

-- ---- of a job

abbrev pub with_base : ℕ → Job → Job
with_base base job = record {
  base = base;
  active = job.active;
  number = job.number;
  place = job.place;
  saved = job.saved;
  last = job.last;
}

abbrev pub with_active : ℕ → Job → Job
with_active active job = record {
  base = job.base;
  active = active;
  number = job.number;
  place = job.place;
  saved = job.saved;
  last = job.last;
}

abbrev pub with_number : ℕ → Job → Job
with_number number job = record {
  base = job.base;
  active = job.active;
  number = number;
  place = job.place;
  saved = job.saved;
  last = job.last;
}

abbrev pub with_place : ℕ → Job → Job
with_place place job = record {
  base = job.base;
  active = job.active;
  number = job.number;
  place = place;
  saved = job.saved;
  last = job.last;
}

abbrev pub with_saved : List ℕ → Job → Job
with_saved saved job = record {
  base = job.base;
  active = job.active;
  number = job.number;
  place = job.place;
  saved = saved;
  last = job.last;
}

-- ---- of what is kept

abbrev pub with_clock : ℕ → Kept → Kept
with_clock clock kept = record {
  clock = clock;
  count = kept.count;
  ready = kept.ready;
  had = kept.had;
  rows = kept.rows;
}

abbrev pub with_count : ℕ → Kept → Kept
with_count count kept = record {
  clock = kept.clock;
  count = count;
  ready = kept.ready;
  had = kept.had;
  rows = kept.rows;
}

abbrev pub with_ready : ℕ → Kept → Kept
with_ready ready kept = record {
  clock = kept.clock;
  count = kept.count;
  ready = ready;
  had = kept.had;
  rows = kept.rows;
}

abbrev pub with_had : ℕ → Kept → Kept
with_had had kept = record {
  clock = kept.clock;
  count = kept.count;
  ready = kept.ready;
  had = had;
  rows = kept.rows;
}

-- The row of task i.
abbrev pub with_row : ℕ → Job → Kept → Kept
with_row i job kept = record {
  clock = kept.clock;
  count = kept.count;
  ready = kept.ready;
  had = kept.had;
  rows = set kept.rows i job;
}
