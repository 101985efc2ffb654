-- Document 01's table A, so that the laws speak of something: its 26 words pass, they are the words of the table that they say, and that table is
-- valid. And each refusal number is given for some list. Assumes nothing.
use mathlib.Core.Path.{◌≡◌, refl}
use mathlib.Core.List.{List, [], ◌∷◌}
use Prim.Native.Nat.{ℕ}
use Rattle.table.specs.Table.{lock, unlock, Table}
use Rattle.table.specs.Check.{sound, refused, check_of, word_in, step_in, plan_in, task_in, tasks_in}
use Rattle.numbers.specs.Answers.{SHORT, COUNT, RANGE, STEP, NEST, CROWDED}
use Rattle.table.specs.Held.{holds}
use Rattle.table.specs.Floor.{locks, deadlines_of, least, floor_of}
use Rattle.table.specs.Valid.{Valid}
use Rattle.table.specs.Words.{plan_words, task_words, tasks_words, words_of}
use Rattle.table.proofs.Laws.{checked_valid}

words : List ℕ
words =
    3 ∷ 1 ∷ 20 ∷ 10 ∷ 3 ∷ 0 ∷ 30 ∷ 20 ∷ 9 ∷ 2 ∷ 1 ∷ 0 ∷ 1 ∷ 2 ∷ 0 ∷ 0 ∷ 40 ∷ 30 ∷ 10 ∷ 2 ∷ 1 ∷ 0 ∷ 4 ∷ 2 ∷ 0 ∷ 0 ∷ []

table : Table
table = record {
  resources = 1;
  tasks = record { T = 20; D = 10; C = 3; plan = [] }
      ∷ record { T = 30; D = 20; C = 9; plan = lock 0 1 ∷ unlock ∷ [] }
      ∷ record { T = 40; D = 30; C = 10; plan = lock 0 4 ∷ unlock ∷ [] } ∷ [];
}

passes : check_of words ≡ sound table
unfolding check_of word_in step_in plan_in task_in tasks_in holds words table
passes = refl

written : words_of table ≡ words
unfolding words_of tasks_words task_words plan_words words table
written = refl

valid : Valid table
valid = checked_valid words table passes

-- "Floor of resource 0: 20."
floor : floor_of table 0 ≡ 20
unfolding locks deadlines_of least table
floor = refl

-- Two tasks said, one written.
short : check_of (2 ∷ 0 ∷ 20 ∷ 10 ∷ 3 ∷ 0 ∷ []) ≡ refused SHORT 6
unfolding check_of word_in step_in plan_in task_in tasks_in
short = refl

count : check_of (1 ∷ 17 ∷ []) ≡ refused COUNT 1
unfolding check_of word_in step_in plan_in task_in tasks_in
count = refl

range : check_of (1 ∷ 0 ∷ 20 ∷ 0 ∷ []) ≡ refused RANGE 3
unfolding check_of word_in step_in plan_in task_in tasks_in
range = refl

-- A lock of resource 1 where there is one resource.
step : check_of (1 ∷ 1 ∷ 20 ∷ 10 ∷ 3 ∷ 2 ∷ 1 ∷ 1 ∷ 1 ∷ []) ≡ refused STEP 6
unfolding check_of word_in step_in plan_in task_in tasks_in
step = refl

-- A plan that ends holding something: "the index after the plan's last word".
nest : check_of (1 ∷ 1 ∷ 20 ∷ 10 ∷ 3 ∷ 1 ∷ 1 ∷ 0 ∷ 1 ∷ []) ≡ refused NEST 9
unfolding check_of word_in step_in plan_in task_in tasks_in
nest = refl

-- Two sections of 2 one after the other, where C is 3: the second goes over.
crowded : check_of (1 ∷ 1 ∷ 20 ∷ 10 ∷ 3 ∷ 4 ∷ 1 ∷ 0 ∷ 2 ∷ 2 ∷ 0 ∷ 0 ∷ 1 ∷ 0 ∷ 2 ∷ 2 ∷ 0 ∷ 0 ∷ []) ≡ refused CROWDED 12
unfolding check_of word_in step_in plan_in task_in tasks_in
crowded = refl

-- Two of 2 directly inside one of 3: counted against it, and not against C, which is 9.
crowded_inside : check_of (1 ∷ 2 ∷ 20 ∷ 10 ∷ 9 ∷ 6 ∷ 1 ∷ 0 ∷ 3 ∷ 1 ∷ 1 ∷ 2 ∷ 2 ∷ 0 ∷ 0 ∷ 1 ∷ 1 ∷ 2 ∷ []) ≡ refused CROWDED 15
unfolding check_of word_in step_in plan_in task_in tasks_in holds
crowded_inside = refl

-- The same with 2 and 1, which fill the 3: what is missing then is only a word.
filled : check_of (1 ∷ 2 ∷ 20 ∷ 10 ∷ 9 ∷ 6 ∷ 1 ∷ 0 ∷ 3 ∷ 1 ∷ 1 ∷ 2 ∷ 2 ∷ 0 ∷ 0 ∷ 1 ∷ 1 ∷ 1 ∷ []) ≡ refused SHORT 18
unfolding check_of word_in step_in plan_in task_in tasks_in holds
filled = refl
