-- BACK and END, which stand at the top of each event's table: what `in_time` says of them. Assumes nothing.
use Prim.Native.Nat.{ℕ}
use mathlib.Core.Path.{◌≡◌, refl, sym, ap}
use mathlib.Core.List.{List, ◌∷◌}
use mathlib.Core.Bool.{Bool, true, false, cond}
use lib.Dec.{ltb, leb}
use borrow.Author.Tests.{ltb-false, leb-false}
use Rattle.std.specs.Prelude.{Ok, Err}
use Rattle.numbers.specs.Answers.{BACK, END}
use Rattle.numbers.proofs.Tests.{never}
use Rattle.table.specs.Limits.{end_of_time}
use Rattle.table.specs.Table.{Table}
use Rattle.machine.specs.Event.{Event, release, step, time_of}
use Rattle.machine.specs.Away.{Ground, Given, here, later, turned_away, event_in}
use Rattle.machine.specs.declared.Kept.{Kept}
use Rattle.machine.proofs.Moves.{Timely, event_away}
use Rattle.dispatch.specs.Heard.{number_of}
use Rattle.dispatch.specs.Parts.{in_time_of}
use Rattle.dispatch.specs.declared.Refusal.{Refusal}
use Rattle.dispatch.specs.declared.Refusal.TheVariants.{Back, End}

-- A time that is turned away is so by the first two rows.
first_rows : (clock time : ℕ) (refusal : Refusal) (below : List Ground) → in_time_of clock time ≡ Err refusal →
    Given (number_of refusal) (record { number = BACK; applies = ltb time clock } ∷ record { number = END; applies = leb end_of_time time } ∷ below)
first_rows clock time refusal below e = go (ltb time clock) refl (leb end_of_time time) refl e
  where
    go : (b : Bool) → ltb time clock ≡ b → (d : Bool) → leb end_of_time time ≡ d → cond b (Err Back) (cond d (Err End) (Ok (tt {0}))) ≡ Err refusal →
        Given (number_of refusal) (record { number = BACK; applies = ltb time clock } ∷ record { number = END; applies = leb end_of_time time } ∷ below)
    go true p d q f = here (let same : Back ≡ refusal = cc in ap number_of same) p
    go false p true q f = later p (here (let same : End ≡ refusal = cc in ap number_of same) q)
    go false p false q f = never (cc)

pub untimely : (table : Table) (kept : Kept) (e : Event) (refusal : Refusal) → in_time_of kept.clock (time_of e) ≡ Err refusal →
    turned_away kept (number_of refusal) ≡ event_in table kept e
untimely table kept (release i time) refusal e = sym (event_away table kept (release i time) (number_of refusal) (first_rows kept.clock time refusal _ e))
untimely table kept (step time) refusal e = sym (event_away table kept (step time) (number_of refusal) (first_rows kept.clock time refusal _ e))

pub timely : (kept : Kept) (time : ℕ) → in_time_of kept.clock time ≡ Ok tt → Timely kept time
timely kept time e = go (ltb time kept.clock) refl (leb end_of_time time) refl e
  where
    go : (b : Bool) → ltb time kept.clock ≡ b → (d : Bool) → leb end_of_time time ≡ d → cond b (Err Back) (cond d (Err End) (Ok (tt {0}))) ≡ Ok tt → Timely kept time
    go true p d q f = never (cc)
    go false p true q f = never (cc)
    go false p false q f = record { back = ltb-false _ _ p; end = leb-false _ _ q }
