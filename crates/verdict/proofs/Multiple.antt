-- `multiple_of a b` is the least common multiple of two positive numbers, and P, `multiple table`, that of all the periods of a table, of any
-- number of them: every T divides it, it divides every common multiple, and it is positive. And the early stop is right: what is
-- reached on the way divides what comes in the end, so once it has passed a limit P has.
-- The idea, for two: L = a / g * b with g their greatest common divisor. Of a common multiple m take d, the greatest common divisor of m and L.
-- It is a common multiple too, so a * b / d divides a and b, hence g; and since g * L is a * b, L divides d, hence m.
-- Assumes nothing.
use Prim.Native.Nat.{ℕ, zero, suc, ◌≤◌, ◌<◌, ◌*◌, ◌/◌, ◌∣◌}
use mathlib.Core.Path.{◌≡◌, refl, sym, subst, ap, ◌∙◌}
use mathlib.Core.List.{List, [], ◌∷◌}
use native.Mathlib.Nat.{dvd_refl, dvd_trans, dvd-mul_left, dvd-mul_right, le_of_dvd, pos_of_dvd_of_pos, mul-pos, one-dvd, mul-dvd-mul_right, dvd_of_mul-dvd-mul_left, mul-div_cancel', mul_comm, mul_assoc, mul-zero}
use native.Mathlib.Omega.{arith}
use Rattle.table.specs.Table.{Task, Table}
use Rattle.table.specs.Valid.{Valid}
use Rattle.verdict.specs.Multiple.{divisor_of, multiple_of, multiple_with, multiple, LeastCommonMultiple}
use Rattle.numbers.specs.Each.{Each}
use Rattle.verdict.proofs.Each.{Periods, each_all, each_at, valid_periods}
use Rattle.verdict.proofs.Divisor.{divisor_left, divisor_right, divisor_greatest}

-- ---- of two numbers

-- the greatest common divisor times the least common multiple is the product
pub divisor_multiple : (a b : ℕ) → divisor_of a b * multiple_of a b ≡ a * b
unfolding multiple_of
divisor_multiple a b =
    sym (mul_assoc (divisor_of a b) (a / divisor_of a b) b) ∙ ap (λ (x : ℕ). x * b) (mul-div_cancel' (divisor_of a b) (divisor_left a b))

pub multiple_right : (a b : ℕ) → b ∣ multiple_of a b
unfolding multiple_of
multiple_right a b = dvd-mul_left b (a / divisor_of a b)

pub multiple_pos : (a b : ℕ) → zero < a → zero < b → zero < multiple_of a b
multiple_pos a b p q = go (multiple_of a b) refl
  where
    go : (m : ℕ) → multiple_of a b ≡ m → zero < multiple_of a b
    go zero e =
        let z : a * b ≡ 0 = sym (divisor_multiple a b) ∙ ap (λ (x : ℕ). divisor_of a b * x) e ∙ mul-zero (divisor_of a b) in
        absurd (omega (arith, mul-pos p q))
    go (suc m) e = omega arith

-- a times what b has beyond the common divisor
pub multiple_left : (a b : ℕ) → a ∣ multiple_of a b
unfolding multiple_of
multiple_left a b =
    let g : ℕ = divisor_of a b in
    let e : a / g * b ≡ a * (b / g) =
    ap (λ (x : ℕ). a / g * x) (sym (mul-div_cancel' g (divisor_right a b))) ∙ sym (mul_assoc (a / g) g (b / g))
    ∙ ap (λ (x : ℕ). x * (b / g)) (mul_comm (a / g) g ∙ mul-div_cancel' g (divisor_left a b)) in
    subst (λ (x : ℕ). a ∣ x) (sym e) (dvd-mul_right a (b / g))

pub multiple_least : (a b m : ℕ) → zero < a → zero < b → a ∣ m → b ∣ m → multiple_of a b ∣ m
multiple_least a b m p q am bm =
    let big : ℕ = multiple_of a b in
    let g : ℕ = divisor_of a b in
    let d : ℕ = divisor_of m big in
    let ad : a ∣ d = divisor_greatest a m big am (multiple_left a b) in
    let bd : b ∣ d = divisor_greatest b m big bm (multiple_right a b) in
    let dab : d ∣ a * b =
    subst (λ (x : ℕ). d ∣ x) (divisor_multiple a b) (dvd_trans d (divisor_right m big) (dvd-mul_left big g)) in
    let e : ℕ = a * b / d in
    let de : d * e ≡ a * b = mul-div_cancel' d dab in
    let eb : e ∣ b = dvd_of_mul-dvd-mul_left {k = a} e p (subst (λ (x : ℕ). a * e ∣ x) de (mul-dvd-mul_right a ad e)) in
    let ea : e ∣ a =
    dvd_of_mul-dvd-mul_left {k = b} e q (subst (λ (x : ℕ). b * e ∣ x) (de ∙ mul_comm a b) (mul-dvd-mul_right b bd e)) in
    let eg : e ∣ g = divisor_greatest e a b ea eb in
    let el : e * big ∣ e * d =
    subst (λ (x : ℕ). e * big ∣ x) (divisor_multiple a b ∙ sym de ∙ mul_comm d e) (mul-dvd-mul_right e eg big) in
    let ld : big ∣ d = dvd_of_mul-dvd-mul_left {k = e} big (pos_of_dvd_of_pos ea p) el in
    dvd_trans big ld (divisor_left m big)

-- ---- of a number and the periods of some tasks

-- m is a multiple of each T
abbrev pub Multiples : List Task → ℕ → Type 0
Multiples tasks m = Each (λ (task : Task). task.T ∣ m) tasks

pub with_nil : (p : ℕ) → multiple_with p [] ≡ p
unfolding multiple_with
with_nil p = refl

pub with_cons : (p : ℕ) (task : Task) (tasks : List Task) → multiple_with p (task ∷ tasks) ≡ multiple_with (multiple_of p task.T) tasks
unfolding multiple_with
with_cons p task tasks = refl

-- what is reached divides what comes in the end: the early stop is right
pub with_divides : (p : ℕ) (tasks : List Task) → p ∣ multiple_with p tasks
with_divides p [] = rw with_nil (dvd_refl p)
with_divides p (task ∷ tasks) =
    rw with_cons (dvd_trans p (multiple_left p task.T) (with_divides (multiple_of p task.T) tasks))

pub with_pos : (p : ℕ) (tasks : List Task) → zero < p → Periods tasks → zero < multiple_with p tasks
with_pos p [] l h = rw with_nil l
with_pos p (task ∷ tasks) l h =
    rw with_cons (with_pos (multiple_of p task.T) tasks (multiple_pos p task.T l h.0) h.1)

-- so that once a limit is passed P has passed it
pub with_passes : (limit p : ℕ) (tasks : List Task) → limit < p → Periods tasks → limit < multiple_with p tasks
with_passes limit p tasks l h =
    let e : p ≤ multiple_with p tasks = le_of_dvd (with_pos p tasks (omega arith) h) (with_divides p tasks) in
    omega arith

pub with_multiples : (p : ℕ) (tasks : List Task) → Multiples tasks (multiple_with p tasks)
with_multiples p [] = tt
with_multiples p (task ∷ tasks) =
    subst (Multiples (task ∷ tasks)) (sym (with_cons p task tasks))
    (dvd_trans task.T (multiple_right p task.T) (with_divides (multiple_of p task.T) tasks), with_multiples (multiple_of p task.T) tasks)

pub with_least : (p m : ℕ) (tasks : List Task) → zero < p → Periods tasks → p ∣ m → Multiples tasks m → multiple_with p tasks ∣ m
with_least p m [] l h d ms = rw with_nil d
with_least p m (task ∷ tasks) l h d ms =
    rw with_cons
    (with_least (multiple_of p task.T) m tasks (multiple_pos p task.T l h.0) h.1 (multiple_least p task.T m l h.0 d ms.0) ms.1)

-- ---- P

-- every T divides P
pub multiple_multiples : (table : Table) → Multiples table.tasks (multiple table)
multiple_multiples table = with_multiples 1 table.tasks

-- P divides every common multiple
pub multiple_divides : (table : Table) (m : ℕ) → Periods table.tasks → Multiples table.tasks m → multiple table ∣ m
multiple_divides table m h ms = with_least 1 m table.tasks (omega arith) h (one-dvd m) ms

pub multiple_positive : (table : Table) → Periods table.tasks → zero < multiple table
multiple_positive table h = with_pos 1 table.tasks (omega arith) h

-- P is the least common multiple of the periods
pub multiple_is_least : (table : Table) → Valid table → LeastCommonMultiple table (multiple table)
multiple_is_least table v = record {
  common = (multiple_positive table (valid_periods table v), each_at (λ (task : Task). task.T ∣ multiple table) table.tasks (multiple_multiples table));
  least = λ m c. le_of_dvd c.0 (multiple_divides table m (valid_periods table v) (each_all (λ (task : Task). task.T ∣ m) table.tasks c.1));
}
