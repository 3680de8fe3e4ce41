-- The time of the service goes on with the steady clock.
use Rattle.std.proofs.Common.{◌≡◌, ℕ, ◌+◌, ◌-◌, ◌*◌, ◌^◌, ◌≤◌, ◌<◌, ◌++◌, min, max, List, [], ◌∷◌, Option, None, Some, refl, sym, subst, ap, arith, IsTrue, IsSomeAnd, unwrap_or}
use Rattle.std.proofs.lemmas.Bool.Decides.{nat_tests}
use Rattle.service_rules.specs.Bounds.{longest_doubt}
use Rattle.service_rules.specs.ServiceTime.{AreAllAhead, after, base_of, is_far, next, next_by}
use Rattle.service_rules.specs.declared.service_time.Reading.{Reading}
use Rattle.service_rules.specs.declared.service_time.ServiceTime.{ServiceTime}

-- ## One reading

next_at : (base steady : ℕ) (ahead system : Option ℕ) → base ≤ (next_by base steady ahead system).time
next_at base steady ahead None = omega arith
next_at base steady ahead (Some system) = grind (arith, nat_tests)

steady_at : (base steady : ℕ) (ahead system : Option ℕ) → (next_by base steady ahead system).steady ≡ steady
steady_at base steady ahead None = refl
steady_at base steady ahead (Some system) = grind (arith, nat_tests)

-- A system's clock that has been far ahead for less than ten minutes.
held_at : (base steady first : ℕ) (ahead system : Option ℕ) → IsSomeAnd system (λ s. IsTrue (is_far base s)) → first ≤ unwrap_or ahead steady →
    steady < first + longest_doubt → next_by base steady ahead system ≡ record { time = base; steady = steady; ahead = Some (unwrap_or ahead steady) }
held_at base steady first ahead None far begun short = elim far [ ]
held_at base steady first ahead (Some system) far begun short = grind (arith, nat_tests)

begun_at : (first steady now : ℕ) (ahead : Option ℕ) → first ≤ unwrap_or ahead steady → first ≤ steady → steady ≤ now → first ≤ unwrap_or ahead now
begun_at first steady now None begun from later = omega arith
begun_at first steady now (Some since) begun from later = begun

-- ## All readings

-- The steady clock is not before its first reading.
pub steady_on : (t : ServiceTime) (readings : List Reading) → t.steady ≤ (after t readings).steady
steady_on t [] = omega arith
steady_on t (r ∷ rest) =
    let one : (next t r).steady ≡ max t.steady r.steady = steady_at (base_of t r) (max t.steady r.steady) t.ahead r.system in
    let later : (next t r).steady ≤ (after (next t r) rest).steady = steady_on (next t r) rest in
    omega arith

pub on : (t : ServiceTime) (readings : List Reading) → min t.time (2 ^ 64 - 1) ≤ (after t readings).time
on t [] = omega arith
on t (r ∷ rest) =
    let one : base_of t r ≤ (next t r).time = next_at (base_of t r) (max t.steady r.steady) t.ahead r.system in
    let later : min (next t r).time (2 ^ 64 - 1) ≤ (after (next t r) rest).time = on (next t r) rest in
    omega arith

pub over : (t : ServiceTime) (readings : List Reading) (last : Reading) (n : ℕ) → t.steady + n ≤ last.steady →
    min (t.time + n) (2 ^ 64 - 1) ≤ (after t (readings ++ last ∷ [])).time
over t [] last n passed =
    let one : base_of t last ≤ (next t last).time = next_at (base_of t last) (max t.steady last.steady) t.ahead last.system in
    omega arith
over t (r ∷ rest) last n passed =
    let one : base_of t r ≤ (next t r).time = next_at (base_of t r) (max t.steady r.steady) t.ahead r.system in
    let steady : (next t r).steady ≡ max t.steady r.steady = steady_at (base_of t r) (max t.steady r.steady) t.ahead r.system in
    let rests : min (next t r).time (2 ^ 64 - 1) ≤ (after (next t r) (rest ++ last ∷ [])).time = on (next t r) (rest ++ last ∷ []) in
    let later : (next t r).steady + (n - (r.steady - t.steady)) ≤ last.steady →
    min ((next t r).time + (n - (r.steady - t.steady))) (2 ^ 64 - 1) ≤ (after (next t r) (rest ++ last ∷ [])).time =
    over (next t r) rest last (n - (r.steady - t.steady)) in
    grind arith

pub at_table : (t : ServiceTime) (readings : List Reading) (last : Reading) → last.table * 1000 ≤ (after t (readings ++ last ∷ [])).time
at_table t [] last =
    let one : base_of t last ≤ (next t last).time = next_at (base_of t last) (max t.steady last.steady) t.ahead last.system in
    omega arith
at_table t (r ∷ rest) last = at_table (next t r) rest last

held_from : (time first : ℕ) (t : ServiceTime) (readings : List Reading) → AreAllAhead t time readings → time < 2 ^ 64 →
    first ≤ t.steady → first ≤ unwrap_or t.ahead t.steady → t.time ≡ min (time + (t.steady - first)) (2 ^ 64 - 1) →
    (after t readings).steady < first + longest_doubt → (after t readings).time ≡ min (time + ((after t readings).steady - first)) (2 ^ 64 - 1)
held_from time first t [] ahead fits from begun is short = is
held_from time first t (r ∷ rest) ahead fits from begun is short =
    let steady : (next t r).steady ≡ max t.steady r.steady = steady_at (base_of t r) (max t.steady r.steady) t.ahead r.system in
    let later : (next t r).steady ≤ (after (next t r) rest).steady = steady_on (next t r) rest in
    let begins : first ≤ unwrap_or t.ahead (max t.steady r.steady) = begun_at first t.steady (max t.steady r.steady) t.ahead begun from (omega arith) in
    let held : next t r ≡ record { time = base_of t r; steady = max t.steady r.steady; ahead = Some (unwrap_or t.ahead (max t.steady r.steady)) } =
    held_at (base_of t r) (max t.steady r.steady) first t.ahead r.system ahead.0 begins (omega arith) in
    let time_held : (next t r).time ≡ base_of t r = ap (λ (s : ServiceTime). s.time) held in
    let begins_next : first ≤ unwrap_or (next t r).ahead (next t r).steady =
    subst (λ (s : ServiceTime). first ≤ unwrap_or s.ahead s.steady) (sym held) begins in
    let table : r.table * 1000 ≤ time = ahead.1 in
    held_from time first (next t r) rest ahead.2 fits (omega arith) begins_next (omega arith) short

pub held : (t : ServiceTime) (readings : List Reading) → t.ahead ≡ None → t.time < 2 ^ 64 → AreAllAhead t t.time readings →
    (after t readings).steady < t.steady + longest_doubt →
    (after t readings).time ≡ min (t.time + ((after t readings).steady - t.steady)) (2 ^ 64 - 1)
held t readings none fits ahead short =
    held_from t.time t.steady t readings ahead fits (omega arith) (subst (λ a. t.steady ≤ unwrap_or a t.steady) (sym none) (omega arith)) (omega arith) short
