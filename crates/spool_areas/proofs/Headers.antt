-- The headers that were read determine the current area.
use Rattle.std.proofs.Common.{◌≡◌, ℕ, ◌<◌, ◌≤◌, ◌/◌, List, length, sym, ◌∙◌, ap, subst, arith, Result, Err}
use Rattle.std.proofs.lemmas.Bool.Decides.{nat_tests}
use Rattle.std.specs.Prelude.{if◌then◌else◌, nat_lt}
use Rattle.spool_areas.specs.declared.fault.OpenFault.{OpenFault}
use Rattle.spool_areas.specs.declared.fault.OpenFault.TheVariants.{NotASpool, Damaged, Memory, Disk}
use Rattle.spool_areas.specs.Header.{half, least_area, header_at, chosen, current_area}
use Rattle.spool_areas.specs.PayloadExtents.{IsHeaderFault}

test_below : {X : Type 0} (n : ℕ) (x y : X) → n < least_area → (if nat_lt n least_area then x else y) ≡ x
test_below n x y short = grind (arith, nat_tests)

test_least : {X : Type 0} (n : ℕ) (x y : X) → least_area ≤ n → (if nat_lt n least_area then x else y) ≡ y
test_least n x y long = grind (arith, nat_tests)

pub too_short : (size : ℕ) (bytes : List ℕ) → length bytes ≡ size → size / 2 < 23 → current_area bytes ≡ Err NotASpool
too_short size bytes is short =
    test_below (half (length bytes)) (Err NotASpool) (chosen (half (length bytes)) (header_at 0 bytes) (header_at (half (length bytes)) bytes)) (subst (λ (n : ℕ). half n < least_area) (sym is) short)

pub by_headers : (size : ℕ) (bytes header other : List ℕ) (answer : Result ℕ OpenFault) → length bytes ≡ size → 23 ≤ size / 2 → header ≡ header_at 0 bytes → other ≡ header_at (size / 2) bytes → answer ≡ chosen (size / 2) header other → current_area bytes ≡ answer
by_headers size bytes header other answer is long one two chosen_so =
    test_least (half (length bytes)) (Err NotASpool) (chosen (half (length bytes)) (header_at 0 bytes) (header_at (half (length bytes)) bytes)) (subst (λ (n : ℕ). least_area ≤ half n) (sym is) long)
    ∙ ap (λ (n : ℕ). chosen (half n) (header_at 0 bytes) (header_at (half n) bytes)) is
    ∙ ap (λ (h : List ℕ). chosen (half size) h (header_at (half size) bytes)) (sym one)
    ∙ ap (λ (h : List ℕ). chosen (half size) header h) (sym two)
    ∙ sym chosen_so

pub header_fault : (bytes : List ℕ) (fault : OpenFault) → current_area bytes ≡ Err fault → IsHeaderFault bytes fault
header_fault bytes NotASpool is = is
header_fault bytes (Damaged place) is = is
header_fault bytes Memory is = tt
header_fault bytes Disk is = tt
