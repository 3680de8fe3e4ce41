-- The bytes of a disk in a window.
use Rattle.std.proofs.Common.{◌≡◌, sym, ◌∙◌, ap, ℕ, ◌+◌, ◌-◌, ◌≤◌, List, [], length, take, drop, arith, Option, Some, None, length-drop}
use Rattle.std.proofs.lemmas.List.{drop-take, drop-drop, take-take, length-take-le}
use Rattle.spool_disk.specs.Disk.{Reads}

-- No bytes are the bytes from any offset on.
pub no_bytes : (told : Option (List ℕ)) (at : ℕ) (got : List ℕ) → got ≡ [] → Reads told at got
no_bytes None at got is = tt
no_bytes (Some bytes) at got is = is ∙ ap (λ (l : List ℕ). take (length l) (drop at bytes)) (sym is)

-- A part of the bytes that were read.
part_of : (start k n : ℕ) (got bytes : List ℕ) → got ≡ take (length got) (drop start bytes) → k + n ≤ length got → take n (drop k got) ≡ take n (drop (start + k) bytes)
part_of start k n got bytes is fits =
    let m = length got - k in
    let split : length got ≡ k + m = omega arith in
    ap (λ (l : List ℕ). take n (drop k l)) is
    ∙ ap (λ (j : ℕ). take n (drop k (take j (drop start bytes)))) split
    ∙ ap (take n) (drop-take k m (drop start bytes))
    ∙ take-take n m (drop k (drop start bytes)) (omega arith)
    ∙ ap (take n) (drop-drop k start bytes)

pub reads_part : (told : Option (List ℕ)) (start place n : ℕ) (got into : List ℕ) → Reads told start got → start ≤ place → place - start + n ≤ length got → into ≡ take n (drop (place - start) got) → Reads told place into
reads_part None start place n got into reads low fits is = tt
reads_part (Some bytes) start place n got into reads low fits is =
    let long : length into ≡ n = ap length is ∙ length-take-le n (drop (place - start) got) (omega (arith, length-drop (place - start) got)) in
    let at : start + (place - start) ≡ place = omega arith in
    is
    ∙ part_of start (place - start) n got bytes reads fits
    ∙ ap (λ (j : ℕ). take n (drop j bytes)) at
    ∙ ap (λ (j : ℕ). take j (drop place bytes)) (sym long)
