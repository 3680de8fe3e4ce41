-- The pieces of a document.
use Rattle.std.proofs.Common.{◌≡◌, ℕ, zero, suc, ◌+◌, ◌*◌, ◌-◌, ◌/◌, ◌≤◌, List, [], ◌∷◌, ◌++◌, length, take, drop, map, refl, sym, ap, ◌∙◌, arith, length-append, length-drop}
use Rattle.std.proofs.lemmas.Nat.{div-mul-add}
use Rattle.std.proofs.lemmas.List.{take-append-le, map-append}
use Rattle.spool_types.specs.Limits.{longest_send}
use Rattle.spool_types.specs.State.{Job}
use Rattle.spool_types.specs.declared.listing.Row.{Row}
use Rattle.spool_types.specs.declared.listing.Row.TheVariants.{Job as JobRow, Piece}
use Rattle.job_table.specs.Listing.{parts, pieces, job_rows}

pub nothing_of : {X : Type 0} (xs : List X) → length xs ≡ 0 → xs ≡ []
nothing_of [] e = refl
nothing_of (x ∷ xs) e = absurd (omega arith)

pub take_all : {X : Type 0} (n : ℕ) (xs : List X) → length xs ≤ n → take n xs ≡ xs
take_all zero [] le = refl
take_all (suc n) [] le = refl
take_all zero (x ∷ xs) le = absurd (omega arith)
take_all (suc n) (x ∷ xs) le = ap (λ ys. x ∷ ys) (take_all n xs (omega arith))

drop_front : {X : Type 0} (n : ℕ) (xs ys : List X) → n ≤ length xs → drop n (xs ++ ys) ≡ drop n xs ++ ys
drop_front zero xs ys le = refl
drop_front (suc n) [] ys le = absurd (omega arith)
drop_front (suc n) (x ∷ xs) ys le = drop_front n xs ys (omega arith)

-- One more part, after full parts.
parts_more : (longest n : ℕ) (xs bytes : List ℕ) → length xs ≡ n * longest → length bytes ≤ longest → parts longest (suc n) (xs ++ bytes) ≡ parts longest n xs ++ bytes ∷ []
parts_more longest zero xs bytes len le =
    ap (λ ys. take longest (ys ++ bytes) ∷ []) (nothing_of xs (omega (arith, len))) ∙ ap (λ ys. ys ∷ []) (take_all longest bytes le)
parts_more longest (suc n) xs bytes len le =
    let long : longest ≤ length xs = omega (arith, len) in
    let rest : length (drop longest xs) ≡ n * longest = omega (arith, len, length-drop longest xs) in
    (λ i. take-append-le longest xs bytes long i ∷ parts longest (suc n) (drop_front longest xs bytes long i))
    ∙ ap (λ ys. take longest xs ∷ ys) (parts_more longest n (drop longest xs) bytes rest le)

whole_count : (len n : ℕ) → len ≡ n * 65536 → (len + 65535) / 65536 ≡ n
whole_count len n is = ap (λ m. (m + 65535) / 65536) is ∙ div-mul-add n 65536 65535 (omega arith)

more_count : (len more n : ℕ) → len ≡ n * 65536 → 1 ≤ more → more ≤ 65536 → (len + more + 65535) / 65536 ≡ suc n
more_count len more n is some le =
    let e : len + more + 65535 ≡ suc n * 65536 + (more - 1) = omega arith in
    ap (λ m. m / 65536) e ∙ div-mul-add (suc n) 65536 (more - 1) (omega arith)

pub pieces_more : (xs bytes : List ℕ) (n : ℕ) → length xs ≡ n * longest_send → 1 ≤ length bytes → length bytes ≤ longest_send → pieces (xs ++ bytes) ≡ pieces xs ++ bytes ∷ []
pieces_more xs bytes n len some le =
    let count : (length (xs ++ bytes) + 65535) / 65536 ≡ suc n = ap (λ m. (m + 65535) / 65536) (length-append xs bytes) ∙ more_count (length xs) (length bytes) n len some le in
    ap (λ m. parts longest_send m (xs ++ bytes)) count
    ∙ parts_more longest_send n xs bytes len le
    ∙ ap (λ m. parts longest_send m xs ++ bytes ∷ []) (sym (whole_count (length xs) n len))

-- One more row, after the rows of a job.
pub job_rows_more : (r : Job) (document bytes : List ℕ) (n : ℕ) → length document ≡ n * longest_send → 1 ≤ length bytes → length bytes ≤ longest_send → job_rows r (document ++ bytes) ≡ job_rows r document ++ Piece r.id bytes ∷ []
job_rows_more r document bytes n len some le =
    let piece : List ℕ → Row = λ part. Piece r.id part in
    ap (λ rows. JobRow r ∷ rows) (ap (map piece) (pieces_more document bytes n len some le) ∙ map-append piece (pieces document) (bytes ∷ []))
