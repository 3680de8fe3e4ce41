-- The page of a list of references is a page of what they point to.
use Rattle.std.proofs.Common.{◌≡◌, ◌∙◌, ℕ, List, Option, None, Some, ap, drop, map, refl, sym}
use Rattle.std.proofs.lemmas.List.{drop-map, take-map}
use Rattle.std.specs.Prelude.{filter}
use Rattle.std.specs.Borrow.{Bor}
use Rattle.ipp_answers.specs.JobQueries.{is_asked, limited, page_of, selected, skipped_by}
use Rattle.ipp_answers.specs.declared.facts.JobFacts.{JobFacts}
use Rattle.ipp_answers.specs.declared.queries.JobQuery.{JobQuery}
use Rattle.ipp_answers.proofs.SelectedRows.{chosen}

map_limited : {A B : Type 0} (f : A → B) (limit : Option ℕ) (xs : List A) → map f (limited limit xs) ≡ limited limit (map f xs)
map_limited f None xs = refl
map_limited f (Some n) xs = sym (take-map f n xs)

pub paged : (q : JobQuery) (jobs found page : List (Bor JobFacts)) → found ≡ filter (λ job. is_asked q job.now) jobs → page ≡ page_of q found
    → map (λ job. job.now) page ≡ selected q (map (λ job. job.now) jobs)
paged q jobs found page is so =
    let now : Bor JobFacts → JobFacts = λ job. job.now in
    let k : ℕ = skipped_by q.first_index in
    ap (map now) so
    ∙ (map_limited now q.limit (drop k found)
    ∙ ap (λ t. limited q.limit t) (sym (drop-map now k found) ∙ ap (λ t. drop k t) (ap (map now) is ∙ chosen now (is_asked q) jobs (map now jobs) refl)))
