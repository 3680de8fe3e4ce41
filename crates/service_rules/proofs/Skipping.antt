-- Jobs up to a number that may not be purged are skipped.
use Rattle.std.proofs.Common.{◌≡◌, ℕ, ◌≤◌, Bool, true, false, cond, List, [], ◌∷◌, map, filter, take, nat_lt, refl, ap, ◌∙◌, sym, arith}
use Rattle.std.proofs.lemmas.Bool.Decides.{nat_tests}
use Rattle.std.proofs.lemmas.List.Elements.{Contains-push, Contains-append_left, Contains-append_right}
use Rattle.service_rules.specs.Purges.{above, is_purgeable, IsSweptTo, purged}
use Rattle.service_rules.specs.declared.purges.Candidate.{Candidate}

up_to : (cursor number : ℕ) → nat_lt cursor number ≡ false → number ≤ cursor
up_to cursor number not_so = grind (arith, nat_tests)

-- One more job, which is above the number or may not be purged.
one_more : (job : Candidate) (high : Bool) (higher jobs : List Candidate) → (high ≡ false → is_purgeable job ≡ false) → filter is_purgeable higher ≡ filter is_purgeable jobs
    → filter is_purgeable (cond high (job ∷ higher) higher) ≡ filter is_purgeable (job ∷ jobs)
one_more job true higher jobs low same = ap (λ (found : List Candidate). cond (is_purgeable job) (job ∷ found) found) same
one_more job false higher jobs low same =
    same ∙ ap (λ (b : Bool). cond b (job ∷ filter is_purgeable jobs) (filter is_purgeable jobs)) (sym (low refl))

same_purgeable : (cursor : ℕ) (jobs : List Candidate) → IsSweptTo cursor jobs → filter is_purgeable (above cursor jobs) ≡ filter is_purgeable jobs
same_purgeable cursor [] swept = refl
same_purgeable cursor (job ∷ jobs) swept =
    one_more job (nat_lt cursor job.id) (above cursor jobs) jobs
    (λ not_so. swept job (Contains-append_left (job ∷ []) jobs job (Contains-push [] job)) (up_to cursor job.id not_so))
    (same_purgeable cursor jobs (λ other there. swept other (Contains-append_right (job ∷ []) jobs other there)))

pub skipped : (cursor count : ℕ) (jobs : List Candidate) → IsSweptTo cursor jobs → purged count (above cursor jobs) ≡ purged count jobs
skipped cursor count jobs swept = ap (λ (found : List Candidate). take count (map (λ (job : Candidate). job.id) found)) (same_purgeable cursor jobs swept)
