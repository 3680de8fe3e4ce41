-- The client that is replaced is idle.
use Rattle.std.proofs.Common.{◌≡◌, ℕ, false, List, IsTrue, ◌∙◌, subst, refl}
use Rattle.std.proofs.lemmas.Bool.{both_ways}
use Rattle.std.specs.List.{Contains}
use Rattle.service_rules.specs.ClientAdmission.{is_idle, IsAdmission}
use Rattle.service_rules.specs.declared.slots.Client.{Client}
use Rattle.service_rules.specs.declared.slots.Admission.{Admission}
use Rattle.service_rules.specs.declared.slots.Admission.TheVariants.{InsteadOf}
use Rattle.service_rules.proofs.slots.clients_that_are_not_idle_stay.Goals as goal

stays : (places : ℕ) (clients : List Client) (now key : ℕ) → IsAdmission places clients now (InsteadOf key) → (c : Client) → is_idle now c ≡ false →
    ((d : Client) → Contains clients d → d.key ≡ c.key → d ≡ c) → key ≡ c.key → ⊥
stays places clients now key (full, (d, named, first)) c awake alone same =
    both_ways (is_idle now c) awake (subst (λ (e : Client). IsTrue (is_idle now e)) (alone d first.there (named ∙ same)) first.idle)

pub returns : goal.returns
returns c = λ places clients now decision is client awake alone same.
    stays places clients now client.key (subst (λ (a : Admission). IsAdmission places clients now a) same is) client awake alone refl
