-- If there is no slot, no client changes. Otherwise a client that is replaced leaves before the new one enters.
use Rattle.std.proofs.Common.{◌≡◌, ℕ, List, None, refl, inl, inr, ap, sym, ◌∙◌, subst}
use Rattle.slab.specs.Slab.{Slab, Updates, get}
use Rattle.service_rules.specs.ClientAdmission.{IsAdmission}
use Rattle.service_rules.specs.declared.slots.Admission.{Admission}
use Rattle.service_rules.specs.declared.slots.Admission.TheVariants.{Free, InsteadOf}
use Rattle.service_rules.specs.declared.slots.Client.{Client as Heard}
use Rattle.service_loop.specs.AdmissionViews.{heard_of}
use Rattle.service_loop.specs.ClientSlots.{HasGone, IsEntered}
use Rattle.service_loop.specs.ConnectionViews.{ConnectionView}
use Rattle.service_loop.specs.SlotHistories.{HasAdmitted}
use Rattle.service_loop.specs.declared.client.Client.{Client}
use Rattle.service_loop.proofs.clients.Clients.admit.Goals as goal
use Rattle.service_loop.proofs.clients.Clients.admit.Goals.{in-Free, in-InsteadOf+in-Some-1, in-InsteadOf+in-None-1}

pub returns-in-Busy-clause-lets_in : goal.returns-in-Busy-clause-lets_in
returns-in-Busy-clause-lets_in g c =
    let slots = c.args.self.now.slots in
    let gone : HasGone c.admit-admission.result slots slots = (rw c.in-Busy.is (λ key. refl)) in
    record { left = slots; gone = gone; entered = inl (λ key. refl) }

none_gone : {L : Type 0} (admission : Admission) (old left : Slab (Client L)) → admission ≡ Free → left ≡ old → HasGone admission old left
none_gone {L} admission old left is same = subst (λ (a : Admission). HasGone a old left) (sym is) (λ key. ap (λ (s : Slab (Client L)). get s key) same)

one_gone : {L : Type 0} (admission : Admission) (old left removed : Slab (Client L)) (key : ℕ) → admission ≡ InsteadOf key → left ≡ removed → Updates old removed key None → HasGone admission old left
one_gone {L} admission old left removed key is same updates =
    subst (λ (a : Admission). HasGone a old left) (sym is) (subst (λ (s : Slab (Client L)). Updates old s key None) (sym same) updates)

admits : {L : Type 0} (view : ConnectionView L) (places : ℕ) (connection : L) (now : ℕ) (old left new : Slab (Client L)) (clients : List Heard) (admission : Admission) → IsAdmission places clients now admission →
    clients ≡ heard_of old → HasGone admission old left → IsEntered view connection left new → HasAdmitted view places connection now old new
admits view places connection now old left new clients admission is listed gone entered =
    inr (admission, subst (λ (l : List Heard). IsAdmission places l now admission) listed is, record { left = left; gone = gone; entered = entered })

pub returns-in_err-enter-clause-admitted : goal.returns-in_err-enter-clause-admitted
returns-in_err-enter-clause-admitted g c =
    admits g.L.Connection.view c.args.self.now.places c.args.connection c.args.now c.args.self.now.slots c.match-admission.self.slots c.enter.new.self.slots c.deref.result.now c.admit-admission.result c.admit-admission.ensures
    (c.deref.ensures.value ∙ c.in_ok-list_heard.ensures)
    (elim c.match-admission.branch [
      | in-Free w ↦ none_gone c.admit-admission.result c.args.self.now.slots c.match-admission.self.slots w.in-Free.is (ap (λ s. s.slots) w.self-is)
      | in-InsteadOf+in-Some-1 w ↦ one_gone c.admit-admission.result c.args.self.now.slots c.match-admission.self.slots w.try_remove.new.self w.in-InsteadOf.key w.in-InsteadOf.is (ap (λ s. s.slots) w.self-is) w.try_remove.ensures.updates
      | in-InsteadOf+in-None-1 w ↦ one_gone c.admit-admission.result c.args.self.now.slots c.match-admission.self.slots w.try_remove.new.self w.in-InsteadOf.key w.in-InsteadOf.is (ap (λ s. s.slots) w.self-is) w.try_remove.ensures.updates
    ])
    c.enter.ensures.entered

pub returns-clause-admitted : goal.returns-clause-admitted
returns-clause-admitted g c =
    admits g.L.Connection.view c.args.self.now.places c.args.connection c.args.now c.args.self.now.slots c.match-admission.self.slots c.enter.new.self.slots c.deref.result.now c.admit-admission.result c.admit-admission.ensures
    (c.deref.ensures.value ∙ c.in_ok-list_heard.ensures)
    (elim c.match-admission.branch [
      | in-Free w ↦ none_gone c.admit-admission.result c.args.self.now.slots c.match-admission.self.slots w.in-Free.is (ap (λ s. s.slots) w.self-is)
      | in-InsteadOf+in-Some-1 w ↦ one_gone c.admit-admission.result c.args.self.now.slots c.match-admission.self.slots w.try_remove.new.self w.in-InsteadOf.key w.in-InsteadOf.is (ap (λ s. s.slots) w.self-is) w.try_remove.ensures.updates
      | in-InsteadOf+in-None-1 w ↦ one_gone c.admit-admission.result c.args.self.now.slots c.match-admission.self.slots w.try_remove.new.self w.in-InsteadOf.key w.in-InsteadOf.is (ap (λ s. s.slots) w.self-is) w.try_remove.ensures.updates
    ])
    c.enter.ensures.entered
