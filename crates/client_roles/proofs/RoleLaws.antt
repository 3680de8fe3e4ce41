-- The table of roles, by cases of who the client is.
use Rattle.std.proofs.Common.{◌≡◌, ℕ, true, false, ◌||◌, List, Some, refl, ap, sym, ◌∙◌}
use Rattle.std.specs.Cmp.Lexicographic.{bytes_decides}
use Rattle.spool_types.specs.State.{State, Job, job_at}
use Rattle.client_reader.specs.declared.ask.Ask.{Ask}
use Rattle.client_standing.specs.ClientStanding.{ClientStanding, has_made, is_operator, is_operator_by, is_user, owns}
use Rattle.client_standing.specs.declared.caller.Caller.{Caller}
use Rattle.client_standing.specs.declared.caller.Caller.TheVariants.{Unproved, User, Operator}
use Rattle.client_standing.specs.declared.rules.Trust.{Trust}
use Rattle.client_standing.specs.declared.rules.Trust.TheVariants as trusts
use Rattle.client_roles.specs.RoleTable.{Role, Request, concerns, creates, is_allowed, is_permitted, looks, may_change, operator, operates, request_of, role_by, role_of, stranger, user}

-- The table at a request.
at_request : (c : ClientStanding) (s : State) (ask : Ask) (request : Request) → request_of ask ≡ request → is_allowed c s ask ≡ is_permitted c s (role_of c) request
at_request c s ask request is = ap (is_permitted c s (role_of c)) is

-- ## A job

other_job : (c : ClientStanding) (s : State) (trust : Trust) (caller : Caller) (j : ℕ) (r : Job) → is_operator_by trust caller ≡ false → job_at s j ≡ Some r →
    is_permitted c s (role_by trust caller) (concerns j) ≡ owns c r
other_job c s trusts.All Unproved j r none job = cc
other_job c s trusts.None Unproved j r none job = ap (may_change c) job
other_job c s trust (User name) j r none job = ap (may_change c) job
other_job c s trust (Operator name) j r none job = cc

pub only_owners : (c : ClientStanding) (s : State) (ask : Ask) (j : ℕ) (r : Job) → is_operator c ≡ false → request_of ask ≡ concerns j → job_at s j ≡ Some r → is_allowed c s ask ≡ owns c r
only_owners c s ask j r none is job = at_request c s ask (concerns j) is ∙ other_job c s c.rules.trust c.caller j r none job

pub only_makers : (c : ClientStanding) (s : State) (ask : Ask) (j : ℕ) (r : Job) → c.caller ≡ Unproved → c.rules.trust ≡ trusts.None → request_of ask ≡ concerns j → job_at s j ≡ Some r →
    is_allowed c s ask ≡ has_made c.made r.id
only_makers c s ask j r unproved untrusted is job =
    only_owners c s ask j r (ap (is_operator_by c.rules.trust) unproved ∙ ap (λ (trust : Trust). is_operator_by trust Unproved) untrusted) is job
    ∙ ap (λ (caller : Caller). is_user caller r.user || has_made c.made r.id) unproved

-- ## A new job

pub own_name : (c : ClientStanding) (s : State) (ask : Ask) (own name : List ℕ) → c.caller ≡ User own → request_of ask ≡ creates name → is_allowed c s ask ≡ true → own ≡ name
own_name c s ask own name proved is allowed =
    (bytes_decides own name).0
    (sym (ap (λ (caller : Caller). is_permitted c s (role_by c.rules.trust caller) (creates name)) proved)
    ∙ sym (at_request c s ask (creates name) is)
    ∙ allowed)

-- ## Everything else

operating : (c : ClientStanding) (s : State) (trust : Trust) (caller : Caller) → is_permitted c s (role_by trust caller) operates ≡ is_operator_by trust caller
operating c s trusts.All Unproved = refl
operating c s trusts.None Unproved = refl
operating c s trust (User name) = refl
operating c s trust (Operator name) = refl

pub only_operators : (c : ClientStanding) (s : State) (ask : Ask) → request_of ask ≡ operates → is_allowed c s ask ≡ is_operator c
only_operators c s ask is = at_request c s ask operates is ∙ operating c s c.rules.trust c.caller

any_request : (c : ClientStanding) (s : State) (trust : Trust) (caller : Caller) (request : Request) → is_operator_by trust caller ≡ true → is_permitted c s (role_by trust caller) request ≡ true
any_request c s trusts.All Unproved request is = refl
any_request c s trusts.None Unproved request is = cc
any_request c s trust (User name) request is = cc
any_request c s trust (Operator name) request is = refl

pub operators_may : (c : ClientStanding) (s : State) (ask : Ask) → is_operator c ≡ true → is_allowed c s ask ≡ true
operators_may c s ask is = any_request c s c.rules.trust c.caller (request_of ask) is

looking : (c : ClientStanding) (s : State) (role : Role) → is_permitted c s role looks ≡ true
looking c s stranger = refl
looking c s (user name) = refl
looking c s operator = refl

pub anybody_looks : (c : ClientStanding) (s : State) (ask : Ask) → request_of ask ≡ looks → is_allowed c s ask ≡ true
anybody_looks c s ask is = at_request c s ask looks is ∙ looking c s (role_of c)
