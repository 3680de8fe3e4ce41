-- The client of a service, as far as its rights depend on it: the rules, who it is, and the jobs that it created.
use Rattle.std.specs.Prelude.{ℕ, Bool, true, false, ◌&&◌, ◌||◌, cond, nat_eq, nat_lt, List, [], ◌∷◌, ◌++◌, length, drop, Option, None, Some}
use Rattle.std.specs.Cmp.Lexicographic.{pointwise}
use Rattle.std.specs.List.{list_any}
use Rattle.spool_types.specs.State.{Job}
use Rattle.client_standing.specs.declared.rules.Trust.{Trust}
use Rattle.client_standing.specs.declared.rules.Trust.TheVariants as trusts
use Rattle.client_standing.specs.declared.rules.RoleRules.{RoleRules}
use Rattle.client_standing.specs.declared.caller.Caller.{Caller}
use Rattle.client_standing.specs.declared.caller.Caller.TheVariants.{Unproved, User, Operator}
use Rattle.client_standing.specs.declared.caller.Proved.{Proved}

-- The rules for a client, who it is, and the jobs that it created over its connection, the oldest first.
pub record ClientStanding : Type 0 where
  pub rules : RoleRules
  pub caller : Caller
  pub made : List ℕ

-- ## Who it is

-- An unproved client that came by the operators' socket, or by another.
abbrev pub first_caller : Bool → Caller
first_caller true = Operator None
first_caller false = Unproved

-- The client that has proved this.
abbrev pub caller_of : Proved → Caller
caller_of proved = cond proved.is_operator (Operator (Some proved.name)) (User proved.name)

-- The client after a proof. A failed one leaves it as it was.
abbrev pub proved_caller : Option Proved → Caller → Caller
proved_caller None caller = caller
proved_caller (Some proved) caller = caller_of proved

abbrev pub is_trusted : Trust → Bool
is_trusted trusts.All = true
is_trusted trusts.None = false

-- It may do everything: it is an operator, or it proved nothing and each such client is trusted.
abbrev pub is_operator_by : Trust → Caller → Bool
is_operator_by trust Unproved = is_trusted trust
is_operator_by trust (User name) = false
is_operator_by trust (Operator name) = true

abbrev pub is_operator : ClientStanding → Bool
is_operator c = is_operator_by c.rules.trust c.caller

-- ## Its jobs

-- At most 64 jobs are kept, the newest ones.
abbrev pub with_made : List ℕ → ℕ → List ℕ
with_made made job = cond (nat_lt (length made) 64) made (drop 1 made) ++ job ∷ []

abbrev pub has_made : List ℕ → ℕ → Bool
has_made made job = list_any (λ other. nat_eq other job) made

-- It has proved to be this user.
abbrev pub is_user : Caller → List ℕ → Bool
is_user Unproved user = false
is_user (User name) user = pointwise nat_eq name user
is_user (Operator name) user = false

-- The job is its own: it is of the user that it has proved to be, or it created the job over its connection.
abbrev pub owns : ClientStanding → Job → Bool
owns c r = is_user c.caller r.user || has_made c.made r.id

-- ## The jobs that are shown to it

abbrev pub sees_all : ClientStanding → Bool
sees_all c = c.rules.show_all || is_operator c

-- The title, the user and the options of a job are shown to it.
abbrev pub shows : ClientStanding → Job → Bool
shows c r = sees_all c || owns c r

-- The URI of a queue is shown to operators alone.
abbrev pub shows_uri : ClientStanding → Bool
shows_uri c = is_operator c

-- ## What happens to it

-- A client with these rules that came by the operators' socket or by another.
abbrev pub first_standing : RoleRules → Bool → ClientStanding
first_standing rules is_operators = record { rules = rules; caller = first_caller is_operators; made = [] }

abbrev pub with_job : ClientStanding → ℕ → ClientStanding
with_job c job = record c { made = with_made c.made job }

abbrev pub with_proof : ClientStanding → Option Proved → ClientStanding
with_proof c proved = record c { caller = proved_caller proved c.caller }
