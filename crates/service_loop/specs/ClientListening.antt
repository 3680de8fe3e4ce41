-- Which clients listen, and when a client was heard.
use Rattle.std.specs.Prelude.{◌≡◌, ◌⊎◌, ℕ, zero, suc, ◌+◌, ◌-◌, Bool, true, false, not, ◌&&◌, cond, nat_le, Option, None, Some}
use Rattle.slab.specs.Slab.{Slab, get}
use Rattle.client_reader.specs.AwaitedRequests.{is_in_send}
use Rattle.client_standing.specs.ClientStanding.{ClientStanding, is_operator, is_user}
use Rattle.client_standing.specs.declared.caller.Caller.{Caller}
use Rattle.client_standing.specs.declared.caller.Caller.TheVariants.{Unproved, User, Operator}
use Rattle.service_rules.specs.Bounds.{most_clients}
use Rattle.service_rules.specs.Listeners.{user_share}
use Rattle.service_rules.specs.declared.listening.Listening.{Listening}
use Rattle.service_texts.specs.declared.own_words.OwnWord.{OwnWord}
use Rattle.service_texts.specs.declared.own_words.OwnWord.TheVariants.{Wait}
use Rattle.service_loop.specs.AdmissionViews.{is_listener}
use Rattle.service_loop.specs.declared.client.Client.{Client}
use Rattle.service_loop.specs.declared.client.Step.{Step}
use Rattle.service_loop.specs.declared.client.Step.TheVariants.{Served, Goes, Rests, Lost}

-- ## A client

-- It listens only if it did before, or if it may begin to.
abbrev pub BeginsAtMost : {L : Type 0} → Bool → Client L → Client L → Type 0
BeginsAtMost may old new = is_listener new ≡ true → (is_listener old ≡ true) ⊎ (may ≡ true)

-- The job that it waits for after a word of the service, if it may listen.
abbrev pub wait_for : OwnWord → Bool → Option ℕ
wait_for (Wait job) true = Some job
wait_for word may = None

-- When it was heard after a step: now if a request was answered; now at most if bytes of a send came; and otherwise as before. So an empty
-- line is no sign of life.
abbrev pub IsHeard : {L : Type 0} → Client L → ℕ → Step → Client L → Type 0
IsHeard old now Served new = new.last_active ≡ now
IsHeard old now Goes new = (new.last_active ≡ old.last_active) ⊎ ((new.last_active ≡ now) × (is_in_send new.reader ≡ true))
IsHeard old now Rests new = new.last_active ≡ old.last_active
IsHeard old now Lost new = new.last_active ≡ old.last_active

-- ## Its user

-- Both have proved to be the same user, or both have proved nothing.
abbrev pub is_same_caller : Caller → Caller → Bool
is_same_caller Unproved Unproved = true
is_same_caller Unproved caller = false
is_same_caller (User name) caller = is_user caller name
is_same_caller (Operator name) caller = false

-- The clients count for the same user. Those that have proved nothing count for one user together, and operators for none.
abbrev pub is_same_user : ClientStanding → ClientStanding → Bool
is_same_user c d = not (is_operator c) && (not (is_operator d) && is_same_caller c.caller d.caller)

-- ## All clients

abbrev pub one_if : Bool → ℕ
one_if b = cond b 1 0

-- The slot has a client that listens.
abbrev pub is_listened : {L : Type 0} → Option (Client L) → Bool
is_listened None = false
is_listened (Some c) = is_listener c

-- How many of the slots below a key have one.
unfoldable pub listeners_below : {L : Type 0} → Slab (Client L) → ℕ → ℕ
listeners_below slots zero = 0
listeners_below slots (suc key) = listeners_below slots key + one_if (is_listened (get slots key))

-- The slot has a client that listens and counts for the same user as one with these rights.
abbrev pub is_listened_by : {L : Type 0} → ClientStanding → Option (Client L) → Bool
is_listened_by c None = false
is_listened_by c (Some d) = is_listener d && is_same_user c d.standing

-- How many of the slots below a key have one.
unfoldable pub listeners_like : {L : Type 0} → ClientStanding → Slab (Client L) → ℕ → ℕ
listeners_like c slots zero = 0
listeners_like c slots (suc key) = listeners_like c slots key + one_if (is_listened_by c (get slots key))

-- Its user's clients are counted only if it may have a request, is no operator, and so many others listen that its share may be full.
abbrev pub wants_own : {L : Type 0} → Client L → ℕ → ℕ → Bool
wants_own c places others = c.readable && (nat_le (user_share places) others && not (is_operator c.standing))

-- The other clients of its user that listen.
abbrev pub own_listeners : {L : Type 0} → Slab (Client L) → Client L → ℕ
own_listeners slots c = listeners_like c.standing slots most_clients - one_if (is_listener c)

-- The places of the other clients that listen, as a client sees them.
abbrev pub listening_of : {L : Type 0} → Slab (Client L) → Client L → ℕ → ℕ → Listening
listening_of slots c places others = record { places = places; others = others; own = cond (wants_own c places others) (Some (own_listeners slots c)) None }
