-- The clients that listen, after any wishes.
use Rattle.std.proofs.Common.{◌≡◌, ℕ, ◌+◌, ◌<◌, ◌≤◌, Bool, true, false, cond, ◌&&◌, nat_lt, List, [], ◌∷◌, ◌++◌, length, take, drop, Option, None, Some, refl, sym, subst, arith}
use Rattle.std.specs.List.{sum_by}
use Rattle.std.proofs.lemmas.Bool.Decides.{nat_tests}
use Rattle.std.proofs.lemmas.List.{length-append, length-take, length-drop, drop-drop}
use Rattle.std.proofs.lemmas.List.Sums.{sum_by-append, sum_by-cons, sum_by-take-drop}
use Rattle.service_rules.specs.Listeners.{Wish, begins, ends, after_wish, count_of, has_share_left, is_of, listeners_after, may_listen, most_listeners, own_of, user_share}
use Rattle.service_rules.specs.declared.listening.Listening.{Listening}

-- Fewer than all places are for clients that listen.
pub fewer : (places : ℕ) → 0 < places → most_listeners places < places
fewer places some = omega arith

-- ## A client ends

first_gone : (f : Option ℕ → ℕ) (clients : List (Option ℕ)) → sum_by f (drop 1 clients) ≤ sum_by f clients
first_gone f [] = omega arith
first_gone f (c ∷ cs) = rw (sum_by-cons f c cs) (omega arith)

one_gone : (f : Option ℕ → ℕ) (clients : List (Option ℕ)) (position : ℕ) → sum_by f (take position clients ++ drop (position + 1) clients) ≤ sum_by f clients
one_gone f clients position =
    let whole = sum_by-take-drop f clients position in
    let rest = first_gone f (drop position clients) in
    let here = drop-drop 1 position clients in
    rw (sum_by-append f (take position clients) (drop (position + 1) clients), sym here) (omega arith)

shorter : (clients : List (Option ℕ)) (position : ℕ) → length (take position clients ++ drop (position + 1) clients) ≤ length clients
shorter clients position =
    rw (length-append (take position clients) (drop (position + 1) clients), length-take position clients, length-drop (position + 1) clients) (omega arith)

-- ## A client begins

both : (a b : Bool) → (a && b) ≡ true → (a ≡ true) × (b ≡ true)
both true true holds = (refl, refl)
both true false holds = cc
both false b holds = cc

below : (a b : ℕ) → nat_lt a b ≡ true → a < b
below a b holds = grind (arith, nat_tests)

added : (clients : List (Option ℕ)) (who : Option ℕ) (most : ℕ) → length clients < most → length (clients ++ who ∷ []) ≤ most
added clients who most lt = rw (length-append clients (who ∷ [])) (omega arith)

more : (places : ℕ) (clients : List (Option ℕ)) (who : Option ℕ) (may : Bool) → (may ≡ true → length clients < most_listeners places) → length clients ≤ most_listeners places →
    length (cond may (clients ++ who ∷ []) clients) ≤ most_listeners places
more places clients who true fits le = added clients who (most_listeners places) (fits refl)
more places clients who false fits le = le

most_kept : (places : ℕ) (clients : List (Option ℕ)) (w : Wish) → length clients ≤ most_listeners places → length (after_wish places clients w) ≤ most_listeners places
most_kept places clients (begins who) le =
    let l : Listening = record { places = places; others = length clients; own = own_of who clients } in
    more places clients who (may_listen l) (λ may. below (length clients) (most_listeners places) (both (nat_lt (length clients) (most_listeners places)) (has_share_left places l.own) may).0) le
most_kept places clients (ends position) le = let fewer_now = shorter clients position in omega arith

pub most_always : (places : ℕ) (clients : List (Option ℕ)) (ws : List Wish) → length clients ≤ most_listeners places → length (listeners_after places clients ws) ≤ most_listeners places
most_always places clients [] le = le
most_always places clients (w ∷ ws) le = most_always places (after_wish places clients w) ws (most_kept places clients w le)

-- ## The share of a user

abbrev one_of : Bool → ℕ
one_of b = cond b 1 0

count_more : (user : ℕ) (clients : List (Option ℕ)) (who : Option ℕ) → count_of user (clients ++ who ∷ []) ≡ count_of user clients + one_of (is_of user who)
count_more user clients who =
    let f : Option ℕ → ℕ = λ c. cond (is_of user c) 1 0 in
    rw (sum_by-append f clients (who ∷ []), sum_by-cons f who []) (omega arith)

is_its_own : (user other : ℕ) → is_of user (Some other) ≡ true → user ≡ other
is_its_own user other is = grind (arith, nat_tests)

-- A client that counts for a user is let in only if the user's share is not full.
share_more : (places user : ℕ) (clients : List (Option ℕ)) (who : Option ℕ) (mine : Bool) → is_of user who ≡ mine → has_share_left places (own_of who clients) ≡ true →
    count_of user clients ≤ user_share places → count_of user clients + one_of mine ≤ user_share places
share_more places user clients who false is left le = omega arith
share_more places user clients None true is left le = cc
share_more places user clients (Some other) true is left le =
    let same = is_its_own user other is in
    let lt = below (count_of other clients) (user_share places) left in
    let mine : count_of user clients < user_share places = subst (λ (u : ℕ). count_of u clients < user_share places) (sym same) lt in
    omega arith

share_then : (places user : ℕ) (clients : List (Option ℕ)) (who : Option ℕ) (may : Bool) → (may ≡ true → has_share_left places (own_of who clients) ≡ true) →
    count_of user clients ≤ user_share places → count_of user (cond may (clients ++ who ∷ []) clients) ≤ user_share places
share_then places user clients who true left le = rw (count_more user clients who) (share_more places user clients who (is_of user who) refl (left refl) le)
share_then places user clients who false left le = le

share_kept : (places user : ℕ) (clients : List (Option ℕ)) (w : Wish) → count_of user clients ≤ user_share places → count_of user (after_wish places clients w) ≤ user_share places
share_kept places user clients (begins who) le =
    let l : Listening = record { places = places; others = length clients; own = own_of who clients } in
    share_then places user clients who (may_listen l) (λ may. (both (nat_lt (length clients) (most_listeners places)) (has_share_left places l.own) may).1) le
share_kept places user clients (ends position) le = let fewer_now = one_gone (λ c. cond (is_of user c) 1 0) clients position in omega arith

pub share_always : (places user : ℕ) (clients : List (Option ℕ)) (ws : List Wish) → count_of user clients ≤ user_share places → count_of user (listeners_after places clients ws) ≤ user_share places
share_always places user clients [] le = le
share_always places user clients (w ∷ ws) le = share_always places user (after_wish places clients w) ws (share_kept places user clients w le)
