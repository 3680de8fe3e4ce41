-- Owners, by cases of who the client is.
use Rattle.std.proofs.Common.{◌≡◌, ℕ, Bool, true, false, ◌||◌, List, refl, ap, ◌∙◌}
use Rattle.std.specs.Cmp.Lexicographic.{bytes_decides}
use Rattle.spool_types.specs.State.{Job}
use Rattle.client_standing.specs.ClientStanding.{ClientStanding, has_made, is_operator, is_user, owns, shows}
use Rattle.client_standing.specs.declared.caller.Caller.{Caller}
use Rattle.client_standing.specs.declared.caller.Caller.TheVariants.{Unproved, User, Operator}

first_of : (a b : Bool) → (a || b) ≡ true → b ≡ false → a ≡ true
first_of true b is none = refl
first_of false b is none = cc

user_of : (caller : Caller) (user : List ℕ) → is_user caller user ≡ true → caller ≡ User user
user_of Unproved user is = cc
user_of (User name) user is = ap User ((bytes_decides name user).0 is)
user_of (Operator name) user is = cc

pub owner_proved : (c : ClientStanding) (r : Job) → owns c r ≡ true → has_made c.made r.id ≡ false → c.caller ≡ User r.user
owner_proved c r is none = user_of c.caller r.user (first_of (is_user c.caller r.user) (has_made c.made r.id) is none)

pub unproved_owner : (c : ClientStanding) (r : Job) → c.caller ≡ Unproved → owns c r ≡ has_made c.made r.id
unproved_owner c r unproved = ap (λ (caller : Caller). is_user caller r.user || has_made c.made r.id) unproved

pub stranger_sees : (c : ClientStanding) (r : Job) → c.rules.show_all ≡ false → is_operator c ≡ false → shows c r ≡ owns c r
stranger_sees c r none stranger =
    ap (λ (b : Bool). (b || is_operator c) || owns c r) none
    ∙ ap (λ (b : Bool). b || owns c r) stranger
