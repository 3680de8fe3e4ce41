-- The numbers of the users of children stay different if the next user has another one.
use Rattle.std.proofs.Common.{◌≡◌, eqb, false, List, [], ◌∷◌, ◌++◌, map, subst, sym, ◌∙◌, ap}
use Rattle.std.specs.List.{IsDistinct, list_any}
use Rattle.std.proofs.lemmas.Cmp.{nat_eq_equiv}
use Rattle.std.proofs.lemmas.List.{map-append}
use Rattle.std.proofs.lemmas.Map.Keys.{IsDistinct-push}
use Rattle.spool_runtime.specs.declared.child_users.ChildUser.{ChildUser}
use Rattle.spool_service.specs.ChildArguments.{user_numbers}

pub distinct_push : (users more : List ChildUser) (user : ChildUser) → more ≡ users ++ user ∷ [] → IsDistinct eqb (user_numbers users)
    → list_any (eqb user.uid) (user_numbers users) ≡ false → IsDistinct eqb (user_numbers more)
distinct_push users more user added distinct none =
    subst (IsDistinct eqb) (sym (ap user_numbers added ∙ map-append (λ (u : ChildUser). u.uid) users (user ∷ [])))
    (IsDistinct-push nat_eq_equiv (user_numbers users) user.uid distinct none)
