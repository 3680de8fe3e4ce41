-- No users have no numbers.
use Rattle.std.proofs.Common.{◌≡◌, eqb, length, refl, subst, sym}
use Rattle.std.specs.List.{IsDistinct}
use Rattle.spool_service.specs.ChildArguments.{user_numbers}
use Rattle.spool_service.proofs.child_users.users_named.Goals as goal

pub loop-name-init : goal.loop-name-init
unfolding IsDistinct
loop-name-init g c = subst (λ xs. (length xs ≡ 0) × IsDistinct eqb (user_numbers xs)) (sym c.new-users.ensures.items) (refl, tt)
