-- Each name so far has its user, and no two have the same number.
use Rattle.std.proofs.Common.{◌≡◌, eqb, length}
use Rattle.std.specs.List.{IsDistinct}
use Rattle.spool_service.specs.ChildArguments.{user_numbers}
use Rattle.spool_service.proofs.child_users.users_named.Given as goal

abbrev pub invariant-loop-name : goal.invariant-loop-name
invariant-loop-name g l = (length l.users.items ≡ l.name-index) × IsDistinct eqb (user_numbers l.users.items)
