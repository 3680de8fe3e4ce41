-- Who is an operator.
use Rattle.std.specs.Prelude.{ℕ, ◌/◌, ◌%◌, Bool, true, false, ◌||◌, ◌==◌, cond, List, Option, None, Some}
use Rattle.user_proofs.specs.UserLines.{is_member}

-- The user `root`.
abbrev pub is_always_operator : ℕ → ℕ → Bool
is_always_operator service uid = uid == 0 || uid == service

abbrev pub is_in_group : Option ℕ → List ℕ → Bool
is_in_group None groups = false
is_in_group (Some operators) groups = is_member operators groups

-- The user `root`, the user of the service, and the members of the group of operators. `groups` is the output of `id -G` for the user.
abbrev pub is_operator : ℕ → Option ℕ → ℕ → List ℕ → Bool
is_operator service operators uid groups = is_always_operator service uid || is_in_group operators groups

-- ## The group of operators without `--operators`

-- The permissions let the group of the socket connect (unix(7)).
abbrev pub group_writes : ℕ → Bool
group_writes mode = mode / 16 % 2 == 1

-- The group of the socket, if it can connect.
abbrev pub usual_operators : ℕ → ℕ → Option ℕ
usual_operators mode gid = cond (group_writes mode) (Some gid) None
