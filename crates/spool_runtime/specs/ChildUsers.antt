-- The users of children.
use Rattle.std.specs.Prelude.{◌≡◌, ℕ, true, false, if◌then◌else◌, List, [], ◌∷◌, ◌++◌, codes, None, Some, slice_get}
use Rattle.std.specs.Fmt.{decimal}
use Rattle.program_lists.specs.declared.line.ListedProgram.{ListedProgram}
use Rattle.spool_runtime.specs.declared.child_users.ChildLimits.{ChildLimits}
use Rattle.spool_runtime.specs.declared.child_users.ChildUser.{ChildUser}
use Rattle.spool_runtime.specs.declared.child_users.RunUser.{RunUser}
use Rattle.spool_runtime.specs.declared.child_users.TakenUser.{TakenUser}
use Rattle.spool_runtime.specs.declared.child_users.TakenUser.TheVariants.{Own, Shared}

-- The user has a place in the list.
abbrev pub IsAmong : List ChildUser → ChildUser → Type 0
IsAmong users user = (k : ℕ) × (slice_get users k ≡ Some user)

-- An own user is one of all but the last. A shared user is the last.
abbrev pub IsUserOf : List ChildUser → TakenUser → Type 0
IsUserOf users (Own user lock) = (last : ChildUser) × (others : List ChildUser) × (users ≡ others ++ last ∷ []) × IsAmong others user
IsUserOf users (Shared user) = (others : List ChildUser) × (users ≡ others ++ user ∷ [])

abbrev pub run_user_of : TakenUser → RunUser
run_user_of (Own user lock) = record { user = user; is_own = true }
run_user_of (Shared user) = record { user = user; is_own = false }

-- The names of the folder of the children's folders, and of the files whose locks keep users.
unfoldable pub run_folder : List ℕ
run_folder = codes "run"

unfoldable pub user_prefix : List ℕ
user_prefix = codes "user"

-- The folder of the children's folders, in the spool's folder.
abbrev pub run_name : List ℕ → List ℕ
run_name root = root ++ (codes "/" ++ run_folder)

-- The file whose lock keeps a user for one child.
abbrev pub lock_name : List ℕ → ℕ → List ℕ
lock_name root uid = root ++ (codes "/" ++ (run_folder ++ (codes "/" ++ (user_prefix ++ (codes "-" ++ decimal uid)))))

-- The limit of a file's size, 1 GiB in blocks of 512 bytes, and no other.
pub record HasUsualLimits (limits : ChildLimits) : Type 0 where
  pub files : limits.file_blocks ≡ 2097152
  pub memory : limits.memory ≡ None
  pub processes : limits.processes ≡ None
  pub open_files : limits.open_files ≡ None

-- The users that a program may run as: none, if it keeps the user of the spooler.
abbrev pub users_for : List ChildUser → ListedProgram → List ChildUser
users_for users program = if program.keeps_user then [] else users
