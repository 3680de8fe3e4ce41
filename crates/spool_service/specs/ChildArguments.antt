-- The meaning of the arguments about children.
use Rattle.std.specs.Prelude.{◌≡◌, ◌≤◌, ◌*◌, ◌==◌, ℕ, Bool, false, List, [], ◌∷◌, Option, None, Some, codes, cond, map}
use Rattle.std.specs.List.{slice_split}
use Rattle.std.specs.Option.{option_map}
use Rattle.clap.specs.Words.{App, Row, Text, first_of, one_of, with_rule}
use Rattle.clap.specs.declared.parser.matches.ArgMatches.{ArgMatches}
use Rattle.spool_runtime.specs.ProgramArguments.{HasNumberIn, number_or, option_in, text_option}
use Rattle.spool_runtime.specs.declared.child_users.ChildLimits.{ChildLimits}
use Rattle.spool_runtime.specs.declared.child_users.ChildUser.{ChildUser}
use Rattle.spool_service.specs.declared.child_words.ChildWords.{ChildWords}

-- `[--children-user USERS] [--child-memory MIB] [--child-processes N] [--child-file-size MIB] [--child-open-files N]`
abbrev pub with_children : App → App
with_children app =
    with_rule (with_rule (with_rule (with_rule (with_rule app (text_option (codes "children-user"))) (option_in 0 1048576 (codes "child-memory")))
    (option_in 0 100000 (codes "child-processes"))) (option_in 1 1048576 (codes "child-file-size"))) (option_in 0 1048576 (codes "child-open-files"))

-- The values are those found, or the defaults: no users, files of 1,024 MiB, and no other limit.
pub record IsAskedOfChildren (found : List Row) (child : ChildWords) : Type 0 where
  pub users : option_map (λ users. users.now) child.users ≡ first_of (codes "children-user") found
  pub memory : child.memory ≡ number_or 0 (one_of (codes "child-memory") found)
  pub processes : child.processes ≡ number_or 0 (one_of (codes "child-processes") found)
  pub file_size : child.file_size ≡ number_or 1024 (one_of (codes "child-file-size") found)
  pub open_files : child.open_files ≡ number_or 0 (one_of (codes "child-open-files") found)

pub record AreInChildRange (child : ChildWords) : Type 0 where
  pub memory : child.memory ≤ 1048576
  pub processes : child.processes ≤ 100000
  pub file_size : (1 ≤ child.file_size) × (child.file_size ≤ 1048576)
  pub open_files : child.open_files ≤ 1048576

-- The numbers found are in their ranges.
pub record HasChildNumbers (m : ArgMatches) : Type 0 where
  pub memory : HasNumberIn 0 1048576 (codes "child-memory") m
  pub processes : HasNumberIn 0 100000 (codes "child-processes") m
  pub file_size : HasNumberIn 1 1048576 (codes "child-file-size") m
  pub open_files : HasNumberIn 0 1048576 (codes "child-open-files") m

-- ---- the users

-- The names between the commas of USERS, at least one if it is given.
abbrev pub user_names : Option Text → List Text
user_names None = []
user_names (Some text) = slice_split (λ b. b == 44) text

-- The numbers of users, in their order.
abbrev pub user_numbers : List ChildUser → List ℕ
user_numbers users = map (λ user. user.uid) users

-- ---- values together

abbrev pub is_absolute : Text → Bool
is_absolute [] = false
is_absolute (b ∷ bs) = b == 47

-- With users DIR is absolute, because a child runs in another folder. Without users there is no limit of processes, which would count
-- those of the service too.
abbrev pub children_fit : Option Text → ℕ → Text → Bool
children_fit None processes root = processes == 0
children_fit (Some users) processes root = is_absolute root

-- ---- the limits

-- 0 is no limit.
abbrev pub limit_of : ℕ → Option ℕ
limit_of number = cond (number == 0) None (Some number)

-- A mebibyte has 1,048,576 bytes, which are 2,048 blocks of 512 bytes.
abbrev pub child_limits : ChildWords → ChildLimits
child_limits child = record {
  file_blocks = child.file_size * 2048;
  memory = limit_of (child.memory * 1048576);
  processes = limit_of child.processes;
  open_files = limit_of child.open_files;
}
