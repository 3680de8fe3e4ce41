-- The programs that look up users and groups.
use Rattle.std.specs.Prelude.{ℕ, List, [], ◌∷◌, ◌++◌, codes, Option, None, Some, Result, Ok, Err, alloc_error}
use Rattle.std.specs.IoError.{error_kind}
use Rattle.std.specs.declared.alloc.AllocError.{AllocError}
use Rattle.std.specs.declared.io.Error.{Error}
use Rattle.std.specs.declared.io.ErrorKind.{ErrorKind}
use Rattle.std.specs.declared.io.ErrorKind.TheVariants.{OutOfMemory}
use Rattle.std.specs.Fmt.{decimal}

-- timeout(1) kills the program after two seconds.
abbrev pub limit_words : List (List ℕ)
limit_words = codes "-s" ∷ codes "KILL" ∷ codes "2" ∷ []

-- `getent passwd`
abbrev pub passwd_words : List (List ℕ)
passwd_words = limit_words ++ codes "/usr/bin/getent" ∷ [] ++ codes "passwd" ∷ []

-- `getent passwd UID`
abbrev pub user_words : ℕ → List (List ℕ)
user_words uid = passwd_words ++ decimal uid ∷ []

-- `getent passwd -- USER`. A name that begins with a dash is no option.
abbrev pub numbers_words : List ℕ → List (List ℕ)
numbers_words user = passwd_words ++ codes "--" ∷ [] ++ user ∷ []

-- `getent group GROUP`
abbrev pub group_words : List ℕ → List (List ℕ)
group_words group = limit_words ++ codes "/usr/bin/getent" ∷ [] ++ codes "group" ∷ [] ++ group ∷ []

-- `id -G -- USER`. A name that begins with a dash is no option.
abbrev pub groups_words : List ℕ → List (List ℕ)
groups_words user = limit_words ++ codes "/usr/bin/id" ∷ [] ++ codes "-G" ∷ [] ++ codes "--" ∷ [] ++ user ∷ []

-- ## The result of a call of the system

abbrev pub without_value : {T : Type 0} → ErrorKind → Result (Option T) AllocError
without_value OutOfMemory = Err alloc_error
without_value kind = Ok None

-- The value, or none if the call failed for another reason than memory.
abbrev pub value_of : {T : Type 0} → Result T Error → Result (Option T) AllocError
value_of (Ok value) = Ok (Some value)
value_of (Err error) = without_value (error_kind error)
