-- The user whom a folder proves, from what lstat(2) reports of it.
use Rattle.std.specs.Prelude.{ℕ, Bool, true, false, ◌&&◌, ◌==◌, not, cond, Option, None, Some}
use Rattle.user_proofs.specs.declared.folders.Found.{Found}
use Rattle.user_proofs.specs.declared.folders.FoundKind.{FoundKind}
use Rattle.user_proofs.specs.declared.folders.FoundKind.TheVariants.{Folder, Link, Other}

abbrev pub is_folder : FoundKind → Bool
is_folder Folder = true
is_folder Link = false
is_folder Other = false

-- 0700. Only the owner can write to such a folder, and rename(2) moves a folder into another one only for a user who can write to it.
abbrev pub own_mode : ℕ
own_mode = 448

-- The number that a user namespace shows for each user that it does not map (user_namespaces(7)), and NFS for unknown users.
abbrev pub nobody : ℕ
nobody = 65534

-- A folder of its owner alone, on the device of the folder of proofs. A user who mounts a file system may choose the owners in it, but
-- not its device.
abbrev pub is_proof : ℕ → Found → Bool
is_proof device found = is_folder found.kind && (found.mode == own_mode && (found.device == device && not (found.owner == nobody)))

-- The number of the user.
abbrev pub judged : ℕ → Found → Option ℕ
judged device found = cond (is_proof device found) (Some found.owner) None

-- A folder of the service, as the folder of proofs must be.
abbrev pub is_of_service : ℕ → Found → Bool
is_of_service service found = is_folder found.kind && found.owner == service
