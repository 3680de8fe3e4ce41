-- The test of the users that children run as.
use Rattle.std.specs.Prelude.{ℕ, ℤ, pos, ◌==◌, List, [], ◌∷◌, ◌++◌, codes, cond, Option, None, Some}
use Rattle.std.specs.Fmt.{decimal}
use Rattle.spool_runtime.specs.ChildScript.{own_word}
use Rattle.spool_runtime.specs.declared.child_users.RunUser.{RunUser}
use Rattle.spool_runtime.specs.declared.user_checks.UserFault.{UserFault}
use Rattle.spool_runtime.specs.declared.user_checks.UserFault.TheVariants.{NoWay, Refused, Root, Service}

-- No child runs as root or as the user of the service.
abbrev pub fault_by : ℕ → ℕ → Option UserFault
fault_by uid service = cond (uid == 0) (Some Root) (cond (uid == service) (Some Service) None)

-- The test ends with 0 if the user can search the folder, and with 3 if not. With any other status it was not run.
abbrev pub fault_of_status : ℕ → Option UserFault
fault_of_status status = cond (status == 0) None (cond (status == 3) (Some NoWay) (Some Refused))

abbrev pub fault_of_code : Option ℤ → Option UserFault
fault_of_code (Some (pos status)) = fault_of_status status
fault_of_code code = Some Refused

-- A number of a user or a group, which is no name.
abbrev pub identity_word : ℕ → List ℕ
identity_word number = codes "+" ++ decimal number

-- The arguments of timeout(1), which runs a script as a user by setpriv(1), with the rights of the user and CAP_SETPCAP.
abbrev pub user_command_words : RunUser → List ℕ → List ℕ → List (List ℕ)
user_command_words run script path =
    codes "-s" ∷ codes "KILL" ∷ codes "10" ∷ codes "/usr/bin/setpriv" ∷ codes "--reuid" ∷ identity_word run.user.uid ∷ codes "--regid" ∷ identity_word run.user.gid
    ∷ codes "--clear-groups" ∷ codes "--no-new-privs" ∷ codes "--inh-caps=-all,+setpcap" ∷ codes "--ambient-caps=-all,+setpcap"
    ∷ codes "--bounding-set=-all,+setpcap"
    ∷ codes "/bin/sh" ∷ codes "-c" ∷ script ∷ codes "sh" ∷ own_word run.is_own ∷ path ∷ []
