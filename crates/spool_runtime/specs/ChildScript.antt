-- The arguments of the shell that runs a child.
use Rattle.std.specs.Prelude.{ℕ, Bool, true, false, List, [], ◌∷◌, ◌++◌, map, codes, Option, None, Some, is_some, string_bytes, unwrap_or}
use Rattle.std.specs.Fmt.{decimal}
use Rattle.std.specs.Option.{option_to_list}
use Rattle.program_lists.specs.declared.line.ListedProgram.{ListedProgram}
use Rattle.spool_runtime.specs.declared.child_files.ChildPaths.{ChildPaths}
use Rattle.spool_runtime.specs.declared.child_users.ChildLimits.{ChildLimits}
use Rattle.spool_runtime.specs.declared.child_users.RunUser.{RunUser}
use Rattle.spool_runtime.specs.declared.script.Call.{Call}
use denote.Ref.{Bor}

-- The script of every child. Its text contains nothing of a job.
unfoldable pub script : List ℕ
script = codes "run() {\n    {\n        {\n            [ -z \"${11}\" ] || ulimit -v $((${11} / 1024))\n            [ -z \"${12}\" ] || ulimit -p $((${12} + 1)) || ulimit -u $((${12} + 1))\n            [ -z \"${13}\" ] || ulimit -n \"${13}\"\n        } 2>/dev/null\n        shift 13\n        [ -n \"$uid\" ] || exec /usr/bin/setsid /usr/bin/env -i \"$@\"\n        exec /usr/bin/setsid $inner /bin/sh -c \"$inside$ending\" sh \"$own\" \"$folder\" \"$@\"\n    } <\"$1\" 2>\"$2\" 3<>/dev/null 4</dev/null\n    exit 126\n}\nas_user() {\n    /usr/bin/timeout -s KILL 10 $1 /bin/sh -c \"$2\" sh \"$own\" \"$folder\" </dev/null >/dev/null\n}\nsweep() {\n    found=1\n    for signal in STOP KILL; do\n        for process in /proc/[0-9]*; do\n            while read -r name value rest; do\n                case $name$value in\n                State:Z) break ;;\n                \"Uid:$uid\") found=0; kill -s $signal \"${process#/proc/}\"; break ;;\n                esac\n            done <\"$process/status\"\n        done\n    done\n    return $found\n}\nclean() {\n    while :; do\n        as_user \"$inner\" \"$ending\"\n        case $? in\n        0) return ;;\n        3) as_user \"$user\" \"$remove\"; return ;;\n        esac\n        [ -n \"$own\" ] || return\n        sweep\n        /usr/bin/sleep 1\n    done\n}\nleave() {\n    [ -n \"$own\" ] || exit ${status:-126}\n    while sweep; do :; done\n    exec $inner /bin/sh -c 'kill -s KILL -- -1; exit \"$1\"' sh ${status:-126}\n}\numask 077\nulimit -f \"$6\"\nuid=$7 folder=$9 own=${10}\ninner=\"/usr/bin/setpriv --reuid +$7 --regid +$8 --clear-groups --no-new-privs\"\nuser=${7:+\"$inner --inh-caps=-all --ambient-caps=-all --bounding-set=-all\"}\ninner=\"$inner --inh-caps=-all,+setpcap --ambient-caps=-all,+setpcap --bounding-set=-all,+setpcap\"\ninside='\n    trap : HUP INT QUIT TERM\n    exec 6>&2 2>/dev/null\n    (\n        cd \"$2\" || exit 125\n        shift 2\n        unset PWD OLDPWD\n        while [ \"${1#/}\" = \"$1\" ]; do\n            export \"$1\"\n            shift\n        done\n        exec /usr/bin/setpriv --inh-caps=-all --ambient-caps=-all --bounding-set=-all \"$@\"\n    ) 2>&6 5>&- 6>&-\n    status=$?\n    exec >&5'\nending='\n    [ -z \"$1\" ] || kill -s KILL -- -1\n    [ -z \"$status\" ] || echo \"$status\"\n    cd \"$2\" && [ -r . ] || exit 3\n    for name in * .[!.]* ..?*; do\n        [ ! -e \"$name\" ] && [ ! -L \"$name\" ] || exit 3\n    done'\nremove='/usr/bin/chmod -R u+rwx -- \"$2\"; exec /usr/bin/rm -rf -- \"$2\"'\n[ -n \"$3$7\" ] || run \"$@\"\ntrap leave EXIT\nif [ -z \"$7\" ]; then\n    (run \"$@\")\n    status=$?\nelse\n    { status=$(exec 5>&1 >&6 6>&-; run \"$@\"); } 6>&1\n    left=$?\n    case $status:$left in\n    :*) status=$left; [ $left -gt 128 ] || status=126; clean ;;\n    *:0) ;;\n    *) as_user \"$user\" \"$remove\" ;;\n    esac\nfi\n[ -z \"$3\" ] || $user /usr/bin/timeout -k 1 5 \"$4\" ${5:+\"$5\"} \"$3\" </dev/null >/dev/null\ntrap - EXIT\nexit $status\n"

-- A script, and its name.
abbrev pub script_words : List ℕ → List (List ℕ)
script_words text = codes "-c" ∷ text ∷ codes "sh" ∷ []

-- The files that are standard input and standard error.
abbrev pub file_words : List ℕ → ChildPaths → List (List ℕ)
file_words input paths = input ∷ string_bytes paths.errors ∷ []

-- The socket, the program that ends a session on it, and that program's first argument.
abbrev pub side_words : List ℕ → Option (Bor ListedProgram) → List (List ℕ)
side_words socket None = [] ∷ [] ∷ [] ∷ []
side_words socket (Some program) = socket ∷ program.now.path ∷ unwrap_or program.now.word [] ∷ []

abbrev pub own_word : Bool → List ℕ
own_word true = codes "own"
own_word false = []

-- The number of the user, that of its group, the folder, and whether no other child has the user.
abbrev pub user_words : List ℕ → Option RunUser → List (List ℕ)
user_words folder None = [] ∷ [] ∷ [] ∷ [] ∷ []
user_words folder (Some run) = decimal run.user.uid ∷ decimal run.user.gid ∷ folder ∷ own_word run.is_own ∷ []

-- A limit in decimal digits. A limit that is not set is empty.
abbrev pub limit_word : Option ℕ → List ℕ
limit_word None = []
limit_word (Some number) = decimal number

-- The limit of processes, which only a child with a user has.
abbrev pub processes_of : Bool → ChildLimits → Option ℕ
processes_of true limits = limits.processes
processes_of false limits = None

-- The limits of memory, of processes and of open files.
abbrev pub limit_words : Bool → ChildLimits → List (List ℕ)
limit_words has_user limits = limit_word limits.memory ∷ limit_word (processes_of has_user limits) ∷ limit_word limits.open_files ∷ []

-- The variables that lead a child with a user to its folder.
abbrev pub own_variables : List ℕ → Option RunUser → List (List ℕ)
own_variables folder None = []
own_variables folder (Some run) = (codes "TMPDIR" ++ codes "=" ++ folder) ∷ (codes "HOME" ++ codes "=" ++ folder) ∷ []

-- A program, and its argument before those of a job.
abbrev pub program_words : ListedProgram → List (List ℕ)
program_words program = program.path ∷ option_to_list program.word

-- The arguments of `env`. Of two variables of a name it takes the last.
abbrev pub env_words : Call → List (List ℕ)
env_words call =
    map string_bytes call.environment.now
    ++ (own_variables (string_bytes call.paths.now.folder) call.user ++ (program_words call.program.now ++ map string_bytes call.words.now))

-- The script and its parameters.
abbrev pub arguments_of : Call → List (List ℕ)
arguments_of call =
    script_words script ++ (file_words call.input.now call.paths.now ++ (side_words (string_bytes call.paths.now.side) call.side
    ++ (decimal call.limits.file_blocks ∷ [] ++ (user_words (string_bytes call.paths.now.folder) call.user
    ++ (limit_words (is_some call.user) call.limits ++ env_words call)))))
