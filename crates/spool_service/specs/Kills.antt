-- The arguments of the shell that sends a signal.
use Rattle.std.specs.Prelude.{ℕ, List, [], ◌∷◌, ◌++◌, codes}
use Rattle.std.specs.Fmt.{decimal}
use Rattle.service_loop.specs.declared.signals.Signal.{Signal}
use Rattle.service_loop.specs.declared.signals.Signal.TheVariants.{Kill, Terminate}
use Rattle.spool_runtime.specs.ChildScript.{script_words}

-- The same script sends every signal: its text contains nothing of a job.
abbrev pub script : List ℕ
script = codes "for group in \"$2\" $(/usr/bin/cat \"/proc/$2/task/$2/children\"); do\n    kill -s \"$1\" -- \"-$group\"\ndone\n"

-- The name of the signal for `kill`.
abbrev pub name_of : Signal → List ℕ
name_of Terminate = codes "TERM"
name_of Kill = codes "KILL"

-- The script, the signal and the process number.
abbrev pub arguments_of : ℕ → Signal → List (List ℕ)
arguments_of group signal = script_words script ++ (name_of signal ∷ decimal group ∷ [])
