-- The form of a command line: a task of `spool`, or a program with its own name.
use Rattle.std.specs.Prelude.{ℕ, List, [], ◌∷◌, Option, None, Some, codes, if◌then◌else◌}
use Rattle.std.specs.Str.{bytes_eq}
use Rattle.clap.specs.Words.{Text}
use Rattle.front_words.specs.ArgumentValues.{last_part}
use Rattle.front_words.specs.PlainActs.{act_named}
use Rattle.front_words.specs.declared.forms.Form.{Form}
use Rattle.front_words.specs.declared.forms.Form.TheVariants.{Submit, Status, Queues, Watch, Cancel, Hold, Plain}
use Rattle.front_words.specs.declared.forms.Form.TheVariants.{QueueShow, QueueAdd, QueueSet, QueueAccept, QueueReject, QueueEnable, QueueDisable}
use Rattle.front_words.specs.declared.forms.Form.TheVariants.{Devices, Check, Page, Say, Lp, Lpr, Lpstat, CancelJobs, Lpq, Lprm, Other}
use Rattle.front_words.specs.declared.forms.Form.TheVariants.{Lpoptions, Lpmove, CupsEnable, CupsDisable, CupsAccept, CupsReject}
use Rattle.front_words.specs.declared.plain_acts.PlainAct.{PlainAct}

-- A program's name: the part after the last slash of its path.
abbrev pub base_name : Text → Text
base_name path = last_part 47 path

-- The programs that start or stop queues.
abbrev pub form_of_switch : Text → Option Form
form_of_switch name =
    if bytes_eq name (codes "cupsenable") then Some CupsEnable
    else (if bytes_eq name (codes "cupsdisable") then Some CupsDisable
    else (if bytes_eq name (codes "cupsaccept") then Some CupsAccept
    else (if bytes_eq name (codes "cupsreject") then Some CupsReject
    else None)))

-- The programs with their own names.
abbrev pub form_of_program : Text → Option Form
form_of_program name =
    if bytes_eq name (codes "lp") then Some Lp
    else (if bytes_eq name (codes "lpr") then Some Lpr
    else (if bytes_eq name (codes "lpstat") then Some Lpstat
    else (if bytes_eq name (codes "cancel") then Some CancelJobs
    else (if bytes_eq name (codes "lpq") then Some Lpq
    else (if bytes_eq name (codes "lprm") then Some Lprm
    else (if bytes_eq name (codes "lpoptions") then Some Lpoptions
    else (if bytes_eq name (codes "lpmove") then Some Lpmove
    else form_of_switch name)))))))

-- The tasks that need nothing but jobs.
abbrev pub plain_form : Option PlainAct → Form
plain_form (Some act) = Plain act
plain_form None = Other

-- The tasks of `spool` of one word.
abbrev pub form_of_task : Text → Form
form_of_task task =
    if bytes_eq task (codes "submit") then Submit
    else (if bytes_eq task (codes "status") then Status
    else (if bytes_eq task (codes "queues") then Queues
    else (if bytes_eq task (codes "watch") then Watch
    else (if bytes_eq task (codes "cancel") then Cancel
    else (if bytes_eq task (codes "hold") then Hold
    else (if bytes_eq task (codes "devices") then Devices
    else (if bytes_eq task (codes "check") then Check
    else (if bytes_eq task (codes "page") then Page
    else (if bytes_eq task (codes "say") then Say
    else plain_form (act_named task))))))))))

-- The tasks of two words: `queue` and an action.
abbrev pub form_of_act : Text → Form
form_of_act act =
    if bytes_eq act (codes "show") then QueueShow
    else (if bytes_eq act (codes "add") then QueueAdd
    else (if bytes_eq act (codes "set") then QueueSet
    else (if bytes_eq act (codes "accept") then QueueAccept
    else (if bytes_eq act (codes "reject") then QueueReject
    else (if bytes_eq act (codes "enable") then QueueEnable
    else (if bytes_eq act (codes "disable") then QueueDisable
    else Other))))))

abbrev pub queue_form : List Text → Form
queue_form [] = Other
queue_form (act ∷ rest) = form_of_act act

-- The form of the arguments after the program's name.
abbrev pub spool_form : List Text → Form
spool_form [] = Other
spool_form (task ∷ rest) = if bytes_eq task (codes "queue") then queue_form rest else form_of_task task

abbrev pub or_spool : Option Form → List Text → Form
or_spool (Some form) rest = form
or_spool None rest = spool_form rest

-- The form of the arguments, including the program's name.
abbrev pub form_in : List Text → Form
form_in [] = Other
form_in (name ∷ rest) = or_spool (form_of_program (base_name name)) rest

-- The number of arguments before those that the form's command reads.
abbrev pub skipped : Form → ℕ
skipped Lp = 0
skipped Lpr = 0
skipped Lpstat = 0
skipped CancelJobs = 0
skipped Lpq = 0
skipped Lprm = 0
skipped Lpoptions = 0
skipped Lpmove = 0
skipped CupsEnable = 0
skipped CupsDisable = 0
skipped CupsAccept = 0
skipped CupsReject = 0
skipped Other = 0
skipped QueueShow = 2
skipped QueueAdd = 2
skipped QueueSet = 2
skipped QueueAccept = 2
skipped QueueReject = 2
skipped QueueEnable = 2
skipped QueueDisable = 2
skipped form = 1

-- The exit status if the arguments are refused: that of CUPS for a program with its own name.
abbrev pub refusal_status : Form → ℕ
refusal_status Lp = 1
refusal_status Lpr = 1
refusal_status Lpstat = 1
refusal_status CancelJobs = 1
refusal_status Lpq = 1
refusal_status Lprm = 1
refusal_status Lpoptions = 1
refusal_status Lpmove = 1
refusal_status CupsEnable = 1
refusal_status CupsDisable = 1
refusal_status CupsAccept = 1
refusal_status CupsReject = 1
refusal_status form = 2
