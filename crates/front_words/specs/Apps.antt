-- The command of each form, as clap reads it.
use Rattle.std.specs.Prelude.{ℕ, [], ◌∷◌, ◌++◌, codes, true}
use Rattle.clap.specs.Simple.{on_top}
use Rattle.clap.specs.Words.{App, Rule, Text, new_app, with_rule}
use Rattle.front_words.specs.CommandOptions.{flag_rule, letter_flag_rule, letter_rule, listed, named_app, needed, several, task_app, text_rule, word_rule}
use Rattle.front_words.specs.PlainActs.{word_for}
use Rattle.front_words.specs.declared.commands.Base.{Base}
use Rattle.front_words.specs.declared.commands.Base.TheVariants.{Task, Program, Spool}
use Rattle.front_words.specs.declared.forms.Form.{Form}
use Rattle.front_words.specs.declared.forms.Form.TheVariants.{Submit, Status, Queues, Watch, Cancel, Hold, Plain}
use Rattle.front_words.specs.declared.forms.Form.TheVariants.{QueueShow, QueueAdd, QueueSet, QueueAccept, QueueReject, QueueEnable, QueueDisable}
use Rattle.front_words.specs.declared.forms.Form.TheVariants.{Devices, Check, Page, Say, Lp, Lpr, Lpstat, CancelJobs, Lpq, Lprm, Other}
use Rattle.front_words.specs.declared.forms.Form.TheVariants.{Lpoptions, Lpmove, CupsEnable, CupsDisable, CupsAccept, CupsReject}

-- ---- the tasks of `spool`

-- `[--title TITLE] [--user USER]`
abbrev pub with_titles : App → App
with_titles app = with_rule (with_rule app (text_rule (codes "title"))) (text_rule (codes "user"))

-- These options, and `[--copies N] [--priority P] [--pages PAGES] [--type TYPE] [-o NAME=VALUE]..`
abbrev pub with_document : App → App
with_document app =
    with_rule (with_rule (with_rule (with_rule (with_rule (with_titles app) (text_rule (codes "copies"))) (text_rule (codes "priority")))
    (text_rule (codes "pages"))) (text_rule (codes "type"))) (several (letter_rule 111 (codes "option")))

-- `[--hold] [--at MOMENT] [--by MOMENT] [--wait] [--quiet] [--json]`
abbrev pub with_handling : App → App
with_handling app =
    with_rule (with_rule (with_rule (with_rule (with_rule (with_rule app
    (flag_rule (codes "hold"))) (text_rule (codes "at"))) (text_rule (codes "by"))) (flag_rule (codes "wait"))) (flag_rule (codes "quiet"))) (flag_rule (codes "json"))

-- `spool submit QUEUE FILE..`
abbrev pub submit_words : App
submit_words = with_rule (with_rule (task_app (codes "spool submit")) (needed (word_rule (codes "queue")))) (needed (several (word_rule (codes "file"))))

abbrev pub submit_app : App
submit_app = with_handling (with_document submit_words)

-- `spool status [JOB] [-q QUEUE] [--json] [--watch]`
abbrev pub status_words : App
status_words =
    with_rule (with_rule (with_rule (task_app (codes "spool status")) (word_rule (codes "job"))) (letter_rule 113 (codes "queue"))) (flag_rule (codes "json"))

abbrev pub status_app : App
status_app = with_rule status_words (flag_rule (codes "watch"))

-- `spool TASK [--json]`
abbrev pub json_app : Text → App
json_app name = with_rule (task_app name) (flag_rule (codes "json"))

-- `spool queues [--json]`
abbrev pub queues_app : App
queues_app = json_app (codes "spool queues")

-- `NAME JOB..`
abbrev pub jobs_app : Text → App
jobs_app name = with_rule (task_app name) (needed (several (word_rule (codes "job"))))

-- `spool cancel JOB.. [--keep-printing]`
abbrev pub stop_app : App
stop_app = with_rule (jobs_app (codes "spool cancel")) (flag_rule (codes "keep-printing"))

-- `spool hold JOB.. [--until MOMENT]`
abbrev pub hold_app : App
hold_app = with_rule (jobs_app (codes "spool hold")) (text_rule (codes "until"))

-- `spool queue ACT NAME`
abbrev pub queue_app : Text → App
queue_app name = with_rule (task_app name) (needed (word_rule (codes "name")))

-- `spool queue show NAME [--json]`
abbrev pub show_app : App
show_app = with_rule (queue_app (codes "spool queue show")) (flag_rule (codes "json"))

-- `spool queue add NAME URI [--media TYPE] [--policy POLICY] [--interval SECONDS] [--limit N]`
abbrev pub add_app : App
add_app =
    with_rule (with_rule (with_rule (with_rule (with_rule (queue_app (codes "spool queue add"))
    (needed (word_rule (codes "uri")))) (text_rule (codes "media"))) (text_rule (codes "policy"))) (text_rule (codes "interval"))) (text_rule (codes "limit"))

-- `spool queue set NAME [--info TEXT] [--location TEXT]`
abbrev pub set_app : App
set_app = with_rule (with_rule (queue_app (codes "spool queue set")) (text_rule (codes "info"))) (text_rule (codes "location"))

-- `spool page FILE [-q QUEUE] [--user USER] [--follow]`
abbrev pub page_words : App
page_words =
    with_rule (with_rule (with_rule (task_app (codes "spool page")) (needed (word_rule (codes "file")))) (letter_rule 113 (codes "queue"))) (text_rule (codes "user"))

abbrev pub page_app : App
page_app = with_rule page_words (flag_rule (codes "follow"))

-- `spool say [COMMAND].. [--until-end] [--json]`
abbrev pub say_app : App
say_app =
    with_rule (with_rule (with_rule (task_app (codes "spool say")) (several (word_rule (codes "command")))) (flag_rule (codes "until-end")))
    (flag_rule (codes "json"))

-- `spool [--version]`
abbrev pub spool_app : Text → App
spool_app name = on_top (λ s. record s { has_version = true }) (new_app name)

-- `spool [--version] TASK..` without a known task.
abbrev pub other_app : App
other_app = with_rule (spool_app (codes "spool")) (needed (several (word_rule (codes "task"))))

-- ---- the programs with their own names

-- `[-h HOST] [-E]`, with this letter for the host.
abbrev pub with_host : ℕ → App → App
with_host letter app = with_rule (with_rule app (letter_rule letter (codes "host"))) (letter_flag_rule 69 (codes "encrypt"))

-- `[-h HOST] [-E] [-U USER]`
abbrev pub with_caller : App → App
with_caller app = with_rule (with_host 104 app) (letter_rule 85 (codes "as-user"))

-- `lp [-d DEST] [-t TITLE] [-U USER] [-n N] [-q P] [-o NAME=VALUE].. [-P PAGES] [-H WHEN] [-c] [-s] [FILE]..`
abbrev pub lp_words : App
lp_words =
    with_rule (with_rule (with_rule (with_rule (named_app (codes "lp"))
    (several (word_rule (codes "file")))) (letter_rule 100 (codes "queue"))) (letter_rule 116 (codes "title"))) (letter_rule 85 (codes "user"))

abbrev pub with_numbers : App → App
with_numbers app = with_rule (with_rule app (letter_rule 110 (codes "copies"))) (letter_rule 113 (codes "priority"))

abbrev pub lp_document : App
lp_document =
    with_rule (with_rule (with_rule (with_rule (with_rule (with_numbers lp_words)
    (several (letter_rule 111 (codes "option")))) (letter_rule 80 (codes "pages"))) (letter_rule 72 (codes "handling"))) (letter_flag_rule 99 (codes "copy")))
    (letter_flag_rule 115 (codes "quiet"))

-- `[-i JOB] [-m] [-w]`
abbrev pub lp_jobs : App → App
lp_jobs app = with_rule (with_rule (with_rule app (letter_rule 105 (codes "job"))) (letter_flag_rule 109 (codes "mail"))) (letter_flag_rule 119 (codes "write"))

-- `[-f FORM] [-S NAME] [-y MODE] [-T TYPE]`
abbrev pub lp_ignored : App → App
lp_ignored app =
    with_rule (with_rule (with_rule (with_rule app (letter_rule 102 (codes "form"))) (letter_rule 83 (codes "wheel"))) (letter_rule 121 (codes "mode")))
    (letter_rule 84 (codes "content"))

abbrev pub lp_app : App
lp_app = with_host 104 (lp_ignored (lp_jobs lp_document))

-- -T, with the further letters -J and -C.
abbrev pub title_rule : Rule
title_rule = record (letter_rule 84 (codes "title")) { short_aliases = 74 ∷ 67 ∷ [] }

-- `lpr [-P DEST] [-T TITLE] [-U USER] [-# N] [-o NAME=VALUE].. [-q] [-h] [-l] [-m] [-r] [-s] [FILE]..`
abbrev pub lpr_words : App
lpr_words =
    with_rule (with_rule (with_rule (with_rule (named_app (codes "lpr"))
    (several (word_rule (codes "file")))) (letter_rule 80 (codes "queue"))) title_rule) (letter_rule 85 (codes "user"))

abbrev pub lpr_document : App
lpr_document =
    with_rule (with_rule (with_rule (with_rule lpr_words (letter_rule 35 (codes "copies"))) (several (letter_rule 111 (codes "option"))))
    (letter_flag_rule 113 (codes "hold"))) (letter_flag_rule 104 (codes "no-banner"))

abbrev pub lpr_flags : App → App
lpr_flags app =
    with_rule (with_rule (with_rule (with_rule app (letter_flag_rule 108 (codes "literal"))) (letter_flag_rule 109 (codes "mail"))) (letter_flag_rule 114 (codes "remove")))
    (letter_flag_rule 115 (codes "link"))

-- `[-p] [-c] [-d] [-f] [-g] [-n] [-t] [-v] [-i N] [-w N]`
abbrev pub lpr_filters : App → App
lpr_filters app =
    with_rule (with_rule (with_rule (with_rule (with_rule app (letter_flag_rule 112 (codes "pretty"))) (letter_flag_rule 99 (codes "cifplot")))
    (letter_flag_rule 100 (codes "dvi"))) (letter_flag_rule 102 (codes "fortran"))) (letter_flag_rule 103 (codes "graph"))

abbrev pub lpr_ignored : App → App
lpr_ignored app =
    with_rule (with_rule (with_rule (with_rule (with_rule (lpr_filters app) (letter_flag_rule 110 (codes "ditroff"))) (letter_flag_rule 116 (codes "troff")))
    (letter_flag_rule 118 (codes "raster"))) (letter_rule 105 (codes "indent"))) (letter_rule 119 (codes "columns"))

abbrev pub lpr_app : App
lpr_app = with_host 72 (lpr_ignored (lpr_flags lpr_document))

-- `lpstat [-r] [-d] [-t] [-p [LIST]] [-a [LIST]] [-v [LIST]] [-o [LIST]] [-c [LIST]] [-u [LIST]] [-W WHICH] [NAME]..`
abbrev pub lpstat_words : App
lpstat_words =
    with_rule (with_rule (with_rule (with_rule (named_app (codes "lpstat"))
    (several (word_rule (codes "name")))) (letter_flag_rule 114 (codes "scheduler"))) (letter_flag_rule 100 (codes "usual"))) (letter_flag_rule 116 (codes "all"))

abbrev pub lpstat_queues : App
lpstat_queues =
    with_rule (with_rule (with_rule (with_rule lpstat_words (listed (letter_rule 112 (codes "printers")))) (listed (letter_rule 97 (codes "accepting"))))
    (listed (letter_rule 118 (codes "devices")))) (listed (letter_rule 111 (codes "jobs")))

abbrev pub lpstat_jobs : App
lpstat_jobs =
    with_rule (with_rule (with_rule lpstat_queues (listed (letter_rule 99 (codes "classes")))) (listed (letter_rule 117 (codes "users"))))
    (letter_rule 87 (codes "which"))

-- `[-e] [-s] [-l] [-D] [-R] [-H]`
abbrev pub lpstat_flags : App → App
lpstat_flags app =
    with_rule (with_rule (with_rule (with_rule (with_rule (with_rule app (letter_flag_rule 101 (codes "destinations"))) (letter_flag_rule 115 (codes "summary")))
    (letter_flag_rule 108 (codes "long"))) (letter_flag_rule 68 (codes "described"))) (letter_flag_rule 82 (codes "ranks"))) (letter_flag_rule 72 (codes "server"))

abbrev pub lpstat_app : App
lpstat_app = with_caller (lpstat_flags lpstat_jobs)

-- `cancel [-a] [-u USER] [-x] [JOB]..`
abbrev pub cancel_app : App
cancel_app =
    with_caller (with_rule (with_rule (with_rule (with_rule (named_app (codes "cancel"))
    (several (word_rule (codes "job")))) (letter_flag_rule 97 (codes "all"))) (letter_rule 117 (codes "user"))) (letter_flag_rule 120 (codes "purge")))

-- `lpq [-P DEST] [-a] [-l] [JOB]..`
abbrev pub lpq_app : App
lpq_app =
    with_caller (with_rule (with_rule (with_rule (with_rule (named_app (codes "lpq")) (several (word_rule (codes "job")))) (letter_rule 80 (codes "queue")))
    (letter_flag_rule 97 (codes "all"))) (letter_flag_rule 108 (codes "long")))

-- `lprm [-P DEST] [JOB]..`
abbrev pub lprm_app : App
lprm_app = with_caller (with_rule (with_rule (named_app (codes "lprm")) (several (word_rule (codes "job")))) (letter_rule 80 (codes "queue")))

-- `lpoptions -d DEST`, and options that are refused.
abbrev pub lpoptions_app : App
lpoptions_app =
    with_caller (with_rule (with_rule (with_rule (with_rule (with_rule (with_rule (named_app (codes "lpoptions")) (letter_rule 100 (codes "default")))
    (letter_rule 112 (codes "queue"))) (letter_flag_rule 108 (codes "list"))) (several (letter_rule 111 (codes "option")))) (letter_rule 114 (codes "drop")))
    (letter_rule 120 (codes "forget")))

abbrev pub lpmove_app : App
lpmove_app = with_caller (with_rule (named_app (codes "lpmove")) (several (word_rule (codes "job"))))

-- `NAME [-r TEXT] [-c] [--hold] [--release] [QUEUE]..`
abbrev pub switch_app : Text → App
switch_app name =
    with_caller (with_rule (with_rule (with_rule (with_rule (with_rule (named_app name) (several (word_rule (codes "name")))) (letter_rule 114 (codes "reason")))
    (letter_flag_rule 99 (codes "cancel"))) (flag_rule (codes "hold"))) (flag_rule (codes "release")))

-- ---- all forms

abbrev pub name_of : Form → Text
name_of Submit = codes "spool submit"
name_of Status = codes "spool status"
name_of Queues = codes "spool queues"
name_of Watch = codes "spool watch"
name_of Cancel = codes "spool cancel"
name_of Hold = codes "spool hold"
name_of (Plain act) = codes "spool " ++ word_for act
name_of QueueShow = codes "spool queue show"
name_of QueueAdd = codes "spool queue add"
name_of QueueSet = codes "spool queue set"
name_of QueueAccept = codes "spool queue accept"
name_of QueueReject = codes "spool queue reject"
name_of QueueEnable = codes "spool queue enable"
name_of QueueDisable = codes "spool queue disable"
name_of Devices = codes "spool devices"
name_of Check = codes "spool check"
name_of Page = codes "spool page"
name_of Say = codes "spool say"
name_of Lp = codes "lp"
name_of Lpr = codes "lpr"
name_of Lpstat = codes "lpstat"
name_of CancelJobs = codes "cancel"
name_of Lpq = codes "lpq"
name_of Lprm = codes "lprm"
name_of Lpoptions = codes "lpoptions"
name_of Lpmove = codes "lpmove"
name_of CupsEnable = codes "cupsenable"
name_of CupsDisable = codes "cupsdisable"
name_of CupsAccept = codes "cupsaccept"
name_of CupsReject = codes "cupsreject"
name_of Other = codes "spool"

-- A command with this name, without its parameters.
abbrev pub bare_app : Base → Text → App
bare_app Task name = task_app name
bare_app Program name = named_app name
bare_app Spool name = spool_app name

abbrev pub app_for : Form → App
app_for Submit = submit_app
app_for Status = status_app
app_for Queues = queues_app
app_for Watch = json_app (codes "spool watch")
app_for Cancel = stop_app
app_for Hold = hold_app
app_for (Plain act) = jobs_app (codes "spool " ++ word_for act)
app_for QueueShow = show_app
app_for QueueAdd = add_app
app_for QueueSet = set_app
app_for QueueAccept = queue_app (codes "spool queue accept")
app_for QueueReject = queue_app (codes "spool queue reject")
app_for QueueEnable = queue_app (codes "spool queue enable")
app_for QueueDisable = queue_app (codes "spool queue disable")
app_for Devices = task_app (codes "spool devices")
app_for Check = json_app (codes "spool check")
app_for Page = page_app
app_for Say = say_app
app_for Lp = lp_app
app_for Lpr = lpr_app
app_for Lpstat = lpstat_app
app_for CancelJobs = cancel_app
app_for Lpq = lpq_app
app_for Lprm = lprm_app
app_for Lpoptions = lpoptions_app
app_for Lpmove = lpmove_app
app_for CupsEnable = switch_app (codes "cupsenable")
app_for CupsDisable = switch_app (codes "cupsdisable")
app_for CupsAccept = switch_app (codes "cupsaccept")
app_for CupsReject = switch_app (codes "cupsreject")
app_for Other = other_app
