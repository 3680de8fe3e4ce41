-- Actions on a job that need nothing but the job's number.
use Rattle.std.specs.Prelude.{codes, if◌then◌else◌, Option, None, Some}
use Rattle.std.specs.Str.{bytes_eq}
use Rattle.clap.specs.Words.{Text}
use Rattle.front_words.specs.declared.plain_acts.PlainAct.{PlainAct}
use Rattle.front_words.specs.declared.plain_acts.PlainAct.TheVariants.{Release, Purge, End}

-- The word of the task, and of the service's command.
abbrev pub word_for : PlainAct → Text
word_for Release = codes "release"
word_for Purge = codes "purge"
word_for End = codes "end"

abbrev pub act_named : Text → Option PlainAct
act_named word =
    if bytes_eq word (word_for Release) then Some Release
    else (if bytes_eq word (word_for Purge) then Some Purge
    else (if bytes_eq word (word_for End) then Some End
    else None))
