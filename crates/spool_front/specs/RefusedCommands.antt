-- The explanations of refused commands.
use Rattle.std.specs.Prelude.{◌≡◌, ℕ, Bool, true, false, List, ◌++◌, codes, string_bytes, Option, None, Some, cond}
use Rattle.std.specs.Fmt.{decimal}
use Rattle.command_lines.specs.CommandGrammar.{is_word}
use Rattle.front_proof.specs.Denials.{denied_job, denied_to_all}
use Rattle.front_proof.specs.Standings.{Standing, unproved}
use Rattle.front_words.specs.PlainActs.{word_for}
use Rattle.front_words.specs.declared.asked.JobAct.{JobAct}
use Rattle.front_words.specs.declared.asked.JobAct.TheVariants.{Cancel, CancelOnly, Hold, Resume, Plain}
use Rattle.front_words.specs.declared.asked.QueueAct.{QueueAct}
use Rattle.front_words.specs.declared.asked.QueueAct.TheVariants.{Add, Set, Accept, Reject, Enable, Disable}
use Rattle.front_words.specs.declared.plain_acts.PlainAct.TheVariants.{Purge}
use Rattle.refusal_sentences.specs.RefusalSentences.{sentence_of}
use Rattle.spool_front.specs.declared.fault.Fault.{Fault}
use Rattle.spool_front.specs.declared.fault.Fault.TheVariants.{Refused, Explained}

abbrev pub is_denied : List ℕ → Bool
is_denied reply = is_word reply (codes "error denied")

abbrev pub IsExplanation : List ℕ → Fault → Type 0
IsExplanation text (Explained told) = string_bytes told ≡ text
IsExplanation text fault = ⊥

-- The fault, or an explanation of the reply if the service refused the command.
abbrev pub IsExplained : (List ℕ → List ℕ) → Fault → Fault → Type 0
IsExplained text (Refused reply) next = IsExplanation (text (string_bytes reply)) next
IsExplained text fault next = next ≡ fault

-- The explanation of a refusal that is no denial: `cannot cancel job 17: the job has ended`.
unfoldable pub refused_text : List ℕ → List ℕ → List ℕ → List ℕ
refused_text act object reply = codes "cannot " ++ act ++ codes " " ++ object ++ codes ": " ++ sentence_of reply

abbrev pub act_word : JobAct → List ℕ
act_word Cancel = codes "cancel"
act_word CancelOnly = codes "cancel"
act_word (Hold moment) = codes "hold"
act_word Resume = codes "release"
act_word (Plain act) = word_for act

abbrev pub is_purge : JobAct → Bool
is_purge (Plain Purge) = true
is_purge act = false

-- A client that the service was not asked about is unproved.
abbrev pub or_unproved : Option Standing → Standing
or_unproved None = unproved
or_unproved (Some standing) = standing

-- Only operators may purge a job, and its owner may do all else.
abbrev pub denied_text : JobAct → ℕ → Option Standing → List ℕ
denied_text act job standing =
    cond (is_purge act) (denied_to_all (act_word act) (codes "job " ++ decimal job) (codes "purge jobs"))
    (denied_job (act_word act) job (or_unproved standing))

abbrev pub job_text : JobAct → ℕ → Option Standing → List ℕ → List ℕ
job_text act job standing reply =
    cond (is_denied reply) (denied_text act job standing) (refused_text (act_word act) (codes "job " ++ decimal job) reply)

abbrev pub queue_word : QueueAct → List ℕ
queue_word (Add queue) = codes "add"
queue_word (Set info location) = codes "set"
queue_word Accept = codes "accept"
queue_word Reject = codes "reject"
queue_word Enable = codes "enable"
queue_word Disable = codes "disable"

abbrev pub queue_text : List ℕ → QueueAct → List ℕ → List ℕ
queue_text name act reply =
    cond (is_denied reply) (denied_to_all (queue_word act) (codes "queue " ++ name) (codes "change queues"))
    (refused_text (queue_word act) (codes "queue " ++ name) reply)
