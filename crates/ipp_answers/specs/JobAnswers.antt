-- The values of a job's attributes that follow from several facts.
use Rattle.std.specs.Prelude.{ℕ, ◌+◌, ◌/◌, Bool, true, false, ◌&&◌, ◌==◌, cond, List, [], ◌∷◌, codes, Option, None, Some}
use Rattle.ipp_values.specs.declared.value.Value.{Value}
use Rattle.ipp_values.specs.declared.value.Value.TheVariants.{DateTime, NoValue, Unknown}
use Rattle.ipp_answers.specs.AnswerValues.{integer_of, name_value, one}
use Rattle.requested_attributes.specs.AttributeGroups.{is_empty}
use Rattle.ipp_answers.specs.declared.facts.JobFacts.{JobFacts}
use Rattle.ipp_answers.specs.declared.facts.Reached.{Reached}
use Rattle.ipp_answers.specs.declared.facts.Reached.TheVariants as reached
use Rattle.ipp_answers.specs.declared.states.JobReason.{JobReason}
use Rattle.ipp_answers.specs.declared.states.JobReason.TheVariants as reasons
use Rattle.ipp_answers.specs.declared.timestamps.Timestamp.{Timestamp}

-- ## Times (RFC 8011, 5.3.14)

-- The seconds since 1970. There is no value before the job has reached the state, and if nobody knows when it has.
abbrev pub reached_seconds : Reached → Value
reached_seconds reached.NotYet = NoValue
reached_seconds reached.Unknown = NoValue
reached_seconds (reached.At t) = integer_of t.seconds

abbrev pub reached_date : Reached → Value
reached_date reached.NotYet = NoValue
reached_date reached.Unknown = Unknown
reached_date (reached.At t) = DateTime t.date

-- ## Texts

-- The title if the client may see it: no attribute if the service hides the job's texts, and no value if the job has no title.
abbrev pub seen_title : Option (List ℕ) → List ℕ → List Value
seen_title None title = []
seen_title (Some user) title = one (cond (is_empty title) NoValue (name_value title))

abbrev pub title_values : JobFacts → List Value
title_values j = seen_title j.user j.title

-- ## Numbers

-- The size in units of 1,024 bytes, rounded up (RFC 8011, 5.3.17.1).
abbrev pub kilo_octets : ℕ → ℕ
kilo_octets size = (size + 1023) / 1024

abbrev pub is_incoming : JobReason → Bool
is_incoming reasons.Incoming = true
is_incoming reason = false

-- An incoming job without any bytes has no document yet.
abbrev pub documents : JobFacts → ℕ
documents j = cond (is_incoming j.reason && (j.size == 0)) 0 1

-- ## Holds (RFC 8011, 5.2.2)

-- A hold that has no moment is `indefinite`. A hold until a moment has no keyword: `job-hold-until-time` says the moment. Of an incoming
-- job nobody knows whether it is held.
abbrev pub held_words : Option Timestamp → List (List ℕ)
held_words None = codes "indefinite" ∷ []
held_words (Some moment) = []

abbrev pub hold_words_by : JobReason → Option Timestamp → List (List ℕ)
hold_words_by reasons.Incoming until = []
hold_words_by reasons.Held until = held_words until
hold_words_by reasons.HeldForAuthentication until = held_words until
hold_words_by reasons.HeldByBackend until = held_words until
hold_words_by reason until = codes "no-hold" ∷ []

abbrev pub hold_words : JobFacts → List (List ℕ)
hold_words j = hold_words_by j.reason j.held_until
