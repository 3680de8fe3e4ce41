-- The values of each source of an attribute of jobs.
use Rattle.std.specs.Prelude.{ℕ, List, codes, map}
use Rattle.std.specs.Fmt.{decimal}
use Rattle.ipp_names.specs.IppJobStates.{job_state_number}
use Rattle.ipp_values.specs.declared.value.Value.{Value}
use Rattle.ipp_answers.specs.AnswerUris.{ipp_uri, jobs_path, page_uri, printers_path, uuid_urn}
use Rattle.ipp_answers.specs.AnswerValues.{charset_value, date_value, enum_of, integer_of, keyword_value, name_value, of_option, one, seconds_of, text_value, type_value, uri_value}
use Rattle.requested_attributes.specs.AttributeGroups.{StatedRow, row}
use Rattle.ipp_answers.specs.JobAnswers.{documents, hold_words, kilo_octets, reached_date, reached_seconds, title_values}
use Rattle.ipp_answers.specs.JobStates.{reason_word, state_by, state_reasons}
use Rattle.ipp_answers.specs.declared.facts.JobFacts.{JobFacts}
use Rattle.ipp_answers.specs.declared.facts.Reached.{Reached}
use Rattle.ipp_answers.specs.declared.facts.Server.{Server}
use Rattle.ipp_answers.specs.declared.job_sources.JobAddress.{JobAddress}
use Rattle.ipp_answers.specs.declared.job_sources.JobAddress.TheVariants as addresses
use Rattle.ipp_answers.specs.declared.job_sources.JobNumber.{JobNumber}
use Rattle.ipp_answers.specs.declared.job_sources.JobNumber.TheVariants as numbers
use Rattle.ipp_answers.specs.declared.job_sources.JobRow.{JobRow}
use Rattle.ipp_answers.specs.declared.job_sources.JobSource.{JobSource}
use Rattle.ipp_answers.specs.declared.job_sources.JobSource.TheVariants as sources
use Rattle.ipp_answers.specs.declared.job_sources.JobTime.{JobTime}
use Rattle.ipp_answers.specs.declared.job_sources.JobTime.TheVariants as times

abbrev pub number_of : JobFacts → JobNumber → ℕ
number_of j numbers.Id = j.id
number_of j numbers.Copies = j.copies
number_of j numbers.Priority = j.priority
number_of j numbers.Impressions = j.impressions
number_of j numbers.KiloOctets = kilo_octets j.size
number_of j numbers.Documents = documents j

abbrev pub time_of : JobFacts → JobTime → Reached
time_of j times.Creation = j.created
time_of j times.Processing = j.started
time_of j times.Completion = j.ended

abbrev pub job_address : Server → JobFacts → JobAddress → List ℕ
job_address s j addresses.Job = ipp_uri s jobs_path (decimal j.id)
job_address s j addresses.Page = page_uri s jobs_path (decimal j.id)
job_address s j addresses.Printer = ipp_uri s printers_path j.queue
job_address s j addresses.Uuid = uuid_urn s jobs_path (decimal j.id)

abbrev pub job_values : Server → JobFacts → JobSource → List Value
job_values s j sources.Charset = one (charset_value (codes "utf-8"))
job_values s j (sources.Number it) = one (integer_of (number_of j it))
job_values s j (sources.Seconds it) = one (reached_seconds (time_of j it))
job_values s j (sources.Date it) = one (reached_date (time_of j it))
job_values s j (sources.Address it) = one (uri_value (job_address s j it))
job_values s j sources.Title = title_values j
job_values s j sources.User = of_option name_value j.user
job_values s j sources.Format = of_option type_value j.format
job_values s j sources.HoldUntil = map keyword_value (hold_words j)
job_values s j sources.HoldUntilTime = of_option date_value j.held_until
job_values s j sources.State = one (enum_of (job_state_number (state_by j.reason)))
job_values s j sources.StateMessage = one (text_value (reason_word j.reason))
job_values s j sources.StateReasons = map keyword_value (state_reasons j.reason)
job_values s j sources.UpTime = one (seconds_of s.moment)

-- What the facts give a row of the table.
abbrev pub stated : Server → JobFacts → JobRow → StatedRow
stated s j r = row r.name.now r.group (job_values s j r.source)
