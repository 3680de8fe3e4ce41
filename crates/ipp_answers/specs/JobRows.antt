-- The attributes of a job (RFC 8011, 5.2 and 5.3; PWG 5100.11; `document-format` is that of CUPS). `s` is the server, and `j` what the
-- service reports of the job.
use Rattle.std.specs.Prelude.{List, [], ◌∷◌, codes, map}
use Rattle.std.specs.Fmt.{decimal}
use Rattle.ipp_names.specs.IppJobStates.{job_state_number}
use Rattle.ipp_answers.specs.AnswerUris.{ipp_uri, jobs_path, page_uri, printers_path, uuid_urn}
use Rattle.ipp_answers.specs.AnswerValues.{charset_value, date_value, enum_of, integer_of, keyword_value, name_value, of_option, one, seconds_of, text_value, type_value, uri_value}
use Rattle.requested_attributes.specs.AttributeGroups.{StatedRow, row}
use Rattle.ipp_answers.specs.JobAnswers.{documents, hold_words, kilo_octets, reached_date, reached_seconds, title_values}
use Rattle.ipp_answers.specs.JobStates.{reason_word, state_by, state_reasons}
use Rattle.ipp_answers.specs.declared.facts.JobFacts.{JobFacts}
use Rattle.ipp_answers.specs.declared.facts.Server.{Server}
use Rattle.requested_attributes.specs.declared.groups.AttributeGroup.TheVariants.{JobDescription, JobTemplate}

abbrev pub job_rows : Server → JobFacts → List StatedRow
job_rows s j =
    row (codes "attributes-charset") JobDescription (one (charset_value (codes "utf-8")))
    ∷ row (codes "copies") JobTemplate (one (integer_of j.copies))
    ∷ row (codes "date-time-at-completed") JobDescription (one (reached_date j.ended))
    ∷ row (codes "date-time-at-creation") JobDescription (one (reached_date j.created))
    ∷ row (codes "date-time-at-processing") JobDescription (one (reached_date j.started))
    ∷ row (codes "document-format") JobDescription (of_option type_value j.format)
    ∷ row (codes "job-hold-until") JobTemplate (map keyword_value (hold_words j))
    ∷ row (codes "job-hold-until-time") JobTemplate (of_option date_value j.held_until)
    ∷ row (codes "job-id") JobDescription (one (integer_of j.id))
    ∷ row (codes "job-impressions-completed") JobDescription (one (integer_of j.impressions))
    ∷ row (codes "job-k-octets") JobDescription (one (integer_of (kilo_octets j.size)))
    ∷ row (codes "job-more-info") JobDescription (one (uri_value (page_uri s jobs_path (decimal j.id))))
    ∷ row (codes "job-name") JobDescription (title_values j)
    ∷ row (codes "job-originating-user-name") JobDescription (of_option name_value j.user)
    ∷ row (codes "job-printer-up-time") JobDescription (one (seconds_of s.moment))
    ∷ row (codes "job-printer-uri") JobDescription (one (uri_value (ipp_uri s printers_path j.queue)))
    ∷ row (codes "job-priority") JobTemplate (one (integer_of j.priority))
    ∷ row (codes "job-state") JobDescription (one (enum_of (job_state_number (state_by j.reason))))
    ∷ row (codes "job-state-message") JobDescription (one (text_value (reason_word j.reason)))
    ∷ row (codes "job-state-reasons") JobDescription (map keyword_value (state_reasons j.reason))
    ∷ row (codes "job-uri") JobDescription (one (uri_value (ipp_uri s jobs_path (decimal j.id))))
    ∷ row (codes "job-uuid") JobDescription (one (uri_value (uuid_urn s jobs_path (decimal j.id))))
    ∷ row (codes "number-of-documents") JobDescription (one (integer_of (documents j)))
    ∷ row (codes "time-at-completed") JobDescription (one (reached_seconds j.ended))
    ∷ row (codes "time-at-creation") JobDescription (one (reached_seconds j.created))
    ∷ row (codes "time-at-processing") JobDescription (one (reached_seconds j.started))
    ∷ []
