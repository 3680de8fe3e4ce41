-- The attributes of a printer (RFC 8011, 5.2 and 5.4; PWG 5100.3, 5100.7, 5100.11, 5100.13 and 5100.14; `device-uri` and `printer-type` are
-- those of CUPS). `s` is the server, `d` the printer's section of the file of printers, and `f` what the service reports of the queue.
use Rattle.std.specs.Prelude.{ℕ, ◌/◌, true, false, List, [], ◌∷◌, ◌++◌, codes, map, take}
use Rattle.std.specs.List.{flat_map}
use Rattle.ipp_names.specs.IppOperations.{operation_number, operations}
use Rattle.ipp_names.specs.IppPrinterStates.{printer_state_number}
use Rattle.ipp_printers.specs.declared.property.Property.{Property}
use Rattle.ipp_values.specs.declared.value.Value.TheVariants.{Boolean, NoValue, Unknown}
use Rattle.ipp_answers.specs.AnswerUris.{ipp_uri, page_uri, printers_path, uuid_urn}
use Rattle.ipp_answers.specs.AnswerValues.{charset_value, date_or_unknown, dots, enum_of, integer_of, keyword_value, language_value, name_value, of_option, one, range_from, seconds_of, text_value, type_value, uri_value}
use Rattle.requested_attributes.specs.AttributeGroups.{StatedRow, row}
use Rattle.printer_answers.specs.PrinterAnswers.{color_modes, for_format, formats_of, info_for, location_for, printer_reasons, printer_state, printer_type, pwg_raster, pwg_types, queued_jobs, security, sides, urf, urf_words}
use Rattle.printer_answers.specs.PrinterMedia.{color_pages_per_minute, device_id, has_color, make_and_model, media, media_col, media_name, media_size, output_bins, pages_per_minute, resolutions}
use Rattle.ipp_answers.specs.WhichJobs.{all_choices, choice_word}
use Rattle.printer_answers.specs.declared.facts.PrinterFacts.{PrinterFacts}
use Rattle.ipp_answers.specs.declared.facts.Server.{Server}
use Rattle.requested_attributes.specs.declared.groups.AttributeGroup.TheVariants.{PrinterDescription, JobTemplate, OwnName}

abbrev pub description_rows : Server → List Property → PrinterFacts → List StatedRow
description_rows s d f =
    row (codes "charset-configured") PrinterDescription (charset_value (codes "utf-8") ∷ [])
    ∷ row (codes "charset-supported") PrinterDescription (charset_value (codes "us-ascii") ∷ charset_value (codes "utf-8") ∷ [])
    ∷ row (codes "color-supported") PrinterDescription (one (Boolean (has_color d)))
    ∷ row (codes "compression-supported") PrinterDescription (keyword_value (codes "none") ∷ [])
    ∷ row (codes "device-uri") PrinterDescription (of_option uri_value f.uri)
    ∷ row (codes "document-format-default") PrinterDescription (type_value (codes "application/octet-stream") ∷ [])
    ∷ row (codes "document-format-supported") PrinterDescription (map type_value (formats_of f))
    ∷ row (codes "generated-natural-language-supported") PrinterDescription (language_value (codes "en") ∷ [])
    ∷ row (codes "identify-actions-default") PrinterDescription (keyword_value (codes "display") ∷ [])
    ∷ row (codes "identify-actions-supported") PrinterDescription (keyword_value (codes "display") ∷ [])
    ∷ row (codes "ipp-features-supported") PrinterDescription (keyword_value (codes "none") ∷ [])
    ∷ row (codes "ipp-versions-supported") PrinterDescription (keyword_value (codes "1.1") ∷ keyword_value (codes "2.0") ∷ [])
    ∷ row (codes "job-creation-attributes-supported") PrinterDescription (map (λ name. keyword_value name.now) s.creation_attributes.now)
    ∷ row (codes "job-ids-supported") PrinterDescription (one (Boolean true))
    ∷ row (codes "job-k-octets-supported") PrinterDescription (one (range_from 0 (s.longest_document / 1024)))
    ∷ row (codes "job-settable-attributes-supported") PrinterDescription (keyword_value (codes "job-hold-until") ∷ [])
    ∷ row (codes "multiple-document-jobs-supported") PrinterDescription (one (Boolean s.takes_several_documents))
    ∷ row (codes "multiple-operation-time-out") PrinterDescription (one (integer_of s.time_out))
    ∷ row (codes "multiple-operation-time-out-action") PrinterDescription (keyword_value (codes "abort-job") ∷ [])
    ∷ row (codes "natural-language-configured") PrinterDescription (language_value (codes "en") ∷ [])
    ∷ row (codes "operations-supported") PrinterDescription (map (λ operation. enum_of (operation_number operation)) operations)
    ∷ row (codes "pages-per-minute") PrinterDescription (of_option integer_of (pages_per_minute d))
    ∷ row (codes "pages-per-minute-color") PrinterDescription (of_option integer_of (color_pages_per_minute d))
    ∷ row (codes "pdl-override-supported") PrinterDescription (keyword_value (codes "attempted") ∷ [])
    ∷ row (codes "preferred-attributes-supported") PrinterDescription (one (Boolean false))
    ∷ row (codes "printer-config-change-date-time") PrinterDescription (one (date_or_unknown s.configured))
    ∷ row (codes "printer-config-change-time") PrinterDescription (one (seconds_of s.configured))
    ∷ row (codes "printer-current-time") PrinterDescription (one (date_or_unknown s.moment))
    ∷ row (codes "printer-device-id") PrinterDescription (of_option text_value (device_id d))
    ∷ row (codes "printer-dns-sd-name") PrinterDescription (one NoValue)
    ∷ row (codes "printer-geo-location") PrinterDescription (one Unknown)
    ∷ row (codes "printer-get-attributes-supported") PrinterDescription (keyword_value (codes "document-format") ∷ [])
    ∷ row (codes "printer-icons") PrinterDescription (one (uri_value (page_uri s (codes "/icon.png") [])))
    ∷ row (codes "printer-info") PrinterDescription (one (text_value (info_for d f)))
    ∷ row (codes "printer-is-accepting-jobs") PrinterDescription (one (Boolean f.accepting))
    ∷ row (codes "printer-is-temporary") PrinterDescription (one (Boolean false))
    ∷ row (codes "printer-location") PrinterDescription (one (text_value (location_for d f)))
    ∷ row (codes "printer-make-and-model") PrinterDescription (of_option text_value (make_and_model d))
    ∷ row (codes "printer-more-info") PrinterDescription (one (uri_value (page_uri s printers_path f.name)))
    ∷ row (codes "printer-name") PrinterDescription (one (name_value f.name))
    ∷ row (codes "printer-organization") PrinterDescription (text_value (codes "") ∷ [])
    ∷ row (codes "printer-organizational-unit") PrinterDescription (text_value (codes "") ∷ [])
    ∷ row (codes "printer-state") PrinterDescription (one (enum_of (printer_state_number (printer_state f))))
    ∷ row (codes "printer-state-change-date-time") PrinterDescription (one (date_or_unknown f.changed))
    ∷ row (codes "printer-state-change-time") PrinterDescription (one (seconds_of f.changed))
    ∷ row (codes "printer-state-message") PrinterDescription (one (text_value f.message))
    ∷ row (codes "printer-state-reasons") PrinterDescription (map keyword_value (printer_reasons f))
    ∷ row (codes "printer-supply-info-uri") PrinterDescription (one (uri_value (page_uri s printers_path f.name)))
    ∷ row (codes "printer-type") PrinterDescription (one (enum_of (printer_type d)))
    ∷ row (codes "printer-up-time") PrinterDescription (one (seconds_of s.moment))
    ∷ row (codes "printer-uri-supported") PrinterDescription (one (uri_value (ipp_uri s printers_path f.name)))
    ∷ row (codes "printer-uuid") PrinterDescription (one (uri_value (uuid_urn s printers_path f.name)))
    ∷ row (codes "pwg-raster-document-resolution-supported") PrinterDescription (for_format pwg_raster f (map dots (resolutions d)))
    ∷ row (codes "pwg-raster-document-sheet-back") PrinterDescription (for_format pwg_raster f (keyword_value (codes "normal") ∷ []))
    ∷ row (codes "pwg-raster-document-type-supported") PrinterDescription (for_format pwg_raster f (map keyword_value (pwg_types d)))
    ∷ row (codes "queued-job-count") PrinterDescription (one (integer_of (queued_jobs f)))
    ∷ row (codes "urf-supported") PrinterDescription (for_format urf f (map keyword_value (urf_words d)))
    ∷ row (codes "uri-authentication-supported") PrinterDescription (keyword_value (codes "requesting-user-name") ∷ [])
    ∷ row (codes "uri-security-supported") PrinterDescription (one (keyword_value (security s)))
    ∷ row (codes "which-jobs-supported") PrinterDescription (map (λ choice. keyword_value (choice_word choice)) all_choices)
    ∷ []

abbrev pub template_rows : List Property → List StatedRow
template_rows d =
    row (codes "copies-default") JobTemplate (integer_of 1 ∷ [])
    ∷ row (codes "copies-supported") JobTemplate (one (range_from 1 9999))
    ∷ row (codes "finishings-default") JobTemplate (enum_of 3 ∷ [])
    ∷ row (codes "finishings-supported") JobTemplate (enum_of 3 ∷ [])
    ∷ row (codes "job-hold-until-default") JobTemplate (keyword_value (codes "no-hold") ∷ [])
    ∷ row (codes "job-hold-until-supported") JobTemplate (keyword_value (codes "no-hold") ∷ keyword_value (codes "indefinite") ∷ [])
    ∷ row (codes "job-hold-until-time-supported") JobTemplate (one (range_from 0 2147483647))
    ∷ row (codes "job-priority-default") JobTemplate (integer_of 50 ∷ [])
    ∷ row (codes "job-priority-supported") JobTemplate (integer_of 100 ∷ [])
    ∷ row (codes "job-sheets-default") JobTemplate (keyword_value (codes "none") ∷ [])
    ∷ row (codes "job-sheets-supported") JobTemplate (keyword_value (codes "none") ∷ [])
    ∷ row (codes "media-col-database") OwnName (flat_map media_col (media d))
    ∷ row (codes "media-col-default") JobTemplate (flat_map media_col (take 1 (media d)))
    ∷ row (codes "media-col-supported") JobTemplate (keyword_value (codes "media-bottom-margin") ∷ keyword_value (codes "media-left-margin") ∷ keyword_value (codes "media-right-margin") ∷ keyword_value (codes "media-size") ∷ keyword_value (codes "media-size-name") ∷ keyword_value (codes "media-source") ∷ keyword_value (codes "media-top-margin") ∷ keyword_value (codes "media-type") ∷ [])
    ∷ row (codes "media-default") JobTemplate (map media_name (take 1 (media d)))
    ∷ row (codes "media-size-supported") JobTemplate (flat_map media_size (media d))
    ∷ row (codes "media-source-supported") JobTemplate (keyword_value (codes "auto") ∷ [])
    ∷ row (codes "media-supported") JobTemplate (map media_name (media d))
    ∷ row (codes "media-type-supported") JobTemplate (keyword_value (codes "stationery") ∷ [])
    ∷ row (codes "multiple-document-handling-default") JobTemplate (keyword_value (codes "separate-documents-collated-copies") ∷ [])
    ∷ row (codes "multiple-document-handling-supported") JobTemplate (keyword_value (codes "separate-documents-uncollated-copies") ∷ keyword_value (codes "separate-documents-collated-copies") ∷ [])
    ∷ row (codes "number-up-default") JobTemplate (integer_of 1 ∷ [])
    ∷ row (codes "number-up-supported") JobTemplate (integer_of 1 ∷ integer_of 2 ∷ integer_of 4 ∷ integer_of 6 ∷ integer_of 9 ∷ integer_of 16 ∷ [])
    ∷ row (codes "orientation-requested-default") JobTemplate (one NoValue)
    ∷ row (codes "orientation-requested-supported") JobTemplate (enum_of 3 ∷ enum_of 4 ∷ enum_of 5 ∷ enum_of 6 ∷ [])
    ∷ row (codes "output-bin-default") JobTemplate (map keyword_value (take 1 (output_bins d)))
    ∷ row (codes "output-bin-supported") JobTemplate (map keyword_value (output_bins d))
    ∷ row (codes "page-ranges-supported") JobTemplate (one (Boolean true))
    ∷ row (codes "print-color-mode-default") JobTemplate (keyword_value (codes "auto") ∷ [])
    ∷ row (codes "print-color-mode-supported") JobTemplate (map keyword_value (color_modes d))
    ∷ row (codes "print-quality-default") JobTemplate (enum_of 4 ∷ [])
    ∷ row (codes "print-quality-supported") JobTemplate (enum_of 3 ∷ enum_of 4 ∷ enum_of 5 ∷ [])
    ∷ row (codes "print-scaling-default") JobTemplate (keyword_value (codes "auto") ∷ [])
    ∷ row (codes "print-scaling-supported") JobTemplate (keyword_value (codes "auto") ∷ keyword_value (codes "auto-fit") ∷ keyword_value (codes "fill") ∷ keyword_value (codes "fit") ∷ keyword_value (codes "none") ∷ [])
    ∷ row (codes "printer-resolution-default") JobTemplate (map dots (take 1 (resolutions d)))
    ∷ row (codes "printer-resolution-supported") JobTemplate (map dots (resolutions d))
    ∷ row (codes "sides-default") JobTemplate (keyword_value (codes "one-sided") ∷ [])
    ∷ row (codes "sides-supported") JobTemplate (map keyword_value (sides d))
    ∷ []

abbrev pub printer_rows : Server → List Property → PrinterFacts → List StatedRow
printer_rows s d f = description_rows s d f ++ template_rows d
