-- The values of each source of an attribute of printers.
use Rattle.std.specs.Prelude.{ℕ, ◌/◌, List, [], ◌∷◌, codes, map, take}
use Rattle.std.specs.List.{flat_map}
use Rattle.ipp_names.specs.IppOperations.{operation_number, operations}
use Rattle.ipp_names.specs.IppPrinterStates.{printer_state_number}
use Rattle.ipp_printers.specs.declared.property.Property.{Property}
use Rattle.ipp_values.specs.declared.value.Value.{Value}
use Rattle.ipp_values.specs.declared.value.Value.TheVariants as values
use Rattle.ipp_answers.specs.AnswerUris.{ipp_uri, page_uri, printers_path, uuid_urn}
use Rattle.ipp_answers.specs.AnswerValues.{date_or_unknown, dots, enum_of, integer_of, keyword_value, name_value, of_option, one, range_from, seconds_of, string_value, text_value, type_value, uri_value}
use Rattle.requested_attributes.specs.AttributeGroups.{StatedRow, row}
use Rattle.printer_answers.specs.PrinterAnswers.{color_modes, for_format, formats_of, info_for, location_for, printer_reasons, printer_state, printer_type, pwg_raster, pwg_types, queued_jobs, security, sides, urf, urf_words}
use Rattle.printer_answers.specs.PrinterMedia.{color_pages_per_minute, device_id, has_color, make_and_model, media, media_col, media_name, media_size, output_bins, pages_per_minute, resolutions}
use Rattle.ipp_answers.specs.WhichJobs.{all_choices, choice_word}
use Rattle.printer_answers.specs.declared.facts.PrinterFacts.{PrinterFacts}
use Rattle.ipp_answers.specs.declared.facts.Server.{Server}
use Rattle.printer_answers.specs.declared.printer_sources.AddressFact.{AddressFact}
use Rattle.printer_answers.specs.declared.printer_sources.AddressFact.TheVariants as addresses
use Rattle.printer_answers.specs.declared.printer_sources.DescribedFact.{DescribedFact}
use Rattle.printer_answers.specs.declared.printer_sources.DescribedFact.TheVariants as described
use Rattle.printer_answers.specs.declared.printer_sources.Fixed.{Fixed}
use Rattle.printer_answers.specs.declared.printer_sources.Fixed.TheVariants as fixed
use Rattle.printer_answers.specs.declared.printer_sources.MixedFact.{MixedFact}
use Rattle.printer_answers.specs.declared.printer_sources.MixedFact.TheVariants as mixed
use Rattle.printer_answers.specs.declared.printer_sources.PrinterRow.{PrinterRow}
use Rattle.printer_answers.specs.declared.printer_sources.PrinterSource.{PrinterSource}
use Rattle.printer_answers.specs.declared.printer_sources.PrinterSource.TheVariants as sources
use Rattle.printer_answers.specs.declared.printer_sources.QueueFact.{QueueFact}
use Rattle.printer_answers.specs.declared.printer_sources.QueueFact.TheVariants as queue
use Rattle.printer_answers.specs.declared.printer_sources.RasterFact.{RasterFact}
use Rattle.printer_answers.specs.declared.printer_sources.RasterFact.TheVariants as raster
use Rattle.printer_answers.specs.declared.printer_sources.ServerFact.{ServerFact}
use Rattle.printer_answers.specs.declared.printer_sources.ServerFact.TheVariants as server

abbrev pub fixed_values : Fixed → List Value
fixed_values (fixed.Strings syntax texts) = map (λ text. string_value syntax text.now) texts.now
fixed_values (fixed.Enums numbers) = map enum_of numbers.now
fixed_values (fixed.Integers numbers) = map integer_of numbers.now
fixed_values (fixed.Boolean so) = one (values.Boolean so)
fixed_values (fixed.Range low high) = one (range_from low high)
fixed_values fixed.NoValue = one values.NoValue
fixed_values fixed.Unknown = one values.Unknown

abbrev pub queue_values : PrinterFacts → QueueFact → List Value
queue_values f queue.DeviceUri = of_option uri_value f.uri
queue_values f queue.Formats = map type_value (formats_of f)
queue_values f queue.Accepting = one (values.Boolean f.accepting)
queue_values f queue.Name = one (name_value f.name)
queue_values f queue.State = one (enum_of (printer_state_number (printer_state f)))
queue_values f queue.ChangeDate = one (date_or_unknown f.changed)
queue_values f queue.ChangeTime = one (seconds_of f.changed)
queue_values f queue.Message = one (text_value f.message)
queue_values f queue.Reasons = map keyword_value (printer_reasons f)
queue_values f queue.QueuedJobs = one (integer_of (queued_jobs f))

abbrev pub address_text : Server → PrinterFacts → AddressFact → List ℕ
address_text s f addresses.Icon = page_uri s (codes "/icon.png") []
address_text s f addresses.Page = page_uri s printers_path f.name
address_text s f addresses.Printer = ipp_uri s printers_path f.name
address_text s f addresses.Uuid = uuid_urn s printers_path f.name

abbrev pub server_values : Server → ServerFact → List Value
server_values s server.CreationAttributes = map (λ name. keyword_value name.now) s.creation_attributes.now
server_values s server.LongestDocument = one (range_from 0 (s.longest_document / 1024))
server_values s server.SeveralDocuments = one (values.Boolean s.takes_several_documents)
server_values s server.TimeOut = one (integer_of s.time_out)
server_values s server.Operations = map (λ operation. enum_of (operation_number operation)) operations
server_values s server.ConfigurationDate = one (date_or_unknown s.configured)
server_values s server.ConfigurationTime = one (seconds_of s.configured)
server_values s server.CurrentDate = one (date_or_unknown s.moment)
server_values s server.CurrentTime = one (seconds_of s.moment)
server_values s server.Security = one (keyword_value (security s))
server_values s server.WhichJobs = map (λ choice. keyword_value (choice_word choice)) all_choices

abbrev pub described_values : List Property → DescribedFact → List Value
described_values d described.Color = one (values.Boolean (has_color d))
described_values d described.ColorModes = map keyword_value (color_modes d)
described_values d described.ColorPagesPerMinute = of_option integer_of (color_pages_per_minute d)
described_values d described.DefaultMedia = map media_name (take 1 (media d))
described_values d described.DefaultMediaCol = flat_map media_col (take 1 (media d))
described_values d described.DefaultOutputBin = map keyword_value (take 1 (output_bins d))
described_values d described.DefaultResolution = map dots (take 1 (resolutions d))
described_values d described.DeviceId = of_option text_value (device_id d)
described_values d described.MakeAndModel = of_option text_value (make_and_model d)
described_values d described.Media = map media_name (media d)
described_values d described.MediaDatabase = flat_map media_col (media d)
described_values d described.MediaSizes = flat_map media_size (media d)
described_values d described.OutputBins = map keyword_value (output_bins d)
described_values d described.PagesPerMinute = of_option integer_of (pages_per_minute d)
described_values d described.Resolutions = map dots (resolutions d)
described_values d described.Sides = map keyword_value (sides d)
described_values d described.Type = one (enum_of (printer_type d))

abbrev pub mixed_text : List Property → PrinterFacts → MixedFact → List ℕ
mixed_text d f mixed.Info = info_for d f
mixed_text d f mixed.Location = location_for d f

abbrev pub raster_values : List Property → PrinterFacts → RasterFact → List Value
raster_values d f raster.PwgResolutions = for_format pwg_raster f (map dots (resolutions d))
raster_values d f raster.PwgSheetBack = for_format pwg_raster f (keyword_value (codes "normal") ∷ [])
raster_values d f raster.PwgTypes = for_format pwg_raster f (map keyword_value (pwg_types d))
raster_values d f raster.Urf = for_format urf f (map keyword_value (urf_words d))

abbrev pub source_values : Server → List Property → PrinterFacts → PrinterSource → List Value
source_values s d f (sources.Fixed it) = fixed_values it
source_values s d f (sources.Queue it) = queue_values f it
source_values s d f (sources.Address it) = one (uri_value (address_text s f it))
source_values s d f (sources.Server it) = server_values s it
source_values s d f (sources.Described it) = described_values d it
source_values s d f (sources.Mixed it) = one (text_value (mixed_text d f it))
source_values s d f (sources.Raster it) = raster_values d f it

-- What the facts give a row of the table.
abbrev pub stated : Server → List Property → PrinterFacts → PrinterRow → StatedRow
stated s d f r = row r.name.now r.group (source_values s d f r.source)
