-- The order that starts the child of a stage.
use Rattle.std.specs.Prelude.{ℕ, ◌-◌, cond, ◌==◌, List, [], Option, None, Some, Result, Ok, Err, slice_get}
use Rattle.std.specs.String.{string_bytes}
use Rattle.filter_args.specs.FilterArguments.{arguments}
use Rattle.filter_args.specs.Environment.{environment_of}
use Rattle.filter_args.specs.Files.{file_name}
use Rattle.filter_args.specs.declared.files.ChildFile.TheVariants as files
use Rattle.filter_args.specs.declared.place.Place.{Place}
use Rattle.spool_types.specs.declared.rows.QueueRow.{QueueRow}
use Rattle.spool_types.specs.State.{Job}
use Rattle.url.specs.Parts.{Parts}
use Rattle.url.specs.Parser.{parse_url}
use Rattle.child_pipeline.specs.declared.order.Input.{Input}
use Rattle.child_pipeline.specs.declared.order.Order.{Order}
use Rattle.child_pipeline.specs.declared.order.Program.{Program}
use Rattle.child_pipeline.specs.declared.order.Program.TheVariants.{Filter, Backend}

-- ## The program

abbrev pub scheme_in : {E : Type 0} → Result Parts E → List ℕ
scheme_in (Ok url) = url.scheme
scheme_in (Err e) = []

-- The scheme of a device's URI, by the URL Standard's parser without a base. For an invalid URI it is empty.
abbrev pub scheme_of : List ℕ → List ℕ
scheme_of uri = scheme_in (parse_url None uri)

abbrev pub program_in : QueueRow → Option (List ℕ) → Program
program_in q None = Backend (scheme_of q.uri)
program_in q (Some filter) = Filter filter

-- The filters in their order, then the backend that the scheme of the queue's URI names.
abbrev pub program_of : Job → QueueRow → ℕ → Program
program_of r q stage = program_in q (slice_get r.filters (stage - 1))

-- ## The words

-- The first stage reads the document as a file.
abbrev pub document_file : Place → ℕ → ℕ → ℕ → Option (List ℕ)
document_file place job attempt stage = cond (stage == 1) (Some (file_name files.Input (string_bytes place.root) job attempt stage)) None

abbrev pub words_of : Place → Job → ℕ → ℕ → List (List ℕ)
words_of place r attempt stage = arguments r (document_file place r.id attempt stage)

-- ## The whole order

-- The order for a stage of a job's attempt with this input.
abbrev pub order_of : Place → Job → QueueRow → ℕ → ℕ → Input → Order
order_of place r q attempt stage input = record {
  job = r.id;
  attempt = attempt;
  stage = stage;
  queue = q.name;
  uri = q.uri;
  program = program_of r q stage;
  words = words_of place r attempt stage;
  environment = environment_of r q place;
  input = input;
}
