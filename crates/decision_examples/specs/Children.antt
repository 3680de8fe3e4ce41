-- Examples of the files, arguments and environment of a child.
use Rattle.std.specs.Prelude.{◌≡◌, [], ◌∷◌, map, codes, None, Some, true, false}
use Rattle.std.specs.String.{string_bytes}
use Rattle.spool_types.specs.declared.phase.Policy.TheVariants.{AbortJob}
use Rattle.spool_types.specs.declared.rows.QueueRow.{QueueRow}
use Rattle.spool_types.specs.State.{Job}
use Rattle.filter_args.specs.declared.files.ChildFile.TheVariants.{Input, Output, Errors, Side}
use Rattle.filter_args.specs.declared.place.Place.{Place}
use Rattle.filter_args.specs.Environment.{environment_of}
use Rattle.filter_args.specs.Files.{file_name}
use Rattle.filter_args.specs.FilterArguments.{arguments}
use Rattle.decision_examples.specs.Samples.{job, lab, processing}

abbrev pub FileRows : Type 0
FileRows = file_name Input (codes "/r") 7 1 1 ∷ map (λ file. file_name file (codes "/r") 7 4294967295 16) (Output ∷ Errors ∷ Side ∷ [])
    ≡ codes "/r/in-7-1-1" ∷ codes "/r/out-7-4294967295-16" ∷ codes "/r/err-7-4294967295-16" ∷ codes "/r/side-7-4294967295-16" ∷ []

-- The document is a file for the first stage.
abbrev pub ArgumentRows : Type 0
ArgumentRows = map (arguments (job lab 7 50 processing)) (Some (codes "/r/in-7-1-1") ∷ None ∷ [])
    ≡ (codes "7" ∷ codes "ann" ∷ codes "P 1" ∷ codes "2" ∷ codes "media=A4" ∷ codes "/r/in-7-1-1" ∷ [])
    ∷ (codes "7" ∷ codes "ann" ∷ codes "P 1" ∷ codes "2" ∷ codes "media=A4" ∷ [])
    ∷ []

-- A job with a text, and its queue with a note.
abbrev letter : Job
letter = record {
  id = 7;
  queue = lab;
  user = codes "ann";
  title = codes "P 1";
  copies = 2;
  priority = 50;
  options = codes "media=A4";
  media = Some (codes "text/plain");
  filters = [];
  attempts = 1;
  pages = 0;
  size = 3;
  phase = processing;
  by = None;
}

abbrev front : QueueRow
front = record {
  name = lab;
  uri = codes "spoolfile:/out";
  target = codes "application/x-prn";
  policy = AbortJob;
  interval = 30;
  limit = 5;
  info = codes "Front";
  location = [];
  accepting = true;
  stopped = false;
  message = [];
  reasons = [];
  attributes = [];
}

-- For any spool folder, locale and search path, with a side channel.
abbrev pub EnvironmentRows : Type 0
EnvironmentRows = (place : Place) → string_bytes place.root ≡ codes "/r" → string_bytes place.lang ≡ codes "C" → string_bytes place.path ≡ codes "/usr/bin:/bin" → place.side ≡ true
    → environment_of letter front place
    ≡ codes "CHARSET=utf-8" ∷ codes "CONTENT_TYPE=text/plain" ∷ codes "CUPS_FILETYPE=document" ∷ codes "DEVICE_URI=spoolfile:/out" ∷ codes "FINAL_CONTENT_TYPE=application/x-prn" ∷ codes "LANG=C"
    ∷ codes "PATH=/usr/bin:/bin" ∷ codes "PRINTER=lab" ∷ codes "PRINTER_INFO=Front" ∷ codes "PRINTER_LOCATION=" ∷ codes "TMPDIR=/r" ∷ codes "SPOOL_ATTEMPT=1" ∷ codes "SPOOL_SIDE=/r/side-7-1-1" ∷ codes "SPOOL_STAGE=1" ∷ []
