-- The requests as clauses see them.
use Rattle.std.specs.Prelude.{map}
use Rattle.std.specs.Option.{option_map}
use Rattle.std.specs.String.{string_bytes}
use Rattle.builtin_stages.specs.ToolArguments.{Printed, Request, filter, backend, device_line, through, side_end, version}
use Rattle.builtin_stages.specs.declared.words.Asked.{Asked}
use Rattle.builtin_stages.specs.declared.words.Asked.TheVariants.{Filter, Backend, DeviceLine, Through, SideEnd, Version}
use Rattle.builtin_stages.specs.declared.words.Document.{Document}

abbrev pub printed : Document → Printed
printed d = record { file = option_map (λ name. name.now) d.file; copies = d.copies }

abbrev pub request : Asked → Request
request (Filter tool d) = filter tool (printed d)
request (Backend tool d) = backend tool (printed d)
request (DeviceLine tool) = device_line tool
request (Through file words) = through file.now (map string_bytes words.now)
request (SideEnd socket) = side_end socket.now
request Version = version
