-- The reasons of faults as people read them.
use Rattle.std.specs.Prelude.{ℕ, List, codes}
use Rattle.ipp_printers.specs.declared.kind.PropertyKind.{PropertyKind}
use Rattle.ipp_printers.specs.declared.kind.PropertyKind.TheVariants.{Info, Location, MakeAndModel, DeviceId, Media, Color, Duplex, Resolutions, OutputBins, PagesPerMinute, ColorPagesPerMinute}
use Rattle.ipp_printers.specs.declared.fault.LineFault.{LineFault}
use Rattle.ipp_printers.specs.declared.fault.LineFault.TheVariants.{UnknownWord, BadQueue, BadValue, QueueTwice, PropertyTwice}

abbrev pub expected_of : PropertyKind → List ℕ
expected_of Info = codes "expected a text of 1 to 127 bytes"
expected_of Location = codes "expected a text of 1 to 127 bytes"
expected_of MakeAndModel = codes "expected a text of 1 to 127 bytes"
expected_of DeviceId = codes "expected 1 to 1023 bytes of printable ASCII"
expected_of Media = codes "expected 1 to 64 sizes such as iso_a4_210x297mm"
expected_of Color = codes "expected yes or no"
expected_of Duplex = codes "expected yes or no"
expected_of Resolutions = codes "expected 1 to 64 numbers from 1 to 65535"
expected_of OutputBins = codes "expected 1 to 64 keywords such as face-down"
expected_of PagesPerMinute = codes "expected a number from 1 to 2147483647"
expected_of ColorPagesPerMinute = codes "expected a number from 1 to 2147483647"

abbrev pub reason_of : LineFault → List ℕ
reason_of UnknownWord = codes "unknown property"
reason_of BadQueue = codes "expected the name of a queue"
reason_of (BadValue kind) = expected_of kind
reason_of QueueTwice = codes "this queue has a section already"
reason_of PropertyTwice = codes "this section has this property already"
