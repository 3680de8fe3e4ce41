-- The sections of a file in memory.
use Rattle.std.specs.Prelude.{List, [], map, Option, None, Some}
use Rattle.ipp_printers.specs.PrinterSections as sections
use Rattle.ipp_printers.specs.declared.list.Section.{Section}
use Rattle.ipp_printers.specs.declared.property.Property.{Property}

abbrev pub part_of : Section → sections.Section
part_of section = (section.queue, section.properties.items)

abbrev pub parts_of : List Section → List sections.Section
parts_of list = map part_of list

abbrev pub properties_of : Option Section → List Property
properties_of None = []
properties_of (Some section) = section.properties.items
