-- The numbers of the versions, as in the headers of areas.
use Rattle.std.specs.Prelude.{ℕ}
use Rattle.spool_types.specs.declared.version.Version.{Version}
use Rattle.spool_types.specs.declared.version.Version.TheVariants.{One, Two}
use Rattle.spool_areas.specs.Header.{oldest_version, newest_version}

abbrev pub number_of : Version → ℕ
number_of One = oldest_version
number_of Two = newest_version
