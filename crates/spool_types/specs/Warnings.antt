-- The names of the kinds of warnings.
use Rattle.std.specs.Prelude.{ℕ, List, codes}
use Rattle.spool_types.specs.declared.warning.WarningKind.{WarningKind}
use Rattle.spool_types.specs.declared.warning.WarningKind.TheVariants.{BadType, BadRule, UnknownRule, BadNumber, BadText, BadLine}

abbrev pub warning_name : WarningKind → List ℕ
warning_name BadType = codes "BadType"
warning_name BadRule = codes "BadRule"
warning_name UnknownRule = codes "UnknownRule"
warning_name BadNumber = codes "BadNumber"
warning_name BadText = codes "BadText"
warning_name BadLine = codes "BadLine"
