-- Why a line of a programs file is rejected, by whether it would be rejected alone.
use Rattle.std.specs.Prelude.{ℕ, Bool, true, false, List, codes}

abbrev pub line_reason : Bool → List ℕ
line_reason true = codes "expected filter, backend or root-backend with NAME PATH [WORD], or side with PATH [WORD]"
line_reason false = codes "an earlier line is about the same program"
