use Rattle.std.proofs.Common.{map, encode_utf8_all}
use Rattle.std.specs.Fmt.{HasWritten, IsPlainFormatter}
use Rattle.clean_texts.specs.CleanTexts.{clean_char}
use Rattle.clean_texts.proofs.printed.PrintedDisplay.fmt.Given as goal

abbrev pub invariant-loop-c : goal.invariant-loop-c
invariant-loop-c g l = IsPlainFormatter l.fn.f → HasWritten g.W.Write.write_str_gives l.fn.f (encode_utf8_all (map clean_char l.yielded)) l.f
