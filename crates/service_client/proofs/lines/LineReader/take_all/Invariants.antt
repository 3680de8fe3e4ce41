-- The lines so far.
use Rattle.std.proofs.Common.{◌≡◌, ◌++◌, take}
use Rattle.std.specs.List.{All}
use Rattle.service_client.specs.Lines.{IsLine, lines_text}
use Rattle.service_client.proofs.lines.LineReader.take_all.Given as goal

abbrev pub invariant-loop-byte : goal.invariant-loop-byte
invariant-loop-byte l = record {
  stream : lines_text l.lines.items ++ l.self.part.items ≡ (lines_text l.fn.lines.items ++ l.fn.self.part.items) ++ take l.byte-index l.piece;
  whole : All (λ line. IsLine line.items) l.fn.lines.items → All (λ line. IsLine line.items) l.lines.items;
}
