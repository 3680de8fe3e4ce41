use Rattle.std.proofs.Common.{take}
use Rattle.event_codec.specs.Spelling.{text_code, IsText}
use Rattle.event_codec.proofs.Added.{AreAdded}
use Rattle.event_codec.proofs.field_writing.put_texts.Given as goal

abbrev pub invariant-loop-text : goal.invariant-loop-text
invariant-loop-text g l = AreAdded text_code (IsText g.K.TextKind.allowed) l.fn.out l.out (take l.text-index l.texts)
