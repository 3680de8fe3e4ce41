use Rattle.event_codec.specs.Spelling.{text_code, IsText}
use Rattle.event_codec.proofs.Added.{has_place, next_added}
use Rattle.event_codec.proofs.field_writing.put_texts.Goals as goal

pub put_text-requires-clause-room : goal.put_text-requires-clause-room
put_text-requires-clause-room g c = has_place text_code (IsText g.K.TextKind.allowed) c.args.out.now c.loop-text.out c.args.texts.now c.loop-text.text-index c.text-item.result c.text-item.is c.loop-text-test.true c.loop-text.invariant c.requires.room

pub loop-text-preserved : goal.loop-text-preserved
loop-text-preserved g c = next_added text_code (IsText g.K.TextKind.allowed) c.args.out.now c.loop-text.out c.put_text.new.out c.args.texts.now c.loop-text.text-index c.text-item.result c.text-item.is c.loop-text-test.true c.loop-text.invariant c.put_text.ensures.written c.put_text.ensures.len c.put_text.ensures.grown c.put_text.ensures.is_text
