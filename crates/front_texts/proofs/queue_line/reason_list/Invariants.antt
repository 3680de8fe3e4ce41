-- The reasons so far, followed by those of the remaining parts.
use Rattle.std.proofs.Common.{◌≡◌, map, drop}
use Rattle.spool_types.specs.Values.{is_reason}
use Rattle.front_texts.specs.QueueRows.{texts_in, now_of}
use Rattle.front_texts.proofs.TextLaws.{with_texts}
use Rattle.front_texts.proofs.queue_line.reason_list.Given as goal

abbrev pub invariant-loop-part : goal.invariant-loop-part
invariant-loop-part l = with_texts l.list.items (texts_in is_reason (map now_of (drop l.part-index l.parts))) ≡ texts_in is_reason (map now_of l.parts)
