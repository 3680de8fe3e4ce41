-- The replies so far.
use Rattle.std.proofs.Common.{take}
use Rattle.service_client.specs.Pipelines.{Grows, standing}
use Rattle.service_client.proofs.pipeline.Pipeline.take.Given as goal

abbrev pub invariant-loop-byte : goal.invariant-loop-byte
invariant-loop-byte g l = Grows (standing l.fn.self) (take l.byte-index l.piece) l.fn.answers.items l.answers.items (standing l.self)
