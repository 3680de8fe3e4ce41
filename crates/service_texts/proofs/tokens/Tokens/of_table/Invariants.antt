-- The jobs so far were noted.
use Rattle.std.proofs.Common.{◌≡◌, ℕ, List, None, map}
use Rattle.spool_types.specs.State.{job_of}
use Rattle.service_texts.specs.SubmissionTokens.{all_noted_for, entry_for}
use Rattle.service_texts.proofs.tokens.Tokens.of_table.Given as goal

abbrev pub invariant-loop-row : goal.invariant-loop-row
invariant-loop-row l = (token : List ℕ) → entry_for l.tokens token ≡ all_noted_for token None (map job_of (map (λ row. row.now) l.yielded))
