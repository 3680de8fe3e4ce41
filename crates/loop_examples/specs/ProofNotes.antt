-- The steps of proofs that a connection in memory reports.
use Rattle.std.specs.Prelude.{ℕ, Bool, List, Some, codes}
use Rattle.service_loop.specs.ConnectionViews.{ProofStep, named, examined}
use Rattle.loop_examples.specs.declared.connections.ProofNote.{ProofNote}
use Rattle.loop_examples.specs.declared.connections.ProofNote.TheVariants.{Named, Examined}

-- It names one folder, and its client always proves to be this user.
abbrev pub step_by : List ℕ → Bool → ProofNote → ProofStep
step_by user is_operator Named = named (Some (codes "/proof"))
step_by user is_operator Examined = examined (Some (record { name = user; is_operator = is_operator }))
