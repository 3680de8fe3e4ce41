use Rattle.std.proofs.Common.{IfOk, string_bytes, subst}
use Rattle.std.specs.Option.{option_map}
use Rattle.front_proof.specs.ProofReplies.{IsPathIn}
use Rattle.front_proof.proofs.replies.offered_path.Goals as goal

pub returns : goal.returns
returns c = subst (λ text. IfOk c.path_of-path.result (λ found. IsPathIn text (option_map (λ path. string_bytes path.text) found))) c.in_ok-text.ensures c.path_of-path.ensures
