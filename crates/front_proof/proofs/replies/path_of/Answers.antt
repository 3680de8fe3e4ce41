use Rattle.std.proofs.Common.{IfOk, string_bytes, subst, sym}
use Rattle.std.specs.Option.{option_map}
use Rattle.line_words.specs.WordFields.{bytes_of}
use Rattle.front_proof.specs.ProofPaths.{IsPathOf}
use Rattle.front_proof.specs.ProofReplies.{IsPathIn}
use Rattle.front_proof.proofs.replies.path_of.Goals as goal

pub returns-in-Some : goal.returns-in-Some
returns-in-Some c =
    subst (λ text. IfOk c.from_bytes.result (λ found. IsPathIn (option_map bytes_of text) (option_map (λ path. string_bytes path.text) found))) (sym c.in-Some.is)
    (subst (λ bytes. IfOk c.from_bytes.result (λ found. IsPathOf bytes (option_map (λ path. string_bytes path.text) found))) c.bytes.ensures.value c.from_bytes.ensures)
