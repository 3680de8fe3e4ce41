use Rattle.std.proofs.Common.{◌++◌, ◌∙◌, ℕ, List, ap, codes}
use Rattle.std.proofs.lemmas.Result.{IfOk-weaker}
use Rattle.user_proofs.proofs.challenges.challenge_of.Goals as goal

pub returns : goal.returns
returns c = record {
  value =
      IfOk-weaker c.path_of.result _ _ (λ path made. made
      ∙ ap (λ (name : List ℕ). c.args.folder.now ++ codes "/" ++ name) (c.as_str.ensures.value ∙ c.in_ok-name.ensures)) c.path_of.ensures;
}
