-- The count follows its label.
use Rattle.std.proofs.Common.{◌≡◌, ℕ, List, ◌++◌, codes, OnOk, subst}
use Rattle.cause_sentences.specs.CauseSentences.{ahead_of}
use Rattle.cause_sentences.proofs.push_ahead.Goals as goal

pub returns : goal.returns
unfolding ahead_of
returns c =
    subst (λ (x : List ℕ). OnOk c.push_both.result (c.push_both.new.text.items ≡ c.args.text.now.items ++ (codes "; waiting jobs before it: " ++ x))) c.count_of.ensures c.push_both.ensures
