use Rattle.std.proofs.Common.{sym, ◌∙◌, subst}
use Rattle.stderr_lines.specs.EffectDrafts.{IsLineText}
use Rattle.line_words.specs.declared.quoting.Quoting.TheVariants.{Bare}
use Rattle.stderr_lines.proofs.QuotingLaws.{unquoted_text}
use Rattle.stderr_lines.proofs.draft.read_value.Goals as goal

pub read_message-requires : goal.read_message-requires
read_message-requires c = subst (λ l. IsLineText l) (sym (c.deref.ensures.value ∙ c.in_ok-bytes.ensures)) (unquoted_text Bare c.args.value.now c.requires)
