use Rattle.std.proofs.Common.{◌≡◌, ap, sym, ◌∙◌}
use Rattle.std.specs.Str.{str_to_ascii_lowercase}
use Rattle.spool_types.proofs.Words.{no_folded, some_folded, other_folded}
use Rattle.spool_types.proofs.text.Text.from_folded_word.Goals as goal

pub returns-in_default : goal.returns-in_default
returns-in_default g c = no_folded g.K.TextKind.allowed c.args.word.now c.in_default.ensures.cases.0

pub returns-then-allows : goal.returns-then-allows
returns-then-allows g c =
    let folded : c.as_str.result.now ≡ str_to_ascii_lowercase c.in-Ok.text.now = c.as_str.ensures.value ∙ c.in_ok-folded.ensures.ok in
    some_folded g.K.TextKind.allowed c.args.word.now c.in-Ok.text.now c.from_string.result c.in-Ok.ensures.cases
    (sym (ap g.K.TextKind.allowed folded) ∙ sym c.allows.ensures ∙ c.if-allows.true) (c.from_string.ensures ∙ c.in_ok-folded.ensures.ok)

pub returns-else-allows : goal.returns-else-allows
returns-else-allows g c =
    let folded : c.as_str.result.now ≡ str_to_ascii_lowercase c.in-Ok.text.now = c.as_str.ensures.value ∙ c.in_ok-folded.ensures.ok in
    other_folded g.K.TextKind.allowed c.args.word.now c.in-Ok.text.now c.in-Ok.ensures.cases
    (sym (ap g.K.TextKind.allowed folded) ∙ sym c.allows.ensures ∙ c.if-allows.false)
