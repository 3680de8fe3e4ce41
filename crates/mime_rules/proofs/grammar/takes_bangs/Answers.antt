use Rattle.std.proofs.Common.{sym, ◌∙◌, map, arith}
use Rattle.mime_rules.specs.RuleGrammar.{negated}
use Rattle.mime_rules.specs.RuleFields.{token_of}
use Rattle.mime_rules.proofs.GrammarLaws.{bang_taken, more_bangs}
use Rattle.mime_rules.proofs.grammar.takes_bangs.Goals as goal

pub bangs-preserved : goal.bangs-preserved
bangs-preserved c = record {
  bangs = λ groups r says n le.
      c.bangs.invariant.bangs groups (negated r) (bang_taken groups (map token_of c.bangs.tokens.items) (map token_of c.takes_bang.new.tokens.items) r (sym c.bangs-test.ensures.answer) c.bangs-test.ensures.value says) n le
      ∙ more_bangs c.bangs.is_odd r;
  shorter = omega (arith, c.bangs-test.ensures.bound, c.bangs.invariant.shorter);
}
