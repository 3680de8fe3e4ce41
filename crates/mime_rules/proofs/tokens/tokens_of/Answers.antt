use Rattle.std.proofs.Common.{◌≡◌, [], ◌∷◌, sym, ◌∙◌, map}
use Rattle.std.proofs.lemmas.List.{append-nil}
use Rattle.mime_rules.specs.RuleFields.{token_of, EndsBy}
use Rattle.mime_rules.specs.Tokens.{tokens_of}
use Rattle.mime_rules.proofs.TokenLaws.{says_token, stop_ends, if_ok, says_end, says_all, pushed, not_empty, is_empty}
use Rattle.mime_rules.proofs.tokens.tokens_of.Goals as goal

pub loop-rest-preserved : goal.loop-rest-preserved
loop-rest-preserved c = λ ts says n le.
    c.loop-rest.invariant (token_of c.in-Ok.token ∷ ts) (says_token c.loop-rest.rest.now c.in-Ok.behind.now (token_of c.in-Ok.token) ts c.in-Ok.ensures.value c.in-Ok.ensures.bound says) n le
    ∙ pushed token_of c.loop-rest.tokens.items c.push_back.new.self.items c.in-Ok.token ts c.in_ok-push_back-in-Ok.ensures.items

pub returns-in-Err : goal.returns-in-Err
returns-in-Err c =
    let some = not_empty c.loop-rest.rest.now c.is_empty.result c.is_empty.ensures c.loop-rest-test.true in
    let old = map token_of c.loop-rest.tokens.items in
    record {
      value =
          if_ok c.with_last.result (λ all. EndsBy c.in-Err.stop old (map token_of all.items)) (λ all. map token_of all.items ≡ tokens_of c.args.line.now)
          (λ all ends. stop_ends c.in-Err.stop old (map token_of all.items) c.loop-rest.rest.now c.args.line.now some c.in-Err.ensures.value c.loop-rest.invariant ends) c.with_last.ensures;
    }

pub returns : goal.returns
returns c = record {
  value = sym (says_all c.args.line.now (map token_of c.loop-rest.tokens.items) (λ n le.
      c.loop-rest.invariant [] (says_end c.loop-rest.rest.now (is_empty c.loop-rest.rest.now c.is_empty.result c.is_empty.ensures c.loop-rest-test.false)) n le
      ∙ append-nil (map token_of c.loop-rest.tokens.items)));
}
