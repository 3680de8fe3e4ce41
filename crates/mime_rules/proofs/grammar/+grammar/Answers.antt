use Rattle.std.proofs.Common.{◌≡◌, length, map, refl, ap, sym, ◌∙◌, arith, rules, Some}
use Rattle.std.specs.Option.{option_map}
use Rattle.mime_rules.specs.RuleReading.{read}
use Rattle.mime_rules.specs.RuleFields.{token_of, meaning_of}
use Rattle.mime_rules.proofs.GrammarLaws.{factor_stops, factor_with_bangs, item_stops, item_ends, item_goes_on, list_begins, list_stops, list_breaks, list_goes_on, list_ends, nothing_left, factor_along, popped, test_says, priority_says, opened_reads, wrong_says, no_bang, behind_none, shorter_map, no_longer_map}
use Rattle.mime_rules.proofs.grammar.+grammar.Goals as goal

pub factor-returns-in-Err-clause-reads : goal.factor-returns-in-Err-clause-reads
factor-returns-in-Err-clause-reads t c = factor_stops c.args.groups c.in-Err.stop c.takes_bangs-is_negated.result (map token_of c.takes_bangs-is_negated.new.tokens.items) (map token_of c.args.tokens.now.items) c.in-Err.ensures.reads c.takes_bangs-is_negated.ensures.bangs

pub factor-returns-in_ok-rule-in-Ok-clause-reads : goal.factor-returns-in_ok-rule-in-Ok-clause-reads
factor-returns-in_ok-rule-in-Ok-clause-reads t c =
    factor_with_bangs c.args.groups c.takes_bangs-is_negated.result (map token_of c.takes_bangs-is_negated.new.tokens.items) (map token_of c.operand.new.tokens.items) (map token_of c.args.tokens.now.items)
    (option_map meaning_of c.in-Ok.found) (option_map meaning_of c.in_ok-rule-in-Ok.rule) c.in-Ok.ensures.reads c.in_ok-rule-in-Ok.ensures c.takes_bangs-is_negated.ensures.bangs

pub item-returns-in-Err-clause-reads : goal.item-returns-in-Err-clause-reads
item-returns-in-Err-clause-reads t c =
    item_stops c.args.groups c.in-Err.stop (map token_of c.factors.tokens.items) (map token_of c.args.tokens.now.items) (map meaning_of c.factors.factors.items) c.in-Err.ensures.reads c.factors.invariant.says

pub item-returns-then-not-takes_plus-clause-reads : goal.item-returns-then-not-takes_plus-clause-reads
item-returns-then-not-takes_plus-clause-reads t c =
    let rest = map token_of c.factor.new.tokens.items in
    let next = sym c.takes_plus.ensures.answer ∙ c.if-not-takes_plus.true in
    λ n le.
    item_ends c.args.groups (map token_of c.factors.tokens.items) rest (map meaning_of c.factors.factors.items) (map meaning_of c.keep.new.rules.items) (option_map meaning_of c.in-Ok.found)
    c.in-Ok.ensures.reads (shorter_map c.factor.new.tokens.items c.factors.tokens.items c.in-Ok.ensures.shorter) c.in_ok-keep-in-Ok.ensures next (map token_of c.args.tokens.now.items) c.factors.invariant.says n le
    ∙ ap (λ v. read v rest) (sym c.all_of.ensures)
    ∙ ap (read (option_map meaning_of c.all_of.result)) (behind_none rest next ∙ sym c.takes_plus.ensures.value)

pub item-factors-preserved : goal.item-factors-preserved
item-factors-preserved t c = record {
  says = λ r says.
      item_goes_on c.args.groups (map token_of c.factors.tokens.items) (map token_of c.factor.new.tokens.items) (map token_of c.takes_plus.new.tokens.items) (map meaning_of c.factors.factors.items) (map meaning_of c.keep.new.rules.items) (option_map meaning_of c.in-Ok.found) r
      c.in-Ok.ensures.reads (shorter_map c.factor.new.tokens.items c.factors.tokens.items c.in-Ok.ensures.shorter) c.in_ok-keep-in-Ok.ensures (sym c.takes_plus.ensures.answer ∙ c.if-not-takes_plus.false) c.takes_plus.ensures.value says
      (map token_of c.args.tokens.now.items) c.factors.invariant.says;
  shorter = omega (arith, c.factors.invariant.shorter, c.in-Ok.ensures.shorter, c.takes_plus.ensures.bound);
}

pub list-items-init : goal.list-items-init
list-items-init t c = record {
  says = λ r says.
      list_begins c.args.groups (map token_of c.args.tokens.now.items) (map token_of c.drop_separators.new.tokens.items) r (map meaning_of c.new-items.result.items) c.drop_separators.ensures.value
      (no_longer_map c.drop_separators.new.tokens.items c.args.tokens.now.items c.drop_separators.ensures.bound) (ap (map meaning_of) c.new-items.ensures.items) says;
  shorter = c.drop_separators.ensures.bound;
}

pub list-returns-in-Err-clause-reads : goal.list-returns-in-Err-clause-reads
list-returns-in-Err-clause-reads t c =
    list_stops c.args.groups c.in-Err.stop (map token_of c.items.tokens.items) (map token_of c.args.tokens.now.items) (map meaning_of c.items.items.items) (sym c.is_at_end.ensures ∙ c.items-test.true) c.in-Err.ensures.reads c.items.invariant.says

pub list-returns-in-Err-end_item-clause-reads : goal.list-returns-in-Err-end_item-clause-reads
list-returns-in-Err-end_item-clause-reads t c =
    list_breaks c.args.groups c.in-Err-end_item.stop (map token_of c.items.tokens.items) (map token_of c.item.new.tokens.items) (map token_of c.args.tokens.now.items) (map meaning_of c.items.items.items) (option_map meaning_of c.in-Ok.found)
    (sym c.is_at_end.ensures ∙ c.items-test.true) c.in-Ok.ensures.reads c.in-Err-end_item.ensures c.items.invariant.says

pub list-items-preserved : goal.list-items-preserved
list-items-preserved t c = record {
  says = λ r says.
      list_goes_on c.args.groups (map token_of c.items.tokens.items) (map token_of c.item.new.tokens.items) (map token_of c.drop_separators-in-Ok-end_item.new.tokens.items) (map meaning_of c.items.items.items) (map meaning_of c.keep.new.rules.items) (option_map meaning_of c.in-Ok.found) r
      (sym c.is_at_end.ensures ∙ c.items-test.true) c.in-Ok.ensures.reads (shorter_map c.item.new.tokens.items c.items.tokens.items c.in-Ok.ensures.shorter) c.in_ok-keep-in-Ok.ensures c.in-Ok-end_item.ensures
      c.drop_separators-in-Ok-end_item.ensures.value (no_longer_map c.drop_separators-in-Ok-end_item.new.tokens.items c.item.new.tokens.items c.drop_separators-in-Ok-end_item.ensures.bound) says
      (map token_of c.args.tokens.now.items) c.items.invariant.says;
  shorter = omega (arith, c.items.invariant.shorter, c.in-Ok.ensures.shorter, c.drop_separators-in-Ok-end_item.ensures.bound);
}

pub list-returns-clause-reads : goal.list-returns-clause-reads
list-returns-clause-reads t c = λ n le.
    list_ends c.args.groups (map token_of c.items.tokens.items) (map token_of c.args.tokens.now.items) (map meaning_of c.items.items.items) (sym c.is_at_end.ensures ∙ c.items-test.false) c.items.invariant.says n le
    ∙ ap (λ v. read v (map token_of c.items.tokens.items)) (sym c.any_of.ensures)

pub operand-returns-in-None-clause-reads : goal.operand-returns-in-None-clause-reads
operand-returns-in-None-clause-reads t c =
    let none : length c.args.tokens.now.items ≡ 0 = first_of (omega (arith, c.in-None.ensures.cases.0, c.args.tokens.now.ok.0), omega (arith, c.in-None.ensures.cases.0), search rules) in
    nothing_left c.args.groups c.args.tokens.now.items none

pub operand-returns-in-Some-Test-clause-reads : goal.operand-returns-in-Some-Test-clause-reads
operand-returns-in-Some-Test-clause-reads t c =
    let rest = map token_of c.pop_front.new.self.items in
    λ n le.
    factor_along c.args.groups (map token_of c.args.tokens.now.items) _ _ (popped c.args.tokens.now.items c.pop_front.new.self.items c.in-Some-Test.field-0 _ c.in-Some-Test.ensures.items c.in-Some-Test.field-0-is) (test_says c.args.groups _ rest) n le
    ∙ ap (λ v. read (Some v) rest) (sym c.leaf.ensures)

pub operand-returns-in-Some-Priority-clause-reads : goal.operand-returns-in-Some-Priority-clause-reads
operand-returns-in-Some-Priority-clause-reads t c =
    let rest = map token_of c.pop_front.new.self.items in
    factor_along c.args.groups (map token_of c.args.tokens.now.items) _ _ (popped c.args.tokens.now.items c.pop_front.new.self.items c.in-Some-Priority.field-0 _ c.in-Some-Priority.ensures.items c.in-Some-Priority.field-0-is) (priority_says c.args.groups _ rest)

pub operand-returns-in-Some-Open-clause-reads : goal.operand-returns-in-Some-Open-clause-reads
operand-returns-in-Some-Open-clause-reads t c =
    opened_reads c.group.result (λ rule. read (option_map meaning_of rule) (map token_of c.group.new.tokens.items)) c.args.groups (map token_of c.args.tokens.now.items) (map token_of c.pop_front.new.self.items)
    (popped c.args.tokens.now.items c.pop_front.new.self.items c.in-Some-Open.field-0 _ c.in-Some-Open.ensures.items c.in-Some-Open.field-0-is) c.group.ensures.reads

pub operand-returns-in-Some-Fault-clause-reads : goal.operand-returns-in-Some-Fault-clause-reads
operand-returns-in-Some-Fault-clause-reads t c =
    let rest = map token_of c.pop_front.new.self.items in
    factor_along c.args.groups (map token_of c.args.tokens.now.items) _ _ (popped c.args.tokens.now.items c.pop_front.new.self.items c.in-Some-Fault.field-0 _ c.in-Some-Fault.ensures.items c.in-Some-Fault.field-0-is) (wrong_says c.args.groups _ rest refl)

pub operand-returns-in-Some-Gap-clause-reads : goal.operand-returns-in-Some-Gap-clause-reads
operand-returns-in-Some-Gap-clause-reads t c =
    let rest = map token_of c.pop_front.new.self.items in
    factor_along c.args.groups (map token_of c.args.tokens.now.items) _ _ (popped c.args.tokens.now.items c.pop_front.new.self.items c.in-Some-Gap.field-0 _ c.in-Some-Gap.ensures.items c.in-Some-Gap.field-0-is) (wrong_says c.args.groups _ rest refl)

pub operand-returns-in-Some-Comma-clause-reads : goal.operand-returns-in-Some-Comma-clause-reads
operand-returns-in-Some-Comma-clause-reads t c =
    let rest = map token_of c.pop_front.new.self.items in
    factor_along c.args.groups (map token_of c.args.tokens.now.items) _ _ (popped c.args.tokens.now.items c.pop_front.new.self.items c.in-Some-Comma.field-0 _ c.in-Some-Comma.ensures.items c.in-Some-Comma.field-0-is) (wrong_says c.args.groups _ rest refl)

pub operand-returns-in-Some-Plus-clause-reads : goal.operand-returns-in-Some-Plus-clause-reads
operand-returns-in-Some-Plus-clause-reads t c =
    let rest = map token_of c.pop_front.new.self.items in
    factor_along c.args.groups (map token_of c.args.tokens.now.items) _ _ (popped c.args.tokens.now.items c.pop_front.new.self.items c.in-Some-Plus.field-0 _ c.in-Some-Plus.ensures.items c.in-Some-Plus.field-0-is) (wrong_says c.args.groups _ rest refl)

pub operand-returns-in-Some-Close-clause-reads : goal.operand-returns-in-Some-Close-clause-reads
operand-returns-in-Some-Close-clause-reads t c =
    let rest = map token_of c.pop_front.new.self.items in
    factor_along c.args.groups (map token_of c.args.tokens.now.items) _ _ (popped c.args.tokens.now.items c.pop_front.new.self.items c.in-Some-Close.field-0 _ c.in-Some-Close.ensures.items c.in-Some-Close.field-0-is) (wrong_says c.args.groups _ rest refl)

pub operand-returns-in-Some-Bang-clause-reads : goal.operand-returns-in-Some-Bang-clause-reads
operand-returns-in-Some-Bang-clause-reads t c =
    no_bang (map token_of c.args.tokens.now.items) (map token_of c.pop_front.new.self.items) _ c.requires (popped c.args.tokens.now.items c.pop_front.new.self.items c.in-Some-Bang.field-0 _ c.in-Some-Bang.ensures.items c.in-Some-Bang.field-0-is)
