use Rattle.std.proofs.Common.{ℕ, ◌≤◌, List, ◌∙◌, ap, arith, length, subst, sym, take}
use Rattle.std.specs.List.{before_first, position_or_len}
use Rattle.std.proofs.lemmas.List.{get_or-take, length-take}
use Rattle.std.proofs.lemmas.List.Sums.{fails_before_first}
use Rattle.system_reasons.specs.SystemReasons.{HasNoBracket, is_bracket}
use Rattle.system_reasons.proofs.words_of.Goals as goal

-- The front of a text that ends before its first bracket has none.
front_has_none : (text : List ℕ) (n : ℕ) → n ≤ length (before_first is_bracket text) → HasNoBracket (take n (before_first is_bracket text))
front_has_none text n fits k d within =
    let at = position_or_len is_bracket text in
    let front = length-take at text in
    let part = length-take n (before_first is_bracket text) in
    ap is_bracket (get_or-take n (before_first is_bracket text) k d (omega arith) ∙ get_or-take at text k d (omega arith))
    ∙ fails_before_first is_bracket text k d (omega arith)

pub returns-clause-no_bracket : goal.returns-clause-no_bracket
returns-clause-no_bracket c =
    let trimmed = c.trim_end.ensures.value in
    subst HasNoBracket (sym (trimmed.1 ∙ ap (take trimmed.0) c.before_bracket.ensures))
    (front_has_none c.args.text.now trimmed.0 (subst (λ words. trimmed.0 ≤ length words) c.before_bracket.ensures trimmed.5))
