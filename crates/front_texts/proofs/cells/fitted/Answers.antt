use Rattle.std.proofs.Common.{string_bytes, rules}
use Rattle.front_texts.proofs.CellLaws.{none_fits, none_is_clean, cut_is_clean}
use Rattle.front_texts.proofs.cells.fitted.Goals as goal

pub returns-clause-fits : goal.returns-clause-fits
returns-clause-fits c = none_fits c.args.columns (string_bytes c.new.result) c.new.ensures.bytes

pub returns-clause-clean : goal.returns-clause-clean
returns-clause-clean c = λ _. none_is_clean (string_bytes c.new.result) c.new.ensures.bytes

pub returns-then-width-columns-2-clause-clean : goal.returns-then-width-columns-2-clause-clean
returns-then-width-columns-2-clause-clean c =
    let front = c.beginning.result.now in
    cut_is_clean c.args.text.now front (string_bytes c.push_str.new.self) c.beginning.utf8 c.beginning.ensures (search rules)
