use Rattle.std.proofs.Common.{rules, ◌∙◌, ap}
use Rattle.std.specs.Prelude.{List, ℕ}
use Rattle.std.proofs.lemmas.Fn.{filter_same}
use Rattle.service_client.specs.Mirrors.{row_named}
use Rattle.service_client.specs.declared.rows.NamedRow.{NamedRow}
use Rattle.service_client.proofs.RowLaws.{is_other, removed}
use Rattle.service_client.proofs.rows.remove_row.Goals as goal

pub returns : goal.returns
returns c = λ other. ap (λ (l : List NamedRow). row_named l other) (filter_same _ (is_other c.args.name.now) _ (λ x b f' k. search rules) _ _ c.retain.ensures.filtered)
    ∙ removed c.args.rows.now.items c.args.name.now other
