use Rattle.std.proofs.Common.{refl, rules}
use Rattle.program_pipes.proofs.NameLaws.{names_kept}
use Rattle.program_pipes.proofs.running.note.Goals as goal

pub returns-in-Some-clause-filters : goal.returns-in-Some-clause-filters
returns-in-Some-clause-filters c = names_kept c.args.end.now.filters.items c.args.index c.in-Some.filter.now _ (search rules) refl
