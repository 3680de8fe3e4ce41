use Rattle.std.proofs.Common.{ap, ◌∙◌}
use Rattle.clap.specs.Words.{found_of, one_text}
use Rattle.clap.proofs.WalkLemmas.{one_text-rows}
use Rattle.spool_runtime.specs.ProgramArguments.{is_told}
use Rattle.spool_runtime.proofs.Accepted.{flag_read}
use Rattle.spool_runtime.proofs.options.flag_given.Goals as goal

pub returns : goal.returns
returns c =
    let name = c.args.name.now in
    let found = one_text (found_of c.args.matches.now) name in
    flag_read found c.get_flag.result c.get_flag.ensures.none c.get_flag.ensures.value c.get_flag.ensures.other c.requires
    ∙ ap is_told (one_text-rows (found_of c.args.matches.now) name)
