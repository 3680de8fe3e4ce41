use Rattle.std.proofs.Common.{◌∙◌, arith, codes}
use Rattle.clap.specs.Words.{found_of}
use Rattle.clap.proofs.WalkLemmas.{first_value-rows}
use Rattle.spool_service.proofs.child_words.child_words.Goals as goal

pub returns-clause-asked : goal.returns-clause-asked
returns-clause-asked c = record {
  users = c.get_str.ensures ∙ first_value-rows (found_of c.args.matches.now) (codes "children-user");
  memory = c.number_given.ensures.number;
  processes = c.number_given-2.ensures.number;
  file_size = c.number_given-3.ensures.number;
  open_files = c.number_given-4.ensures.number;
}

pub returns-clause-in_range : goal.returns-clause-in_range
returns-clause-in_range c = record {
  memory = (c.number_given.ensures.in_range 0 1048576 c.requires.memory (omega arith) (omega arith)).1;
  processes = (c.number_given-2.ensures.in_range 0 100000 c.requires.processes (omega arith) (omega arith)).1;
  file_size = c.number_given-3.ensures.in_range 1 1048576 c.requires.file_size (omega arith) (omega arith);
  open_files = (c.number_given-4.ensures.in_range 0 1048576 c.requires.open_files (omega arith) (omega arith)).1;
}
