-- The words so far were added, and the program is the same.
use Rattle.std.proofs.Common.{◌≡◌, ◌++◌, map, string_bytes, take}
use Rattle.std.specs.Process.{command_args, command_program}
use Rattle.program_pipes.proofs.command.push_words.Given as goal

abbrev pub invariant-loop-word : goal.invariant-loop-word
invariant-loop-word l = record {
  args : command_args l.command ≡ command_args l.fn.command ++ map string_bytes (take l.word-index l.words);
  program : command_program l.command ≡ command_program l.fn.command;
}
