-- The words so far were added, and nothing else has changed.
use Rattle.std.proofs.Common.{◌≡◌, ◌++◌, map, take}
use Rattle.std.specs.Process.{SameEnv, command_args, command_program}
use Rattle.spool_runtime.proofs.user_checks.push_words.Given as goal

abbrev pub invariant-loop-word : goal.invariant-loop-word
invariant-loop-word l = record {
  args : command_args l.command ≡ command_args l.fn.command ++ map (λ word. word.now) (take l.word-index l.words);
  program : command_program l.command ≡ command_program l.fn.command;
  env : SameEnv l.fn.command l.command;
}
