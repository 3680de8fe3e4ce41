-- The texts so far were added, and nothing else has changed.
use Rattle.std.proofs.Common.{◌≡◌, ◌++◌, map, string_bytes, take}
use Rattle.std.specs.Process.{SameEnv, command_args, command_program}
use Rattle.spool_runtime.proofs.script.push_texts.Given as goal

abbrev pub invariant-loop-text : goal.invariant-loop-text
invariant-loop-text l = record {
  args : command_args l.command ≡ command_args l.fn.command ++ map string_bytes (take l.text-index l.texts);
  program : command_program l.command ≡ command_program l.fn.command;
  env : SameEnv l.fn.command l.command;
}
