-- The programs of the lines so far, which were accepted.
use Rattle.std.proofs.Common.{◌≡◌, true, map, take}
use Rattle.program_lists.specs.Programs.{programs_of, reads_of}
use Rattle.program_lists.proofs.ListLaws.{says}
use Rattle.program_lists.proofs.list.ProgramList.read.Given as goal

abbrev pub invariant-loop-line : goal.invariant-loop-line
invariant-loop-line l = record {
  programs : l.list ≡ programs_of (map says (take l.line-index l.line-items));
  reads : reads_of (map says (take l.line-index l.line-items)) ≡ true;
}
