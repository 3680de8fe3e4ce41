use Rattle.filter_args.proofs.PrintLaws.{read_back}
use Rattle.filter_args.proofs.options.Options.print.Goals as goal

pub returns-in_err-push_pair-clause-read_back : goal.returns-in_err-push_pair-clause-read_back
returns-in_err-push_pair-clause-read_back c = read_back c.self.view_is c.self.invariant

pub returns-in_err-push-clause-read_back : goal.returns-in_err-push-clause-read_back
returns-in_err-push-clause-read_back c = read_back c.self.view_is c.self.invariant

pub returns-in_err-push_pair-2-clause-read_back : goal.returns-in_err-push_pair-2-clause-read_back
returns-in_err-push_pair-2-clause-read_back c = read_back c.self.view_is c.self.invariant

pub returns-clause-read_back : goal.returns-clause-read_back
returns-clause-read_back c = read_back c.self.view_is c.self.invariant
