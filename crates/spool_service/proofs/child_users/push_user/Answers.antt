-- The new number is none of the earlier ones.
use Rattle.std.proofs.Common.{rules}
use Rattle.spool_service.proofs.ChildNumbers.{distinct_push}
use Rattle.spool_service.proofs.child_users.push_user.Goals as goal

pub returns-clause-distinct : goal.returns-clause-distinct
returns-clause-distinct g c = λ distinct.
    distinct_push c.args.users.now.items c.push_reserved.new.self.items c.child_user.result (search (rules)) distinct (search (rules))
