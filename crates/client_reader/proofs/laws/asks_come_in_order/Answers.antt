use Rattle.client_reader.proofs.AskLaws.{first_given, first_whatever}
use Rattle.client_reader.proofs.laws.asks_come_in_order.Goals as goal

pub returns-clause-so_far : goal.returns-clause-so_far
returns-clause-so_far c = first_given

pub returns-clause-whatever_follows : goal.returns-clause-whatever_follows
returns-clause-whatever_follows c = first_whatever
