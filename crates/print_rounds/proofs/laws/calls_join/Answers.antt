use Rattle.print_rounds.proofs.JoinLaws.{joined}
use Rattle.print_rounds.proofs.laws.calls_join.Goals as goal

pub returns : goal.returns
returns g c = λ old mid new t more further one two. joined
    (record {
      legal = c.legal_tables_stay_legal.ensures.stays;
      spent = c.spent_stages_stay_spent.ensures.stays;
      left = c.spent_stages_stay_spent.ensures.left;
      either = c.spent_stages_stay_spent.ensures.either;
      ended = c.spent_stages_stay_spent.ensures.ended;
      rises = c.versions_rise.ensures.all;
      raised_legal = c.versions_rise.ensures.legal;
    }) old mid new t more further one two
