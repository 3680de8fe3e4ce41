use Rattle.print_rounds.proofs.TickLaws.{finishes_turn}
use Rattle.print_rounds.proofs.laws.finishes_are_a_call.Goals as goal

pub returns : goal.returns
returns g c = λ t old new fs legal has tells finishings same. finishes_turn
    (record {
      legal = c.legal_tables_stay_legal.ensures.stays;
      spent = c.spent_stages_stay_spent.ensures.stays;
      left = c.spent_stages_stay_spent.ensures.left;
      either = c.spent_stages_stay_spent.ensures.either;
      ended = c.spent_stages_stay_spent.ensures.ended;
      rises = c.versions_rise.ensures.all;
      raised_legal = c.versions_rise.ensures.legal;
    })
    (record {
      starts = c.tickets_stay.ensures.starts;
      finishes = c.tickets_stay.ensures.finishes;
      looks = c.tickets_stay.ensures.looks;
      releases = c.tickets_stay.ensures.releases;
    }) t old new fs legal has tells finishings same
