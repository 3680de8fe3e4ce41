use Rattle.print_rounds.proofs.HandedOnLaws.{finishes_hand, tick_hands, ticks_hand}
use Rattle.print_rounds.proofs.laws.ticks_hand_on.Goals as goal

pub returns-clause-one : goal.returns-clause-one
returns-clause-one g c = λ place limits earlier t old new result legal tells tickets kept run r.
    tick_hands g.D.Disk.device c.legal_tables_stay_legal.ensures.stays place limits earlier t old new result legal tells tickets kept run r

pub returns-clause-finishes : goal.returns-clause-finishes
returns-clause-finishes g c = λ earlier t slots told fs new told_then tells tickets kept run finishes.
    finishes_hand c.tickets_stay.ensures.finishes earlier t slots told fs new told_then tells tickets kept run finishes

pub returns-clause-many : goal.returns-clause-many
returns-clause-many g c = λ place t calls ticks quiet. ticks_hand g.D.Disk.device c.legal_tables_stay_legal.ensures.stays place t calls ticks quiet
