use Rattle.print_rounds.proofs.HandLaws.{round_hands}
use Rattle.print_rounds.proofs.laws.rounds_hand_on.Goals as goal

pub returns : goal.returns
returns g c = λ place earlier t old new result legal tells quiet rests kept r.
    round_hands g.D.Disk.device c.legal_tables_stay_legal.ensures.stays place earlier t old new result legal tells quiet rests kept r
