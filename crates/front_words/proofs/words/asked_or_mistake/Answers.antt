use Rattle.clap.specs.Words.{found_of, rows_of}
use Rattle.front_words.specs.AskedTasks.{Fit}
use Rattle.front_words.proofs.Blames.{tells_mistake}
use Rattle.front_words.proofs.words.asked_or_mistake.Goals as goal

pub returns-in-Err-clause-fit : goal.returns-in-Err-clause-fit
returns-in-Err-clause-fit c =
    tells_mistake (Fit c.args.form (rows_of (found_of c.args.matches.now))) c.in-Err.wrong c.mistake.result c.in-Err.ensures.fit c.mistake.ensures
