use Rattle.clap.specs.Words.{found_of, rows_of}
use Rattle.front_words.specs.AskedTasks.{Fit, FitTask}
use Rattle.front_words.proofs.Blames.{less_blamed}
use Rattle.front_words.proofs.reading.asked_in.Goals as goal

pub returns-in-Err-clause-fit : goal.returns-in-Err-clause-fit
returns-in-Err-clause-fit c =
    less_blamed (FitTask c.args.form (rows_of (found_of c.args.matches.now))) (Fit c.args.form (rows_of (found_of c.args.matches.now))) c.in-Err.wrong
    (λ both. both.1) c.in-Err.ensures.fit
