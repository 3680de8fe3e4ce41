use Rattle.std.proofs.Common.{◌∙◌, ap, ◌++◌, rules}
use Rattle.spool_scripts.specs.Outcomes.{look_words}
use Rattle.spool_scripts.proofs.Looks.{words_more}
use Rattle.spool_scripts.proofs.outcomes.read_look_words.Goals as goal

pub loop-ended-preserved : goal.loop-ended-preserved
loop-ended-preserved c =
    words_more c.loop-ended.looks.items c.in-Some.ended c.args.words.now c.loop-ended.rest.now c.in-Some.behind.now c.loop-ended.invariant c.in-Some.ensures.word
    ∙ ap (λ items. look_words items ++ c.in-Some.behind.now) (search (rules, c.push.ensures.items))
