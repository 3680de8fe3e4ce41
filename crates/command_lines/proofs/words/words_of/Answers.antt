use Rattle.std.proofs.Common.{map, ◌∷◌, [], ap, sym, ◌∙◌}
use Rattle.std.proofs.lemmas.List.{map-append}
use Rattle.command_lines.specs.CommandWords.{words_of}
use Rattle.line_words.specs.WordFields.{bytes_of}
use Rattle.command_lines.specs.Fronts.{front_of}
use Rattle.command_lines.proofs.WordLaws.{with_words, words_end, words_break, words_more, rest_shorter}
use Rattle.command_lines.proofs.words.words_of.Goals as goal

pub returns-in-Ended : goal.returns-in-Ended
returns-in-Ended c =
    words_end c.args.line.now c.loop-words.rest.now (map bytes_of c.loop-words.words.items) (front_of c.in_ok-next_word.field-0)
    c.in_ok-next_word.ensures c.loop-words.invariant (ap front_of c.in-Ended.is)

pub returns-in-Broken : goal.returns-in-Broken
returns-in-Broken c =
    words_break c.args.line.now c.loop-words.rest.now (map bytes_of c.loop-words.words.items) (front_of c.in_ok-next_word.field-0)
    c.in_ok-next_word.ensures c.loop-words.invariant (ap front_of c.in-Broken.is)

pub loop-words-smaller : goal.loop-words-smaller
loop-words-smaller c = rest_shorter c.loop-words.rest.now (bytes_of c.in-Word.word) c.in-Word.behind.now (ap front_of (sym c.in-Word.is) ∙ c.in_ok-next_word.ensures)

pub loop-words-preserved : goal.loop-words-preserved
loop-words-preserved c =
    ap (λ v. with_words (map bytes_of v) (words_of c.in-Word.behind.now)) c.in_ok-push-in-Word.ensures.items
    ∙ ap (λ v. with_words v (words_of c.in-Word.behind.now)) (map-append bytes_of c.loop-words.words.items (c.in-Word.word ∷ []))
    ∙ words_more c.args.line.now c.loop-words.rest.now (map bytes_of c.loop-words.words.items) (front_of c.in_ok-next_word.field-0)
    c.in_ok-next_word.ensures c.loop-words.invariant (bytes_of c.in-Word.word) c.in-Word.behind.now (ap front_of c.in-Word.is)
