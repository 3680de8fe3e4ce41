use Rattle.std.proofs.Common.{ℕ, List, [], ap, sym, ◌∙◌, Some, Bor}
use Rattle.ipp_printers.proofs.WordLists.{words_more, words_stop}
use Rattle.ipp_printers.proofs.property.read_every.Goals as goal

abbrev nowhere : Bor (List ℕ)
nowhere = record { ref_ptr = (0, 0); now = [] }

pub returns-in-None : goal.returns-in-None
returns-in-None g c = words_stop g.T.ListWord.read_in c.args.words.now c.loop-word.word-index nowhere c.loop-word-test.true (sym c.in_ok-item.ensures ∙ c.in-None.is)

pub loop-word-preserved : goal.loop-word-preserved
loop-word-preserved g c =
    words_more g.T.ListWord.read_in c.args.words.now c.loop-word.word-index nowhere c.loop-word-test.true c.loop-word.items.items c.in-Some.item c.loop-word.invariant
    (sym c.in_ok-item.ensures ∙ c.in-Some.is)
    ∙ ap (λ l. Some l) (sym c.in_ok-push-in-Some.ensures.items)
