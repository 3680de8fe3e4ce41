use Rattle.std.proofs.Common.{◌++◌, string_bytes, ap, sym, ◌∙◌}
use Rattle.std.proofs.lemmas.List.{append_assoc}
use Rattle.line_words.specs.Quoting.{next, said}
use Rattle.filter_args.proofs.CharLaws.{said-encode}
use Rattle.filter_args.proofs.reading.unquoted.Goals as goal

pub loop-c-preserved : goal.loop-c-preserved
loop-c-preserved c =
    let place = c.loop-c.place in
    let value = string_bytes c.loop-c.value in
    let char = c.in-Some.c in
    let t = c.next.new.self.rest.now in
    ap (λ q. string_bytes c.push_kept.new.value ++ said q t) c.next-place.ensures
    ∙ ap (λ l. l ++ said (next place char) t) c.in_ok-push_kept.ensures
    ∙ append_assoc value _ (said (next place char) t)
    ∙ ap (λ l. value ++ l) (sym (said-encode place char t))
    ∙ ap (λ l. value ++ said place l) (sym c.in-Some.ensures.steps.0)
    ∙ c.loop-c.invariant
