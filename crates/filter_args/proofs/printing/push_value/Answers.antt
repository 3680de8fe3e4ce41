use Rattle.std.proofs.Common.{◌++◌, string_bytes, ap, sym, ◌∙◌}
use Rattle.std.proofs.lemmas.List.{append_assoc}
use Rattle.filter_args.specs.Printing.{escaped}
use Rattle.filter_args.proofs.CharLaws.{escaped-encode}
use Rattle.filter_args.proofs.printing.push_value.Goals as goal

pub loop-c-preserved : goal.loop-c-preserved
loop-c-preserved c =
    let text = string_bytes c.loop-c.text in
    let t = c.next.new.self.rest.now in
    ap (λ l. l ++ escaped t) c.in_ok-push_escaped.ensures
    ∙ append_assoc text _ (escaped t)
    ∙ ap (λ l. text ++ l) (sym (escaped-encode c.in-Some.c t))
    ∙ ap (λ l. text ++ escaped l) (sym c.in-Some.ensures.steps.0)
    ∙ c.loop-c.invariant
