use Rattle.std.proofs.Common.{inl, ◌∙◌}
use Rattle.std.proofs.lemmas.Result.{IfOk-weaker}
use Rattle.front_texts.proofs.sizes.moment_text.Goals as goal

pub returns-in-Ok : goal.returns-in-Ok
returns-in-Ok c = record { value = IfOk-weaker c.fmt_http_date.result _ _ (λ s e. inl (c.in-Ok.date, c.in-Ok.ensures.value ∙ c.get-seconds.ensures.value, e)) c.fmt_http_date.ensures }
