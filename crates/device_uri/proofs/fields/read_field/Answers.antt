use Rattle.std.proofs.Common.{◌<◌, length, Some, refl, sym, ap, ◌∙◌, inl, inr}
use Rattle.std.proofs.lemmas.Bool.{cases_lt, false≢true}
use Rattle.std.specs.Option.{option_map}
use Rattle.line_words.specs.WordFields.{bytes_of}
use Rattle.device_uri.proofs.FieldForm.{no_quote, open_quote, short_field, long_field}
use Rattle.device_uri.proofs.fields.read_field.Goals as goal

pub returns-in_default-clause-bad : goal.returns-in_default-clause-bad
returns-in_default-clause-bad c = λ _. no_quote c.args.line.now (sym c.behind_quote.ensures ∙ ap (option_map (λ inside. inside.now)) c.in_default.is)

pub returns-in_default-2-clause-bad : goal.returns-in_default-2-clause-bad
returns-in_default-2-clause-bad c = λ _. open_quote c.args.line.now c.in-Some.inside.now (sym c.in-Some.ensures) (sym c.in_ok-word.ensures.value ∙ ap (option_map (λ p. (bytes_of p.0, p.1.now))) c.in_default-2.is)

pub returns-in-Ok-clause-value : goal.returns-in-Ok-clause-value
returns-in-Ok-clause-value c =
    let bytes = c.in_ok-into_bytes.field-0.items in
    short_field c.args.line.now c.in-Some.inside.now bytes c.in-Some-2.rest.now
    (sym c.in-Some.ensures)
    (sym c.in_ok-word.ensures.value ∙ ap (option_map (λ p. (bytes_of p.0, p.1.now))) c.in-Some-2.is ∙ ap (λ f. Some (f, c.in-Some-2.rest.now)) (sym c.in_ok-into_bytes.ensures.value))
    (c.in-Ok.ensures.short.0 refl)
    ∙ ap (λ f. Some (f, c.in-Some-2.rest.now)) (sym c.in-Ok.ensures.value)

pub returns-clause-bad : goal.returns-clause-bad
returns-clause-bad c = λ _.
    let bytes = c.in_ok-into_bytes.field-0.items in
    let long : 1023 < length bytes =
    elim (cases_lt 1023 (length bytes)) [ inl lt ↦ lt | inr le ↦ absurd (false≢true (c.in-Err.ensures.short.1 le)) ] in
    long_field c.args.line.now c.in-Some.inside.now bytes c.in-Some-2.rest.now
    (sym c.in-Some.ensures)
    (sym c.in_ok-word.ensures.value ∙ ap (option_map (λ p. (bytes_of p.0, p.1.now))) c.in-Some-2.is ∙ ap (λ f. Some (f, c.in-Some-2.rest.now)) (sym c.in_ok-into_bytes.ensures.value)) long
