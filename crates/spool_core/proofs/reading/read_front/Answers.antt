-- The bytes read are the first ones of the document.
use Rattle.std.proofs.Common.{◌≡◌, ℕ, length, take, ap, ◌∙◌}
use Rattle.std.proofs.lemmas.List.{take_at}
use Rattle.spool_core.proofs.reading.read_front.Goals as goal

pub returns-in-Ok-read_document-clause-front : goal.returns-in-Ok-read_document-clause-front
returns-in-Ok-read_document-clause-front g c =
    let filled : c.in-Ok.bytes.len ≡ c.args.count = c.in-Ok.ensures.len in
    let long : length c.deref_mut.result.now ≡ c.args.count = c.deref_mut.ensures.len ∙ filled in
    let same : length c.read_document.new.into ≡ length c.deref_mut.result.now = search in
    let is = take_at c.read_document.new.into _ c.in-Ok.bytes.len (same ∙ c.deref_mut.ensures.len) in
    let part = c.in-Ok-read_document.ensures.part in
    record { document = part.document; is = part.is; part_is = is ∙ part.part_is ∙ ap (λ (n : ℕ). take n part.document) long }
