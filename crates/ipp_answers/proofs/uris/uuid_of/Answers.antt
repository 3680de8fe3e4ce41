-- The bytes of a text are the text.
use Rattle.std.proofs.Common.{◌∙◌, ◌++◌, ℕ, List, ap, take}
use Rattle.sha1.specs.Sha1.{sha1}
use Rattle.uuid.specs.Parts.{with_variant, with_version}
use Rattle.uuid.specs.declared.Variant.TheVariants.{RFC4122}
use Rattle.uuid.specs.declared.Version.TheVariants.{Sha1}
use Rattle.ipp_answers.specs.AnswerUris.{url_namespace, uuid_of}
use Rattle.ipp_answers.proofs.uris.uuid_of.Goals as goal

pub returns : goal.returns
unfolding uuid_of
returns c = c.new_v5.ensures.value ∙ ap (λ (name : List ℕ). with_version (with_variant (take 16 (sha1 (url_namespace ++ name))) RFC4122) Sha1) c.as_bytes.ensures.value
