use Rattle.ipp_connections.proofs.Types.{is_own}
use Rattle.ipp_connections.proofs.connection.Http.route.Goals as goal

pub returns : goal.returns
returns c = λ ok. is_own _ _ _ _ _ _ _ _ _ c.as_slice-input.ensures.value c.is_local-local.ensures c.field-host.ensures c.field-media.ensures c.text_of-words.ensures (c.route_of.ensures.host ok) (c.route_of.ensures.media ok)
