-- The number is that of the rules, and these first bytes of a document determine its type as all of them do.
use Rattle.std.proofs.Common.{◌≡◌, ap, min, subst, unwrap_or}
use Rattle.mime_rules.specs.Reach.{reach}
use Rattle.spool_engine.specs.Mime.{Mime, IsEnough, unknown_type}
use Rattle.spool_engine.proofs.mime.Mime.reach.Goals as goal

pub returns-clause-value : goal.returns-clause-value
returns-clause-value c = subst (λ (mime : Mime). c.reach.result ≡ min c.args.len (reach mime.types)) c.self.view_is c.reach.ensures.value

pub returns-clause-enough : goal.returns-clause-enough
returns-clause-enough c =
    subst (λ (mime : Mime). IsEnough mime c.args.len c.reach.result) c.self.view_is
    (λ name document long. ap (λ type. unwrap_or type unknown_type) (c.reach.ensures.enough (record { name = name; bytes = document; locale = c.self.inside.locale.now }) long))
