-- A name that fits is among those that follow.
use Rattle.std.proofs.Common.{◌≡◌, drop, map}
use Rattle.std.specs.List.{list_any}
use Rattle.http_requests.specs.HttpRoutes.{is_host}
use Rattle.http_requests.proofs.hosts.is_named.Given as goal

abbrev pub invariant-loop-name : goal.invariant-loop-name
invariant-loop-name l = list_any (is_host l.host) (map (λ name. name.items) (drop l.name-index l.names)) ≡ list_any (is_host l.host) (map (λ name. name.items) l.names)
