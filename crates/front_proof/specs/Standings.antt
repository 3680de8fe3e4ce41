-- The identity of a client for a service.
use Rattle.std.specs.Prelude.{ℕ, List, string_bytes}
use Rattle.front_proof.specs.declared.caller.Caller.{Caller}
use Rattle.front_proof.specs.declared.caller.Caller.TheVariants.{Unproved, User, Operator}

pub data Standing : Type 0 where
  unproved : Standing
  user : List ℕ → Standing
  operator : List ℕ → Standing

abbrev pub standing_of : Caller → Standing
standing_of Unproved = unproved
standing_of (User name) = user (string_bytes name)
standing_of (Operator name) = operator (string_bytes name)
