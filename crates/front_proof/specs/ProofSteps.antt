-- The steps of a proof over one connection.
use Rattle.std.specs.Prelude.{◌≡◌, ℕ, Bool, true, false, List, Option, None, Some, string_bytes}
use Rattle.front_proof.specs.ProofReplies.{IsOfferedIn}
use Rattle.front_proof.specs.Standings.{Standing, unproved, standing_of}
use Rattle.front_proof.specs.declared.step.Step.{Step}
use Rattle.front_proof.specs.declared.step.Step.TheVariants.{Making, Claiming, Ended}

-- The folder is made, `made` is sent, or the client is known.
pub data Place : Type 0 where
  making : List ℕ → Place
  claiming : List ℕ → Place
  ended : Standing → Place

abbrev pub place_of : Step → Place
place_of (Making path) = making (string_bytes path.text)
place_of (Claiming path) = claiming (string_bytes path.text)
place_of (Ended caller) = ended (standing_of caller)

abbrev pub after_offer : Option (List ℕ) → Place
after_offer None = ended unproved
after_offer (Some path) = making path

-- The path that is taken.
abbrev pub offer_of : Place → Option (List ℕ)
offer_of (making path) = Some path
offer_of place = None

-- After a reply to `i-am`.
abbrev pub IsAfterOffer : List ℕ → Place → Type 0
IsAfterOffer line next = IsOfferedIn line (offer_of next) × (next ≡ after_offer (offer_of next))

-- After an attempt to make the folder.
abbrev pub after_making : Place → Bool → Place
after_making (making path) true = claiming path
after_making (making path) false = ended unproved
after_making place made = place
