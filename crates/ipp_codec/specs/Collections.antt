-- Where in an attribute's values a value or a mark of a collection may follow (RFC 8010, 3.1.6 and 3.1.7).
use Rattle.std.specs.Prelude.{◌≡◌, ℕ, Bool, true, false, ◌+◌, ◌-◌, ◌==◌, nat_lt, List, [], ◌∷◌, Result, Ok, Err, if◌then◌else◌}
use Rattle.ipp_values.specs.declared.tags.ValueTag.{ValueTag}
use Rattle.ipp_values.specs.declared.tags.ValueTag.TheVariants.{BeginCollection, EndCollection, MemberName}
use Rattle.ipp_values.specs.declared.value.Value.{Value}
use Rattle.ipp_values.specs.ValueTexts.{tag_of}
use Rattle.ipp_codec.specs.ReadSteps.{◌>>=◌}
use Rattle.ipp_codec.specs.declared.fault.DecodeFault.{DecodeFault}
use Rattle.ipp_codec.specs.declared.fault.DecodeFault.TheVariants.{Collection, TooLarge}
use Rattle.ipp_codec.specs.declared.place.Place.{Place}
use Rattle.ipp_codec.specs.declared.place.Place.TheVariants.{Outside, Begun, Named, Filled}

abbrev pub is_outside : Place → Bool
is_outside Outside = true
is_outside _ = false

-- A collection begins in `depth` others: at most 8 in all.
abbrev pub begun_in : ℕ → Result Place DecodeFault
begun_in depth = if nat_lt depth 8 then Ok (Begun (depth + 1)) else Err TooLarge

-- The innermost of `depth` collections ends, and is a value of the one around it.
abbrev pub ended_in : ℕ → Place
ended_in depth = if depth == 1 then Outside else Filled (depth - 1)

-- A collection begins where a value may be.
abbrev pub after_begin : Place → Result Place DecodeFault
after_begin Outside = begun_in 0
after_begin (Begun depth) = Err Collection
after_begin (Named depth) = begun_in depth
after_begin (Filled depth) = begun_in depth

-- A member has a value before the next one begins.
abbrev pub after_name : Place → Result Place DecodeFault
after_name Outside = Err Collection
after_name (Begun depth) = Ok (Named depth)
after_name (Named depth) = Err Collection
after_name (Filled depth) = Ok (Named depth)

-- A member has a value before the collection ends, which may have no member.
abbrev pub after_end : Place → Result Place DecodeFault
after_end Outside = Err Collection
after_end (Begun depth) = Ok (ended_in depth)
after_end (Named depth) = Err Collection
after_end (Filled depth) = Ok (ended_in depth)

-- A value in a collection is that of a member.
abbrev pub after_plain : Place → Result Place DecodeFault
after_plain Outside = Ok Outside
after_plain (Begun depth) = Err Collection
after_plain (Named depth) = Ok (Filled depth)
after_plain (Filled depth) = Ok (Filled depth)

abbrev pub after_tag : Place → ValueTag → Result Place DecodeFault
after_tag place BeginCollection = after_begin place
after_tag place EndCollection = after_end place
after_tag place MemberName = after_name place
after_tag place _ = after_plain place

-- The place after values and marks.
abbrev pub place_after : Place → List Value → Result Place DecodeFault
place_after place [] = Ok place
place_after place (v ∷ vs) = after_tag place (tag_of v) >>= λ next. place_after next vs

-- Values and marks that are whole: each collection ends.
abbrev pub AreWhole : List Value → Type 0
AreWhole vs = place_after Outside vs ≡ Ok Outside
