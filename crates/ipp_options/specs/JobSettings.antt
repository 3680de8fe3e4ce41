-- The settings that a request asks for a job.
use Rattle.std.specs.Prelude.{ℕ, Bool, true, false, ◌||◌, ◌&&◌, not, cond, nat_le, List, [], ◌∷◌, ◌++◌, codes, Option, None, Some}
use Rattle.std.specs.List.{list_all, list_any}
use Rattle.std.specs.Option.{option_and_then}
use denote.Ref.{Bor}
use Rattle.filter_args.specs.Pairs.{put}
use Rattle.spool_types.specs.Values.{is_plain}
use Rattle.ipp_printers.specs.PrinterFacts as facts
use Rattle.ipp_printers.specs.PrinterFacts.{property_of}
use Rattle.ipp_printers.specs.declared.property.Property.{Property}
use Rattle.ipp_printers.specs.declared.kind.PropertyKind.TheVariants as kinds
use Rattle.ipp_values.specs.declared.message.Attribute.{Attribute}
use Rattle.ipp_values.specs.declared.value.Value.{Value}
use Rattle.ipp_options.specs.AttributeWords.{same, is_same_word, word_of, integer_in}
use Rattle.ipp_options.specs.HoldValues.{hold_in, hold_time_in, is_free, same_hold}
use Rattle.ipp_options.specs.PaperValues.{size_in, are_honored}
use Rattle.ipp_options.specs.OptionValues.{name_of, choice_named, choice_value, is_some_list, is_passed, other_value}
use Rattle.ipp_options.specs.declared.hold.Hold.{Hold}
use Rattle.ipp_options.specs.declared.hold.Hold.TheVariants.{Free}
use Rattle.ipp_options.specs.declared.choice.Choice.{Choice}
use Rattle.ipp_options.specs.declared.settings.Settings.{Settings}
use Rattle.ipp_options.specs.declared.settings.Unsupported.{Unsupported}

-- Without attributes: one copy, priority 50, no hold.
abbrev pub no_settings : Settings
no_settings = record { copies = 1; priority = 50; hold = Free; options = []; unsupported = []; refused = false }

-- ## Attributes that are not supported

-- The printer supports the attribute, but not this value, if it is known.
abbrev pub note : Bor Attribute → Bool → Unsupported
note attribute known = record { attribute = attribute; known = known }

abbrev pub with_note : Settings → Bor Attribute → Bool → Settings
with_note s attribute known = record s { unsupported = s.unsupported ++ note attribute known ∷ [] }

abbrev pub with_bad : Settings → Bor Attribute → Settings
with_bad s attribute = with_note s attribute true

abbrev pub with_unknown : Settings → Bor Attribute → Settings
with_unknown s attribute = with_note s attribute false

-- The request is refused, since the attribute may not be left out.
abbrev pub with_refused : Settings → Bor Attribute → Settings
with_refused s attribute = with_note (record s { refused = true }) attribute true

-- ## The words of a job

abbrev pub ranged : ℕ → ℕ → ℕ → Option ℕ
ranged least most n = cond (nat_le least n && nat_le n most) (Some n) None

abbrev pub with_copies : Settings → Bor Attribute → Option ℕ → Settings
with_copies s attribute None = with_bad s attribute
with_copies s attribute (Some n) = record s { copies = n }

abbrev pub with_priority : Settings → Bor Attribute → Option ℕ → Settings
with_priority s attribute None = with_bad s attribute
with_priority s attribute (Some n) = record s { priority = n }

-- Two different holds are refused.
abbrev pub with_asked : Settings → Bor Attribute → Hold → Settings
with_asked s attribute hold =
    cond (is_free hold || same_hold hold s.hold) s (cond (is_free s.hold) (record s { hold = hold }) (with_refused s attribute))

abbrev pub with_hold : Settings → Bor Attribute → Option Hold → Settings
with_hold s attribute None = with_refused s attribute
with_hold s attribute (Some hold) = with_asked s attribute hold

-- A banner, and the holds of other attributes than job-hold-until and job-hold-until-time (PWG 5100.3, PWG 5100.11). The spooler has none
-- of them.
abbrev pub absent_names : List (List ℕ)
absent_names =
    codes "job-sheets" ∷ codes "job-sheets-col" ∷ codes "job-hold-until-interval" ∷ codes "job-delay-output-until" ∷ codes "job-delay-output-until-interval"
    ∷ codes "job-delay-output-until-time" ∷ codes "job-release-action" ∷ codes "job-password" ∷ []

abbrev pub must_be_none : List ℕ → Bool
must_be_none name = list_any (same name) absent_names

abbrev pub is_none_word : Value → Bool
is_none_word value = is_same_word (codes "none") (word_of value)

-- One or more values, each of them none.
abbrev pub are_none : List Value → Bool
are_none values = is_some_list values && list_all is_none_word values

abbrev pub with_none : Settings → Bor Attribute → Settings
with_none s attribute = cond (are_none attribute.now.values) s (with_refused s attribute)

-- ## The options of a job

-- The option, or else the other settings, if its value has a control character.
abbrev pub with_value : Settings → List ℕ → List ℕ → Settings → Settings
with_value s name value other = cond (list_all is_plain value) (record s { options = put s.options (name, value) }) other

abbrev pub with_option : Settings → Bor Attribute → List ℕ → Option (List ℕ) → Settings
with_option s attribute name None = with_bad s attribute
with_option s attribute name (Some value) = with_value s name value (with_bad s attribute)

abbrev pub with_size : Settings → Bor Attribute → Bool → Option (List ℕ) → Settings
with_size s attribute honored None = with_bad s attribute
with_size s attribute honored (Some size) =
    cond honored (with_option s attribute (codes "media") (Some size)) (with_bad (with_option s attribute (codes "media") (Some size)) attribute)

abbrev pub with_media_col : List Property → Settings → Bor Attribute → Settings
with_media_col printer s attribute =
    with_size s attribute (are_honored attribute.now.values) (size_in (facts.media_of (property_of kinds.Media printer)) attribute.now.values)

abbrev pub with_passed : Settings → Bor Attribute → Option (List ℕ) → Settings
with_passed s attribute None = with_unknown s attribute
with_passed s attribute (Some value) = with_value s attribute.now.name value (with_unknown s attribute)

-- An attribute that no rule names: an option, but not with fidelity.
abbrev pub with_other : Bool → Settings → Bor Attribute → Settings
with_other fidelity s attribute =
    cond (not fidelity && is_passed attribute.now.name) (with_passed s attribute (other_value attribute.now.values)) (with_unknown s attribute)

abbrev pub with_choice : List Property → Bool → Settings → Bor Attribute → Option Choice → Settings
with_choice printer fidelity s attribute None = with_other fidelity s attribute
with_choice printer fidelity s attribute (Some choice) = with_option s attribute (name_of choice) (choice_value printer choice attribute.now.values)

-- ## All attributes

abbrev pub with_attribute : List Property → Bool → ℕ → Settings → Bor Attribute → Settings
with_attribute printer fidelity now s attribute =
    cond (same attribute.now.name (codes "copies")) (with_copies s attribute (option_and_then (ranged 1 9999) (integer_in attribute.now.values)))
    (cond (same attribute.now.name (codes "job-priority")) (with_priority s attribute (option_and_then (ranged 1 100) (integer_in attribute.now.values)))
    (cond (same attribute.now.name (codes "job-hold-until")) (with_hold s attribute (hold_in now attribute.now.values))
    (cond (same attribute.now.name (codes "job-hold-until-time")) (with_hold s attribute (hold_time_in attribute.now.values))
    (cond (must_be_none attribute.now.name) (with_none s attribute)
    (cond (same attribute.now.name (codes "media-col")) (with_media_col printer s attribute)
    (with_choice printer fidelity s attribute (choice_named attribute.now.name)))))))

-- Each attribute in turn.
abbrev pub with_all : List Property → Bool → ℕ → Settings → List (Bor Attribute) → Settings
with_all printer fidelity now s [] = s
with_all printer fidelity now s (attribute ∷ attributes) = with_all printer fidelity now (with_attribute printer fidelity now s attribute) attributes

abbrev pub settings_of : List Property → Bool → ℕ → List (Bor Attribute) → Settings
settings_of printer fidelity now attributes = with_all printer fidelity now no_settings attributes

-- The request is refused: an attribute may not be left out, or nothing may be, with fidelity.
abbrev pub is_refused : Bool → Settings → Bool
is_refused fidelity s = s.refused || (fidelity && is_some_list s.unsupported)
