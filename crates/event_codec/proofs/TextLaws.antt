-- A text of each kind is shorter than the maximum of its two-byte length, so it is read again.
use Rattle.std.proofs.Common.{◌≡◌, ℕ, ◌<◌, ◌^◌, Bool, true, false, length, refl, arith}
use Rattle.std.specs.Prelude.{nat_le, ◌&&◌}
use Rattle.std.proofs.lemmas.Bool.Decides.{nat_tests}
use Rattle.spool_types.specs.Values.{is_text_of, is_queue_name, is_uri, is_media_type, is_user_name, is_title, is_options, is_note, is_filter_name, is_reason, is_attribute_name, is_message}
use Rattle.event_codec.specs.Spelling.{text_code, IsText}
use Rattle.event_codec.specs.EventReading.{text_at}
use Rattle.event_codec.proofs.FieldLaws.{IsShort, Reads, reads_text}

left_true : (a b : Bool) → (a && b) ≡ true → a ≡ true
left_true true b e = refl
left_true false b e = e

short_of : (passes : ℕ → Bool) (least most : ℕ) → most < 2 ^ 16 → IsShort (is_text_of passes least most)
short_of passes least most small text e = grind (arith, nat_tests)

pub short_queue_name : IsShort is_queue_name
short_queue_name = short_of _ 1 127 (omega arith)

pub short_uri : IsShort is_uri
short_uri = short_of _ 1 1023 (omega arith)

pub short_user_name : IsShort is_user_name
short_user_name = short_of _ 1 255 (omega arith)

pub short_title : IsShort is_title
short_title = short_of _ 0 255 (omega arith)

pub short_options : IsShort is_options
short_options = short_of _ 0 2048 (omega arith)

pub short_note : IsShort is_note
short_note = short_of _ 0 127 (omega arith)

pub short_filter_name : IsShort is_filter_name
short_filter_name = short_of _ 1 127 (omega arith)

pub short_reason : IsShort is_reason
short_reason text e = short_of _ 1 127 (omega arith) text (left_true _ _ e)

pub short_attribute_name : IsShort is_attribute_name
short_attribute_name = short_of _ 1 127 (omega arith)

pub short_message : IsShort is_message
short_message = short_of _ 0 1023 (omega arith)

small_enough : (n : ℕ) (b c d : Bool) → (nat_le n 255 && b && c && d) ≡ true → n < 2 ^ 16
small_enough n b c d e = grind (arith, nat_tests)

pub short_media_type : IsShort is_media_type
short_media_type text e = small_enough (length text) _ _ _ e

pub reads_queue_name : Reads (text_at is_queue_name) text_code (IsText is_queue_name)
reads_queue_name = reads_text is_queue_name short_queue_name

pub reads_uri : Reads (text_at is_uri) text_code (IsText is_uri)
reads_uri = reads_text is_uri short_uri

pub reads_media : Reads (text_at is_media_type) text_code (IsText is_media_type)
reads_media = reads_text is_media_type short_media_type

pub reads_user_name : Reads (text_at is_user_name) text_code (IsText is_user_name)
reads_user_name = reads_text is_user_name short_user_name

pub reads_title : Reads (text_at is_title) text_code (IsText is_title)
reads_title = reads_text is_title short_title

pub reads_options : Reads (text_at is_options) text_code (IsText is_options)
reads_options = reads_text is_options short_options

pub reads_note : Reads (text_at is_note) text_code (IsText is_note)
reads_note = reads_text is_note short_note

pub reads_filter_name : Reads (text_at is_filter_name) text_code (IsText is_filter_name)
reads_filter_name = reads_text is_filter_name short_filter_name

pub reads_reason : Reads (text_at is_reason) text_code (IsText is_reason)
reads_reason = reads_text is_reason short_reason

pub reads_attribute_name : Reads (text_at is_attribute_name) text_code (IsText is_attribute_name)
reads_attribute_name = reads_text is_attribute_name short_attribute_name

pub reads_message : Reads (text_at is_message) text_code (IsText is_message)
reads_message = reads_text is_message short_message
