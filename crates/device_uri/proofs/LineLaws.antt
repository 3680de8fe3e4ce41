-- The fields of a device line are the fields that are read.
use Rattle.std.proofs.Common.{◌≡◌, ℕ, suc, zero, ◌<◌, ◌≤◌, Bool, true, false, ◌&&◌, not, cond, leb, eqb, List, [], ◌∷◌, ◌++◌, length, refl, ap, sym, subst, ◌∙◌, arith, lit<, IsAscii, IsUtf8, ◌⊎◌, inl, inr, Option, None, Some, Result, Err}
use Rattle.std.specs.List.{list_all, list_any}
use Rattle.std.specs.Str.{is_utf8}
use Rattle.std.proofs.lemmas.Str.{IsUtf8-from_ascii, is_utf8-from_IsUtf8}
use Rattle.std.proofs.lemmas.Bool.{eqb-true, leb-true, and_parts, or_from, false_from_ne_true, both_ways}
use Rattle.std.proofs.lemmas.Bool.Decides.{nat_tests}
use Rattle.spool_types.specs.Values.{is_text_of, is_attribute_byte, is_graphic, is_uri, text_in}
use Rattle.line_words.specs.Blanks.{is_blank, word_here, behind_word, after_blanks}
use Rattle.line_words.specs.Quotes.{is_quote}
use Rattle.device_uri.specs.QuotedFields.{IsBlanks, IsField}
use Rattle.device_uri.specs.BackendLines.{IsDeviceLine, is_device_class, is_bare_uri}
use Rattle.device_uri.specs.DeviceLineReading.{next_field}
use Rattle.device_uri.specs.Taken.{AreFields}
use Rattle.device_uri.specs.declared.fields.Fields.{Fields}
use Rattle.device_uri.specs.declared.line.DeviceLine.{DeviceLine}
use Rattle.device_uri.proofs.FieldForm.{after_sound, after_complete, field_sound, field_complete, if_any_sound, if_any_complete}

-- ## Texts

-- If a word is no text of a kind, it is not allowed, or is not UTF-8.
pub no_text : (allowed : List ℕ → Bool) (word : List ℕ) → None ≡ text_in allowed word → (allowed word ≡ false) ⊎ ¬ (IsUtf8 word)
no_text allowed word none = by_tests (is_utf8 word) (allowed word) refl refl none
  where
    by_tests : (whole may : Bool) → is_utf8 word ≡ whole → allowed word ≡ may → None ≡ cond (whole && may) (Some word) None → (allowed word ≡ false) ⊎ ¬ (IsUtf8 word)
    by_tests true true whole may none = absurd (cc)
    by_tests true false whole may none = inl may
    by_tests false may broken is none = inr (λ utf8. let whole : is_utf8 word ≡ true = is_utf8-from_IsUtf8 word utf8 in absurd (cc))

-- A text that passes a test byte by byte.
text_parts : (p : ℕ → Bool) (least most : ℕ) (text : List ℕ) → is_text_of p least most text ≡ true → (least ≤ length text) × (list_all p text ≡ true)
text_parts p least most text h =
    let (sizes, all) = and_parts (leb least (length text) && leb (length text) most) (list_all p text) h in
    let (low, high) = and_parts (leb least (length text)) (leb (length text) most) sizes in
    (leb-true least (length text) low, all)

ascii : (p : ℕ → Bool) → ((b : ℕ) → p b ≡ true → b < 128) → (text : List ℕ) → list_all p text ≡ true → IsAscii text
ascii p small [] h i = lit< tt
ascii p small (b ∷ bs) h zero = small b (and_parts (p b) (list_all p bs) h).0
ascii p small (b ∷ bs) h (suc i) = ascii p small bs (and_parts (p b) (list_all p bs) h).1 i

graphic_below : (b : ℕ) → is_graphic b ≡ true → b < 128
graphic_below b h = grind (arith, nat_tests)

attribute_below : (b : ℕ) → is_attribute_byte b ≡ true → b < 128
attribute_below b h = grind (arith, nat_tests)

pub class_utf8 : (text : List ℕ) → is_device_class text ≡ true → IsUtf8 text
class_utf8 text h = IsUtf8-from_ascii text (ascii is_attribute_byte attribute_below text (text_parts is_attribute_byte 1 127 text h).1)

pub uri_utf8 : (text : List ℕ) → is_uri text ≡ true → IsUtf8 text
uri_utf8 text h = IsUtf8-from_ascii text (ascii is_graphic graphic_below text (text_parts is_graphic 1 1023 text h).1)

bare_uri_parts : (text : List ℕ) → is_bare_uri text ≡ true → (1 ≤ length text) × (list_all is_graphic text ≡ true)
bare_uri_parts text h = text_parts is_graphic 1 1023 text (and_parts (is_uri text) (not (list_any is_quote text)) h).0

-- ## Words without a blank

module _ (p : ℕ → Bool) (space : p 32 ≡ false) (tab : p 9 ≡ false) where
  not_blank : (b : ℕ) → p b ≡ true → is_blank b ≡ false
  not_blank b h =
      or_from (eqb b 32) (eqb b 9)
      (false_from_ne_true (eqb b 32) (λ e. both_ways (p 32) space (subst (λ n. p n ≡ true) (eqb-true b 32 e) h)))
      (false_from_ne_true (eqb b 9) (λ e. both_ways (p 9) tab (subst (λ n. p n ≡ true) (eqb-true b 9 e) h)))

  bare_complete : (word rest : List ℕ) → list_all p word ≡ true → word_here rest ≡ [] → word_here (word ++ rest) ≡ word
  bare_complete [] rest h stops = stops
  bare_complete (b ∷ bs) rest h stops =
      let (here, others) = and_parts (p b) (list_all p bs) h in
      ap (λ v. cond v [] (b ∷ word_here (bs ++ rest))) (not_blank b here) ∙ ap (λ l. b ∷ l) (bare_complete bs rest others stops)

  behind_complete : (word rest : List ℕ) → list_all p word ≡ true → behind_word rest ≡ rest → behind_word (word ++ rest) ≡ rest
  behind_complete [] rest h stops = stops
  behind_complete (b ∷ bs) rest h stops =
      let (here, others) = and_parts (p b) (list_all p bs) h in
      ap (λ v. cond v (b ∷ (bs ++ rest)) (behind_word (bs ++ rest))) (not_blank b here) ∙ behind_complete bs rest others stops

  word_stays : (word rest : List ℕ) → 1 ≤ length word → list_all p word ≡ true → after_blanks (word ++ rest) ≡ word ++ rest
  word_stays [] rest some h = absurd (omega arith)
  word_stays (b ∷ bs) rest some h =
      ap (λ v. cond v (after_blanks (bs ++ rest)) (b ∷ (bs ++ rest))) (not_blank b (and_parts (p b) (list_all p bs) h).0)

-- Blanks end a word.
blanks_stop : (blanks rest : List ℕ) → IsBlanks blanks → (word_here (blanks ++ rest) ≡ []) × (behind_word (blanks ++ rest) ≡ blanks ++ rest)
blanks_stop [] rest h = absurd (omega (arith, h.some))
blanks_stop (b ∷ bs) rest h =
    let blank = (and_parts (is_blank b) (list_all is_blank bs) h.blank).0 in
    (ap (λ v. cond v [] (b ∷ word_here (bs ++ rest))) blank, ap (λ v. cond v (b ∷ (bs ++ rest)) (behind_word (bs ++ rest))) blank)

field_stops : (f line r : List ℕ) → IsField f line r → (word_here line ≡ []) × (behind_word line ≡ line)
field_stops f line r h =
    let (bare, behind) = blanks_stop h.blanks (34 ∷ (h.inside ++ 34 ∷ r)) h.between in
    (ap word_here h.whole ∙ bare, ap behind_word h.whole ∙ behind ∙ sym h.whole)

-- ## A line of the form is read as its fields

abbrev pub quoted_of : DeviceLine → Fields
quoted_of fields = record { make = fields.make; info = fields.info; id = fields.id; location = fields.location }

module _ (fields : DeviceLine) (line : List ℕ) (h : IsDeviceLine fields line) where
  class_parts : (1 ≤ length fields.class) × (list_all is_attribute_byte fields.class ≡ true)
  class_parts = text_parts is_attribute_byte 1 127 fields.class h.class

  uri_parts : (1 ≤ length fields.uri) × (list_all is_graphic fields.uri ≡ true)
  uri_parts = bare_uri_parts fields.uri h.uri

  pub class_is : word_here line ≡ fields.class
  class_is =
      ap word_here h.whole
      ∙ bare_complete is_attribute_byte refl refl fields.class (h.blanks ++ (fields.uri ++ h.behind_uri)) class_parts.1
      (blanks_stop h.blanks (fields.uri ++ h.behind_uri) h.between).0

  rest_is : after_blanks (behind_word line) ≡ fields.uri ++ h.behind_uri
  rest_is =
      ap (λ l. after_blanks (behind_word l)) h.whole
      ∙ ap after_blanks (behind_complete is_attribute_byte refl refl fields.class (h.blanks ++ (fields.uri ++ h.behind_uri)) class_parts.1
      (blanks_stop h.blanks (fields.uri ++ h.behind_uri) h.between).1)
      ∙ after_complete h.blanks (fields.uri ++ h.behind_uri) h.between.blank (word_stays is_graphic refl refl fields.uri h.behind_uri uri_parts.0 uri_parts.1)

  pub uri_is : word_here (after_blanks (behind_word line)) ≡ fields.uri
  uri_is = ap word_here rest_is ∙ bare_complete is_graphic refl refl fields.uri h.behind_uri uri_parts.1 (field_stops fields.make h.behind_uri h.behind_make h.make).0

  behind_is : behind_word (after_blanks (behind_word line)) ≡ h.behind_uri
  behind_is = ap behind_word rest_is ∙ behind_complete is_graphic refl refl fields.uri h.behind_uri uri_parts.1 (field_stops fields.make h.behind_uri h.behind_make h.make).1

  pub fields_are : AreFields (quoted_of fields) (behind_word (after_blanks (behind_word line)))
  fields_are = record {
    behind_make = h.behind_make;
    behind_info = h.behind_info;
    behind_id = h.behind_id;
    make = ap next_field behind_is ∙ field_complete fields.make h.behind_uri h.behind_make h.make;
    info = field_complete fields.info h.behind_make h.behind_info h.info;
    id = if_any_complete fields.id h.behind_info h.behind_id h.id;
    location = if_any_complete fields.location h.behind_id [] h.location;
  }

-- ## The fields that are read have the form

split_whole : (line : List ℕ) → line ≡ word_here line ++ behind_word line
split_whole [] = refl
split_whole (b ∷ bs) =
    elim (is_blank b) as (λ v. b ∷ bs ≡ cond v [] (b ∷ word_here bs) ++ cond v (b ∷ bs) (behind_word bs))
    [ true ↦ refl | false ↦ ap (λ l. b ∷ l) (split_whole bs) ]

-- A second word follows blanks.
abbrev AreBetween : List ℕ → List ℕ → Type 0
AreBetween behind blanks = IsBlanks blanks × (behind ≡ blanks ++ after_blanks behind)

blanks_between : (line : List ℕ) → 1 ≤ length (word_here (after_blanks (behind_word line))) → (blanks : List ℕ) × AreBetween (behind_word line) blanks
blanks_between [] some = absurd (omega (arith, some))
blanks_between (b ∷ bs) some =
    (elim (is_blank b) as (λ v. is_blank b ≡ v → 1 ≤ length (word_here (after_blanks (cond v (b ∷ bs) (behind_word bs)))) → (blanks : List ℕ) × AreBetween (cond v (b ∷ bs) (behind_word bs)) blanks) [
      | true ↦ λ is h.
          let (blanks, blank, whole) = after_sound bs in
          let all : list_all is_blank (b ∷ blanks) ≡ true = ap (λ v. v && list_all is_blank blanks) is ∙ blank in
          let between : IsBlanks (b ∷ blanks) = record { some = omega arith; blank = all } in
          let same : after_blanks (b ∷ bs) ≡ after_blanks bs = ap (λ v. cond v (after_blanks bs) (b ∷ bs)) is in
          (b ∷ blanks, (between, ap (λ l. b ∷ l) whole ∙ ap (λ l. b ∷ (blanks ++ l)) (sym same)))
      | false ↦ λ is h. blanks_between bs h
    ]) refl some

module _ (fields : DeviceLine) (line : List ℕ) (class : fields.class ≡ word_here line) (uri : fields.uri ≡ word_here (after_blanks (behind_word line))) where
  pub line_sound : is_device_class (word_here line) ≡ true → is_bare_uri (word_here (after_blanks (behind_word line))) ≡ true → AreFields (quoted_of fields) (behind_word (after_blanks (behind_word line))) → IsDeviceLine fields line
  line_sound class_fits uri_fits taken =
      let rest = after_blanks (behind_word line) in
      let (blanks, both) = blanks_between line (bare_uri_parts (word_here rest) uri_fits).0 in
      record {
        blanks = blanks;
        behind_uri = behind_word rest;
        behind_make = taken.behind_make;
        behind_info = taken.behind_info;
        behind_id = taken.behind_id;
        whole =
            split_whole line ∙ ap (λ l. word_here line ++ l) both.1
            ∙ ap (λ l. word_here line ++ (blanks ++ l)) (split_whole rest)
            ∙ ap (λ l. l ++ (blanks ++ (word_here rest ++ behind_word rest))) (sym class)
            ∙ ap (λ l. fields.class ++ (blanks ++ (l ++ behind_word rest))) (sym uri);
        class = ap is_device_class class ∙ class_fits;
        between = both.0;
        uri = ap is_bare_uri uri ∙ uri_fits;
        make = field_sound fields.make (behind_word rest) taken.behind_make taken.make;
        info = field_sound fields.info taken.behind_make taken.behind_info taken.info;
        id = if_any_sound fields.id taken.behind_info taken.behind_id taken.id;
        location = if_any_sound fields.location taken.behind_id [] taken.location;
      }

-- ## The results of the code

-- An error of one result is the error of another.
pub same_fault : {T U E : Type 0} (f e : E) → ◌≡◌ {A = Result T E} (Err f) (Err e) → ◌≡◌ {A = Result U E} (Err f) (Err e)
same_fault {T} {U} {E} f e is =
    let same : f ≡ e = cc in
    ap {B = Result U E} (λ x. Err x) same

-- The line, with this first word, this second word and this rest.
module _ (line word uri rest : List ℕ) (word_is : word ≡ word_here line) (uri_word : uri ≡ word_here (after_blanks (behind_word line))) (rest_word : rest ≡ behind_word (after_blanks (behind_word line))) where
  pub no_class : (is_device_class word ≡ false) ⊎ ¬ (IsUtf8 word) → (fields : DeviceLine) → IsDeviceLine fields line → ⊥
  no_class bad fields h =
      let class : is_device_class word ≡ true = ap is_device_class (word_is ∙ class_is fields line h) ∙ h.class in
      elim bad [ inl refused ↦ both_ways (is_device_class word) refused class | inr broken ↦ broken (class_utf8 word class) ]

  pub no_uri : is_bare_uri uri ≡ false → (fields : DeviceLine) → IsDeviceLine fields line → ⊥
  no_uri bad fields h = both_ways (is_bare_uri uri) bad (ap is_bare_uri (uri_word ∙ uri_is fields line h) ∙ h.uri)

  pub no_fields : ((quoted : Fields) → AreFields quoted rest → ⊥) → (fields : DeviceLine) → IsDeviceLine fields line → ⊥
  no_fields bad fields h = bad (quoted_of fields) (subst (AreFields (quoted_of fields)) (sym rest_word) (fields_are fields line h))

  pub all_there : (fields : DeviceLine) → fields.class ≡ word → fields.uri ≡ uri → is_device_class word ≡ true → is_bare_uri uri ≡ true → AreFields (quoted_of fields) rest → IsDeviceLine fields line
  all_there fields class second class_fits uri_fits taken =
      line_sound fields line (class ∙ word_is) (second ∙ uri_word)
      (ap is_device_class (sym word_is) ∙ class_fits) (ap is_bare_uri (sym uri_word) ∙ uri_fits)
      (subst (AreFields (quoted_of fields)) rest_word taken)
