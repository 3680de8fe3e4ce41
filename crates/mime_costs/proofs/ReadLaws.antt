-- The lines of a file, as they are read.
use Rattle.std.proofs.Common.{◌≡◌, ℕ, suc, ◌<◌, ◌≤◌, Bool, true, false, ◌&&◌, cond, List, [], ◌∷◌, ◌++◌, refl, ap, sym, ◌∙◌, arith, subst, Option, None, Some, Result, Ok, Err, leb, is_none}
use Rattle.std.proofs.lemmas.Bool.{leb-true, cond_both}
use Rattle.mime_lines.specs.RuleNumbers.{number_of}
use Rattle.mime_lines.specs.JoinedLines.{Line, with_line, left_open, joined_from, is_silent, is_continued, lines_of, joined_lines}
use Rattle.spool_types.specs.Values.{is_media_type, is_filter_name, text_in, folded_in}
use Rattle.spool_types.specs.declared.warning.WarningKind.{WarningKind}
use Rattle.spool_types.specs.declared.warning.WarningKind.TheVariants.{BadType, BadNumber}
use Rattle.mime_costs.specs.Conversions.{is_source}
use Rattle.mime_costs.specs.SourceIndex.{Ascends, AreCheap}
use Rattle.mime_costs.specs.ConversionFiles.{cheap, cost_in, Words, four_words, with_filter, with_cost, with_destination, with_source, of_words, conversion_of, taken, conversions_in, conversions_of}
use Rattle.mime_costs.specs.declared.conversion.Conversion.{Conversion}

-- ## The parts of a line

module _ (n : ℕ) (line : List ℕ) (words : Words) (four : Some words ≡ four_words line) where
  pub bad_source : None ≡ folded_in is_source words.source → Err BadType ≡ of_words n (four_words line)
  bad_source e = ap (λ o. with_source n o words) e ∙ ap (of_words n) four

  module _ (source : List ℕ) (reads_source : Some source ≡ folded_in is_source words.source) where
    behind_source : with_destination n source (folded_in is_media_type words.destination) words ≡ of_words n (four_words line)
    behind_source = ap (λ o. with_source n o words) reads_source ∙ ap (of_words n) four

    pub bad_destination : None ≡ folded_in is_media_type words.destination → Err BadType ≡ of_words n (four_words line)
    bad_destination e = ap (λ o. with_destination n source o words) e ∙ behind_source

    module _ (destination : List ℕ) (reads_destination : Some destination ≡ folded_in is_media_type words.destination) where
      behind_destination : with_cost n source destination (cost_in words.cost) words.filter ≡ of_words n (four_words line)
      behind_destination = ap (λ o. with_destination n source o words) reads_destination ∙ behind_source

      pub bad_cost : None ≡ cost_in words.cost → Err BadNumber ≡ of_words n (four_words line)
      bad_cost e = ap (λ o. with_cost n source destination o words.filter) e ∙ behind_destination

      pub with_parts : (cost : ℕ) → Some cost ≡ cost_in words.cost → with_filter n source destination cost (text_in is_filter_name words.filter) ≡ of_words n (four_words line)
      with_parts cost e = ap (λ o. with_cost n source destination o words.filter) e ∙ behind_destination

-- ## Laws of the conversions of a file

-- The conversion of line n has that number, and a cost within the range.
abbrev pub Says : Result Conversion WarningKind → ℕ → Type 0
Says (Ok c) n = (c.line ≡ n) × (c.cost ≤ 10000)
Says (Err kind) n = Unit {0}

cheap_small : (o : Option ℕ) (m : ℕ) → cheap o ≡ Some m → m ≤ 10000
cheap_small None m h = absurd (cc)
cheap_small (Some n) m h = small (leb n 10000) refl h
  where
    small : (v : Bool) → leb n 10000 ≡ v → cond v (Some n) None ≡ Some m → m ≤ 10000
    small true t h = let e : n ≡ m = cc in let l = leb-true n 10000 t in omega arith
    small false t h = absurd (cc)

says_filter : (n : ℕ) (source destination : List ℕ) (cost : ℕ) (filter : Option (List ℕ)) → cost ≤ 10000 → Says (with_filter n source destination cost filter) n
says_filter n source destination cost None h = tt
says_filter n source destination cost (Some filter) h = (refl, h)

says_cost : (n : ℕ) (source destination : List ℕ) (cost : Option ℕ) (filter : List ℕ) → ((m : ℕ) → cost ≡ Some m → m ≤ 10000) → Says (with_cost n source destination cost filter) n
says_cost n source destination None filter h = tt
says_cost n source destination (Some cost) filter h = says_filter n source destination cost (text_in is_filter_name filter) (h cost refl)

says_destination : (n : ℕ) (source : List ℕ) (destination : Option (List ℕ)) (words : Words) → Says (with_destination n source destination words) n
says_destination n source None words = tt
says_destination n source (Some destination) words = says_cost n source destination (cost_in words.cost) words.filter (cheap_small (number_of words.cost))

says_source : (n : ℕ) (source : Option (List ℕ)) (words : Words) → Says (with_source n source words) n
says_source n None words = tt
says_source n (Some source) words = says_destination n source (folded_in is_media_type words.destination) words

pub says : (n : ℕ) (words : Option Words) → Says (of_words n words) n
says n None = tt
says n (Some words) = says_source n (folded_in is_source words.source) words

-- The numbers of lines ascend.
abbrev pub LinesRise : ℕ → List Line → Type 0
LinesRise n [] = Unit {0}
LinesRise n (line ∷ lines) = (n ≤ line.number) × LinesRise (suc line.number) lines

-- A line that is open began at one of these numbers.
abbrev pub BeganIn : ℕ → ℕ → Option Line → Type 0
BeganIn least n None = Unit {0}
BeganIn least n (Some line) = (least ≤ line.number) × (line.number < n)

began : (least n : ℕ) (begun : Option Line) (text : List ℕ) → least ≤ n → BeganIn least n begun → (least ≤ (with_line begun n text).number) × ((with_line begun n text).number < suc n)
began least n None text le h = (le, omega arith)
began least n (Some line) text le h = let l : line.number < n = h.1 in (h.0, omega arith)

pub joined_rise : (least n : ℕ) (begun : Option Line) (texts : List (List ℕ)) → least ≤ n → BeganIn least n begun → LinesRise least (joined_from n begun texts)
joined_rise least n None [] le h = tt
joined_rise least n (Some line) [] le h = (h.0, tt)
joined_rise least n begun (text ∷ texts) le h =
    let line : Line = with_line begun n text in
    let b : (least ≤ line.number) × (line.number < suc n) = began least n begun text le h in
    cond_both (is_none begun && is_silent text) (joined_from (suc n) None texts) (cond (is_continued text) (joined_from (suc n) (Some (left_open line)) texts) (line ∷ joined_from (suc n) None texts)) (LinesRise least)
    (λ _. joined_rise least (suc n) None texts (omega arith) tt)
    (λ _. cond_both (is_continued text) (joined_from (suc n) (Some (left_open line)) texts) (line ∷ joined_from (suc n) None texts) (LinesRise least)
    (λ _. joined_rise least (suc n) (Some (left_open line)) texts (omega arith) b)
    (λ _. (b.0, joined_rise (suc line.number) (suc n) None texts (let l = b.1 in omega arith) tt)))

rise_lower : (m n : ℕ) (file : List Conversion) → m ≤ n → Ascends n file → Ascends m file
rise_lower m n [] le h = tt
rise_lower m n (c ∷ file) le h = let l : n ≤ c.line = h.0 in (omega arith, h.1)

taken_rise : (low n : ℕ) (said : Result Conversion WarningKind) (file : List Conversion) → Says said n → low ≤ n → Ascends (suc n) file → Ascends low (taken said ++ file)
taken_rise low n (Ok c) file (number, small) le h = ((let e : c.line ≡ n = number in omega arith), subst (λ m. Ascends (suc m) file) (sym number) h)
taken_rise low n (Err kind) file is le h = rise_lower low (suc n) file (omega arith) h

taken_cheap : (n : ℕ) (said : Result Conversion WarningKind) (file : List Conversion) → Says said n → AreCheap file → AreCheap (taken said ++ file)
taken_cheap n (Ok c) file (number, small) h = (small, h)
taken_cheap n (Err kind) file is h = h

lines_rise : (low : ℕ) (lines : List Line) → LinesRise low lines → Ascends low (conversions_in lines)
lines_rise low [] h = tt
lines_rise low (line ∷ lines) h = taken_rise low line.number (conversion_of line) (conversions_in lines) (says line.number (four_words line.text)) h.0 (lines_rise (suc line.number) lines h.1)

lines_cheap : (lines : List Line) → AreCheap (conversions_in lines)
lines_cheap [] = tt
lines_cheap (line ∷ lines) = taken_cheap line.number (conversion_of line) (conversions_in lines) (says line.number (four_words line.text)) (lines_cheap lines)

pub text_rises : (text : List ℕ) → Ascends 1 (conversions_of text)
text_rises text = lines_rise 1 (joined_lines text) (joined_rise 1 1 None (lines_of text) (omega arith) tt)

pub text_cheap : (text : List ℕ) → AreCheap (conversions_of text)
text_cheap text = lines_cheap (joined_lines text)
