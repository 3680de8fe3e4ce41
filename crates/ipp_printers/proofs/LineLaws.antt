-- The lines so far, and their faults.
use Rattle.std.proofs.Common.{◌≡◌, ℕ, ◌+◌, ◌<◌, ◌≤◌, Bool, true, false, nat_lt, List, [], ◌∷◌, length, map, get_or, take, None, option_map, refl, ap, sym, ◌∙◌, arith, Bor}
use Rattle.std.proofs.lemmas.Bool.{ltb-true, ltb-false}
use Rattle.std.specs.Prelude.{slice_get}
use Rattle.std.specs.Option.{option_and_then}
use Rattle.std.proofs.lemmas.List.{take_more, take-map, map-append}
use Rattle.std.proofs.lemmas.Option.{slice_get-map, slice_get_past, slice_get-get_or}
use Rattle.std.proofs.lemmas.Simd.{map-map}
use Rattle.ipp_printers.specs.PrinterLines.{lines_of, line_in, lines_in}
use Rattle.ipp_printers.specs.PrinterSections.{sections_of, fault_after, fault_at, with_line}
use Rattle.ipp_printers.specs.declared.line.Line.{Line}
use Rattle.ipp_printers.proofs.SectionLaws.{sections_push}

abbrev pub says : Bor (List ℕ) → Line
says line = line_in line.now

-- The meanings of the lines of a text, once all have been read.
pub lines_said : (lines : List (Bor (List ℕ))) (text : List ℕ) → map (λ line. line.now) lines ≡ lines_of text → map says lines ≡ lines_in text
lines_said lines text same = sym (map-map line_in (λ line. line.now) lines) ∙ ap (map line_in) same

module _ (lines : List (Bor (List ℕ))) (i : ℕ) (d : Bor (List ℕ)) where
  -- The fault of a line is that after the sections of the lines before it.
  pub fault_here : i < length lines → fault_at (map says lines) i ≡ fault_after (sections_of (map says (take i lines))) (says (get_or lines i d))
  fault_here less =
      ap (λ (l : List Line). option_and_then (fault_after (sections_of l)) (slice_get (map says lines) i)) (take-map says i lines)
      ∙ ap (option_and_then (fault_after (sections_of (map says (take i lines))))) (slice_get-map says lines i ∙ ap (option_map says) (slice_get-get_or lines i d less))

  pub no_line : length lines ≤ i → fault_at (map says lines) i ≡ None
  no_line past = ap (option_and_then (fault_after (sections_of (take i (map says lines))))) (slice_get-map says lines i ∙ ap (option_map says) (slice_get_past lines i past))

  pub sections_more : i < length lines → with_line (sections_of (map says (take i lines))) (says (get_or lines i d)) ≡ sections_of (map says (take (i + 1) lines))
  sections_more less =
      sym (sections_push (map says (take i lines)) (says (get_or lines i d)))
      ∙ ap sections_of (sym (ap (map says) (take_more lines i d less) ∙ map-append says (take i lines) (get_or lines i d ∷ [])))

abbrev pub nowhere : Bor (List ℕ)
nowhere = record { ref_ptr = (0, 0); now = [] }

-- No line has a fault if none of those up to the last has.
pub all_faultless : (lines : List (Bor (List ℕ))) (i : ℕ) → length lines ≤ i → ((before : ℕ) → before < i → fault_at (map says lines) before ≡ None)
    → (index : ℕ) → fault_at (map says lines) index ≡ None
all_faultless lines i past below index = by (nat_lt index i) refl
  where
    by : (v : Bool) → nat_lt index i ≡ v → fault_at (map says lines) index ≡ None
    by true e = below index (ltb-true index i e)
    by false e = let far : i ≤ index = ltb-false index i e in no_line lines index nowhere (omega arith)
