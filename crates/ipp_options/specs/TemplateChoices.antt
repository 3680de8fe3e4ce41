-- The values of job template attributes that a printer supports (RFC 8011, section 5.2; PWG 5100.13 for print-color-mode and
-- print-scaling).
use Rattle.std.specs.Prelude.{ℕ, Bool, ◌||◌, ◌&&◌, cond, ◌==◌, List, codes, Option, None, Some}
use Rattle.std.specs.List.{list_any}
use Rattle.ipp_options.specs.AttributeWords.{same}

abbrev pub is_side : Bool → List ℕ → Bool
is_side duplex word = same word (codes "one-sided") || (duplex && (same word (codes "two-sided-long-edge") || same word (codes "two-sided-short-edge")))

abbrev pub is_color_mode : Bool → List ℕ → Bool
is_color_mode color word = same word (codes "auto") || same word (codes "monochrome") || (color && same word (codes "color"))

abbrev pub is_scaling : List ℕ → Bool
is_scaling word = same word (codes "auto") || same word (codes "auto-fit") || same word (codes "fill") || same word (codes "fit") || same word (codes "none")

abbrev pub is_handling : List ℕ → Bool
is_handling word = same word (codes "separate-documents-uncollated-copies") || same word (codes "separate-documents-collated-copies")

abbrev pub is_bin : List (List ℕ) → List ℕ → Bool
is_bin bins word = list_any (λ bin. same bin word) bins

-- ## Numbers, in digits

abbrev pub number_up : ℕ → Option (List ℕ)
number_up n =
    cond (n == 1) (Some (codes "1")) (cond (n == 2) (Some (codes "2")) (cond (n == 4) (Some (codes "4"))
    (cond (n == 6) (Some (codes "6")) (cond (n == 9) (Some (codes "9")) (cond (n == 16) (Some (codes "16")) None)))))

-- Portrait, landscape, reverse landscape, reverse portrait.
abbrev pub orientation : ℕ → Option (List ℕ)
orientation n = cond (n == 3) (Some (codes "3")) (cond (n == 4) (Some (codes "4")) (cond (n == 5) (Some (codes "5")) (cond (n == 6) (Some (codes "6")) None)))

-- Draft, normal, high.
abbrev pub quality : ℕ → Option (List ℕ)
quality n = cond (n == 3) (Some (codes "3")) (cond (n == 4) (Some (codes "4")) (cond (n == 5) (Some (codes "5")) None))

-- None.
abbrev pub is_finishing : ℕ → Bool
is_finishing n = n == 3
