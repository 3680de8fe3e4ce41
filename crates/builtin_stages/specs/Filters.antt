-- The output of a filter.
use Rattle.std.specs.Prelude.{◌≡◌, ◌⊎◌, ℕ, true, List, [], ◌∷◌, ◌++◌, Option, codes}
use Rattle.std.specs.Fmt.{decimal}
use Rattle.std.specs.Io.KnownBytes.{Appends, Keeps}
use Rattle.builtin_stages.specs.Results.{Copied, is_read}
use Rattle.builtin_stages.specs.declared.fault.ToolFault.{ToolFault}
use Rattle.builtin_stages.specs.declared.fault.ToolFault.TheVariants.{Memory, Write}
use Rattle.builtin_stages.specs.declared.results.Form.{Form}
use Rattle.builtin_stages.specs.declared.results.Form.TheVariants.{Lines, Plain}
use Rattle.builtin_stages.specs.declared.words.Filter.{Filter}
use Rattle.builtin_stages.specs.declared.words.Filter.TheVariants.{PrnCount, TextToPrn}

abbrev pub form_of : Filter → Form
form_of TextToPrn = Lines
form_of PrnCount = Plain

-- The line of the pages: the copies of page 1, or the number of form feeds. It ends with a line feed.
abbrev pub page_line : Filter → ℕ → ℕ → List ℕ
page_line TextToPrn copies feeds = codes "PAGE: 1 " ++ decimal copies ++ 10 ∷ []
page_line PrnCount copies feeds = codes "PAGE: total " ++ decimal feeds ++ 10 ∷ []

-- The document cannot be read, its result or its pages cannot be written, or memory ran out.
abbrev pub IsOfFilter : ToolFault → Type 0
IsOfFilter fault = (is_read fault ≡ true) ⊎ (fault ≡ Write) ⊎ (fault ≡ Memory)

-- A fault of a filter. Nothing was reported before it if the document cannot be read.
abbrev pub FailsAsFilter : ToolFault → Option (List ℕ) → Option (List ℕ) → Type 0
FailsAsFilter fault told_old told_new = IsOfFilter fault × (is_read fault ≡ true → Keeps told_old told_new)

-- The copies were written and their pages reported.
pub record Filtered (tool : Filter) (copies : ℕ) (known old new told_old told_new : Option (List ℕ)) : Type 0 where
  pub feeds : ℕ
  pub printed : Copied (form_of tool) copies known old new feeds
  pub told : Appends told_old told_new (page_line tool copies feeds)
