-- The bar is the text of its parts.
use Rattle.std.proofs.Common.{rules, ◌≡◌, ◌∙◌, ℕ, List, ap₂, codes, ◌++◌, ◌/◌, ◌-◌}
use Rattle.std.proofs.lemmas.Result.{IfOk-weaker}
use Rattle.std.specs.Fmt.{decimal}
use Rattle.std.specs.List.{repeat}
use Rattle.std.specs.String.{string_bytes}
use Rattle.spool_front.proofs.progress.bar_of.Goals as goal

pub returns : goal.returns
returns c =
    let marks-are : string_bytes c.in_ok-marks.marks ≡ repeat (c.args.percent / 5) (codes "#") = search rules in
    let blanks-are : string_bytes c.in_ok-blanks.blanks ≡ repeat (20 - c.args.percent / 5) (codes " ") = search rules in
    IfOk-weaker c.format.result _ _ (λ text is. is ∙ ap₂ (λ (marks : List ℕ) (blanks : List ℕ).
    codes "[" ++ (marks ++ (blanks ++ (codes "] " ++ (decimal c.args.percent ++ codes " %, "))))) marks-are blanks-are) c.format.ensures.ok
