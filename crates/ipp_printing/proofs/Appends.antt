-- Texts that are appended one after the other.
use Rattle.std.proofs.Common.{◌≡◌, ℕ, List, ◌++◌, append_assoc, ◌∙◌, ap}

pub appended_three :
    (before one two three a b c : List ℕ) → one ≡ before ++ a → two ≡ one ++ b → three ≡ two ++ c → three ≡ before ++ ((a ++ b) ++ c)
appended_three before one two three a b c first second third =
    third ∙ ap (λ text. text ++ c) (second ∙ ap (λ text. text ++ b) first ∙ append_assoc before a b) ∙ append_assoc before (a ++ b) c
