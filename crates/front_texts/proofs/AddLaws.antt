-- Pieces that are appended to a text in order.
use Rattle.std.proofs.Common.{◌≡◌, ℕ, List, ◌++◌, ap, ◌∙◌, append_assoc}

pub two_added : (old a b one two : List ℕ) → one ≡ old ++ a → two ≡ one ++ b → two ≡ old ++ (a ++ b)
two_added old a b one two e f = f ∙ ap (λ l. l ++ b) e ∙ append_assoc old a b

pub three_added : (old a b c one two three : List ℕ) → one ≡ old ++ a → two ≡ one ++ b → three ≡ two ++ c → three ≡ old ++ (a ++ b ++ c)
three_added old a b c one two three e f g =
    g
    ∙ ap (λ l. l ++ c) f
    ∙ ap (λ l. (l ++ b) ++ c) e
    ∙ ap (λ l. l ++ c) (append_assoc old a b)
    ∙ append_assoc old (a ++ b) c

pub four_added : (old a b c d one two three four : List ℕ) → one ≡ old ++ a → two ≡ one ++ b → three ≡ two ++ c → four ≡ three ++ d → four ≡ old ++ (a ++ b ++ c ++ d)
four_added old a b c d one two three four e f g h =
    h
    ∙ ap (λ l. l ++ d) (three_added old a b c one two three e f g)
    ∙ append_assoc old (a ++ b ++ c) d
