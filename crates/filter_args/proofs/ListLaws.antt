-- Texts that are appended in order.
use Rattle.std.proofs.Common.{◌≡◌, ℕ, List, [], ◌∷◌, ◌++◌, ap, ◌∙◌}
use Rattle.std.proofs.lemmas.List.{append_assoc}

module _ (xs : List (List ℕ)) where
  pub two : (ys zs : List (List ℕ)) (a b c d : List ℕ) → ys ≡ xs ++ a ∷ [] → zs ≡ ys ++ b ∷ [] → a ≡ c → b ≡ d → zs ≡ xs ++ (c ∷ d ∷ [])
  two ys zs a b c d first second p q =
      second ∙ ap (λ l. l ++ b ∷ []) first ∙ append_assoc xs (a ∷ []) (b ∷ []) ∙ ap (λ t. xs ++ (t ∷ b ∷ [])) p ∙ ap (λ t. xs ++ (c ∷ t ∷ [])) q

  pub three : (ys zs ws : List (List ℕ)) (a b c d e f : List ℕ) → ys ≡ xs ++ a ∷ [] → zs ≡ ys ++ b ∷ [] → ws ≡ zs ++ c ∷ []
      → a ≡ d → b ≡ e → c ≡ f → ws ≡ xs ++ (d ∷ e ∷ f ∷ [])
  three ys zs ws a b c d e f first second third p q r =
      third ∙ ap (λ l. l ++ c ∷ []) (two ys zs a b d e first second p q) ∙ append_assoc xs (d ∷ e ∷ []) (c ∷ []) ∙ ap (λ t. xs ++ (d ∷ e ∷ t ∷ [])) r

  pub four : (ys zs ws vs : List (List ℕ)) (a b c d e f g h : List ℕ) → ys ≡ xs ++ a ∷ [] → zs ≡ ys ++ b ∷ [] → ws ≡ zs ++ c ∷ [] → vs ≡ ws ++ d ∷ []
      → a ≡ e → b ≡ f → c ≡ g → d ≡ h → vs ≡ xs ++ (e ∷ f ∷ g ∷ h ∷ [])
  four ys zs ws vs a b c d e f g h first second third fourth p q r s =
      fourth ∙ ap (λ l. l ++ d ∷ []) (three ys zs ws a b c e f g first second third p q r) ∙ append_assoc xs (e ∷ f ∷ g ∷ []) (d ∷ []) ∙ ap (λ t. xs ++ (e ∷ f ∷ g ∷ t ∷ [])) s
