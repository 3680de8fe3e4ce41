-- Values of words, and lines with a wrong number of words.
use Rattle.std.proofs.Common.{◌≡◌, ℕ, List, [], ◌∷◌, length, map, refl, arith, ◌<◌, ◌≤◌, None}
use Rattle.command_lines.specs.CommandGrammar.{create_line, createby_line, queue_line}

-- A creation has six words after its name.
pub no_creation : {A : Type 0} (bytes : A → List ℕ) (words : List A) → (length words ≡ 6 → ⊥) → None ≡ create_line (map bytes words)
no_creation bytes [] h = refl
no_creation bytes (a ∷ []) h = refl
no_creation bytes (a ∷ b ∷ []) h = refl
no_creation bytes (a ∷ b ∷ c ∷ []) h = refl
no_creation bytes (a ∷ b ∷ c ∷ d ∷ []) h = refl
no_creation bytes (a ∷ b ∷ c ∷ d ∷ e ∷ []) h = refl
no_creation bytes (a ∷ b ∷ c ∷ d ∷ e ∷ f ∷ []) h = absurd (h refl)
no_creation bytes (a ∷ b ∷ c ∷ d ∷ e ∷ f ∷ g ∷ more) h = refl

-- A creation with a moment has seven.
pub no_creation_by : {A : Type 0} (bytes : A → List ℕ) (words : List A) → (length words ≡ 7 → ⊥) → None ≡ createby_line (map bytes words)
no_creation_by bytes [] h = refl
no_creation_by bytes (a ∷ []) h = refl
no_creation_by bytes (a ∷ b ∷ []) h = refl
no_creation_by bytes (a ∷ b ∷ c ∷ []) h = refl
no_creation_by bytes (a ∷ b ∷ c ∷ d ∷ []) h = refl
no_creation_by bytes (a ∷ b ∷ c ∷ d ∷ e ∷ []) h = refl
no_creation_by bytes (a ∷ b ∷ c ∷ d ∷ e ∷ f ∷ []) h = refl
no_creation_by bytes (a ∷ b ∷ c ∷ d ∷ e ∷ f ∷ g ∷ []) h = absurd (h refl)
no_creation_by bytes (a ∷ b ∷ c ∷ d ∷ e ∷ f ∷ g ∷ i ∷ more) h = refl

-- A queue has four to six.
pub no_queue : {A : Type 0} (bytes : A → List ℕ) (words : List A) → (4 ≤ length words → 6 < length words) → None ≡ queue_line (map bytes words)
no_queue bytes [] h = refl
no_queue bytes (a ∷ []) h = refl
no_queue bytes (a ∷ b ∷ []) h = refl
no_queue bytes (a ∷ b ∷ c ∷ []) h = refl
no_queue bytes (a ∷ b ∷ c ∷ d ∷ []) h = absurd (omega (arith, h (omega arith)))
no_queue bytes (a ∷ b ∷ c ∷ d ∷ e ∷ []) h = absurd (omega (arith, h (omega arith)))
no_queue bytes (a ∷ b ∷ c ∷ d ∷ e ∷ f ∷ []) h = absurd (omega (arith, h (omega arith)))
no_queue bytes (a ∷ b ∷ c ∷ d ∷ e ∷ f ∷ g ∷ more) h = refl
