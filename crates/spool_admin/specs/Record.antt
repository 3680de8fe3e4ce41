-- The record of a split that was begun.
use Rattle.std.specs.Prelude.{◌≡◌, ◌≢◌, ◌++◌, ◌<◌, ◌&&◌, ℕ, Bool, true, not, nat_eq, List, [], ◌∷◌, codes, get_or, length}
use Rattle.std.specs.List.{list_all, starts_with}

-- Each word on a line.
abbrev pub lines_of : List (List ℕ) → List ℕ
lines_of [] = []
lines_of (word ∷ words) = word ++ (10 ∷ lines_of words)

-- The name of a part: it has this prefix, and names no file of another folder.
abbrev pub is_part : List ℕ → Bool
is_part name = starts_with nat_eq name (codes "spool.part.") && list_all (λ b. not (nat_eq b 47)) name

-- The first line of the text is this part's name, and these words follow.
pub record IsNoted (part words text : List ℕ) : Type 0 where
  pub text_is : text ≡ part ++ (10 ∷ words)
  pub name : is_part part ≡ true
  pub one_line : (i : ℕ) → i < length part → get_or part i 0 ≢ 10
