-- The patterns of `match`.
use Rattle.std.specs.Prelude.{ℕ, Bool, true, false, ◌||◌, ◌&&◌, cond, nat_le, ◌==◌, List, [], ◌∷◌, ◌++◌, Option, None, Some}
use Rattle.mime_rules.specs.Tests.{Subject, some_end}

-- Any bytes, or one byte that passes a test.
pub data Piece : Type 0 where
  run : Piece
  one : (ℕ → Bool) → Piece

-- A run matches any bytes: the rest matches some end of the list.
abbrev pub matching : List Piece → List ℕ → Bool
matching [] [] = true
matching [] (b ∷ bs) = false
matching (run ∷ ps) bs = some_end (matching ps) bs
matching (one test ∷ ps) [] = false
matching (one test ∷ ps) (b ∷ bs) = test b && matching ps bs

abbrev pub any_byte : ℕ → Bool
any_byte b = true

-- The members of a set: single bytes, and ranges of three bytes as `a-z`.
abbrev pub is_in : List ℕ → ℕ → Bool
is_in [] x = false
is_in (a ∷ []) x = x == a
is_in (a ∷ b ∷ []) x = x == a || x == b
is_in (a ∷ b ∷ c ∷ set) x = cond (b == 45) ((nat_le a x && nat_le x c) || is_in set x) (x == a || is_in (b ∷ c ∷ set) x)

-- The end of a range, and the rest of the set.
abbrev pub range_behind : List ℕ → Option (ℕ × List ℕ)
range_behind [] = None
range_behind (b ∷ []) = None
range_behind (b ∷ c ∷ set) = cond (b == 45) (Some (c, set)) None

-- The piece of a byte outside of sets: `*`, `?` or the byte itself.
abbrev pub piece_of_byte : ℕ → Piece
piece_of_byte b = cond (b == 42) run (cond (b == 63) (one any_byte) (one (λ x. x == b)))

abbrev pub with_piece : Piece → Option (List Piece) → Option (List Piece)
with_piece p None = None
with_piece p (Some ps) = Some (p ∷ ps)

-- The pieces from here on. The first argument is the members so far of a set that is still open. None if a set is not closed.
abbrev pub pieces_in : Option (List ℕ) → List ℕ → Option (List Piece)
pieces_in None [] = Some []
pieces_in (Some set) [] = None
pieces_in None (b ∷ bs) = cond (b == 91) (pieces_in (Some []) bs) (with_piece (piece_of_byte b) (pieces_in None bs))
pieces_in (Some set) (b ∷ bs) = cond (b == 93) (with_piece (one (is_in set)) (pieces_in None bs)) (pieces_in (Some (set ++ b ∷ [])) bs)

abbrev pub pattern_of : List ℕ → Option (List Piece)
pattern_of bytes = pieces_in None bytes

-- The whole name matches.
abbrev pub match_test : List Piece → Subject → Bool
match_test pattern s = matching pattern s.name
