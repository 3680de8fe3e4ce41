-- The end of a list, by names that an attribute can cite.
use Rattle.std.proofs.Common.{◌≡◌, ◌+◌, ◌-◌, ℕ, List, length, drop}
use Rattle.std.proofs.lemmas.List.{drop-drop, length-drop}

pub drop_twice : (m n : ℕ) (xs : List ℕ) → drop m (drop n xs) ≡ drop (n + m) xs
drop_twice m n xs = drop-drop m n xs

pub length_of_drop : (n : ℕ) (xs : List ℕ) → length (drop n xs) ≡ length xs - n
length_of_drop n xs = length-drop n xs
