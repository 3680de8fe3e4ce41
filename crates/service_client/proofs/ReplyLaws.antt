-- A reader of replies.
use Rattle.std.specs.Prelude.{◌≡◌, ℕ, List, [], ◌∷◌, ◌++◌, map, Vec}
use Rattle.std.specs.Global.{Global}
use Rattle.std.specs.List.{flat_map}
use Rattle.std.proofs.Common.{sym, ◌∙◌, ap, append_assoc}
use Rattle.std.proofs.lemmas.List.Folds.{flat_map-map}
use Rattle.service_client.specs.Lines.{lines_text, with_feed}

abbrev pub text_of : Vec ℕ Global → List ℕ
text_of row = row.items

pub rows_bytes : (rows : List (Vec ℕ Global)) → flat_map with_feed (map text_of rows) ≡ lines_text rows
rows_bytes rows = flat_map-map with_feed text_of rows

pub ends_reply : (rows : List (Vec ℕ Global)) (line part : List ℕ) (b : ℕ) → with_feed line ≡ part ++ b ∷ []
    → flat_map with_feed (map text_of rows) ++ with_feed line ≡ (lines_text rows ++ part) ++ b ∷ []
ends_reply rows line part b e =
    ap (λ (l : List ℕ). l ++ with_feed line) (rows_bytes rows) ∙ ap (λ (l : List ℕ). lines_text rows ++ l) e ∙ sym (append_assoc (lines_text rows) part (b ∷ []))
