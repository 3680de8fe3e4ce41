-- A quoted text is read back.
use Rattle.std.proofs.Common.{◌≡◌, ℕ, Bool, true, false, ◌||◌, cond, List, [], ◌∷◌, ◌++◌, Some, refl, ap, ◌∙◌, append_assoc}
use Rattle.std.specs.List.{flat_map}
use Rattle.std.proofs.lemmas.List.Concat.{flat_map-cons}
use Rattle.line_words.specs.Quotes.{is_backslash, is_quote, quoted, with_bytes}
use Rattle.command_lines.specs.Replies.{escaped_byte}

one_more : (q k : Bool) (b : ℕ) (more bs rest : List ℕ) → is_quote b ≡ q → is_backslash b ≡ k → quoted false more ≡ Some (bs, rest) →
    quoted false (cond (q || k) (92 ∷ b ∷ []) (b ∷ []) ++ more) ≡ Some (b ∷ bs, rest)
one_more true k b more bs rest is not ih =
    ap (λ v. with_bytes (cond (v || is_backslash b) (b ∷ []) (92 ∷ b ∷ [])) (quoted false more)) is ∙ ap (with_bytes (b ∷ [])) ih
one_more false true b more bs rest is not ih =
    ap (λ v. with_bytes (cond (v || is_backslash b) (b ∷ []) (92 ∷ b ∷ [])) (quoted false more)) is
    ∙ ap (λ v. with_bytes (cond v (b ∷ []) (92 ∷ b ∷ [])) (quoted false more)) not
    ∙ ap (with_bytes (b ∷ [])) ih
one_more false false b more bs rest is not ih =
    ap (λ v. cond v (Some ([], more)) (cond (is_backslash b) (quoted true more) (with_bytes (b ∷ []) (quoted false more)))) is
    ∙ ap (λ v. cond v (quoted true more) (with_bytes (b ∷ []) (quoted false more))) not
    ∙ ap (with_bytes (b ∷ [])) ih

pub read_back : (text rest : List ℕ) → quoted false (flat_map escaped_byte text ++ 34 ∷ rest) ≡ Some (text, rest)
read_back [] rest = refl
read_back (b ∷ bs) rest =
    ap (λ (t : List ℕ). quoted false (t ++ 34 ∷ rest)) (flat_map-cons escaped_byte b bs)
    ∙ ap (quoted false) (append_assoc (escaped_byte b) (flat_map escaped_byte bs) (34 ∷ rest))
    ∙ one_more (is_quote b) (is_backslash b) b (flat_map escaped_byte bs ++ 34 ∷ rest) bs rest refl refl (read_back bs rest)
