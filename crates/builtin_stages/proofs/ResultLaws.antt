-- Results are written piece by piece.
use Rattle.std.proofs.Common.{◌≡◌, ℕ, ◌+◌, List, ◌++◌, Option, None, Some, add-one, arith, refl, sym, ap, ◌∙◌, subst, append-nil}
use Rattle.std.specs.Io.KnownBytes.{Appends, Consumes, IsAtEnd, Keeps}
use Rattle.std.proofs.KnownBytes.{Appends-trans, Consumes-kept, Consumes-trans}
use Rattle.std.proofs.lemmas.List.Concat.{flat_map-append}
use Rattle.std.proofs.lemmas.List.Sums.{sum_by-append}
use Rattle.builtin_stages.specs.Results.{Copied, WroteResult, form_feeds, piece_of, printed_byte, repeated, result_of}
use Rattle.builtin_stages.specs.declared.results.Form.{Form}
use Rattle.builtin_stages.specs.declared.results.Form.TheVariants.{Lines, Plain}

piece_of-append : (form : Form) (a b : List ℕ) → piece_of form (a ++ b) ≡ piece_of form a ++ piece_of form b
piece_of-append Plain a b = refl
piece_of-append Lines a b = flat_map-append printed_byte a b

form_feeds-append : (a b : List ℕ) → form_feeds (a ++ b) ≡ form_feeds a + form_feeds b
form_feeds-append a b = sum_by-append _ a b

-- The result of the bytes read so far was written.
pub record Pieces (form : Form) (known left old new : Option (List ℕ)) (feeds : ℕ) : Type 0 where
  pub bytes : List ℕ
  pub read : Consumes known left bytes
  pub wrote : Appends old new (piece_of form bytes)
  pub counted : feeds ≡ form_feeds (piece_of form bytes)

pub one_piece : (form : Form) (known mid left old new next : Option (List ℕ)) (bytes : List ℕ) (n m sum : ℕ)
    → Pieces form known mid old new n → Consumes mid left bytes → Appends new next (piece_of form bytes) → m ≡ form_feeds (piece_of form bytes) → sum ≡ n + m
    → Pieces form known left old next sum
one_piece form known mid left old new next bytes n m sum p read wrote counted is = record {
  bytes = p.bytes ++ bytes;
  read = Consumes-trans known mid left p.bytes bytes p.read read;
  wrote = subst (Appends old next) (sym (piece_of-append form p.bytes bytes)) (Appends-trans old new next _ _ p.wrote wrote);
  counted = let h = form_feeds-append (piece_of form p.bytes) (piece_of form bytes) in let q = p.counted in is ∙ omega (arith, h, q, counted) ∙ ap form_feeds (sym (piece_of-append form p.bytes bytes));
}

pub kept_pieces : (form : Form) (known mid left old new : Option (List ℕ)) (n : ℕ) → Pieces form known mid old new n → Keeps mid left → Pieces form known left old new n
kept_pieces form known mid left old new n p k = record { bytes = p.bytes; read = Consumes-kept known mid left p.bytes p.read k; wrote = p.wrote; counted = p.counted }

-- A reader that reached its end has returned all its known bytes.
whole : (known left : Option (List ℕ)) (bytes document : List ℕ) → known ≡ Some document → Consumes known left bytes → IsAtEnd left → bytes ≡ document
whole None left bytes document e read end = cc
whole (Some xs) None bytes document e read end = absurd read
whole (Some xs) (Some ys) bytes document e read end = let h : xs ≡ document = cc in sym (append-nil bytes) ∙ ap (λ l. bytes ++ l) (sym end) ∙ sym read ∙ h

pub one_copy : (form : Form) (i : ℕ) (known left old new next : Option (List ℕ)) (n m sum : ℕ)
    → Copied form i known old new n → WroteResult form known left new next m → sum ≡ n + m
    → Copied form (i + 1) known old next sum
one_copy form i known left old new next n m sum c w is = record {
  bytes = c.bytes ++ result_of form w.bytes;
  wrote = Appends-trans old new next _ _ c.wrote w.wrote;
  counted = let h = form_feeds-append c.bytes (result_of form w.bytes) in let q = c.counted in let r = w.counted in omega (arith, h, q, r, is);
  copied = λ document e.
      ap (λ l. l ++ result_of form w.bytes) (c.copied document e)
      ∙ ap (λ l. repeated i (result_of form document) ++ result_of form l) (whole known left w.bytes document e w.read w.end)
      ∙ rw add-one refl;
}
