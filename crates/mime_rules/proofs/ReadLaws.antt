-- The reading of numbers, texts and values.
use Rattle.std.proofs.Common.{◌≡◌, ℕ, true, false, cond, List, [], ◌∷◌, ◌++◌, length, refl, ap, sym, ◌∙◌, arith, Option, None, Some, Ok, Err}
use Rattle.std.specs.Prelude.{◌==◌, Result}
use Rattle.std.proofs.lemmas.Bool.Decides.{nat_tests}
use Rattle.spool_types.specs.declared.warning.WarningKind.{WarningKind}
use Rattle.spool_types.specs.declared.warning.WarningKind.TheVariants.{BadText, BadRule}
use Rattle.line_words.specs.Blanks.{is_blank, after_blanks}
use Rattle.mime_rules.specs.declared.stop.Stop.{Stop}
use Rattle.mime_rules.specs.declared.stop.Stop.TheVariants.{Memory, Fault}
use Rattle.mime_rules.specs.RuleReading.{Read, read, wrong, on}
use Rattle.mime_rules.specs.TestArguments.{with_byte, with_blank, text_from, bare, quoted, hex, pair_of, pair_at, pair_read, with_pair, is_quote, is_close, is_close_next, is_closing}
use Rattle.mime_rules.specs.RuleFields.{Stopped, Grown, with_bytes}

-- Texts.
pub with_bytes_append : (xs : List ℕ) (b : ℕ) (text : Read ℕ (List ℕ)) → with_bytes (xs ++ b ∷ []) text ≡ with_bytes xs (with_byte b text)
with_bytes_append [] b text = refl
with_bytes_append (x ∷ xs) b text = ap (with_byte x) (with_bytes_append xs b text)

pub with_bytes_wrong : (xs : List ℕ) (kind : WarningKind) → with_bytes xs (wrong kind) ≡ wrong kind
with_bytes_wrong [] kind = refl
with_bytes_wrong (x ∷ xs) kind = ap (with_byte x) (with_bytes_wrong xs kind)

pub with_bytes_read : (xs rest : List ℕ) → with_bytes xs (read [] rest) ≡ read xs rest
with_bytes_read [] rest = refl
with_bytes_read (x ∷ xs) rest = ap (with_byte x) (with_bytes_read xs rest)

abbrev bare_rest : ℕ → List ℕ → Read ℕ (List ℕ)
bare_rest b bs = cond (is_close b) (read [] bs) (cond (is_quote b) (text_from (quoted b) bs) (cond (b == 60) (text_from hex bs) (with_byte b (text_from bare bs))))

pub text_blank : (b : ℕ) (bs : List ℕ) → is_blank b ≡ true → text_from bare (b ∷ bs) ≡ with_blank (is_closing bs) b (text_from bare bs)
text_blank b bs h = ap (λ v. cond v (with_blank (is_closing bs) b (text_from bare bs)) (bare_rest b bs)) h

text_other : (b : ℕ) (bs : List ℕ) → is_blank b ≡ false → text_from bare (b ∷ bs) ≡ bare_rest b bs
text_other b bs h = ap (λ v. cond v (with_blank (is_closing bs) b (text_from bare bs)) (bare_rest b bs)) h

pub blank_counts : (b : ℕ) (bs : List ℕ) → is_blank b ≡ true → is_closing bs ≡ false → text_from bare (b ∷ bs) ≡ with_byte b (text_from bare bs)
blank_counts b bs h closing = text_blank b bs h ∙ ap (λ v. with_blank v b (text_from bare bs)) closing

pub blank_dropped : (b : ℕ) (bs : List ℕ) → is_blank b ≡ true → is_closing bs ≡ true → text_from bare (b ∷ bs) ≡ text_from bare bs
blank_dropped b bs h closing = text_blank b bs h ∙ ap (λ v. with_blank v b (text_from bare bs)) closing

pub closing_behind : (b : ℕ) (bs : List ℕ) → is_blank b ≡ true → is_closing (b ∷ bs) ≡ is_closing bs
closing_behind b bs h = ap (λ v. is_close_next (cond v (after_blanks bs) (b ∷ bs))) h

test_false : (a b : ℕ) → (a ≡ b → ⊥) → (a == b) ≡ false
test_false a b h = grind (arith, nat_tests)

pub text_close : (b : ℕ) (bs : List ℕ) → b ≡ 41 → text_from bare (b ∷ bs) ≡ read [] bs
text_close b bs h = ap (λ v. text_from bare (v ∷ bs)) h

pub text_empty : (bs : List ℕ) → length bs ≡ 0 → text_from bare bs ≡ wrong BadRule
text_empty [] h = refl
text_empty (b ∷ bs) h = absurd (omega arith)

pub quote_empty : (q : ℕ) (bs : List ℕ) → length bs ≡ 0 → text_from (quoted q) bs ≡ wrong BadText
quote_empty q [] h = refl
quote_empty q (b ∷ bs) h = absurd (omega arith)

pub quote_more : (q b : ℕ) (bs : List ℕ) → (b ≡ q → ⊥) → text_from (quoted q) (b ∷ bs) ≡ with_byte b (text_from (quoted q) bs)
quote_more q b bs h = ap (λ v. cond v (text_from bare bs) (with_byte b (text_from (quoted q) bs))) (test_false b q h)

pub hex_empty : (bs : List ℕ) → length bs ≡ 0 → text_from hex bs ≡ wrong BadText
hex_empty [] h = refl
hex_empty (b ∷ bs) h = absurd (omega arith)

pub hex_ends : (b : ℕ) (bs : List ℕ) → b ≡ 62 → text_from hex (b ∷ bs) ≡ text_from bare bs
hex_ends b [] h = ap (λ v. text_from hex (v ∷ [])) h
hex_ends b (c ∷ bs) h = ap (λ v. text_from hex (v ∷ c ∷ bs)) h

-- The text after a pair of hexadecimal digits.
abbrev pub hex_rest : Read ℕ ℕ → Read ℕ (List ℕ)
hex_rest pair = on (λ n rest. with_byte n (text_from hex rest)) pair

pub hex_more : (b : ℕ) (bs : List ℕ) → (b ≡ 62 → ⊥) → text_from hex (b ∷ bs) ≡ hex_rest (pair_at b bs)
hex_more b [] h = ap (λ v. cond v (wrong BadRule) (wrong BadText)) (test_false b 62 h)
hex_more b (c ∷ bs) h =
    ap (λ v. cond v (text_from bare (c ∷ bs)) (with_pair (pair_of b c) (text_from hex bs))) (test_false b 62 h)
    ∙ pair_same (pair_of b c)
  where
    pair_same : (o : Option ℕ) → with_pair o (text_from hex bs) ≡ hex_rest (pair_read o bs)
    pair_same None = refl
    pair_same (Some n) = refl

pub plain_byte : (b : ℕ) (bs : List ℕ) → is_blank b ≡ false → is_close b ≡ false → is_quote b ≡ false → (b ≡ 60 → ⊥) → text_from bare (b ∷ bs) ≡ with_byte b (text_from bare bs)
plain_byte b bs blank close quote hexes =
    text_other b bs blank
    ∙ ap (λ v. cond v (read [] bs) (cond (is_quote b) (text_from (quoted b) bs) (cond (b == 60) (text_from hex bs) (with_byte b (text_from bare bs))))) close
    ∙ ap (λ v. cond v (text_from (quoted b) bs) (cond (b == 60) (text_from hex bs) (with_byte b (text_from bare bs)))) quote
    ∙ ap (λ v. cond v (text_from hex bs) (with_byte b (text_from bare bs))) (test_false b 60 hexes)

pub blanks_dropped : (bs : List ℕ) → is_closing bs ≡ true → text_from bare bs ≡ text_from bare (after_blanks bs)
blanks_dropped [] h = refl
blanks_dropped (b ∷ bs) h =
    (elim (is_blank b) as (λ v. is_blank b ≡ v → text_from bare (b ∷ bs) ≡ text_from bare (cond v (after_blanks bs) (b ∷ bs))) [
      | true ↦ λ e. blank_dropped b bs e (sym (closing_behind b bs e) ∙ h) ∙ blanks_dropped bs (sym (closing_behind b bs e) ∙ h)
      | false ↦ λ e. refl
    ]) refl

-- A run continues from a longer text.
pub grown_from : {V : Type 0} (result : Result V Stop) (seen : V → Read ℕ (List ℕ)) (old mid longer : List ℕ) (all more : Read ℕ (List ℕ)) →
    with_bytes old all ≡ with_bytes mid more → Grown result seen mid longer more → Grown result seen old longer all
grown_from (Ok v) seen old mid longer all more same h = same ∙ h
grown_from (Err Memory) seen old mid longer all more same h = h
grown_from (Err (Fault kind)) seen old mid longer all more same h = same ∙ h

-- No pair.
pub pair_fault : (stop : Stop) (pair : Read ℕ ℕ) (text old : List ℕ) (all : Read ℕ (List ℕ)) → Stopped stop (λ r. pair ≡ r) → with_bytes text (hex_rest pair) ≡ with_bytes old all → Stopped stop (λ r. with_bytes old all ≡ r)
pair_fault Memory pair text old all h same = tt
pair_fault (Fault kind) pair text old all h same = sym same ∙ ap (λ v. with_bytes text (hex_rest v)) h ∙ with_bytes_wrong text kind
