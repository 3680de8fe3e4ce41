-- A character of a text of options: one byte, or several that are all above 127.
use Rattle.std.proofs.Common.{◌≡◌, ℕ, suc, ◌<◌, ◌≤◌, ◌⊎◌, inl, inr, Bool, true, false, ◌||◌, not, cond, eqb, List, [], ◌∷◌, ◌++◌, length, get_or, refl, ap, sym, ◌∙◌, arith, encode_utf8}
use Rattle.std.proofs.lemmas.List.{append-nil}
use Rattle.std.proofs.lemmas.Bool.{ne_eqb, cases_lt, or_from, or_parts}
use Rattle.std.proofs.lemmas.Str.{encode_ascii, inside_one, length-encode, len_utf8_bounds}
use Rattle.std.specs.List.{list_any}
use Rattle.line_words.specs.Blanks.{is_blank}
use Rattle.line_words.specs.declared.quoting.Quoting.{Quoting}
use Rattle.line_words.specs.declared.quoting.Quoting.TheVariants.{Bare, Single, Double, BareEscaped, SingleEscaped, DoubleEscaped}
use Rattle.line_words.specs.Quoting.{is_quoting, next, keeps, said, place_after}
use Rattle.filter_args.specs.Printing.{is_special, escaped}

-- Each byte is above 127.
abbrev pub AreWide : List ℕ → Type 0
AreWide [] = Unit {0}
AreWide (b ∷ bs) = (128 ≤ b) × AreWide bs

wide_from : (bs : List ℕ) → ((k : ℕ) → k < length bs → 128 ≤ get_or bs k 0) → AreWide bs
wide_from [] h = tt
wide_from (b ∷ bs) h = (h 0 (omega arith), wide_from bs (λ k l. h (suc k) (omega arith)))

wide_encode : (c : ℕ) → 128 ≤ c → AreWide (encode_utf8 c)
wide_encode c wide = wide_from (encode_utf8 c) (λ k l. at k l (cases_lt (get_or (encode_utf8 c) k 0) 128))
  where
    at : (k : ℕ) → k < length (encode_utf8 c) → (get_or (encode_utf8 c) k 0 < 128) ⊎ (128 ≤ get_or (encode_utf8 c) k 0) → 128 ≤ get_or (encode_utf8 c) k 0
    at k l (inr h) = h
    at k l (inl h) = let e : c ≡ get_or (encode_utf8 c) k 0 = inside_one c [] (encode_utf8 c) k (sym (append-nil (encode_utf8 c))) l h in absurd (omega arith)

not_at : (b n : ℕ) → n < 128 → 128 ≤ b → eqb b n ≡ false
not_at b n small wide = ne_eqb b n (λ e. omega arith)

wide_quoting : (b : ℕ) → 128 ≤ b → is_quoting b ≡ false
wide_quoting b wide = or_from _ _ (not_at b 92 (omega arith) wide) (or_from _ _ (not_at b 39 (omega arith) wide) (not_at b 34 (omega arith) wide))

wide_blank : (b : ℕ) → 128 ≤ b → is_blank b ≡ false
wide_blank b wide = or_from _ _ (not_at b 32 (omega arith) wide) (not_at b 9 (omega arith) wide)

-- The state after a wide byte: no longer escaped.
unescaped : Quoting → Quoting
unescaped Bare = Bare
unescaped Single = Single
unescaped Double = Double
unescaped BareEscaped = Bare
unescaped SingleEscaped = Single
unescaped DoubleEscaped = Double

unescaped_twice : (q : Quoting) → unescaped (unescaped q) ≡ unescaped q
unfolding unescaped
unescaped_twice Bare = refl
unescaped_twice Single = refl
unescaped_twice Double = refl
unescaped_twice BareEscaped = refl
unescaped_twice SingleEscaped = refl
unescaped_twice DoubleEscaped = refl

next_wide : (q : Quoting) (b : ℕ) → 128 ≤ b → next q b ≡ unescaped q
unfolding unescaped
next_wide Bare b wide =
    ap (λ v. cond v BareEscaped (cond (eqb b 39) Single (cond (eqb b 34) Double Bare))) (not_at b 92 (omega arith) wide)
    ∙ ap (λ v. cond v Single (cond (eqb b 34) Double Bare)) (not_at b 39 (omega arith) wide)
    ∙ ap (λ v. cond v Double Bare) (not_at b 34 (omega arith) wide)
next_wide Single b wide =
    ap (λ v. cond v SingleEscaped (cond (eqb b 39) Bare Single)) (not_at b 92 (omega arith) wide) ∙ ap (λ v. cond v Bare Single) (not_at b 39 (omega arith) wide)
next_wide Double b wide =
    ap (λ v. cond v DoubleEscaped (cond (eqb b 34) Bare Double)) (not_at b 92 (omega arith) wide) ∙ ap (λ v. cond v Bare Double) (not_at b 34 (omega arith) wide)
next_wide BareEscaped b wide = refl
next_wide SingleEscaped b wide = refl
next_wide DoubleEscaped b wide = refl

keeps_wide : (q : Quoting) (b : ℕ) → 128 ≤ b → keeps q b ≡ true
keeps_wide Bare b wide = ap not (wide_quoting b wide)
keeps_wide Single b wide = ap not (or_from (eqb b 92) (eqb b 39) (not_at b 92 (omega arith) wide) (not_at b 39 (omega arith) wide))
keeps_wide Double b wide = ap not (or_from (eqb b 92) (eqb b 34) (not_at b 92 (omega arith) wide) (not_at b 34 (omega arith) wide))
keeps_wide BareEscaped b wide = refl
keeps_wide SingleEscaped b wide = refl
keeps_wide DoubleEscaped b wide = refl

said_wide : (q : Quoting) (bs t : List ℕ) → AreWide bs → said (unescaped q) (bs ++ t) ≡ bs ++ said (unescaped q) t
said_wide q [] t wide = refl
said_wide q (b ∷ bs) t wide =
    ap (λ k. cond k (b ∷ said (next (unescaped q) b) (bs ++ t)) (said (next (unescaped q) b) (bs ++ t))) (keeps_wide (unescaped q) b wide.0)
    ∙ ap (λ p. b ∷ said p (bs ++ t)) (next_wide (unescaped q) b wide.0 ∙ unescaped_twice q)
    ∙ ap (λ l. b ∷ l) (said_wide q bs t wide.1)

place_wide : (q : Quoting) (bs t : List ℕ) → AreWide bs → place_after (unescaped q) (bs ++ t) ≡ place_after (unescaped q) t
place_wide q [] t wide = refl
place_wide q (b ∷ bs) t wide =
    ap (λ p. place_after p (bs ++ t)) (next_wide (unescaped q) b wide.0 ∙ unescaped_twice q) ∙ place_wide q bs t wide.1

escaped_wide : (bs t : List ℕ) → AreWide bs → escaped (bs ++ t) ≡ bs ++ escaped t
escaped_wide [] t wide = refl
escaped_wide (b ∷ bs) t wide =
    ap (λ k. cond k (92 ∷ b ∷ escaped (bs ++ t)) (b ∷ escaped (bs ++ t))) (or_from _ _ (wide_blank b wide.0) (wide_quoting b wide.0))
    ∙ ap (λ l. b ∷ l) (escaped_wide bs t wide.1)

-- ## One character

unescaped_wide : (q : Quoting) (bs t : List ℕ) → 1 ≤ length bs → AreWide bs → (said q (bs ++ t) ≡ bs ++ said (unescaped q) t) × (place_after q (bs ++ t) ≡ place_after (unescaped q) t)
unescaped_wide q [] t some wide = absurd (omega arith)
unescaped_wide q (b ∷ bs) t some wide = (
  ap (λ k. cond k (b ∷ said (next q b) (bs ++ t)) (said (next q b) (bs ++ t))) (keeps_wide q b wide.0)
      ∙ ap (λ p. b ∷ said p (bs ++ t)) (next_wide q b wide.0)
      ∙ ap (λ l. b ∷ l) (said_wide q bs t wide.1),
  ap (λ p. place_after p (bs ++ t)) (next_wide q b wide.0) ∙ place_wide q bs t wide.1,
)

some_bytes : (c : ℕ) → 1 ≤ length (encode_utf8 c)
some_bytes c = omega (arith, length-encode c, (len_utf8_bounds c).0)

-- The bytes that a character adds to a value, and the state after it.
pub said-encode : (q : Quoting) (c : ℕ) (t : List ℕ) → said q (encode_utf8 c ++ t) ≡ cond (keeps q c) (encode_utf8 c) [] ++ said (next q c) t
said-encode q c t = by (cases_lt c 128)
  where
    one : (v : Bool) → cond v (c ∷ said (next q c) t) (said (next q c) t) ≡ cond v (c ∷ []) [] ++ said (next q c) t
    one true = refl
    one false = refl

    by : (c < 128) ⊎ (128 ≤ c) → said q (encode_utf8 c ++ t) ≡ cond (keeps q c) (encode_utf8 c) [] ++ said (next q c) t
    by (inl small) =
        ap (λ l. said q (l ++ t)) (encode_ascii c small) ∙ one (keeps q c) ∙ ap (λ l. cond (keeps q c) l [] ++ said (next q c) t) (sym (encode_ascii c small))
    by (inr wide) =
        (unescaped_wide q (encode_utf8 c) t (some_bytes c) (wide_encode c wide)).0
        ∙ ap (λ p. encode_utf8 c ++ said p t) (sym (next_wide q c wide))
        ∙ ap (λ v. cond v (encode_utf8 c) [] ++ said (next q c) t) (sym (keeps_wide q c wide))

pub place-encode : (q : Quoting) (c : ℕ) (t : List ℕ) → place_after q (encode_utf8 c ++ t) ≡ place_after (next q c) t
place-encode q c t = by (cases_lt c 128)
  where
    by : (c < 128) ⊎ (128 ≤ c) → place_after q (encode_utf8 c ++ t) ≡ place_after (next q c) t
    by (inl small) = ap (λ l. place_after q (l ++ t)) (encode_ascii c small)
    by (inr wide) =
        (unescaped_wide q (encode_utf8 c) t (some_bytes c) (wide_encode c wide)).1 ∙ ap (λ p. place_after p t) (sym (next_wide q c wide))

-- The text of a character.
pub escaped-encode : (c : ℕ) (t : List ℕ) → escaped (encode_utf8 c ++ t) ≡ cond (is_special c) (92 ∷ encode_utf8 c) (encode_utf8 c) ++ escaped t
escaped-encode c t = by (cases_lt c 128)
  where
    one : (v : Bool) → cond v (92 ∷ c ∷ escaped t) (c ∷ escaped t) ≡ cond v (92 ∷ c ∷ []) (c ∷ []) ++ escaped t
    one true = refl
    one false = refl

    by : (c < 128) ⊎ (128 ≤ c) → escaped (encode_utf8 c ++ t) ≡ cond (is_special c) (92 ∷ encode_utf8 c) (encode_utf8 c) ++ escaped t
    by (inl small) =
        ap (λ l. escaped (l ++ t)) (encode_ascii c small) ∙ one (is_special c) ∙ ap (λ l. cond (is_special c) (92 ∷ l) l ++ escaped t) (sym (encode_ascii c small))
    by (inr wide) =
        escaped_wide (encode_utf8 c) t (wide_encode c wide)
        ∙ ap (λ v. cond v (92 ∷ encode_utf8 c) (encode_utf8 c) ++ escaped t) (sym (or_from _ _ (wide_blank c wide) (wide_quoting c wide)))

-- ## A whole value

pub next_plain : (b : ℕ) → is_quoting b ≡ false → next Bare b ≡ Bare
next_plain b h =
    let parts = or_parts (eqb b 92) (eqb b 39 || eqb b 34) h in
    let quotes = or_parts (eqb b 39) (eqb b 34) parts.1 in
    ap (λ v. cond v BareEscaped (cond (eqb b 39) Single (cond (eqb b 34) Double Bare))) parts.0
    ∙ ap (λ v. cond v Single (cond (eqb b 34) Double Bare)) quotes.0
    ∙ ap (λ v. cond v Double Bare) quotes.1

-- A value without quotes and backslashes represents itself.
pub said_plain : (raw : List ℕ) → list_any is_quoting raw ≡ false → (said Bare raw ≡ raw) × (place_after Bare raw ≡ Bare)
said_plain [] h = (refl, refl)
said_plain (b ∷ bs) h =
    let parts = or_parts (is_quoting b) (list_any is_quoting bs) h in
    let rest = said_plain bs parts.1 in (
      ap (λ v. cond (not v) (b ∷ said (next Bare b) bs) (said (next Bare b) bs)) parts.0 ∙ ap (λ q. b ∷ said q bs) (next_plain b parts.0) ∙ ap (λ l. b ∷ l) rest.0,
      ap (λ q. place_after q bs) (next_plain b parts.0) ∙ rest.1,
    )
