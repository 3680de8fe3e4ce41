-- The next field of a line has the form of a field.
use Rattle.std.proofs.Common.{◌≡◌, ℕ, ◌<◌, ◌≤◌, Bool, true, false, cond, leb, List, [], ◌∷◌, ◌++◌, length, refl, ap, sym, ◌∙◌, arith, Option, None, Some}
use Rattle.std.specs.List.{list_all}
use Rattle.std.proofs.lemmas.Bool.{eqb-true, leb-true, le-leb, lt-leb, and_parts, and_from}
use Rattle.line_words.specs.Blanks.{is_blank, after_blanks}
use Rattle.line_words.specs.Quotes.{is_quote, is_backslash, escape_of, QuotedFront, with_bytes, quoted}
use Rattle.device_uri.specs.QuotedFields.{IsBlanks, in_front, unescaped, IsField, IsFieldIfAny}
use Rattle.device_uri.specs.DeviceLineReading.{short_front, opened, behind_quote, field_inside, next_field, some_field, next_if_any}

-- ## Between the quotes

front_parts : (a b c d : List ℕ) → ◌≡◌ {A = QuotedFront} (Some (a, b)) (Some (c, d)) → (a ≡ c) × (b ≡ d)
front_parts a b c d e =
    let same : ◌≡◌ {A = List ℕ × List ℕ} (a, b) (c, d) = cc in
    (ap (λ p. p.0) same, ap (λ p. p.1) same)

with_bytes-inv : (w : List ℕ) (front : QuotedFront) (f r : List ℕ) → with_bytes w front ≡ Some (f, r) → (g : List ℕ) × (front ≡ Some (g, r)) × (w ++ g ≡ f)
with_bytes-inv w None f r e = cc
with_bytes-inv w (Some (g, s)) f r e =
    let (front, behind) = front_parts (w ++ g) s f r e in
    (g, ap (λ l. Some (g, l)) behind, front)

in_front-inv : (w : List ℕ) (field : Option (List ℕ)) (f : List ℕ) → in_front w field ≡ Some f → (g : List ℕ) × (field ≡ Some g) × (w ++ g ≡ f)
in_front-inv w None f e = cc
in_front-inv w (Some g) f e = (g, refl, (cc))

-- The line up to a closing quote. The bytes before it represent the field.
abbrev IsQuoted : Bool → List ℕ → List ℕ → List ℕ → Type 0
IsQuoted escaped line f r = (inside : List ℕ) × (line ≡ inside ++ 34 ∷ r) × (unescaped escaped inside ≡ Some f)

unescaped_quote : (b : ℕ) (bs : List ℕ) → is_quote b ≡ true → unescaped false (b ∷ bs) ≡ None
unescaped_quote b bs q = ap (λ v. cond v None (cond (is_backslash b) (unescaped true bs) (in_front (b ∷ []) (unescaped false bs)))) q

unescaped_back : (b : ℕ) (bs : List ℕ) → is_quote b ≡ false → is_backslash b ≡ true → unescaped false (b ∷ bs) ≡ unescaped true bs
unescaped_back b bs q k =
    ap (λ v. cond v None (cond (is_backslash b) (unescaped true bs) (in_front (b ∷ []) (unescaped false bs)))) q
    ∙ ap (λ v. cond v (unescaped true bs) (in_front (b ∷ []) (unescaped false bs))) k

unescaped_more : (b : ℕ) (bs : List ℕ) → is_quote b ≡ false → is_backslash b ≡ false → unescaped false (b ∷ bs) ≡ in_front (b ∷ []) (unescaped false bs)
unescaped_more b bs q k =
    ap (λ v. cond v None (cond (is_backslash b) (unescaped true bs) (in_front (b ∷ []) (unescaped false bs)))) q
    ∙ ap (λ v. cond v (unescaped true bs) (in_front (b ∷ []) (unescaped false bs))) k

quoted_quote : (b : ℕ) (bs : List ℕ) → is_quote b ≡ true → quoted false (b ∷ bs) ≡ Some ([], bs)
quoted_quote b bs q = ap (λ v. cond v (Some ([], bs)) (cond (is_backslash b) (quoted true bs) (with_bytes (b ∷ []) (quoted false bs)))) q

quoted_back : (b : ℕ) (bs : List ℕ) → is_quote b ≡ false → is_backslash b ≡ true → quoted false (b ∷ bs) ≡ quoted true bs
quoted_back b bs q k =
    ap (λ v. cond v (Some ([], bs)) (cond (is_backslash b) (quoted true bs) (with_bytes (b ∷ []) (quoted false bs)))) q
    ∙ ap (λ v. cond v (quoted true bs) (with_bytes (b ∷ []) (quoted false bs))) k

quoted_more : (b : ℕ) (bs : List ℕ) → is_quote b ≡ false → is_backslash b ≡ false → quoted false (b ∷ bs) ≡ with_bytes (b ∷ []) (quoted false bs)
quoted_more b bs q k =
    ap (λ v. cond v (Some ([], bs)) (cond (is_backslash b) (quoted true bs) (with_bytes (b ∷ []) (quoted false bs)))) q
    ∙ ap (λ v. cond v (quoted true bs) (with_bytes (b ∷ []) (quoted false bs))) k

quoted_sound : (escaped : Bool) (line f r : List ℕ) → quoted escaped line ≡ Some (f, r) → IsQuoted escaped line f r
quoted_sound true [] f r h = cc
quoted_sound false [] f r h = cc
quoted_sound true (b ∷ bs) f r h =
    let (g, is, front) = with_bytes-inv (escape_of b) (quoted false bs) f r h in
    let (inside, whole, says) = quoted_sound false bs g r is in
    (b ∷ inside, ap (λ l. b ∷ l) whole, ap (in_front (escape_of b)) says ∙ ap (λ l. Some l) front)
quoted_sound false (b ∷ bs) f r h =
    (elim (is_quote b) as (λ v. is_quote b ≡ v → IsQuoted false (b ∷ bs) f r) [
      | true ↦ λ q. closes (sym (quoted_quote b bs q) ∙ h) (eqb-true b 34 q)
      | false ↦ λ q. (elim (is_backslash b) as (λ v. is_backslash b ≡ v → IsQuoted false (b ∷ bs) f r) [
        | true ↦ λ k. backslash q k (quoted_sound true bs f r (sym (quoted_back b bs q k) ∙ h))
        | false ↦ λ k.
            let (g, is, front) = with_bytes-inv (b ∷ []) (quoted false bs) f r (sym (quoted_more b bs q k) ∙ h) in
            let (inside, whole, says) = quoted_sound false bs g r is in
            (b ∷ inside, ap (λ l. b ∷ l) whole, unescaped_more b inside q k ∙ ap (in_front (b ∷ [])) says ∙ ap (λ l. Some l) front)
      ]) refl
    ]) refl
  where
    closes : ◌≡◌ {A = QuotedFront} (Some ([], bs)) (Some (f, r)) → b ≡ 34 → IsQuoted false (b ∷ bs) f r
    closes e quote =
        let (nothing, behind) = front_parts [] bs f r e in
        ([], ap (λ n. n ∷ bs) quote ∙ ap (λ l. 34 ∷ l) behind, ap (λ l. Some l) nothing)

    backslash : is_quote b ≡ false → is_backslash b ≡ true → IsQuoted true bs f r → IsQuoted false (b ∷ bs) f r
    backslash q k (inside, whole, says) = (b ∷ inside, ap (λ l. b ∷ l) whole, unescaped_back b inside q k ∙ says)

quoted_complete : (escaped : Bool) (inside f r : List ℕ) → unescaped escaped inside ≡ Some f → quoted escaped (inside ++ 34 ∷ r) ≡ Some (f, r)
quoted_complete true [] f r h = cc
quoted_complete false [] f r h = cc
quoted_complete true (b ∷ bs) f r h =
    let (g, is, front) = in_front-inv (escape_of b) (unescaped false bs) f h in
    ap (with_bytes (escape_of b)) (quoted_complete false bs g r is) ∙ ap (λ l. Some (l, r)) front
quoted_complete false (b ∷ bs) f r h =
    (elim (is_quote b) as (λ v. is_quote b ≡ v → quoted false (b ∷ bs ++ 34 ∷ r) ≡ Some (f, r)) [
      | true ↦ λ q. never (sym (unescaped_quote b bs q) ∙ h)
      | false ↦ λ q. (elim (is_backslash b) as (λ v. is_backslash b ≡ v → quoted false (b ∷ bs ++ 34 ∷ r) ≡ Some (f, r)) [
        | true ↦ λ k. quoted_back b (bs ++ 34 ∷ r) q k ∙ quoted_complete true bs f r (sym (unescaped_back b bs q k) ∙ h)
        | false ↦ λ k.
            let (g, is, front) = in_front-inv (b ∷ []) (unescaped false bs) f (sym (unescaped_more b bs q k) ∙ h) in
            quoted_more b (bs ++ 34 ∷ r) q k ∙ ap (with_bytes (b ∷ [])) (quoted_complete false bs g r is) ∙ ap (λ l. Some (l, r)) front
      ]) refl
    ]) refl
  where
    never : None ≡ Some f → quoted false (b ∷ bs ++ 34 ∷ r) ≡ Some (f, r)
    never e = cc

-- ## Blanks

-- Blanks and the rest after them.
pub after_sound : (line : List ℕ) → (blanks : List ℕ) × (list_all is_blank blanks ≡ true) × (line ≡ blanks ++ after_blanks line)
after_sound [] = ([], refl, refl)
after_sound (b ∷ bs) =
    (elim (is_blank b) as (λ v. is_blank b ≡ v → (blanks : List ℕ) × (list_all is_blank blanks ≡ true) × (b ∷ bs ≡ blanks ++ cond v (after_blanks bs) (b ∷ bs))) [
      | true ↦ λ h.
          let (blanks, blank, whole) = after_sound bs in
          (b ∷ blanks, and_from (is_blank b) (list_all is_blank blanks) h blank, ap (λ l. b ∷ l) whole)
      | false ↦ λ h. ([], refl, refl)
    ]) refl

-- The blanks before a rest that begins with none.
pub after_complete : (blanks rest : List ℕ) → list_all is_blank blanks ≡ true → after_blanks rest ≡ rest → after_blanks (blanks ++ rest) ≡ rest
after_complete [] rest h stays = stays
after_complete (b ∷ bs) rest h stays =
    let (blank, others) = and_parts (is_blank b) (list_all is_blank bs) h in
    ap (λ v. cond v (after_blanks (bs ++ rest)) (b ∷ bs ++ rest)) blank ∙ after_complete bs rest others stays

opened_sound : (line inside : List ℕ) → opened line ≡ Some inside → line ≡ 34 ∷ inside
opened_sound [] inside h = cc
opened_sound (b ∷ bs) inside h =
    (elim (is_quote b) as (λ v. is_quote b ≡ v → cond v (Some bs) None ≡ Some inside → b ∷ bs ≡ 34 ∷ inside) [
      | true ↦ λ q e. same (eqb-true b 34 q) e
      | false ↦ λ q e. cc
    ]) refl h
  where
    same : b ≡ 34 → Some bs ≡ Some inside → b ∷ bs ≡ 34 ∷ inside
    same q e = cc

behind_sound : (line inside : List ℕ) → behind_quote line ≡ Some inside → (blanks : List ℕ) × IsBlanks blanks × (line ≡ blanks ++ 34 ∷ inside)
behind_sound [] inside h = cc
behind_sound (b ∷ bs) inside h =
    (elim (is_blank b) as (λ v. is_blank b ≡ v → cond v (opened (after_blanks bs)) None ≡ Some inside → (blanks : List ℕ) × IsBlanks blanks × (b ∷ bs ≡ blanks ++ 34 ∷ inside)) [
      | true ↦ λ is e.
          let (blanks, blank, whole) = after_sound bs in
          let between : IsBlanks (b ∷ blanks) = record { some = omega arith; blank = and_from (is_blank b) (list_all is_blank blanks) is blank } in
          (b ∷ blanks, between, ap (λ l. b ∷ l) (whole ∙ ap (λ l. blanks ++ l) (opened_sound (after_blanks bs) inside e)))
      | false ↦ λ is e. cc
    ]) refl h

behind_complete : (blanks inside : List ℕ) → IsBlanks blanks → behind_quote (blanks ++ 34 ∷ inside) ≡ Some inside
behind_complete [] inside h = absurd (omega (arith, h.some))
behind_complete (b ∷ bs) inside h =
    let (blank, others) = and_parts (is_blank b) (list_all is_blank bs) h.blank in
    ap (λ v. cond v (opened (after_blanks (bs ++ 34 ∷ inside))) None) blank
    ∙ ap opened (after_complete bs (34 ∷ inside) others refl)

-- ## Fields

pub no_quote : (line : List ℕ) → behind_quote line ≡ None → next_field line ≡ None
unfolding next_field
no_quote line e = ap field_inside e

pub open_quote : (line inside : List ℕ) → behind_quote line ≡ Some inside → quoted false inside ≡ None → next_field line ≡ None
unfolding next_field
open_quote line inside e q = ap field_inside e ∙ ap short_front q

pub short_field : (line inside f r : List ℕ) → behind_quote line ≡ Some inside → quoted false inside ≡ Some (f, r) → length f ≤ 1023 → next_field line ≡ Some (f, r)
unfolding next_field
short_field line inside f r e q le = ap field_inside e ∙ ap short_front q ∙ ap (λ v. cond v (Some (f, r)) None) (le-leb (length f) 1023 le)

pub long_field : (line inside f r : List ℕ) → behind_quote line ≡ Some inside → quoted false inside ≡ Some (f, r) → 1023 < length f → next_field line ≡ None
unfolding next_field
long_field line inside f r e q lt = ap field_inside e ∙ ap short_front q ∙ ap (λ v. cond v (Some (f, r)) None) (lt-leb (length f) 1023 lt)

pub field_complete : (f line r : List ℕ) → IsField f line r → next_field line ≡ Some (f, r)
field_complete f line r h =
    ap next_field h.whole
    ∙ short_field (h.blanks ++ (34 ∷ (h.inside ++ 34 ∷ r))) (h.inside ++ 34 ∷ r) f r
    (behind_complete h.blanks (h.inside ++ 34 ∷ r) h.between) (quoted_complete false h.inside f r h.says) h.short

pub field_sound : (f line r : List ℕ) → next_field line ≡ Some (f, r) → IsField f line r
unfolding next_field
field_sound f line r h = at_quote (behind_quote line) refl h
  where
    found : (inside g s : List ℕ) → behind_quote line ≡ Some inside → quoted false inside ≡ Some (g, s) → length g ≤ 1023 → g ≡ f → s ≡ r → IsField f line r
    found inside g s e q le front behind =
        let (blanks, between, opens) = behind_sound line inside e in
        let (text, whole, says) = quoted_sound false inside g s q in
        record {
          blanks = blanks;
          inside = text;
          between = between;
          whole = opens ∙ ap (λ l. blanks ++ (34 ∷ l)) whole ∙ ap (λ l. blanks ++ (34 ∷ (text ++ 34 ∷ l))) behind;
          says = says ∙ ap (λ l. Some l) front;
          short = omega (arith, ap length front);
        }

    at_end : (inside g s : List ℕ) → behind_quote line ≡ Some inside → quoted false inside ≡ Some (g, s) → short_front (Some (g, s)) ≡ Some (f, r) → IsField f line r
    at_end inside g s e q h =
        (elim (leb (length g) 1023) as (λ v. leb (length g) 1023 ≡ v → ◌≡◌ {A = QuotedFront} (cond v (Some (g, s)) None) (Some (f, r)) → IsField f line r) [
          | true ↦ λ le k. let (front, behind) = front_parts g s f r k in found inside g s e q (leb-true (length g) 1023 le) front behind
          | false ↦ λ le k. cc
        ]) refl h

    at_field : (inside : List ℕ) (front : QuotedFront) → behind_quote line ≡ Some inside → quoted false inside ≡ front → short_front front ≡ Some (f, r) → IsField f line r
    at_field inside None e q h = cc
    at_field inside (Some (g, s)) e q h = at_end inside g s e q h

    at_quote : (found : Option (List ℕ)) → behind_quote line ≡ found → field_inside found ≡ Some (f, r) → IsField f line r
    at_quote None e h = cc
    at_quote (Some inside) e h = at_field inside (quoted false inside) e refl h

-- ## Fields that may be absent

pub if_any_sound : (f : Option (List ℕ)) (line r : List ℕ) → next_if_any line ≡ Some (f, r) → IsFieldIfAny f line r
if_any_sound None [] r h = (refl, nothing_left None r h)
  where
    nothing_left : (f : Option (List ℕ)) (r : List ℕ) → ◌≡◌ {A = Option (Option (List ℕ) × List ℕ)} (Some (None, [])) (Some (f, r)) → r ≡ []
    nothing_left f r h =
        let same : ◌≡◌ {A = Option (List ℕ) × List ℕ} (None, []) (f, r) = cc in
        sym (ap (λ p. p.1) same)
if_any_sound (Some f) [] r h = no_field f r h
  where
    no_field : (f r : List ℕ) → ◌≡◌ {A = Option (Option (List ℕ) × List ℕ)} (Some (None, [])) (Some (Some f, r)) → IsFieldIfAny (Some f) [] r
    no_field f r h =
        let same : ◌≡◌ {A = Option (List ℕ) × List ℕ} (None, []) (Some f, r) = cc in
        let other : ◌≡◌ {A = Option (List ℕ)} None (Some f) = ap (λ p. p.0) same in
        cc
if_any_sound f (b ∷ bs) r h = at (next_field (b ∷ bs)) f refl h
  where
    at : (front : QuotedFront) (f : Option (List ℕ)) → next_field (b ∷ bs) ≡ front → some_field front ≡ Some (f, r) → IsFieldIfAny f (b ∷ bs) r
    at None f e h = cc
    at (Some (g, s)) None e h =
        let same : ◌≡◌ {A = Option (List ℕ) × List ℕ} (Some g, s) (None, r) = cc in
        let other : ◌≡◌ {A = Option (List ℕ)} (Some g) None = ap (λ p. p.0) same in
        cc
    at (Some (g, s)) (Some f) e h =
        let same : ◌≡◌ {A = Option (List ℕ) × List ℕ} (Some g, s) (Some f, r) = cc in
        let front : ◌≡◌ {A = Option (List ℕ)} (Some g) (Some f) = ap (λ p. p.0) same in
        let inner : g ≡ f = cc in
        field_sound f (b ∷ bs) r (e ∙ ap (λ l. Some (l, s)) inner ∙ ap (λ l. Some (f, l)) (ap (λ p. p.1) same))

pub if_any_complete : (f : Option (List ℕ)) (line r : List ℕ) → IsFieldIfAny f line r → next_if_any line ≡ Some (f, r)
if_any_complete None line r (h, k) = ap next_if_any h ∙ ap (λ l. Some (None, l)) (sym k)
if_any_complete (Some f) [] r h = nothing h.blanks h.whole h.between.some
  where
    nothing : (blanks : List ℕ) → [] ≡ blanks ++ (34 ∷ (h.inside ++ 34 ∷ r)) → 1 ≤ length blanks → next_if_any [] ≡ Some (Some f, r)
    nothing [] e le = absurd (omega (arith, le))
    nothing (b ∷ bs) e le = cc
if_any_complete (Some f) (b ∷ bs) r h = ap some_field (field_complete f (b ∷ bs) r h)
