-- A stream has one reading.
use Rattle.std.specs.Prelude.{◌≡◌, ◌≢◌, ℕ, ◌+◌, ◌<◌, ◌⊎◌, Bool, true, false, List, [], ◌∷◌, ◌++◌, map, refl}
use Rattle.std.specs.List.{All, AllByRecursion, flat_map}
use Rattle.std.proofs.Common.{sym, ◌∙◌, ap, append_assoc}
use Rattle.std.proofs.lemmas.List.Elements.{recursion_from_All, All-from_recursion, All-head, All-tail}
use Rattle.service_client.specs.Lines.{with_feed}
use Rattle.service_client.specs.Replies.{Cuts, IsLast, IsPartial, IsReply, IsRow, ReplyText, reply_bytes}

-- Two streams that are equal begin with the same line.
one_line : (a b x y : List ℕ) → AllByRecursion (λ c. c ≢ 10) a → AllByRecursion (λ c. c ≢ 10) b → with_feed a ++ x ≡ with_feed b ++ y → (a ≡ b) × (x ≡ y)
one_line [] [] x y p q e = (refl, cc)
one_line [] (b ∷ bs) x y p q e = absurd (q.0 (cc))
one_line (a ∷ xs) [] x y p q e = absurd (p.0 (cc))
one_line (a ∷ xs) (b ∷ bs) x y p q e =
    let h : (xs ++ 10 ∷ []) ++ x ≡ (bs ++ 10 ∷ []) ++ y = cc in
    let same = one_line xs bs x y p.1 q.1 h in
    let first : a ≡ b = cc in
    let rest : xs ≡ bs = same.0 in
    (cc, same.1)

-- Part of a line has no whole one.
no_line : (part a x : List ℕ) → AllByRecursion (λ c. c ≢ 10) part → part ≡ with_feed a ++ x → ⊥
no_line [] [] x p e = absurd (cc)
no_line [] (a ∷ xs) x p e = absurd (cc)
no_line (b ∷ bs) [] x p e = p.0 (cc)
no_line (b ∷ bs) (a ∷ xs) x p e =
    let h : bs ≡ (xs ++ 10 ∷ []) ++ x = cc in
    no_line bs xs x p.1 h

not_both : (a b : List ℕ) → IsLast a → IsRow b → a ≡ b → ⊥
not_both a b p q e =
    let ends = p.ends in
    let goes = q.goes_on in
    let both : true ≡ false = cc in
    absurd (cc)

-- The lines of a reply after its first row.
abbrev after : List (List ℕ) → List ℕ → List ℕ → List ℕ
after rows last x = (flat_map with_feed rows ++ with_feed last) ++ x

regroup : (r : List ℕ) (rows : List (List ℕ)) (last x : List ℕ) → after (r ∷ rows) last x ≡ with_feed r ++ after rows last x
regroup r rows last x = simp append_assoc

same_last : (a b x y : List ℕ) → IsLast a → IsLast b → with_feed a ++ x ≡ with_feed b ++ y → (a ≡ b) × (x ≡ y)
same_last a b x y p q e = one_line a b x y (recursion_from_All (λ c. c ≢ 10) a p.whole) (recursion_from_All (λ c. c ≢ 10) b q.whole) e

same_row : (a b x y : List ℕ) → IsRow a → IsRow b → with_feed a ++ x ≡ with_feed b ++ y → (a ≡ b) × (x ≡ y)
same_row a b x y p q e = one_line a b x y (recursion_from_All (λ c. c ≢ 10) a p.whole) (recursion_from_All (λ c. c ≢ 10) b q.whole) e

other_line : (a b x y : List ℕ) → IsLast a → IsRow b → with_feed a ++ x ≡ with_feed b ++ y → ⊥
other_line a b x y p q e = not_both a b p q (one_line a b x y (recursion_from_All (λ c. c ≢ 10) a p.whole) (recursion_from_All (λ c. c ≢ 10) b q.whole) e).0

pub record SameReply (rows others : List (List ℕ)) (last other x y : List ℕ) : Type 0 where
  pub rows_same : rows ≡ others
  pub last_same : last ≡ other
  pub rest_same : x ≡ y

one_reply : (rows others : List (List ℕ)) (last other x y : List ℕ) → AllByRecursion IsRow rows → AllByRecursion IsRow others → IsLast last → IsLast other
    → after rows last x ≡ after others other y → SameReply rows others last other x y
one_reply [] [] last other x y p q l o e =
    let same = same_last last other x y l o e in
    record { rows_same = refl; last_same = same.0; rest_same = same.1 }
one_reply [] (r ∷ rs) last other x y p q l o e = absurd (other_line last r x (after rs other y) l q.0 (e ∙ regroup r rs other y))
one_reply (r ∷ rs) [] last other x y p q l o e = absurd (other_line other r y (after rs last x) o p.0 (sym e ∙ regroup r rs last x))
one_reply (r ∷ rs) (s ∷ ss) last other x y p q l o e =
    let joined = sym (regroup r rs last x) ∙ e ∙ regroup s ss other y in
    let first = same_row r s (after rs last x) (after ss other y) p.0 q.0 joined in
    let rest = one_reply rs ss last other x y p.1 q.1 l o first.1 in
    let head : r ≡ s = first.0 in
    let tail : rs ≡ ss = rest.rows_same in
    record { rows_same = cc; last_same = rest.last_same; rest_same = rest.rest_same }

-- Less than a reply has no whole one.
no_reply : (rows others : List (List ℕ)) (part last x : List ℕ) → AllByRecursion IsRow rows → AllByRecursion IsRow others → AllByRecursion (λ c. c ≢ 10) part → IsLast last
    → flat_map with_feed rows ++ part ≡ after others last x → ⊥
no_reply [] [] part last x p q n l e = no_line part last x n e
no_reply [] (s ∷ ss) part last x p q n l e = no_line part s (after ss last x) n (e ∙ regroup s ss last x)
no_reply (r ∷ rs) [] part last x p q n l e =
    other_line last r x (flat_map with_feed rs ++ part) l p.0 (sym e ∙ append_assoc (with_feed r) (flat_map with_feed rs) part)
no_reply (r ∷ rs) (s ∷ ss) part last x p q n l e =
    let joined = sym (append_assoc (with_feed r) (flat_map with_feed rs) part) ∙ e ∙ regroup s ss last x in
    no_reply rs ss part last x p.1 q.1 n l (same_row r s (flat_map with_feed rs ++ part) (after ss last x) p.0 q.0 joined).1

no_reply_in : (rest : List ℕ) (reply : ReplyText) (x : List ℕ) → IsPartial rest → IsReply reply → rest ≡ reply_bytes reply ++ x → ⊥
no_reply_in rest reply x p r e =
    no_reply p.rows reply.rows p.part reply.last x (recursion_from_All IsRow p.rows p.are_rows) (recursion_from_All IsRow reply.rows r.rows)
    (recursion_from_All (λ c. c ≢ 10) p.part p.is_part) r.last (sym p.cut ∙ e)

abbrev reply_with : List (List ℕ) → List ℕ → ReplyText
reply_with rows last = record { rows = rows; last = last }

same_reply : (a b : ReplyText) (x y : List ℕ) → IsReply a → IsReply b → reply_bytes a ++ x ≡ reply_bytes b ++ y → (a ≡ b) × (x ≡ y)
same_reply a b x y p q e =
    let same = one_reply a.rows b.rows a.last b.last x y (recursion_from_All IsRow a.rows p.rows) (recursion_from_All IsRow b.rows q.rows) p.last q.last e in
    (ap (λ (rows : List (List ℕ)). reply_with rows a.last) same.rows_same ∙ ap (λ (last : List ℕ). reply_with b.rows last) same.last_same, same.rest_same)

one_stream : (replies others : List ReplyText) (rest other : List ℕ) → AllByRecursion IsReply replies → AllByRecursion IsReply others → IsPartial rest → IsPartial other
    → flat_map reply_bytes replies ++ rest ≡ flat_map reply_bytes others ++ other → replies ≡ others
one_stream [] [] rest other p q h k e = refl
one_stream [] (o ∷ os) rest other p q h k e =
    absurd (no_reply_in rest o (flat_map reply_bytes os ++ other) h q.0 (e ∙ append_assoc (reply_bytes o) (flat_map reply_bytes os) other))
one_stream (r ∷ rs) [] rest other p q h k e =
    absurd (no_reply_in other r (flat_map reply_bytes rs ++ rest) k p.0 (sym e ∙ append_assoc (reply_bytes r) (flat_map reply_bytes rs) rest))
one_stream (r ∷ rs) (o ∷ os) rest other p q h k e =
    let joined = sym (append_assoc (reply_bytes r) (flat_map reply_bytes rs) rest) ∙ e ∙ append_assoc (reply_bytes o) (flat_map reply_bytes os) other in
    let same = same_reply r o (flat_map reply_bytes rs ++ rest) (flat_map reply_bytes os ++ other) p.0 q.0 joined in
    let head : r ≡ o = same.0 in
    let tail : rs ≡ os = one_stream rs os rest other p.1 q.1 h k same.1 in
    cc

pub one_cut : (bytes : List ℕ) (replies others : List ReplyText) (rest other : List ℕ) → Cuts bytes replies rest → Cuts bytes others other → replies ≡ others
one_cut bytes replies others rest other p q =
    one_stream replies others rest other (recursion_from_All IsReply replies p.each) (recursion_from_All IsReply others q.each) p.partial q.partial (sym p.whole ∙ q.whole)
