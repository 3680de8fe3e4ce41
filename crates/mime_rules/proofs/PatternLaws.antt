-- Patterns: it suffices to try the first position where the bytes between two runs match.
use Rattle.std.proofs.Common.{◌≡◌, ℕ, Bool, true, false, cond, ◌||◌, ◌&&◌, ◌++◌, List, [], ◌∷◌, length, refl, ap, sym, ◌∙◌, arith, Option, None, Some}
use Rattle.std.specs.Prelude.{◌==◌, nat_le}
use Rattle.std.proofs.lemmas.Bool.Decides.{nat_tests}
use Rattle.mime_rules.specs.Tests.{some_end}
use Rattle.mime_rules.specs.Patterns.{Piece, run, one, matching, is_in, piece_of_byte, with_piece, pieces_in, range_behind}
use Rattle.mime_rules.specs.declared.stop.Stop.{Stop}
use Rattle.mime_rules.specs.declared.stop.Stop.TheVariants.{Memory, Fault}
use Rattle.mime_rules.specs.RuleFields.{Stopped, PatternSays, PieceSays, passes_piece, is_run, rest_matches}

or_left : (a b : Bool) → a ≡ true → (a || b) ≡ true
or_left true b h = refl
or_left false b h = cc

or_right : (a b : Bool) → b ≡ true → (a || b) ≡ true
or_right true b h = refl
or_right false b h = h

or_elim : {C : Type 0} (a b : Bool) → (a ≡ true → C) → (b ≡ true → C) → (a || b) ≡ true → C
or_elim true b f g h = f refl
or_elim false b f g h = g h

and_right : (a b : Bool) → (a && b) ≡ true → b ≡ true
and_right true b h = h
and_right false b h = cc

agree : (s r : Bool) → (r ≡ true → s ≡ true) → (s ≡ true → r ≡ true) → s ≡ r
agree true r f g = sym (g refl)
agree false true f g = f refl
agree false false f g = refl

end_here : (test : List ℕ → Bool) (bs : List ℕ) → test bs ≡ true → some_end test bs ≡ true
end_here test [] h = h
end_here test (b ∷ bs) h = or_left (test (b ∷ bs)) (some_end test bs) h

end_twice : (test : List ℕ → Bool) (bs : List ℕ) → some_end (some_end test) bs ≡ true → some_end test bs ≡ true
end_twice test [] h = h
end_twice test (b ∷ bs) h =
    or_elim (some_end test (b ∷ bs)) (some_end (some_end test) bs) (λ e. e) (λ e. or_right (test (b ∷ bs)) (some_end test bs) (end_twice test bs e)) h

end_behind : (test : ℕ → Bool) (ps : List Piece) (bs : List ℕ) → some_end (matching (one test ∷ ps)) bs ≡ true → some_end (matching ps) bs ≡ true
end_behind test ps [] h = cc
end_behind test ps (c ∷ cs) h =
    or_right (matching ps (c ∷ cs)) (some_end (matching ps) cs)
    (or_elim (test c && matching ps cs) (some_end (matching (one test ∷ ps)) cs)
    (λ e. end_here (matching ps) cs (and_right (test c) (matching ps cs) e)) (λ e. end_behind test ps cs e) h)

pub step_value : (p : Piece) (ps : List Piece) (b : ℕ) (bs : List ℕ) → is_run p ≡ false → passes_piece p b ≡ true → matching (p ∷ ps) (b ∷ bs) ≡ matching ps bs
step_value run ps b bs h pass = cc
step_value (one test) ps b bs h pass = ap (λ v. v && matching ps bs) pass

pub step_leads : (p : Piece) (ps : List Piece) (b : ℕ) (bs : List ℕ) → is_run p ≡ false → some_end (matching (p ∷ ps)) (b ∷ bs) ≡ true → some_end (matching ps) bs ≡ true
step_leads run ps b bs h e = cc
step_leads (one test) ps b bs h e =
    or_elim (test b && matching ps bs) (some_end (matching (one test ∷ ps)) bs)
    (λ m. end_here (matching ps) bs (and_right (test b) (matching ps bs) m)) (λ m. end_behind test ps bs m) e

pub run_leads : (p : Piece) (ps : List Piece) (bs : List ℕ) → is_run p ≡ true → some_end (matching (p ∷ ps)) bs ≡ true → rest_matches (p ∷ ps) bs ≡ true
run_leads run ps bs h e = end_twice (matching ps) bs e
run_leads (one test) ps bs h e = cc

-- The first end that fits decides.
pub first_value : (test : List ℕ → Bool) (bs : List ℕ) (r : Bool) → test bs ≡ r → (some_end test bs ≡ true → r ≡ true) → some_end test bs ≡ r
first_value test bs r e leads = agree (some_end test bs) r (λ h. end_here test bs (e ∙ h)) leads

or_false : (a : Bool) → a ≡ (a || false)
or_false true = refl
or_false false = refl

-- Whether a byte is a member, by the bytes after the first member.
abbrev pub member_of : Option (ℕ × List ℕ) → ℕ → List ℕ → ℕ → Bool
member_of None a set x = x == a || is_in set x
member_of (Some (c, set)) a bs x = (nat_le a x && nat_le x c) || is_in set x

-- A set, by its first member.
pub member_first : (a : ℕ) (bs : List ℕ) (x : ℕ) → is_in (a ∷ bs) x ≡ member_of (range_behind bs) a bs x
member_first a [] x = or_false (x == a)
member_first a (b ∷ []) x = refl
member_first a (b ∷ c ∷ set) x =
    elim (b == 45) as (λ v. cond v ((nat_le a x && nat_le x c) || is_in set x) (x == a || is_in (b ∷ c ∷ set) x) ≡ member_of (cond v (Some (c, set)) None) a (b ∷ c ∷ set) x)
    [ true ↦ refl | false ↦ refl ]

-- More pieces in front.
abbrev pub with_pieces : List Piece → Option (List Piece) → Option (List Piece)
with_pieces [] rest = rest
with_pieces (p ∷ ps) rest = with_piece p (with_pieces ps rest)

pub with_pieces_append : (ps : List Piece) (q : Piece) (rest : Option (List Piece)) → with_pieces (ps ++ q ∷ []) rest ≡ with_pieces ps (with_piece q rest)
with_pieces_append [] q rest = refl
with_pieces_append (p ∷ ps) q rest = ap (with_piece p) (with_pieces_append ps q rest)

pub with_pieces_none : (ps : List Piece) → with_pieces ps None ≡ None
with_pieces_none [] = refl
with_pieces_none (p ∷ ps) = ap (with_piece p) (with_pieces_none ps)

pub with_pieces_some : (ps : List Piece) → with_pieces ps (Some []) ≡ Some ps
with_pieces_some [] = refl
with_pieces_some (p ∷ ps) = ap (with_piece p) (with_pieces_some ps)

test_false : (a b : ℕ) → (a ≡ b → ⊥) → (a == b) ≡ false
test_false a b h = grind (arith, nat_tests)

pub opened : (b : ℕ) (bs : List ℕ) → b ≡ 91 → pieces_in None (b ∷ bs) ≡ pieces_in (Some []) bs
opened b bs h = ap (λ v. pieces_in None (v ∷ bs)) h

pub plain : (b : ℕ) (bs : List ℕ) → (b ≡ 91 → ⊥) → pieces_in None (b ∷ bs) ≡ with_piece (piece_of_byte b) (pieces_in None bs)
plain b bs h = ap (λ v. cond v (pieces_in (Some []) bs) (with_piece (piece_of_byte b) (pieces_in None bs))) (test_false b 91 h)

pub pattern_ends : (bs : List ℕ) → length bs ≡ 0 → pieces_in None bs ≡ Some []
pattern_ends [] h = refl
pattern_ends (b ∷ bs) h = absurd (omega arith)

-- A member of a set, by the bytes after the first member.
pub member_none : (a : ℕ) (bs : List ℕ) (x : ℕ) → None ≡ range_behind bs → (x ≡ a → ⊥) → is_in (a ∷ bs) x ≡ is_in bs x
member_none a bs x none other = member_first a bs x ∙ ap (λ v. member_of v a bs x) (sym none) ∙ ap (λ v. v || is_in bs x) (test_false x a other)

pub member_some : (a c : ℕ) (bs set : List ℕ) (x : ℕ) → Some (c, set) ≡ range_behind bs → (nat_le a x && nat_le x c) ≡ false → is_in (a ∷ bs) x ≡ is_in set x
member_some a c bs set x some outside = member_first a bs x ∙ ap (λ v. member_of v a bs x) (sym some) ∙ ap (λ v. v || is_in set x) outside

pub pattern_breaks : (stop : Stop) (ps : List Piece) (bytes text : List ℕ) → with_pieces ps (pieces_in None bytes) ≡ pieces_in None text → Stopped stop (PieceSays bytes) → Stopped stop (PatternSays text)
pattern_breaks Memory ps bytes text same h = tt
pattern_breaks (Fault kind) ps bytes text same h = (sym same ∙ ap (with_pieces ps) h.0 ∙ with_pieces_none ps, h.1)
