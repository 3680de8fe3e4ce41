-- The tokens of a line, in order.
use Rattle.std.proofs.Common.{◌≡◌, ℕ, zero, suc, ◌<◌, ◌≤◌, List, [], ◌∷◌, ◌++◌, length, map, refl, ap, sym, ◌∙◌, arith, Bool, true, false, append_assoc}
use Rattle.std.specs.Prelude.{◌==◌, Result, Ok, Err, IfOk}
use Rattle.std.proofs.lemmas.List.{map-append}
use Rattle.mime_rules.specs.declared.stop.Stop.{Stop}
use Rattle.mime_rules.specs.declared.stop.Stop.TheVariants.{Memory, Fault}
use Rattle.mime_rules.specs.RuleFields.{Stopped, EndsBy}
use Rattle.std.proofs.lemmas.Bool.Decides.{nat_tests}
use Rattle.spool_types.specs.declared.warning.WarningKind.{WarningKind}
use Rattle.mime_rules.specs.RuleReading.{read, wrong}
use Rattle.mime_rules.specs.Tokens.{Token, fault, token_at, with_token, tokens_within, tokens_of}

-- These bytes have these tokens, with enough steps.
abbrev pub TokensSay : List ℕ → List Token → Type 0
TokensSay bytes ts = (n : ℕ) → length bytes ≤ n → tokens_within n bytes ≡ ts

pub says_end : (bytes : List ℕ) → length bytes ≡ 0 → TokensSay bytes []
unfolding tokens_within
says_end [] h zero le = refl
says_end [] h (suc n) le = refl
says_end (b ∷ bs) h n le = absurd (omega arith)

pub says_token : (bytes rest : List ℕ) (t : Token) (ts : List Token) → token_at bytes ≡ read t rest → length rest < length bytes → TokensSay rest ts → TokensSay bytes (t ∷ ts)
unfolding tokens_within
says_token [] rest t ts is less says n le = absurd (omega arith)
says_token (b ∷ bs) rest t ts is less says zero le = absurd (omega arith)
says_token (b ∷ bs) rest t ts is less says (suc n) le = ap (with_token (tokens_within n)) is ∙ ap (λ v. t ∷ v) (says n (omega arith))

pub says_fault : (bytes : List ℕ) (kind : WarningKind) → 0 < length bytes → token_at bytes ≡ wrong kind → TokensSay bytes (fault kind ∷ [])
unfolding tokens_within
says_fault [] kind some is n le = absurd (omega arith)
says_fault (b ∷ bs) kind some is zero le = absurd (omega arith)
says_fault (b ∷ bs) kind some is (suc n) le = ap (with_token (tokens_within n)) is

pub says_all : (bytes : List ℕ) (ts : List Token) → TokensSay bytes ts → tokens_of bytes ≡ ts
unfolding tokens_of
says_all bytes ts says = says (length bytes) (omega arith)

pub pushed : {A B : Type 0} (f : A → B) (old longer : List A) (a : A) (bs : List B) → longer ≡ old ++ a ∷ [] → map f old ++ f a ∷ bs ≡ map f longer ++ bs
pushed f old longer a bs is = sym (ap (λ v. map f v ++ bs) is ∙ ap (λ v. v ++ bs) (map-append f old (a ∷ [])) ∙ append_assoc (map f old) (f a ∷ []) bs)

pub stop_ends : (stop : Stop) (old all : List Token) (bytes line : List ℕ) → 0 < length bytes → Stopped stop (λ r. token_at bytes ≡ r) → ((ts : List Token) → TokensSay bytes ts → TokensSay line (old ++ ts)) → EndsBy stop old all → all ≡ tokens_of line
stop_ends Memory old all bytes line some h inv ends = absurd ends
stop_ends (Fault kind) old all bytes line some h inv ends = ends ∙ sym (says_all line (old ++ fault kind ∷ []) (inv (fault kind ∷ []) (says_fault bytes kind some h)))

pub if_ok : {V E : Type 0} (r : Result V E) (P Q : V → Type 0) → ((v : V) → P v → Q v) → IfOk r P → IfOk r Q
if_ok (Ok v) P Q f h = f v h
if_ok (Err e) P Q f h = h

pub not_empty : (xs : List ℕ) (r : Bool) → r ≡ (length xs == 0) → r ≡ false → 0 < length xs
not_empty [] r e f = cc
not_empty (x ∷ xs) r e f = omega arith

pub is_empty : (xs : List ℕ) (r : Bool) → r ≡ (length xs == 0) → r ≡ true → length xs ≡ 0
is_empty xs r e f = grind (arith, nat_tests)
