-- The lines of a programs file in order.
use Rattle.std.proofs.Common.{◌≡◌, ℕ, ◌+◌, ◌<◌, ◌≤◌, Bool, true, false, not, cond, List, [], ◌∷◌, ◌++◌, length, map, get_or, drop, Option, None, Some, is_some, refl, ap, sym, ◌∙◌, Bor}
use Rattle.std.specs.List.{list_any}
use Rattle.std.specs.Option.{option_map}
use Rattle.std.proofs.lemmas.List.{drop_all, drop_more}
use Rattle.program_lists.specs.Programs.{Programs, programs_in, reads}
use Rattle.fault_causes.specs.RejectedLines.{rejected_after, shares_program}

pub some_map : {A B : Type 0} (f : A → B) (o : Option A) → is_some o ≡ is_some (option_map f o)
some_map f None = refl
some_map f (Some x) = refl

-- The rest of the lines, from one of them on.
pub from_line : (earlier : List Programs) (lines : List (Bor (List ℕ))) (i : ℕ) (d : Bor (List ℕ)) → i < length lines
    → rejected_after earlier (map (λ line. line.now) (drop i lines)) ≡ rejected_after earlier ((get_or lines i d).now ∷ map (λ line. line.now) (drop (i + 1) lines))
from_line earlier lines i d lt = ap (λ rest. rejected_after earlier (map (λ line. line.now) rest)) (drop_more lines i d lt)

pub bad_line : (earlier : List Programs) (line : List ℕ) (lines : List (List ℕ)) → reads line ≡ false → rejected_after earlier (line ∷ lines) ≡ Some (length earlier, true)
bad_line earlier line lines bad =
    ap (λ v. cond (not v) (Some (length earlier, true)) (cond (list_any (λ before. shares_program before (programs_in line)) earlier) (Some (length earlier, false)) (rejected_after (earlier ++ programs_in line ∷ []) lines))) bad

-- A line that is read, by whether it is about a program of an earlier one.
pub read_line : (earlier : List Programs) (line : List ℕ) (lines : List (List ℕ)) (list : Programs) (taken : Bool)
    → reads line ≡ true → programs_in line ≡ list → list_any (λ before. shares_program before list) earlier ≡ taken
    → rejected_after earlier (line ∷ lines) ≡ cond taken (Some (length earlier, false)) (rejected_after (earlier ++ list ∷ []) lines)
read_line earlier line lines list taken good is any =
    ap (λ v. cond (not v) (Some (length earlier, true)) (cond (list_any (λ before. shares_program before (programs_in line)) earlier) (Some (length earlier, false)) (rejected_after (earlier ++ programs_in line ∷ []) lines))) good
    ∙ ap (λ (p : Programs). cond (list_any (λ before. shares_program before p) earlier) (Some (length earlier, false)) (rejected_after (earlier ++ p ∷ []) lines)) is
    ∙ ap (λ v. cond v (Some (length earlier, false)) (rejected_after (earlier ++ list ∷ []) lines)) any

pub good_line : (line : List ℕ) (found : Option Programs) (list : Programs) → is_some found ≡ reads line → found ≡ Some list → reads line ≡ true
good_line line found list read is = sym read ∙ ap is_some is

pub list_of : (line : List ℕ) (found : Option Programs) (list : Programs) → option_map (λ _. programs_in line) found ≡ found → found ≡ Some list → programs_in line ≡ list
list_of line found list told is = let same : Some (programs_in line) ≡ Some list = ap (option_map (λ _. programs_in line)) (sym is) ∙ told ∙ is in cc

pub no_line : (line : List ℕ) (found : Option Programs) → is_some found ≡ reads line → found ≡ None → reads line ≡ false
no_line line found read is = sym read ∙ ap is_some is

pub no_lines : (earlier : List Programs) (lines : List (Bor (List ℕ))) (i : ℕ) → length lines ≤ i → rejected_after earlier (map (λ line. line.now) (drop i lines)) ≡ None
no_lines earlier lines i le = ap (λ rest. rejected_after earlier (map (λ line. line.now) rest)) (drop_all i lines le)
