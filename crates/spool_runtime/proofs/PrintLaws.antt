-- Lines that are printed in order.
use Rattle.std.proofs.Common.{◌≡◌, ◌∙◌, ℕ, List, [], ◌∷◌, ◌++◌, Option, None, Some, Result, Ok, Err, IfErr, IfOk, OnErr, refl, sym, ap, subst, inl, inr}
use Rattle.std.proofs.lemmas.List.{append_assoc, append-nil, flat_map_more}
use Rattle.std.specs.List.{AllZip, flat_map}
use Rattle.std.specs.Io.KnownBytes.{Appends}
use Rattle.std.proofs.KnownBytes.{Appends-nil, Appends-trans}
use Rattle.program_lists.specs.declared.kinds.BackendNameKind.{BackendNameKind}
use Rattle.program_lists.specs.declared.line.Listed.{Listed}
use Rattle.program_lists.specs.declared.line.ListedProgram.{ListedProgram}
use Rattle.spool_runtime.specs.DeviceLines.{ArePrinted, IsDevice, Knows, PrintsDevices, PrintsIfDevice, PrintsTold, lines_of, lines_told, with_feed}

joined : (line rest more text : List ℕ) → text ≡ with_feed line ++ rest → text ++ more ≡ with_feed line ++ (rest ++ more)
joined line rest more text e = ap (λ t. t ++ more) e ∙ append_assoc (with_feed line) rest more

printed_more : (lines : List (List ℕ)) (line text : List ℕ) → ArePrinted lines text → IsDevice line → ArePrinted (lines ++ line ∷ []) (text ++ with_feed line)
printed_more [] line text e is = inl (is, record { rest = []; whole = ap (λ t. t ++ with_feed line) e ∙ sym (append-nil (with_feed line)); are = refl })
printed_more (l ∷ ls) line text (inl (first, h)) is = inl (first, record { rest = h.rest ++ with_feed line; whole = joined l h.rest (with_feed line) text h.whole; are = printed_more ls line h.rest h.are is })
printed_more (l ∷ ls) line text (inr (none, h)) is = inr (none, printed_more ls line text h is)

skipped_more : (lines : List (List ℕ)) (line text : List ℕ) → ArePrinted lines text → ¬ (IsDevice line) → ArePrinted (lines ++ line ∷ []) text
skipped_more [] line text e other = inr (other, e)
skipped_more (l ∷ ls) line text (inl (first, h)) other = inl (first, record { rest = h.rest; whole = h.whole; are = skipped_more ls line h.rest h.are other })
skipped_more (l ∷ ls) line text (inr (none, h)) other = inr (none, skipped_more ls line text h other)

pub prints_more : (lines : List (List ℕ)) (line : List ℕ) (a b c : Option (List ℕ)) → PrintsDevices lines a b → PrintsIfDevice line b c → PrintsDevices (lines ++ line ∷ []) a c
prints_more lines line a b c h (inl (is, wrote)) =
    record { text = h.text ++ with_feed line; are = printed_more lines line h.text h.are is; wrote = Appends-trans a b c h.text (with_feed line) h.wrote wrote }
prints_more lines line a b c h (inr (other, kept)) =
    record { text = h.text; are = skipped_more lines line h.text h.are other; wrote = subst (λ x. Appends a x h.text) (sym kept) h.wrote }

both : (xs ys : List (List ℕ)) (s t : List ℕ) → ArePrinted xs s → ArePrinted ys t → ArePrinted (xs ++ ys) (s ++ t)
both [] ys s t e h = subst (λ x. ArePrinted ys (x ++ t)) (sym e) h
both (x ∷ xs) ys s t (inl (is, g)) h = inl (is, record { rest = g.rest ++ t; whole = joined x g.rest t s g.whole; are = both xs ys g.rest t g.are h })
both (x ∷ xs) ys s t (inr (none, g)) h = inr (none, both xs ys s t g h)

-- The lines that a backend prints follow the lines before.
lines_more : (lines others : List (List ℕ)) (a b c : Option (List ℕ)) → PrintsDevices lines a b → PrintsDevices others b c → PrintsDevices (lines ++ others) a c
lines_more lines others a b c h more = record {
  text = h.text ++ more.text;
  are = both lines others h.text more.text h.are more.are;
  wrote = Appends-trans a b c h.text more.text h.wrote more.wrote;
}

-- Appends one element to each list.
zip_more : {A B : Type 0} (R : A → B → Type 0) (xs : List A) (ys : List B) (x : A) (y : B) → AllZip R xs ys → R x y → AllZip R (xs ++ x ∷ []) (ys ++ y ∷ [])
zip_more R [] [] x y h r = (r, tt)
zip_more R [] (b ∷ ys) x y h r = absurd h
zip_more R (a ∷ xs) [] x y h r = absurd h
zip_more R (a ∷ xs) (b ∷ ys) x y h r = (h.0, zip_more R xs ys x y h.1 r)

-- One more backend has printed this.
pub tells_more : (tells : ListedProgram → Option (Option (List ℕ))) (backends : List (Listed BackendNameKind)) (backend : Listed BackendNameKind) (told : Option (List ℕ)) (a b c : Option (List ℕ))
    → PrintsTold tells backends a b → Knows (tells backend.program) told → PrintsDevices (lines_told told) b c → PrintsTold tells (backends ++ backend ∷ []) a c
tells_more tells backends backend told a b c h knows more =
    let lines : flat_map lines_told h.told ++ lines_told told ≡ flat_map lines_told (h.told ++ told ∷ []) = flat_map_more lines_told [] h.told told in
    record {
      told = h.told ++ told ∷ [];
      each = zip_more (λ (backend : Listed BackendNameKind) (text : Option (List ℕ)). Knows (tells backend.program) text) backends h.told backend told h.each knows;
      printed = subst (λ ls. PrintsDevices ls a c) lines (lines_more (flat_map lines_told h.told) (lines_told told) a b c h.printed more);
    }

-- The same for the result of asking a backend. Running out of memory ends the printing.
pub asked_more : {V E : Type 0} (text_of : V → List ℕ) (is_memory : E → Type 0) (asked : Result V E)
    (tells : ListedProgram → Option (Option (List ℕ))) (backends : List (Listed BackendNameKind)) (backend : Listed BackendNameKind) (a b c : Option (List ℕ))
    → PrintsTold tells backends a b
    → IfOk asked (λ v. Knows (tells backend.program) (Some (text_of v))) → IfErr asked (λ e. ¬ (is_memory e) → Knows (tells backend.program) None)
    → IfOk asked (λ v. PrintsDevices (lines_of (text_of v)) b c) → OnErr asked (c ≡ b) → IfErr asked (λ e. ¬ (is_memory e))
    → PrintsTold tells (backends ++ backend ∷ []) a c
asked_more text_of is_memory (Ok v) tells backends backend a b c h knows none lines nothing other =
    tells_more tells backends backend (Some (text_of v)) a b c h knows lines
asked_more text_of is_memory (Err e) tells backends backend a b c h knows none lines nothing other =
    let no_lines : PrintsDevices [] b c = record { text = []; are = refl; wrote = subst (λ x. Appends b x []) (sym nothing) (Appends-nil b) } in
    tells_more tells backends backend None a b c h (none other) no_lines

-- If the call succeeded although the backend reported nothing, memory did not run out.
pub no_memory : {V E U F : Type 0} (is_memory : E → Type 0) (asked : Result V E) (done : U) (fault : F)
    → IfErr asked (λ e. is_memory e → Ok done ≡ Err fault) → IfErr asked (λ e. ¬ (is_memory e))
no_memory is_memory (Ok v) done fault h = tt
no_memory is_memory (Err e) done fault h = λ was. let is = h was in absurd (cc)
