-- Effects that are tallied one at a time.
use Rattle.std.proofs.Common.{◌≡◌, ℕ, suc, ◌+◌, ◌-◌, ◌≤◌, Bool, true, false, cond, min, List, [], ◌∷◌, ◌++◌, length, leb, refl, ap, sym, ◌∙◌, arith, Option, None, Some}
use Rattle.std.proofs.lemmas.Bool.{lt-leb}
use Rattle.std.proofs.lemmas.List.{append_assoc, append-nil}
use Rattle.std.specs.List.{cons_option}
use Rattle.std.specs.Option.{option_to_list}
use Rattle.spool_types.specs.declared.effect.Effect.{Effect}
use Rattle.spool_types.specs.declared.effect.Effect.TheVariants.{Pages, TotalPages, SetReasons, AddReasons, DropReasons, Attribute, Message}
use Rattle.spool_types.specs.Effects.{list_size, text_size, effect_size}
use Rattle.stderr_lines.specs.Reports.{Reported, fitting, left_out, counted}
use Rattle.stderr_lines.specs.PendingEffects.{Tally, told_after}
use Rattle.stderr_lines.specs.Tallies.{keep, keep_all, begun, joined}

-- Without room no effect fits.
no_room : (e : Effect) → leb (effect_size e) 0 ≡ false
no_room (Pages page copies) = refl
no_room (TotalPages pages) = refl
no_room (SetReasons words) = lt-leb (1 + list_size words) 0 (omega arith)
no_room (AddReasons words) = lt-leb (1 + list_size words) 0 (omega arith)
no_room (DropReasons words) = lt-leb (1 + list_size words) 0 (omega arith)
no_room (Attribute a) = lt-leb (1 + text_size a.name + text_size a.value) 0 (omega arith)
no_room (Message level text) = lt-leb (2 + text_size text) 0 (omega arith)

none_fitting : (es : List Effect) → fitting 0 es ≡ []
none_fitting [] = refl
none_fitting (e ∷ es) = ap (λ v. cond v (e ∷ fitting (0 - effect_size e) es) []) (no_room e)

abbrev told : List Effect → ℕ → Reported
told es n = record { effects = es; dropped = n }

same_told : (es fs : List Effect) (m n : ℕ) → es ≡ fs → m ≡ n → told es m ≡ told fs n
same_told es fs m n e f = ap (λ l. told l m) e ∙ ap (told fs) f

-- An effect that is retained or counted, and then the others.
pub told_keep : (t : Tally) (e : Effect) (es : List Effect) → told_after t (e ∷ es) ≡ told_after (keep t e) es
told_keep t e es = by_test (leb (effect_size e) t.room)
  where
    by_test : (v : Bool) →
        told (t.effects ++ cond v (e ∷ fitting (t.room - effect_size e) es) []) (counted (t.dropped + (length (e ∷ es) - length (cond v (e ∷ fitting (t.room - effect_size e) es) []))))
        ≡ told_after (cond v (record { effects = t.effects ++ e ∷ []; room = t.room - effect_size e; dropped = t.dropped }) (record { effects = t.effects; room = 0; dropped = counted (t.dropped + 1) })) es
    by_test true =
        let n = length (fitting (t.room - effect_size e) es) in
        same_told (t.effects ++ e ∷ fitting (t.room - effect_size e) es) ((t.effects ++ e ∷ []) ++ fitting (t.room - effect_size e) es) _ _
        (sym (append_assoc t.effects (e ∷ []) (fitting (t.room - effect_size e) es)))
        (let d : suc (length es) - suc n ≡ length es - n = omega arith in ap (λ k. counted (t.dropped + k)) d)
    by_test false =
        same_told (t.effects ++ []) (t.effects ++ fitting 0 es) _ _
        (ap (λ l. t.effects ++ l) (sym (none_fitting es)))
        (let f : left_out 0 es ≡ length es = ap (λ l. length es - length l) (none_fitting es) ∙ omega arith in
        let g : counted (t.dropped + (suc (length es) - 0)) ≡ counted (counted (t.dropped + 1) + length es) = omega arith in
        g ∙ ap (λ k. counted (counted (t.dropped + 1) + k)) (sym f))

-- Effects that are tallied, and then the others.
pub told_keep_all : (t : Tally) (es fs : List Effect) → told_after t (es ++ fs) ≡ told_after (keep_all t es) fs
told_keep_all t [] fs = refl
told_keep_all t (e ∷ es) fs = told_keep t e (es ++ fs) ∙ told_keep_all (keep t e) es fs

-- Effects in front of a report.
abbrev pub told_behind : List Effect → Reported → Reported
told_behind es r = record r { effects = es ++ r.effects }

pub told_joined : (t u : Tally) (es : List Effect) → told_after (joined t u) es ≡ told_behind t.effects (told_after u es)
told_joined t u es = ap (λ l. told l (counted (u.dropped + left_out u.room es))) (append_assoc t.effects u.effects (fitting u.room es))

-- No effect follows.
pub told_end : (t : Tally) → t.dropped ≤ 4294967295 → told_after t [] ≡ record { effects = t.effects; dropped = t.dropped }
told_end t le = same_told (t.effects ++ []) t.effects (counted (t.dropped + 0)) t.dropped (append-nil t.effects) (omega arith)

-- An effect, if any, and then the others.
pub keep_option : (t : Tally) (o : Option Effect) (es : List Effect) → keep_all t (cons_option o es) ≡ keep_all (keep_all t (option_to_list o)) es
keep_option t None es = refl
keep_option t (Some e) es = refl
