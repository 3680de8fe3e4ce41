-- Laws of every report.
use Rattle.std.proofs.Common.{◌≡◌, ℕ, ◌+◌, ◌-◌, ◌≤◌, ◌&&◌, ◌==◌, Bool, true, false, cond, Option, None, Some, List, [], ◌∷◌, ◌++◌, leb, refl, ap, sym, ◌∙◌, arith}
use Rattle.std.proofs.lemmas.Bool.{leb-true, and_parts, and_from}
use Rattle.std.proofs.lemmas.List.{append_assoc, append-nil}
use Rattle.spool_types.specs.declared.effect.Effect.{Effect}
use Rattle.std.proofs.lemmas.List.Folds.{list_all-append}
use Rattle.std.specs.List.{list_all, flat_map, filter_map, cons_option}
use Rattle.std.specs.Option.{option_to_list}
use Rattle.spool_types.specs.declared.effect.Effect.TheVariants.{Pages, TotalPages, SetReasons, AddReasons, DropReasons, Attribute, Message}
use Rattle.line_words.specs.Blanks.{first_word, after_word, is_nothing}
use Rattle.spool_types.specs.Values.{is_attribute_name}
use Rattle.spool_types.specs.Effects.{effect_size, effects_size, names_enough, AreEffects}
use Rattle.stderr_lines.specs.LineEffects.{kept_line, prefix_of, shown_text, effects_by, effects_behind, line_effects, lines_of, effects_of}
use Rattle.stderr_lines.specs.declared.prefix.Prefix.{Prefix}
use Rattle.stderr_lines.specs.declared.prefix.Prefix.TheVariants as prefixes
use Rattle.stderr_lines.specs.Cuts.{cut_at}
use Rattle.stderr_lines.specs.PageLines.{number_of, is_total, pages_of, total_of, two_words, page_effect}
use Rattle.stderr_lines.specs.ReasonLines.{reasons_of, unless_none, state_effect}
use Rattle.line_words.specs.Quoting.{said, pieces}
use Rattle.line_words.specs.declared.quoting.Quoting.TheVariants.{Bare}
use Rattle.stderr_lines.specs.AttributeLines.{pair_of, cut_pair, attribute_of, attribute_effects}
use Rattle.stderr_lines.specs.Reports.{fitting, report_of}
use Rattle.stderr_lines.specs.PendingEffects.{Pending, TakesAll, joined_pieces, to_come}

taken : (old new : Pending) (pieces : List (List ℕ)) → TakesAll old pieces new → (more : List ℕ) → to_come old (joined_pieces pieces ++ more) ≡ to_come new more
taken old new [] e more = ap (λ p. to_come p more) (sym e)
taken old new (piece ∷ pieces) (next, first, others) more =
    ap (to_come old) (append_assoc piece (joined_pieces pieces) more) ∙ first (joined_pieces pieces ++ more) ∙ taken next new pieces others more

pub all_taken : (begun read : Pending) (pieces : List (List ℕ)) → ((text : List ℕ) → to_come begun text ≡ report_of text) → TakesAll begun pieces read → to_come read [] ≡ report_of (joined_pieces pieces)
all_taken begun read pieces whole took = sym (taken begun read pieces took []) ∙ ap (to_come begun) (append-nil (joined_pieces pieces)) ∙ whole (joined_pieces pieces)

fitting_size : (room : ℕ) (es : List Effect) → effects_size (fitting room es) ≤ room
fitting_size room [] = omega arith
fitting_size room (e ∷ es) =
    (elim (leb (effect_size e) room) as (λ v. leb (effect_size e) room ≡ v → effects_size (cond v (e ∷ fitting (room - effect_size e) es) []) ≤ room) [
      | true ↦ λ h. let l = leb-true (effect_size e) room h in let f = fitting_size (room - effect_size e) es in omega arith
      | false ↦ λ h. omega arith
    ]) refl

-- ## Each effect names at least one reason

abbrev Enough : List Effect → Type 0
Enough es = list_all names_enough es ≡ true

abbrev EnoughAny : Option Effect → Type 0
EnoughAny o = Enough (option_to_list o)

either : (o p : Option Effect) (v : Bool) → EnoughAny o → EnoughAny p → EnoughAny (cond v o p)
either o p true h k = h
either o p false h k = k

enough_pages : (page copies : Option ℕ) → EnoughAny (pages_of page copies)
enough_pages None None = refl
enough_pages None (Some copies) = refl
enough_pages (Some page) None = refl
enough_pages (Some page) (Some copies) = refl

enough_total : (pages : Option ℕ) → EnoughAny (total_of pages)
enough_total None = refl
enough_total (Some pages) = refl

enough_two : (first second : List ℕ) → EnoughAny (two_words first second)
enough_two first second =
    either (total_of (number_of second)) (pages_of (number_of first) (number_of second)) (is_total first) (enough_total (number_of second)) (enough_pages (number_of first) (number_of second))

enough_page : (text : List ℕ) → EnoughAny (page_effect text)
enough_page text =
    let first = first_word text in
    let second = first_word (after_word text) in
    either (two_words first second) None (is_nothing (after_word (after_word text))) (enough_two first second) refl

enough_added : (words : List (List ℕ)) → EnoughAny (unless_none (λ words. AddReasons words) words)
enough_added [] = refl
enough_added (word ∷ words) = refl

enough_dropped : (words : List (List ℕ)) → EnoughAny (unless_none (λ words. DropReasons words) words)
enough_dropped [] = refl
enough_dropped (word ∷ words) = refl

enough_state : (text : List ℕ) → EnoughAny (state_effect text)
enough_state [] = refl
enough_state (b ∷ bs) =
    let sets : Option Effect = Some (SetReasons (reasons_of (b ∷ bs))) in
    let drops = unless_none (λ words. DropReasons words) (reasons_of bs) in
    either (unless_none (λ words. AddReasons words) (reasons_of bs)) (cond (b == 45) drops sets) (b == 43)
    (enough_added (reasons_of bs)) (either drops sets (b == 45) (enough_dropped (reasons_of bs)) refl)

enough_pair : (cut : Option (List ℕ × List ℕ)) → EnoughAny (cut_pair cut)
enough_pair None = refl
enough_pair (Some (name, value)) = either (Some (Attribute (record { name = name; value = said Bare value }))) None (is_attribute_name name) refl refl

enough_option : (o : Option Effect) (es : List Effect) → EnoughAny o → Enough es → Enough (cons_option o es)
enough_option None es h k = k
enough_option (Some e) es h k = and_from (names_enough e) (list_all names_enough es) (and_parts (names_enough e) true h).0 k

enough_attributes : (words : List (List ℕ)) → Enough (filter_map attribute_of words)
enough_attributes [] = refl
enough_attributes (word ∷ words) = enough_option (attribute_of word) (filter_map attribute_of words) (enough_pair (cut_at 61 word)) (enough_attributes words)

enough_by : (prefix : Prefix) (text : List ℕ) → Enough (effects_by prefix text)
enough_by prefixes.Silent text = refl
enough_by prefixes.Page text = enough_page text
enough_by prefixes.State text = enough_state text
enough_by prefixes.Attr text = enough_attributes (pieces Bare text)
enough_by (prefixes.Level level) text = refl

enough_behind : (cut : Option (List ℕ × List ℕ)) → Enough (effects_behind cut)
enough_behind None = refl
enough_behind (Some (name, rest)) = enough_by (prefix_of name) (shown_text rest)

enough_both : (es fs : List Effect) → Enough es → Enough fs → Enough (es ++ fs)
enough_both es fs h k = list_all-append names_enough es fs ∙ ap (λ v. v && list_all names_enough fs) h ∙ k

enough_lines : (lines : List (List ℕ)) → Enough (flat_map (λ line. line_effects (kept_line line)) lines)
enough_lines [] = refl
enough_lines (line ∷ lines) = enough_both (line_effects (kept_line line)) (flat_map (λ line. line_effects (kept_line line)) lines) (enough_behind (cut_at 58 (kept_line line))) (enough_lines lines)

-- The effects that fit are the first ones.
enough_fitting : (room : ℕ) (es : List Effect) → Enough es → Enough (fitting room es)
enough_fitting room [] h = refl
enough_fitting room (e ∷ es) h =
    let (one, others) = and_parts (names_enough e) (list_all names_enough es) h in
    (elim (leb (effect_size e) room) as (λ v. Enough (cond v (e ∷ fitting (room - effect_size e) es) [])) [
      | true ↦ and_from (names_enough e) (list_all names_enough (fitting (room - effect_size e) es)) one (enough_fitting (room - effect_size e) es others)
      | false ↦ refl
    ])

pub reported : (text : List ℕ) → AreEffects (report_of text).effects
reported text = record {
  enough = enough_fitting 16384 (effects_of text) (enough_lines (lines_of text));
  short = fitting_size 16384 (effects_of text);
}
