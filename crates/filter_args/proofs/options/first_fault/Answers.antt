use Rattle.std.proofs.Common.{◌≡◌, ◌<◌, ◌≤◌, None, length, subst, ap, sym, ◌∙◌, arith, rules}
use Rattle.std.proofs.lemmas.Bool.Decides.{nat_tests}
use Rattle.std.specs.Result.{result_err}
use Rattle.line_words.specs.declared.quoting.Quoting.TheVariants.{Bare}
use Rattle.filter_args.specs.OptionTexts.{word_here, words_of, pairs_in, joined, reading, with_word}
use Rattle.filter_args.proofs.WordLaws.{after_word_shorter, fault_told, ok_value, pair_told}
use Rattle.filter_args.proofs.options.first_fault.Goals as goal

pub returns-in-Some : goal.returns-in-Some
returns-in-Some c =
    let rest = c.loop-rest.rest.now in
    let (qs, read) = c.loop-rest.invariant.read in
    let told = ap (λ w. result_err (with_word qs w)) (sym c.split_word.ensures.word) ∙ sym (c.in-Some.ensures qs) in
    sym (fault_told qs rest c.in-Some.fault (reading c.args.text.now) told read)

pub loop-rest-smaller : goal.loop-rest-smaller
loop-rest-smaller c =
    let rest = c.loop-rest.rest.now in
    let some : 1 ≤ length rest = grind (arith, nat_tests) in
    subst (λ l. length l < length rest) (sym c.split_word.ensures.rest) (after_word_shorter rest some)

pub loop-rest-preserved : goal.loop-rest-preserved
loop-rest-preserved c =
    let rest = c.loop-rest.rest.now in
    let (qs, read) = c.loop-rest.invariant.read in
    let none : result_err (with_word qs (word_here Bare rest)) ≡ None = ap (λ w. result_err (with_word qs w)) (sym c.split_word.ensures.word) ∙ sym (c.word_fault.ensures qs) ∙ c.in_default.is in
    let (rs, told) = ok_value (with_word qs (word_here Bare rest)) none in
    record {
      utf8 = search rules;
      read = (rs, ap (λ l. joined rs (pairs_in (words_of l))) c.split_word.ensures.rest ∙ pair_told qs rs rest (reading c.args.text.now) told read);
    }
