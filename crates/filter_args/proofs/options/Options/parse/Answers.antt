use Rattle.std.proofs.Common.{◌≡◌, ◌<◌, ◌≤◌, Ok, Some, length, subst, ap, sym, ◌∙◌, arith, rules}
use Rattle.std.proofs.lemmas.Bool.Decides.{nat_tests}
use Rattle.std.specs.Result.{result_err}
use Rattle.filter_args.specs.declared.fault.OptionFault.TheVariants.{Memory}
use Rattle.line_words.specs.declared.quoting.Quoting.TheVariants.{Bare}
use Rattle.filter_args.specs.OptionTexts.{word_here, words_of, pairs_in, joined, reading, with_word}
use Rattle.filter_args.specs.OptionFields.{pairs_of}
use Rattle.filter_args.proofs.PairLaws.{with_word-options}
use Rattle.filter_args.proofs.WordLaws.{after_word_shorter, fault_is, ok_from, no_fault_yet, pair_told, reading_said}
use Rattle.filter_args.proofs.options.Options.parse.Goals as goal

pub returns-in-Some-clause-value : goal.returns-in-Some-clause-value
returns-in-Some-clause-value c = fault_is (reading c.args.text.now) c.in-Some.fault (sym c.in-Some.ensures)

pub returns-in-Some-clause-memory : goal.returns-in-Some-clause-memory
returns-in-Some-clause-memory c = λ e.
    let same : c.in-Some.fault ≡ Memory = cc in
    absurd (reading_said c.args.text.now (sym c.first_fault.ensures ∙ c.in-Some.is ∙ ap (λ f. Some f) same))

pub returns-in_err-add_word-clause-memory : goal.returns-in_err-add_word-clause-memory
returns-in_err-add_word-clause-memory c = λ e. ok_from (reading c.args.text.now) (sym c.first_fault.ensures ∙ c.in_default.is)

pub add_word-requires : goal.add_word-requires
add_word-requires c =
    let qs = pairs_of c.loop-rest.pairs.entries in
    ap (λ w. result_err (with_word qs w)) c.split_word.ensures.word ∙ no_fault_yet qs c.loop-rest.rest.now (reading c.args.text.now) (sym c.first_fault.ensures ∙ c.in_default.is) c.loop-rest.invariant.read

pub loop-rest-smaller : goal.loop-rest-smaller
loop-rest-smaller c =
    let rest = c.loop-rest.rest.now in
    let some : 1 ≤ length rest = grind (arith, nat_tests) in
    subst (λ l. length l < length rest) (sym c.split_word.ensures.rest) (after_word_shorter rest some)

pub loop-rest-preserved : goal.loop-rest-preserved
loop-rest-preserved c =
    let qs = pairs_of c.loop-rest.pairs.entries in
    let rs = pairs_of c.add_word.new.pairs.entries in
    let rest = c.loop-rest.rest.now in
    let all = reading c.args.text.now in
    let told : with_word qs (word_here Bare rest) ≡ Ok rs = ap (with_word qs) (sym c.split_word.ensures.word) ∙ c.in_ok-add_word.ensures.value in
    record {
      utf8 = search rules;
      options = with_word-options qs (word_here Bare rest) rs c.loop-rest.invariant.options told;
      read = ap (λ l. joined rs (pairs_in (words_of l))) c.split_word.ensures.rest ∙ pair_told qs rs rest all told c.loop-rest.invariant.read;
    }
