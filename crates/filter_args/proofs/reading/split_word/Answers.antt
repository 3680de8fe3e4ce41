use Rattle.std.proofs.Common.{◌≡◌, ◌<◌, true, length, get_or, subst, sym, ◌∙◌, arith, IsUtf8}
use Rattle.std.proofs.lemmas.Str.{lead_after_ascii}
use Rattle.line_words.specs.Quoting.{is_cut}
use Rattle.filter_args.proofs.WordLaws.{cut_ascii}
use Rattle.filter_args.proofs.reading.split_word.Goals as goal

pub range_from-requires : goal.range_from-requires
range_from-requires c = λ _.
    let text = c.args.text.now in
    let i = c.loop-i.i in
    let cut : is_cut c.loop-i.place (get_or c.as_bytes-bytes.result.now i 0) ≡ true = sym c.is_cut.ensures ∙ c.if-is_cut.true in
    let small : get_or text i 0 < 128 = subst (λ l. get_or l i 0 < 128) c.as_bytes-bytes.ensures.value (cut_ascii c.loop-i.place _ cut) in
    let within : i < length text = subst (λ l. i < length l) c.as_bytes-bytes.ensures.value c.loop-i-test.true in
    (omega arith, lead_after_ascii text i (subst IsUtf8 c.as_bytes-bytes.ensures.value c.as_bytes-bytes.ensures.utf8) small)
