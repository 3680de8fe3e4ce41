use Rattle.std.proofs.Common.{◌+◌, ◌++◌, ◌∷◌, [], true, false, get_or, ap, sym, ◌∙◌}
use Rattle.line_words.specs.Quotes.{escape_of, with_bytes, quoted}
use Rattle.line_words.proofs.QuoteLaws.{quoted_end, quoted_same, quoted_escape, quoted_backslash, quoted_more}
use Rattle.line_words.proofs.quotes.read_escaped.Goals as goal
use Rattle.line_words.proofs.quotes.read_escaped.Goals.{then-escaped+in_ok-push_escaped, else-escaped+else-is_quote+then-is_backslash, else-escaped+else-is_quote+else-is_backslash+in_ok-push}

pub loop-i-preserved : goal.loop-i-preserved
loop-i-preserved c =
    let line = c.args.line.now in
    let i = c.loop-i.i in
    let old = c.loop-i.text.items in
    let whole = with_bytes c.args.seen.now (quoted false line) in
    elim c.if-escaped.branch [
      | then-escaped+in_ok-push_escaped w ↦
          quoted_same line (old ++ escape_of (get_or line i 0)) c.if-escaped.text.items (i + 1) false c.if-escaped.escaped whole
          (ap (λ v. v.items) w.text-is ∙ w.in_ok-push_escaped.ensures.value) w.escaped-is
          (quoted_escape line old i c.loop-i-test.true c.loop-i.escaped whole c.loop-i.invariant w.if-escaped.true)
      | else-escaped+else-is_quote+then-is_backslash w ↦
          quoted_same line old c.if-escaped.text.items (i + 1) true c.if-escaped.escaped whole
          (ap (λ v. v.items) w.text-is) w.escaped-is
          (quoted_backslash line old i c.loop-i-test.true c.loop-i.escaped whole c.loop-i.invariant w.if-escaped.false (sym w.is_quote.ensures.value ∙ w.if-is_quote.false) (sym w.is_backslash.ensures.value ∙ w.if-is_backslash.true))
      | else-escaped+else-is_quote+else-is_backslash+in_ok-push w ↦
          quoted_same line (old ++ get_or line i 0 ∷ []) c.if-escaped.text.items (i + 1) false c.if-escaped.escaped whole
          (ap (λ v. v.items) w.text-is ∙ w.in_ok-push.ensures.items) (w.escaped-is ∙ w.if-escaped.false)
          (quoted_more line old i c.loop-i-test.true c.loop-i.escaped whole c.loop-i.invariant w.if-escaped.false (sym w.is_quote.ensures.value ∙ w.if-is_quote.false) (sym w.is_backslash.ensures.value ∙ w.if-is_backslash.false))
    ]

pub returns : goal.returns
returns c = quoted_end c.args.line.now c.loop-i.text.items c.loop-i.i c.loop-i.escaped (with_bytes c.args.seen.now (quoted false c.args.line.now)) c.loop-i-test.false c.loop-i.invariant
