use Rattle.std.proofs.Common.{◌≡◌, ℕ, ◌<◌, List, length, map, get_or, take, Ok, refl, ap, sym, ◌∙◌, Bor, below_more}
use Rattle.std.proofs.lemmas.List.{take_all}
use Rattle.ipp_printers.specs.PrinterLines.{line_in}
use Rattle.ipp_printers.specs.PrinterSections.{Sections, sections_of, fault_after, fault_at, with_line}
use Rattle.ipp_printers.specs.declared.line.Line.{Line}
use Rattle.ipp_printers.proofs.LineLaws.{nowhere, says, lines_said, fault_here, sections_more, all_faultless}
use Rattle.ipp_printers.proofs.list.PrinterList.read.Goals as goal

-- The fault of the line, by those of the lines of the text.
after : {list : Sections} {meaning : Line} (lines : List (Bor (List ℕ))) (i : ℕ) → i < length lines → list ≡ sections_of (map says (take i lines)) → meaning ≡ says (get_or lines i nowhere)
    → fault_after list meaning ≡ fault_at (map says lines) i
after {list} {meaning} lines i less sections is =
    ap (λ (s : Sections). fault_after s meaning) sections ∙ ap (fault_after (sections_of (map says (take i lines)))) is ∙ sym (fault_here lines i nowhere less)

pub returns-in-Some-clause-fault : goal.returns-in-Some-clause-fault
returns-in-Some-clause-fault c =
    let lines = c.deref-line-items.result.now in
    let i = c.loop-i.i in
    let said = lines_said lines c.args.text.now (ap (map (λ line. line.now)) c.deref-line-items.ensures.value ∙ c.in_ok-lines_of.ensures) in
    let here = after lines i c.loop-i-test.true c.loop-i.invariant.sections (c.in_ok-meaning.ensures ∙ ap line_in c.as_bytes.ensures.value) in (
      i,
      refl,
      ap (λ (l : List Line). fault_at l i) (sym said) ∙ sym here ∙ sym c.in_ok-fault.ensures.fault ∙ c.in-Some.is,
      λ before less. ap (λ (l : List Line). fault_at l before) (sym said) ∙ c.loop-i.invariant.faultless before less,
    )

pub loop-i-preserved : goal.loop-i-preserved
loop-i-preserved c =
    let lines = c.deref-line-items.result.now in
    let i = c.loop-i.i in
    let is = c.in_ok-meaning.ensures ∙ ap line_in c.as_bytes.ensures.value in
    let here = after lines i c.loop-i-test.true c.loop-i.invariant.sections is in
    record {
      sections =
          c.add.ensures.added (c.in_ok-fault.was ∙ ap (λ o. Ok o) c.in_default.is)
          ∙ ap (λ (s : Sections). with_line s c.in_ok-meaning.meaning) c.loop-i.invariant.sections
          ∙ ap (with_line (sections_of (map says (take i lines)))) is
          ∙ sections_more lines i nowhere c.loop-i-test.true;
      faultless = below_more _ _ c.loop-i.invariant.faultless (sym here ∙ sym c.in_ok-fault.ensures.fault ∙ c.in_default.is);
    }

pub returns-clause-value : goal.returns-clause-value
returns-clause-value c =
    let lines = c.deref-line-items.result.now in
    c.loop-i.invariant.sections
    ∙ ap sections_of
    (ap (map says) (take_all c.loop-i.i lines c.loop-i-test.false) ∙ lines_said lines c.args.text.now (ap (map (λ line. line.now)) c.deref-line-items.ensures.value ∙ c.in_ok-lines_of.ensures))

pub returns-clause-reads : goal.returns-clause-reads
returns-clause-reads c = λ index.
    let lines = c.deref-line-items.result.now in
    ap (λ (l : List Line). fault_at l index) (sym (lines_said lines c.args.text.now (ap (map (λ line. line.now)) c.deref-line-items.ensures.value ∙ c.in_ok-lines_of.ensures)))
    ∙ all_faultless lines c.loop-i.i c.loop-i-test.false c.loop-i.invariant.faultless index
