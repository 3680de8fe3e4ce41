use Rattle.std.proofs.Common.{rules, ◌≡◌, ℕ, Bool, true, false, List, [], map, get_or, take, ap, sym, ◌∙◌, Bor}
use Rattle.std.proofs.lemmas.List.{take_all}
use Rattle.program_lists.specs.ProgramLines.{words_of, said_by, said_in}
use Rattle.program_lists.specs.Programs.{Programs, programs_of, reads_of, fits, with_said}
use Rattle.program_lists.specs.declared.line.Said.{Said}
use Rattle.program_lists.proofs.ListLaws.{says, more_read, more_programs, unread, lines_said}
use Rattle.program_lists.proofs.list.ProgramList.read.Goals as goal

abbrev nowhere : Bor (List ℕ)
nowhere = record { ref_ptr = (0, 0); now = [] }

-- Whether the line fits, by the contents of the lines so far.
fit : (list : Programs) (said : Said) (bytes : List ℕ) (line : Bor (List ℕ)) (before : List Said) (v w : Bool)
    → list ≡ programs_of before → said ≡ said_by (words_of bytes) → bytes ≡ line.now → v ≡ fits list said → v ≡ w → fits (programs_of before) (says line) ≡ w
fit list said bytes line before v w same told at fitting is =
    ap (λ (p : Programs). fits p (says line)) (sym same) ∙ ap (fits list) (sym (told ∙ ap (λ b. said_by (words_of b)) at)) ∙ sym fitting ∙ is

pub returns-then-not-branch-clause-unread : goal.returns-then-not-branch-clause-unread
returns-then-not-branch-clause-unread c = λ _.
    let lines = c.deref-line-items.result.now in
    let i = c.loop-line.line-index in
    let line = get_or lines i nowhere in
    ap reads_of (sym (lines_said lines c.args.text.now (ap (map (λ line. line.now)) c.deref-line-items.ensures.value ∙ c.in_ok-lines_of.ensures)))
    ∙ unread lines i nowhere c.loop-line-test.true
    (fit c.loop-line.list c.in_ok-read_line.field-0 c.as_bytes.result.now line (map says (take i lines)) c.in_ok-add.field-0 false
    c.loop-line.invariant.programs c.in_ok-read_line.ensures c.as_bytes.ensures.value c.in_ok-add.ensures.fits c.if-not-branch.true)

pub loop-line-preserved : goal.loop-line-preserved
loop-line-preserved c =
    let lines = c.deref-line-items.result.now in
    let i = c.loop-line.line-index in
    let line = get_or lines i nowhere in
    let said = c.in_ok-read_line.field-0 in
    let is : said ≡ says line = c.in_ok-read_line.ensures ∙ ap (λ b. said_by (words_of b)) c.as_bytes.ensures.value in
    let fitting =
    fit c.loop-line.list said c.as_bytes.result.now line (map says (take i lines)) c.in_ok-add.field-0 true
    c.loop-line.invariant.programs c.in_ok-read_line.ensures c.as_bytes.ensures.value c.in_ok-add.ensures.fits c.if-not-branch.false in
    record {
      programs =
          c.in_ok-add.ensures.added (search rules)
          ∙ ap (λ (p : Programs). with_said p said) c.loop-line.invariant.programs
          ∙ ap (with_said (programs_of (map says (take i lines)))) is
          ∙ more_programs lines i nowhere c.loop-line-test.true fitting;
      reads = more_read lines i nowhere c.loop-line-test.true c.loop-line.invariant.reads fitting;
    }

pub returns-clause-value : goal.returns-clause-value
returns-clause-value c =
    let lines = c.deref-line-items.result.now in
    c.loop-line.invariant.programs
    ∙ ap (λ l. programs_of (map says l)) (take_all c.loop-line.line-index lines c.loop-line-test.false)
    ∙ ap programs_of (lines_said lines c.args.text.now (ap (map (λ line. line.now)) c.deref-line-items.ensures.value ∙ c.in_ok-lines_of.ensures))

pub returns-clause-reads : goal.returns-clause-reads
returns-clause-reads c =
    let lines = c.deref-line-items.result.now in
    let read : reads_of (said_in c.args.text.now) ≡ true =
    ap reads_of (sym (lines_said lines c.args.text.now (ap (map (λ line. line.now)) c.deref-line-items.ensures.value ∙ c.in_ok-lines_of.ensures)))
    ∙ ap (λ l. reads_of (map says l)) (sym (take_all c.loop-line.line-index lines c.loop-line-test.false))
    ∙ c.loop-line.invariant.reads in
    search rules
