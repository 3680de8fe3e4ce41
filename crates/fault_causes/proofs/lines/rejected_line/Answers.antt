use Rattle.std.proofs.Common.{rules, ℕ, ◌+◌, true, false, List, [], map, get_or, drop, Some, ap, sym, ◌∙◌, Bor}
use Rattle.fault_causes.specs.RejectedLines.{rejected_after}
use Rattle.fault_causes.proofs.RejectedLaws.{bad_line, from_line, good_line, list_of, no_line, no_lines, read_line}
use Rattle.fault_causes.proofs.lines.rejected_line.Goals as goal

abbrev nowhere : Bor (List ℕ)
nowhere = record { ref_ptr = (0, 0); now = [] }

pub returns-in_default : goal.returns-in_default
returns-in_default c =
    let lines = c.deref-line-items.result.now in
    let i = c.loop-line.line-index in
    let earlier = c.loop-line.earlier.items in
    let line = get_or lines i nowhere in
    let found = c.in_ok-list.field-0 in
    let bad = no_line line.now found c.in_ok-list.ensures.read (search rules) in
    ap (λ (n : ℕ). Some (n, true)) (search rules)
    ∙ sym (bad_line earlier line.now (map (λ line. line.now) (drop (i + 1) lines)) bad)
    ∙ sym (from_line earlier lines i nowhere c.loop-line-test.true)
    ∙ c.loop-line.invariant
    ∙ ap (rejected_after []) (ap (map (λ line. line.now)) c.deref-line-items.ensures.value ∙ c.in_ok-lines_of.ensures)

pub returns-then-is_taken : goal.returns-then-is_taken
returns-then-is_taken c =
    let lines = c.deref-line-items.result.now in
    let i = c.loop-line.line-index in
    let earlier = c.loop-line.earlier.items in
    let line = get_or lines i nowhere in
    let found = c.in_ok-list.field-0 in
    let list = c.in-Some.list in
    let good = good_line line.now found list c.in_ok-list.ensures.read c.in-Some.is in
    let is = list_of line.now found list c.in_ok-list.ensures.list c.in-Some.is in
    ap (λ (n : ℕ). Some (n, false)) (search rules)
    ∙ sym (read_line earlier line.now (map (λ line. line.now) (drop (i + 1) lines)) list true good is (search rules))
    ∙ sym (from_line earlier lines i nowhere c.loop-line-test.true)
    ∙ c.loop-line.invariant
    ∙ ap (rejected_after []) (ap (map (λ line. line.now)) c.deref-line-items.ensures.value ∙ c.in_ok-lines_of.ensures)

pub loop-line-preserved : goal.loop-line-preserved
loop-line-preserved c =
    let lines = c.deref-line-items.result.now in
    let i = c.loop-line.line-index in
    let earlier = c.loop-line.earlier.items in
    let line = get_or lines i nowhere in
    let found = c.in_ok-list.field-0 in
    let list = c.in-Some.list in
    let good = good_line line.now found list c.in_ok-list.ensures.read c.in-Some.is in
    let is = list_of line.now found list c.in_ok-list.ensures.list c.in-Some.is in
    ap (λ items. rejected_after items (map (λ line. line.now) (drop (i + 1) lines))) (search rules)
    ∙ sym (read_line earlier line.now (map (λ line. line.now) (drop (i + 1) lines)) list false good is (search rules))
    ∙ sym (from_line earlier lines i nowhere c.loop-line-test.true)
    ∙ c.loop-line.invariant

pub returns : goal.returns
returns c =
    let lines = c.deref-line-items.result.now in
    sym (no_lines c.loop-line.earlier.items lines c.loop-line.line-index c.loop-line-test.false)
    ∙ c.loop-line.invariant
    ∙ ap (rejected_after []) (ap (map (λ line. line.now)) c.deref-line-items.ensures.value ∙ c.in_ok-lines_of.ensures)
