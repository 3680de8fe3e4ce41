use Rattle.std.proofs.Common.{◌≡◌, ◌+◌, ◌-◌, arith, ap, length, take, drop, length-drop, ◌∙◌, sym, subst}
use Rattle.std.proofs.lemmas.List.{take_rest}
use Rattle.command_lines.specs.TextLines.{has_lf}
use Rattle.command_lines.specs.ReaderSteps.{IsAt}
use Rattle.command_lines.proofs.LineLaws.{more_scanned, all_scanned, place_scanned, no_lf_front}
use Rattle.command_lines.proofs.commands.Commands.line_end.Goals as goal
use Rattle.command_lines.proofs.commands.Commands.line_end.Goals.{After-line_feed_at}

-- The bytes that are searched are those after `clean`.
searched : (c : After-line_feed_at) → take (length c.deref.result.now - c.self.inside.clean) (drop c.self.inside.clean c.deref.result.now) ≡ drop c.self.inside.clean c.self.inside.bytes.items
searched c = take_rest c.deref.result.now c.self.inside.clean ∙ ap (drop c.self.inside.clean) c.deref.ensures.value

pub invariant_of-self : goal.invariant_of-self
invariant_of-self c =
    let s = c.self.inside in
    let v = c.self.invariant in
    let e = searched (goal.at.invariant_of-self c).After-line_feed_at in
    let long = ap length e ∙ length-drop s.clean s.bytes.items in
    record {
      in_order = omega arith;
      in_range = let l = c.in-Some.ensures.at in omega arith;
      clean = more_scanned s.bytes.items _ s.start s.clean c.in-Some.i e v.in_order v.clean c.in-Some.ensures.before;
      small = v.small;
    }

pub invariant_of-self-in-None : goal.invariant_of-self-in-None
invariant_of-self-in-None c =
    let s = c.self.inside in
    let v = c.self.invariant in
    let e = searched (goal.at.invariant_of-self-in-None c).After-line_feed_at in
    let n : c.len-self-inside.result ≡ length s.bytes.items = omega (arith, c.len-self-inside.ensures, s.bytes.ok.0) in
    record {
      in_order = omega (arith, n, v.in_order, v.in_range);
      in_range = omega (arith, n);
      clean = no_lf_front _ (drop s.start s.bytes.items) (all_scanned s.bytes.items _ s.start s.clean e v.in_order v.clean c.in-None.ensures.none);
      small = v.small;
    }

pub returns-in-Some-clause-line : goal.returns-in-Some-clause-line
returns-in-Some-clause-line c =
    let s = c.self.inside in
    let v = c.self.invariant in
    let e = searched (goal.at.returns-in-Some-clause-line c).After-line_feed_at in
    let at : IsAt (drop s.start s.bytes.items) (s.clean + c.in-Some.i - s.start) =
    place_scanned s.bytes.items _ s.start s.clean c.in-Some.i e v.in_order v.clean c.in-Some.ensures.at c.in-Some.ensures.before c.in-Some.ensures.there in
    subst (λ h. IsAt h (s.clean + c.in-Some.i - s.start)) (ap (λ v. v.held) c.self.view_is) at

pub returns-in-None-clause-none : goal.returns-in-None-clause-none
returns-in-None-clause-none c =
    let s = c.self.inside in
    let v = c.self.invariant in
    let e = searched (goal.at.returns-in-None-clause-none c).After-line_feed_at in
    ap (λ v. has_lf v.held) (sym c.self.view_is) ∙ all_scanned s.bytes.items _ s.start s.clean e v.in_order v.clean c.in-None.ensures.none
