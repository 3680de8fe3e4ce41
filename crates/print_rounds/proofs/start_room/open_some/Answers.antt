use Rattle.std.proofs.Common.{inl, inr, ◌≡◌, ◌≤◌, ◌<◌, ◌+◌, true, false, length, get_or, set, arith, sym, ap, ◌∙◌}
use Rattle.std.proofs.lemmas.Bool.{cases_eq, cases_lt}
use Rattle.std.proofs.lemmas.List.{get_or-set_other, length-set}
use Rattle.print_rounds.specs.StartLimits.{can_start, opened_in}
use Rattle.print_rounds.proofs.PlaceLaws.{one_opened, opened_here, stays_open}
use Rattle.print_rounds.proofs.start_room.open_some.Goals as goal
use Rattle.print_rounds.proofs.start_room.open_some.Goals.{then-can_start+then-left-gt0, else-can_start, else-can_start-via-then-can_start+else-left-gt0, else-can_start-via-else-can_start}

pub loop-at-preserved : goal.loop-at-preserved
loop-at-preserved c =
    let s = c.args.table.now.state in
    let blocked = c.args.blocked.now in
    let first = c.args.closed.now.items in
    let closed = c.loop-at.closed.items in
    let at = c.loop-at.at in
    let before = c.loop-at.invariant in
    let lt : at < length closed = omega (arith, c.loop-at-test.true, before.count, c.requires.range, c.requires.closed) in
    let from : c.args.from ≤ at = omega (arith, c.loop-at.auto.at) in
    elim c.if-can_start.branch [
      | then-can_start+then-left-gt0 w ↦
          let can : can_start s blocked at ≡ true = sym c.can_start.ensures ∙ w.if-can_start.true in
          let one = one_opened closed at lt (before.behind at (omega arith) ∙ c.requires.ahead at from c.loop-at-test.true) in
          let is : c.if-can_start.closed.items ≡ set closed at false = ap (λ v. v.items) w.closed-is in
          let taken : opened_in (set closed at false) + c.if-can_start.left ≡ opened_in first + c.args.start_room = omega (arith, before.taken, one, w.left-is, w.if-left-gt0.true) in
          record {
            count = ap length is ∙ length-set closed at false ∙ before.count;
            before = λ i low. ap (λ fs. get_or fs i true) is ∙ get_or-set_other closed at i false true (omega (arith, low, from)) ∙ before.before i low;
            behind = λ i high. ap (λ fs. get_or fs i true) is ∙ get_or-set_other closed at i false true (omega (arith, high)) ∙ before.behind i (omega (arith, high));
            opened = λ i off. ap (λ fs. get_or fs i true) is ∙ stays_open closed at lt i (before.opened i off);
            start = λ i off. elim (cases_eq i at) [
              | inl same ↦ inr (ap (can_start s blocked) same ∙ can)
              | inr apart ↦ before.start i (sym (ap (λ fs. get_or fs i true) is ∙ get_or-set_other closed at i false true apart) ∙ off)
            ];
            taken = ap (λ fs. opened_in fs + c.if-can_start.left) is ∙ taken;
            less = omega (arith, before.less, w.left-is);
            none = λ empty. absurd (omega (arith, empty, before.less, w.if-left-gt0.true));
            in_order = λ i j low less high able on. elim (cases_lt j at) [
              | inl below ↦
                  let was : get_or closed j true ≡ true = sym (ap (λ fs. get_or fs j true) is ∙ get_or-set_other closed at j false true (omega (arith, below))) ∙ on in
                  let both : false ≡ true = sym (before.all w.if-left-gt0.true j low below able) ∙ was in
                  absurd (cc)
              | inr beyond ↦ absurd (omega (arith, beyond, less, high))
            ];
            all = λ left i low high able. ap (λ fs. get_or fs i true) is ∙ elim (cases_eq i at) [
              | inl same ↦ opened_here closed at lt i same
              | inr apart ↦ stays_open closed at lt i (before.all (omega (arith, w.if-left-gt0.true)) i low (omega (arith, high, apart)) able)
            ];
          }
      | else-can_start w ↦
          let is : c.if-can_start.closed.items ≡ closed = ap (λ v. v.items) w.closed-is in
          record {
            count = ap length is ∙ before.count;
            before = λ i low. ap (λ fs. get_or fs i true) is ∙ before.before i low;
            behind = λ i high. ap (λ fs. get_or fs i true) is ∙ before.behind i (omega (arith, high));
            opened = λ i off. ap (λ fs. get_or fs i true) is ∙ before.opened i off;
            start = λ i off. before.start i (sym (ap (λ fs. get_or fs i true) is) ∙ off);
            taken = ap (λ fs. opened_in fs + c.if-can_start.left) is ∙ ap (λ n. opened_in closed + n) w.left-is ∙ before.taken;
            less = omega (arith, before.less, w.left-is);
            none = λ empty. is ∙ before.none empty;
            in_order = λ i j low less high able on. ap (λ fs. get_or fs i true) is ∙ elim (cases_eq i at) [
              | inl same ↦ ap (λ k. get_or closed k true) same ∙ before.behind at (omega arith) ∙ c.requires.ahead at from c.loop-at-test.true
              | inr apart ↦ before.in_order i j low less (omega (arith, high, apart)) able (sym (ap (λ fs. get_or fs j true) is) ∙ on)
            ];
            all = λ left i low high able. ap (λ fs. get_or fs i true) is ∙ elim (cases_eq i at) [
              | inl same ↦ elim w.else-can_start.branch [
                | else-can_start-via-then-can_start+else-left-gt0 v ↦ absurd (omega (arith, left, v.if-left-gt0.false, w.left-is))
                | else-can_start-via-else-can_start v ↦
                    let both : true ≡ false = sym able ∙ ap (can_start s blocked) same ∙ sym c.can_start.ensures ∙ v.if-can_start.false in absurd (cc)
              ]
              | inr apart ↦ before.all (omega (arith, left, w.left-is)) i low (omega (arith, high, apart)) able
            ];
          }
    ]
