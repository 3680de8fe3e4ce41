-- The length so far, unless the rest has a longer one.
use Rattle.std.proofs.Common.{◌≡◌, ◌≤◌, ◌+◌, ◌==◌, cond, drop}
use Rattle.ipp_facts.specs.ShownUris.{user_length}
use Rattle.ipp_facts.proofs.shown_uris.user_length.Given as goal

abbrev pub invariant-loop-i : goal.invariant-loop-i
invariant-loop-i l = record {
  value : cond (user_length l.is_special (drop l.i l.authority) == 0) l.most (l.i + user_length l.is_special (drop l.i l.authority)) ≡ user_length l.is_special l.authority;
  bound : l.most ≤ l.i;
}
