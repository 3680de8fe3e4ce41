use Rattle.std.proofs.Common.{◌≡◌, ℕ, ◌+◌, ◌-◌, ◌≤◌, List, ◌++◌, length, take, drop, sym, subst, ◌∙◌, ap, arith, append_assoc, length-drop}
use Rattle.std.proofs.lemmas.List.{drop-drop, length-take-le}
use Rattle.spool_disk.specs.Disk.{overwritten, SameOutside}
use Rattle.spool_disk.proofs.Writes.{overwrites}
use Rattle.disk_images.proofs.content.leave_in.Goals as goal

-- A part of the bytes, replaced by others.
put_back : (at len : ℕ) (bytes part : List ℕ) → at + len ≤ length bytes → length part ≡ length (take (at + len - at) (drop at bytes))
    → SameOutside at len bytes (take at bytes ++ (part ++ drop (at + len - at) (drop at bytes)))
put_back at len bytes part fits same_length =
    let size : at + len - at ≡ len = omega arith in
    let long : length part ≡ len = same_length ∙ length-take-le (at + len - at) (drop at bytes) (omega (arith, length-drop at bytes)) ∙ size in
    let behind : at + (at + len - at) ≡ at + length part = omega arith in
    let is : take at bytes ++ (part ++ drop (at + len - at) (drop at bytes)) ≡ overwritten at part bytes =
    ap (λ (l : List ℕ). take at bytes ++ (part ++ l)) (drop-drop (at + len - at) at bytes ∙ ap (λ (n : ℕ). drop n bytes) behind)
    ∙ sym (append_assoc (take at bytes) part (drop (at + length part) bytes)) in
    let P : ℕ → Type 0 = λ n. SameOutside at n bytes (overwritten at part bytes) in
    let Q : List ℕ → Type 0 = λ l. SameOutside at len bytes l in
    subst Q (sym is) (subst P long (overwrites at part bytes (omega arith)))

pub returns-clause-stays : goal.returns-clause-stays
returns-clause-stays g c = put_back c.args.at c.args.len c.args.bytes.now c.leave.new.range c.requires c.leave.auto.range
