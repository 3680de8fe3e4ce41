use Rattle.std.proofs.Common.{◌+◌, take, ap, ◌∙◌, Some, eq-eqb, ne_eqb}
use Rattle.std.proofs.lemmas.List.{take_rest}
use Rattle.ipp_printers.specs.MediaNames.{parted}
use Rattle.ipp_printers.proofs.PartLaws.{with_front-nil, part_here, part_later, no_part}
use Rattle.ipp_printers.proofs.media.parted.Goals as goal

pub loop-i-init : goal.loop-i-init
loop-i-init c = with_front-nil (parted c.args.mark c.args.bytes.now)

pub returns-then-b-mark : goal.returns-then-b-mark
returns-then-b-mark c =
    let bytes = c.args.bytes.now in
    let i = c.loop-i.i in
    record {
      value =
          ap (λ l. Some (take i bytes, l)) (take_rest bytes (i + 1))
          ∙ part_here bytes c.args.mark i (parted c.args.mark bytes) c.loop-i.invariant c.loop-i-test.true (eq-eqb _ _ c.if-b-mark.true);
    }

pub loop-i-preserved : goal.loop-i-preserved
loop-i-preserved c =
    part_later c.args.bytes.now c.args.mark c.loop-i.i (parted c.args.mark c.args.bytes.now) c.loop-i.invariant c.loop-i-test.true (ne_eqb _ _ c.if-b-mark.false)

pub returns : goal.returns
returns c = record { value = no_part c.args.bytes.now c.args.mark c.loop-i.i (parted c.args.mark c.args.bytes.now) c.loop-i.invariant c.loop-i-test.false }
