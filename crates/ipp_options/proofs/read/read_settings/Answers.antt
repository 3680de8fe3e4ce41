use Rattle.std.proofs.Common.{◌≡◌, false, ap, sym, subst, rules}
use Rattle.spool_types.specs.Values.{is_options}
use Rattle.filter_args.specs.Printing.{printed}
use Rattle.ipp_options.specs.JobSettings.{no_settings, settings_of, is_refused}
use Rattle.ipp_options.specs.KeptHolds.{HoldKept}
use Rattle.ipp_options.specs.declared.settings.Settings.{Settings}
use Rattle.ipp_options.proofs.KeptLaws.{kept, plain}
use Rattle.ipp_options.proofs.PlainLaws.{too_long}
use Rattle.ipp_options.proofs.read.read_settings.Goals as goal

pub returns-in-Ok-clause-hold_kept : goal.returns-in-Ok-clause-hold_kept
returns-in-Ok-clause-hold_kept c =
    let asked = settings_of c.args.printer.now c.args.fidelity c.args.now c.args.attributes.now in
    let same : c.in_ok-copies.field-0 ≡ asked = c.in_ok-copies.ensures in
    let flag : c.in_ok-copies.field-0.refused ≡ asked.refused = ap (λ (s : Settings). s.refused) same in
    let free : asked.refused ≡ false = cc in
    subst (λ (s : Settings). HoldKept c.args.now c.args.attributes.now s.hold) (sym same) (kept c.args.printer.now c.args.fidelity c.args.now no_settings c.args.attributes.now free)

pub returns-in-Err-Bad-clause-fault : goal.returns-in-Err-Bad-clause-fault
returns-in-Err-Bad-clause-fault c =
    let asked = settings_of c.args.printer.now c.args.fidelity c.args.now c.args.attributes.now in
    let found : (is_refused c.args.fidelity asked ≡ false) × (is_options (printed asked.options) ≡ false) = search rules in
    (found.0, too_long asked.options (plain c.args.printer.now c.args.fidelity c.args.now c.args.attributes.now) found.1)
