use Rattle.std.proofs.Common.{◌++◌, ap, map, string_bytes, ◌∙◌}
use Rattle.filter_args.specs.Environment.{document_variables, device_variables, place_variables, printer_variables, stage_variables}
use Rattle.filter_args.proofs.variables.environment_of_stage.Goals as goal

pub returns : goal.returns
returns c =
    let job = c.args.job.now in
    let queue = c.args.queue.now in
    let place = c.args.place.now in
    c.in_ok-push_stage.ensures
    ∙ ap (λ l. l ++ stage_variables place job.id c.args.attempt c.args.stage)
    (c.in_ok-push_printer.ensures
    ∙ ap (λ l. l ++ printer_variables queue)
    (c.in_ok-push_place.ensures
    ∙ ap (λ l. l ++ place_variables place)
    (c.in_ok-push_device.ensures
    ∙ ap (λ l. l ++ device_variables queue)
    (c.in_ok-push_document.ensures ∙ ap (λ l. map string_bytes l ++ document_variables job) c.in_ok-variables.ensures.items)
    )
    )
    )
