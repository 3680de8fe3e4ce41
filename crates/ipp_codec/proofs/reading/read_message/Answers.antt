use Rattle.ipp_codec.proofs.DecodeLaws.{fault_as, many_read, message_read}
use Rattle.ipp_codec.proofs.reading.read_message.Goals as goal

pub returns-then-has_few_values : goal.returns-then-has_few_values
returns-then-has_few_values c = message_read c.args.octets.now c.window_of-window.result.now c.in-Ok.message c.in-Ok.rest.now c.count_taken.result c.has_few_values.result c.window_of-window.ensures c.in-Ok.ensures c.has_few_values.ensures c.if-has_few_values.true c.count_taken.ensures

pub returns-else-has_few_values : goal.returns-else-has_few_values
returns-else-has_few_values c = many_read c.args.octets.now c.window_of-window.result.now c.in-Ok.message c.in-Ok.rest.now c.has_few_values.result c.window_of-window.ensures c.in-Ok.ensures c.has_few_values.ensures c.if-has_few_values.false

pub returns-in-Err : goal.returns-in-Err
returns-in-Err c = fault_as c.args.octets.now c.window_of-window.result.now c.is_long-long.result c.in-Err.fault c.at_limit.result c.window_of-window.ensures c.is_long-long.ensures c.in-Err.ensures c.at_limit.ensures
