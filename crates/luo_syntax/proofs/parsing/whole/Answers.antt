use Rattle.luo_syntax.proofs.Texts.{text_stops, left_within}
use Rattle.luo_syntax.proofs.parsing.whole.Goals as goal

pub overflow_sub-result : goal.overflow_sub-result
overflow_sub-result c = left_within c.args.text.now c.args.tokens.now c.new-cursor.ensures (c.in-Err-Stops.ensures.stops c.in-Err-Stops.field-0-is) c.count-left.ensures

pub returns-in-Err-Stops-clause-err : goal.returns-in-Err-Stops-clause-err
returns-in-Err-Stops-clause-err c = text_stops c.args.text.now c.args.tokens.now c.new-cursor.ensures (c.in-Err-Stops.ensures.stops c.in-Err-Stops.field-0-is) c.count-left.ensures
