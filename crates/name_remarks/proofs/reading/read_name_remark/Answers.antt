use Rattle.std.specs.Prelude.{codes}
use Rattle.name_remarks.specs.Views.{heard}
use Rattle.name_remarks.proofs.Spelled.{heard_whole, is_other}
use Rattle.name_remarks.proofs.reading.read_name_remark.Goals as goal

pub returns-in-Ok : goal.returns-in-Ok
returns-in-Ok c = heard_whole (codes "# name ") c.args.line.now c.in-Ok.rest.now (heard c.bind_line.result) c.in-Ok.ensures c.bind_line.ensures

pub returns-in-Ok-fixed_word : goal.returns-in-Ok-fixed_word
returns-in-Ok-fixed_word c = heard_whole (codes "# free ") c.args.line.now c.in-Ok-fixed_word.rest.now (heard c.free_line.result) c.in-Ok-fixed_word.ensures c.free_line.ensures

pub returns-in-Ok-fixed_word-2 : goal.returns-in-Ok-fixed_word-2
returns-in-Ok-fixed_word-2 c = heard_whole (codes "# floor ") c.args.line.now c.in-Ok-fixed_word-2.rest.now (heard c.top_line.result) c.in-Ok-fixed_word-2.ensures c.top_line.ensures

pub returns-in-Err : goal.returns-in-Err
returns-in-Err c = is_other c.args.line.now c.in_default.field-0 c.in_default-fixed_word.field-0 c.in-Err.field-0 c.in_default.ensures c.in_default-fixed_word.ensures c.in-Err.ensures
