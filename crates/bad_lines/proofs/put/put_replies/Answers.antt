use Rattle.std.proofs.Common.{◌++◌, codes}
use Rattle.text_lines.proofs.Writing.{writes_then, writes_err}
use Rattle.bad_lines.specs.BadLineTexts.{reply_text}
use Rattle.bad_lines.proofs.put.put_replies.Goals as goal

pub returns-in-Ok : goal.returns-in-Ok
returns-in-Ok g c = writes_then _ _ _ _ (reply_text c.args.there) (codes ", should be " ++ reply_text c.args.should) c.in-Ok.ensures c.put_own_reply.ensures

pub returns-in-Err : goal.returns-in-Err
returns-in-Err g c = writes_err _ _ c.in-Err.fault (reply_text c.args.there) (codes ", should be " ++ reply_text c.args.should) c.in-Err.ensures
