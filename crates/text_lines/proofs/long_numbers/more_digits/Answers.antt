use Rattle.std.proofs.Common.{sym, ap}
use Rattle.std.proofs.lemmas.List.{take_rest}
use Rattle.text_lines.proofs.LongDecimals.{in_some, digits_end, as_order}
use Rattle.text_lines.proofs.long_numbers.more_digits.Goals as goal

pub returns-in-len1-up : goal.returns-in-len1-up
returns-in-len1-up c = rw (take_rest, sym (in_some c.args.first c.ranges.first.fits)) (ap as_order (digits_end c.args.stop c.args.first c.args.bytes.now 0 c.in-len1-up.len_at_least c.if-b-stop.true))
