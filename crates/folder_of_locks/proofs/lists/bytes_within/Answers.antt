use Rattle.std.proofs.Common.{◌≤◌, length, arith}
use Rattle.folder_of_locks.proofs.Within.{all_given}
use Rattle.folder_of_locks.proofs.lists.bytes_within.Goals as goal

pub returns-in-Ok-clause-all : goal.returns-in-Ok-clause-all
returns-in-Ok-clause-all g c =
    let few : length c.read_to_end.new.buf.items ≤ c.args.limit = let n = c.in-Ok.ensures.ok in let none = c.new-bytes.ensures.len in let le = c.if-count-limit.true in let ok = c.read_to_end.new.buf.ok in omega arith in
    all_given g.R.Read.remaining c.take-limited.result c.args.reader c.args.limit c.new-bytes.result.items c.read_to_end.new.buf.items (let l = c.take-limited.ensures.limit in omega arith) c.take-limited.ensures.inner c.new-bytes.ensures.items c.in-Ok.ensures.bytes few
