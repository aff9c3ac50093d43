use Rattle.std.proofs.Common.{drop, inr, sym}
use Rattle.std.proofs.lemmas.List.{take-append-drop}
use Rattle.folder_of_locks.proofs.fronts.torn_front.Goals as goal

pub returns-clause-ok : goal.returns-clause-ok
returns-clause-ok c =
    let bytes = c.args.bytes.now in
    let end = c.in-Ok-cut_front.front.end in
    let bad = c.has_bad_line.ensures c.if-not-has_bad_line.false in
    record {
      left_out = drop end bytes;
      spelled = sym (take-append-drop end bytes);
      lines = bad.begins;
      right = c.in-Ok-cut_front.ensures.right;
      why = inr (bad, (_, c.in-Ok.ensures.right));
    }
