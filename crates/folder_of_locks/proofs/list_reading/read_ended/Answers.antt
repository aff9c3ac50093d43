use Rattle.std.proofs.Common.{rules, map, Some, None, ◌++◌}
use Rattle.std.proofs.lemmas.Str.Pattern.{split_parts}
use Rattle.folder_of_locks.specs.Lists.{listed}
use Rattle.folder_of_locks.proofs.Pieces.{read_none, read_more, bad_piece, with_tail}
use Rattle.folder_of_locks.proofs.list_reading.read_ended.Goals as goal

pub loop-piece-init : goal.loop-piece-init
loop-piece-init c = (c.utf8.text, rw c.new-locks.ensures.items (read_none c.args.end c.args.mark c.args.text.now))

pub returns-in-Err-clause-err : goal.returns-in-Err-clause-err
returns-in-Err-clause-err c = λ tail.
    let p = split_parts c.args.end c.loop-piece.rest.now (Some (c.in-Some.piece, c.in-Some.more)) c.in-Some.ensures.cases c.requires.end_is.ascii in
    bad_piece c.args.end c.args.mark c.args.text.now c.loop-piece.rest.now c.in-Some.piece.now (c.in-Some.more.now ++ tail) tail (map listed c.loop-piece.locks.items) c.in-Err.error c.requires c.loop-piece.invariant.1
    (with_tail c.args.end c.loop-piece.rest.now c.in-Some.piece.now c.in-Some.more.now tail p.0) (record { each = p.1 }) c.in-Err.ensures.err

pub loop-piece-preserved : goal.loop-piece-preserved
loop-piece-preserved c =
    let p = split_parts c.args.end c.loop-piece.rest.now (Some (c.in-Some.piece, c.in-Some.more)) c.in-Some.ensures.cases c.requires.end_is.ascii in
    let added = c.in-Ok.ensures.ok in (
      search rules,
      rw added.2
          (read_more c.args.end c.args.mark c.args.text.now c.loop-piece.rest.now c.in-Some.piece.now c.in-Some.more.now (map listed c.loop-piece.locks.items) added.0 c.requires c.loop-piece.invariant.1 p.0 (record { each = p.1 }) added.1),
    )

pub returns-clause-ok : goal.returns-clause-ok
returns-clause-ok c = record {
  read = c.loop-piece.invariant.1;
  plain = record { each = split_parts c.args.end c.loop-piece.rest.now None c.in_default.ensures.cases c.requires.end_is.ascii };
}
