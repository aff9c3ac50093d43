use Rattle.std.proofs.Common.{refl}
use Rattle.std.proofs.lemmas.Result.{err_from_is_err_and}
use Rattle.saved_history.specs.Content.{content, block_of}
use Rattle.text_commands.proofs.Drawings.{legal_text}
use Rattle.text_commands.proofs.picture.drawing_of.Goals as goal

pub returns-in_err-ring-clause-err : goal.returns-in_err-ring-clause-err
returns-in_err-ring-clause-err c =
    let ok = c.in_ok-saved.ensures.ok in
    let legal = legal_text c.args.bytes.now (content c.in_ok-saved.saved) c.in_ok-saved.sums ok.0 ok.1 in
    let p = err_from_is_err_and c.from_residual-in_err-ring.result c.from_residual-in_err-ring.ensures.1 in
    let e = c.in_err-ring.ensures.err in
    rw (p.1, p.2, e.0) (content c.in_ok-saved.saved, legal.0, refl, e.1)

pub returns-in_err-count-clause-err : goal.returns-in_err-count-clause-err
returns-in_err-count-clause-err c =
    let ok = c.in_ok-saved.ensures.ok in
    let legal = legal_text c.args.bytes.now (content c.in_ok-saved.saved) c.in_ok-saved.sums ok.0 ok.1 in
    let p = err_from_is_err_and c.from_residual-in_err-count.result c.from_residual-in_err-count.ensures.1 in
    let e = c.in_err-count.ensures.err in
    rw (p.1, p.2, e.0) (content c.in_ok-saved.saved, block_of c.in_ok-ring.ring, legal.0, c.in_ok-ring.ensures.ok, refl, e.1)

pub returns-clause-ok : goal.returns-clause-ok
returns-clause-ok c =
    let ok = c.in_ok-saved.ensures.ok in
    let legal = legal_text c.args.bytes.now (content c.in_ok-saved.saved) c.in_ok-saved.sums ok.0 ok.1 in
    record {
      content = content c.in_ok-saved.saved;
      legal = legal.0;
      ring = c.in_ok-ring.ensures.ok;
      from = c.in_ok-count.ensures.ok.0;
      few = c.requires.few;
      count = c.in_ok-count.ensures.ok.1;
      sums = legal.1;
    }
