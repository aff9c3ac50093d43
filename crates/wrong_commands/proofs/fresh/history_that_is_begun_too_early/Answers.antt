use Rattle.std.proofs.Common.{◌∙◌, ◌<◌, length, ap, sym, subst, arith}
use Rattle.std.specs.Io.KnownBytes.{Appends}
use Rattle.saved_history.specs.Spelling.{first_line}
use Rattle.saved_history.specs.Versions.{latest_version}
use Rattle.wrong_commands.proofs.Written.{not_nothing}
use Rattle.wrong_commands.proofs.fresh.history_that_is_begun_too_early.Goals as goal

some : 0 < length (first_line latest_version)
some = omega arith

pub returns-in-Err : goal.returns-in-Err
returns-in-Err g c = record {
  wrong = λ other back.
      let o = g.W.Write.contents c.args.out.now in
      let same = ap g.W.Write.contents (sym (c.in-Err.ensures.nothing other) ∙ back) in
      not_nothing o (first_line latest_version) c.requires.known some (subst (λ n. Appends o n (first_line latest_version)) same c.in-Ok.ensures);
}
