use Rattle.std.proofs.Common.{sym, ◌∙◌}
use Rattle.judged_files.proofs.Stepping.{refused_of}
use Rattle.judged_files.proofs.judging.FolderJudge.with_file.Goals as goal

pub returns-in-Err-clause-err : goal.returns-in-Err-clause-err
returns-in-Err-clause-err c = refused_of _ _ _ c.args.bytes.now c.args.last c.in-Err.error c.self.view_is (sym c.is_passed.ensures ∙ c.if-is_passed.false) c.in-Err.ensures.err
