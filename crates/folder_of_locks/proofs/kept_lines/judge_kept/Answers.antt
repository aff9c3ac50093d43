use Rattle.std.proofs.Common.{ℕ, List, Option, true, refl, map, string_bytes, subst}
use Rattle.name_check.specs.Entries.{Judged}
use Rattle.judged_files.specs.Judging.{IsUnaccepted}
use Rattle.folder_of_locks.proofs.kept_lines.judge_kept.Goals as goal

pub returns-in-Err : goal.returns-in-Err
returns-in-Err c = record {
  ok = tt;
  err = (
    refl,
    subst (λ (o : Option Judged). IsUnaccepted (map string_bytes c.args.fixed.now) o c.args.lines.now true c.in-Err.why) c.new.ensures c.in-Err.ensures.err,
  );
}
