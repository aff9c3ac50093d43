use Rattle.std.proofs.Common.{List, ℕ, inr, sym, subst, ◌∙◌}
use Rattle.folder_of_locks.specs.Pools.{pooled, IsPooledFile}
use Rattle.text_commands.proofs.JudgedFiles.{named_by}
use Rattle.text_commands.proofs.names.judge_folder.Goals as goal

pub returns-in-Ok-judge_list-clause-ok : goal.returns-in-Ok-judge_list-clause-ok
returns-in-Ok-judge_list-clause-ok g c = (
  c.args.entries.now,
  c.requires,
  named_by (g.D.Disk.holds c.args.disk.now) c.args.folder.now c.args.entries.now (pooled c.in-Ok-list_of.list) (sym c.has_list.ensures ∙ c.if-not-has_list.false)
      (record {
        bytes = c.in-Ok.bytes.items;
        held = c.in-Ok.ensures.ok;
        list = subst (λ (t : List ℕ). IsPooledFile t (pooled c.in-Ok-list_of.list)) c.as_slice.ensures.value c.in-Ok-list_of.ensures.ok;
      }) c.in-Ok-judge_list.ensures.ok,
)

pub returns-clause-err : goal.returns-clause-err
returns-clause-err g c = (
  c.args.entries.now,
  c.requires,
  sym c.has_list.ensures ∙ c.if-not-has_list.false,
  inr (
    pooled c.in-Ok-list_of.list,
    record {
      bytes = c.in-Ok.bytes.items;
      held = c.in-Ok.ensures.ok;
      list = subst (λ (t : List ℕ). IsPooledFile t (pooled c.in-Ok-list_of.list)) c.as_slice.ensures.value c.in-Ok-list_of.ensures.ok;
    },
    c.in-Err-judge_list.ensures.err,
  ),
)
