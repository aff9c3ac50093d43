use Rattle.run_commands.proofs.StepLemmas.{not_granted_line}
use Rattle.run_commands.proofs.step.put_reply.Goals as goal

pub returns-in-NotPrivileged : goal.returns-in-NotPrivileged
returns-in-NotPrivileged g c = rw (not_granted_line c.args.machine c.args.reply c.in-NotPrivileged.is) c.put_refused.ensures
