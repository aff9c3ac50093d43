use Rattle.noted_lines.proofs.NotedReads.{one_note}
use Rattle.noted_lines.proofs.laws.one_note.Goals as goal

pub returns : goal.returns
returns c = one_note
