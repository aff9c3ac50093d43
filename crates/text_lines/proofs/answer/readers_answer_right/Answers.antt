use Rattle.text_lines.proofs.Answering.{answer_is_right, none_begins_another}
use Rattle.text_lines.proofs.answer.readers_answer_right.Goals as goal

pub returns-clause-right : goal.returns-clause-right
returns-clause-right g c = λ fits spell at reads bytes read k. answer_is_right reads (λ x. x) bytes read k

pub returns-clause-apart : goal.returns-clause-apart
returns-clause-apart g c = λ fits spell at reads. none_begins_another reads
