use Rattle.std.proofs.Common.{IsTrue}
use Rattle.text_lines.proofs.Answering.{apart}
use Rattle.text_lines.proofs.answer.answers_are_apart.Goals as goal

pub returns : goal.returns
returns c = λ is_text none bytes. apart (λ b. IsTrue (is_text b)) none bytes
