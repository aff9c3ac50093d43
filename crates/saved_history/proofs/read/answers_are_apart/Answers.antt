use Rattle.text_lines.proofs.Answering.{apart, none_begins_another}
use Rattle.saved_history.specs.Meaning.{IsText}
use Rattle.saved_history.proofs.TextLaws.{text_reads}
use Rattle.saved_history.proofs.read.answers_are_apart.Goals as goal

pub returns : goal.returns
returns c = λ bytes. apart IsText (none_begins_another text_reads) bytes
