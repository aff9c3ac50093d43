use Rattle.text_lines.proofs.Answering.{spellings_are_apart}
use Rattle.saved_history.proofs.TextLaws.{text_reads}
use Rattle.saved_history.proofs.read.texts_are_apart.Goals as goal

pub returns : goal.returns
returns c = λ a b more f g e. spellings_are_apart text_reads a b more f g e
