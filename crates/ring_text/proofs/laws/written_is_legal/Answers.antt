use Rattle.ring_text.proofs.WrittenTexts.{written_is_legal, written_is_right}
use Rattle.ring_text.proofs.laws.written_is_legal.Goals as goal

pub returns : goal.returns
returns c = record { legal = written_is_legal; right = written_is_right }
