use Rattle.wrong_bodies.proofs.Texts.{no_text_is_cut}
use Rattle.wrong_bodies.proofs.saved.tells_a_text_as_cut_short.Goals as goal

pub returns : goal.returns
returns c = record { wrong = λ k. no_text_is_cut c.args.bytes.now c.requires.text k }
