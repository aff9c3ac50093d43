use Rattle.text_commands.proofs.Drawings.{drawn_some, drawn_few}
use Rattle.text_commands.proofs.picture.write_drawing.Goals as goal

pub write_picture-requires-clause-some : goal.write_picture-requires-clause-some
write_picture-requires-clause-some g c = drawn_some c.args.words.now c.requires.drawn.0 c.args.drawing.now c.requires.drawn.1

pub write_picture-requires-clause-few : goal.write_picture-requires-clause-few
write_picture-requires-clause-few g c = drawn_few c.args.words.now c.requires.drawn.0 c.args.drawing.now c.requires.drawn.1
