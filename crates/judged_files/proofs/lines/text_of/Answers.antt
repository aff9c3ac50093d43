use Rattle.judged_files.proofs.Texts.{name_is_text}
use Rattle.judged_files.proofs.lines.text_of.Goals as goal

pub unreachable-requires : goal.unreachable-requires
unreachable-requires c = c.in-Err.ensures.cases.0 (name_is_text c.args.name.now c.requires)
