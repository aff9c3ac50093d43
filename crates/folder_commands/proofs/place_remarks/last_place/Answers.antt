use Rattle.std.proofs.Common.{◌∙◌}
use Rattle.folder_commands.proofs.PlacesFound.{place_in_all}
use Rattle.folder_commands.proofs.place_remarks.last_place.Goals as goal

pub returns-in-None : goal.returns-in-None
returns-in-None c = rw c.in-None.is (c.place_among-in-None.ensures ∙ place_in_all c.args.text.now)
