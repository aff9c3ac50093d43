use Rattle.std.proofs.Common.{ℕ, List, subst}
use Rattle.tool_parts.specs.Checked.{IsLegalSavedText}
use Rattle.wrong_commands.proofs.Makings.{one_file_holds}
use Rattle.wrong_commands.proofs.files.check_of_a_constant.Goals as goal

pub returns : goal.returns
returns g c = record {
  wrong = λ was is h.
      let same = one_file_holds _ c.args._words.now.file.now h.0 c.args._held.now c.requires.known (h.2.of_file c.requires.named) c.requires.held in
      c.requires.bad h.1 (subst (λ (t : List ℕ). IsLegalSavedText t h.1) same h.3);
}
