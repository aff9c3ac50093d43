use Rattle.std.proofs.Common.{rules, refl}
use Rattle.serde_json.specs.Errors.{IsMemory}
use Rattle.ring_settings.proofs.Documents.{json_of-some, json_of-none}
use Rattle.ring_settings.proofs.members.read_document.Goals as goal

pub returns-in-Ok-clause-ok : goal.returns-in-Ok-clause-ok
returns-in-Ok-clause-ok c = json_of-some _ _ c.in-Ok.ensures.ok.0 c.in-Ok.ensures.ok.1

pub returns-else-is_memory-clause-err : goal.returns-else-is_memory-clause-err
returns-else-is_memory-clause-err c =
    let no : IsMemory c.in-Err.e → ⊥ = λ m. search rules in
    λ _. (refl, json_of-none _ (c.in-Err.ensures.err no))
