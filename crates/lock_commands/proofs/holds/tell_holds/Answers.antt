use Rattle.std.proofs.Common.{List, map, subst, Vec, Global}
use Rattle.chain_readers.specs.declared.holds.Hold.{Hold}
use Rattle.lock_commands.specs.HoldsAnswer.{IsHoldsText}
use Rattle.lock_commands.specs.ToldHolds.{called, all_lines}
use Rattle.lock_commands.proofs.FolderNames.{items}
use Rattle.lock_commands.proofs.HoldTexts.{by_hold}
use Rattle.lock_commands.proofs.holds.tell_holds.Goals as goal

pub returns-in-Err-clause-err : goal.returns-in-Err-clause-err
returns-in-Err-clause-err g c =
    let names = called c.args.found.now.names in
    let text = all_lines c.choice_of.result names 0 (map items c.as_slice.result.now) in (
      text,
      subst (λ (vs : List (Vec Hold Global)). IsHoldsText c.args.words.now names (map items vs) text)
          c.as_slice.ensures.value (by_hold c.args.words.now c.choice_of.result names (map items c.as_slice.result.now) c.if-words.false c.choice_of.ensures),
      c.in-Err.ensures,
    )
