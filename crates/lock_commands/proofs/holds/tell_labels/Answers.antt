use Rattle.std.proofs.Common.{List, map, subst, Vec, Global}
use Rattle.std.specs.List.{flat_map}
use Rattle.chain_readers.specs.declared.holds.Hold.{Hold}
use Rattle.chain_readers.specs.Labels.{label_line}
use Rattle.lock_commands.specs.HoldsAnswer.{IsHoldsText}
use Rattle.lock_commands.specs.ToldHolds.{called}
use Rattle.lock_commands.proofs.FolderNames.{items}
use Rattle.lock_commands.proofs.HoldTexts.{by_label}
use Rattle.lock_commands.proofs.holds.tell_labels.Goals as goal

pub returns-clause-err : goal.returns-clause-err
returns-clause-err g c =
    let names = called c.args.found.now.names in
    let text = flat_map label_line c.in-Ok.counts.entries in (
      text,
      subst (λ (vs : List (Vec Hold Global)). IsHoldsText c.args.words.now names (map items vs) text) c.as_slice.ensures.value
          (by_label c.args.words.now c.choice_of.result names (map items c.as_slice.result.now) c.in-Ok.counts c.requires.by_label c.choice_of.ensures c.in-Ok.ensures c.in-Err-put_labels.ensures.rising),
      c.in-Err-put_labels.ensures.written,
    )
