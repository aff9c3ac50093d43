use Rattle.std.proofs.Common.{◌≡◌, map, take}
use Rattle.serde_json.specs.View.{members_view}
use Rattle.repair_texts.specs.Columns.{number_of, with_numbers}
use Rattle.repair_texts.proofs.objects.put_numbers.Given as goal

abbrev pub invariant-loop-number : goal.invariant-loop-number
invariant-loop-number l = members_view l.object.entries ≡ with_numbers (map number_of (take l.number-index l.numbers)) (members_view l.initial.object.entries)
