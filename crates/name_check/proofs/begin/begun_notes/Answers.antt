use Rattle.std.proofs.Common.{◌≤◌, ℕ, List, map, length, sym, arith}
use Rattle.std.specs.Prelude.{string_bytes}
use Rattle.std.proofs.lemmas.List.{length-map}
use Rattle.name_check.proofs.Opening.{begun_kept}
use Rattle.name_check.proofs.begin.begun_notes.Goals as goal

pub returns-clause-sound : goal.returns-clause-sound
returns-clause-sound c =
    let ns : List (List ℕ) = map string_bytes c.args.fixed.now in
    let le : length c.args.fixed.now ≤ length c.args.rings.now = omega arith in
    begun_kept c.args.rings.now c.in-Ok-from_slice.rings.items ns c.in-Ok-begun_table.names (length c.args.fixed.now) c.in-Ok.top c.in-Ok-from_slice.ensures.items (sym (length-map c.args.fixed.now string_bytes))
    c.in-Ok-begun_table.ensures.ok c.in-Ok.ensures.ok c.in-Ok-begun_table.ensures.apart le
