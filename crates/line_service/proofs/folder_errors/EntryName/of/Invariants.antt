use Rattle.std.proofs.Common.{◌≡◌, length, take}
use Rattle.line_service.proofs.folder_errors.EntryName.of.Given as goal

abbrev pub invariant-loop-i : goal.invariant-loop-i
invariant-loop-i l = record {
  room : length l.bytes ≡ 255;
  same : take l.i l.bytes ≡ take l.i l.name;
}
