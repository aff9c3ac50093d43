use Rattle.std.proofs.Common.{◌≡◌, ◌+◌, ◌<◌, ◌^◌, length, arith}
use Rattle.saved_history.specs.Content.{content}
use Rattle.segment_files.specs.Spelling.{head_of}
use Rattle.segment_files.specs.Chain.{head_lines}
use Rattle.folder_commands.proofs.Keeping.{fault_room, bad_room, room_below, journal_unkept, file_kept}
use Rattle.folder_commands.proofs.last_segment.kept_file.Goals as goal

pub journal_refusal-requires : goal.journal_refusal-requires
journal_refusal-requires c =
    let h = c.in-Ok.found.0 in
    let ok = h.bases.ok in
    let n : 2 + c.len.result ≡ head_lines (head_of h) = omega (arith, ok, c.len.ensures) in
    let room = fault_room c.args.salvage c.args.bytes.now (head_of h) c.in-Ok.found.1.now c.in-Ok.ensures.0 c.in-Ok.ensures.1 (2 + c.len.result) n c.in-Err-kept_without_remarks.error c.in-Err-kept_without_remarks.ensures.err in
    omega (arith, room)

pub last_place-place-requires : goal.last_place-place-requires
last_place-place-requires c =
    let h = c.in-Ok.found.0 in
    let ok = h.bases.ok in
    let n : 2 + c.len.result ≡ head_lines (head_of h) = omega (arith, ok, c.len.ensures) in
    let k = c.in-Ok-kept_without_remarks.ensures.ok in
    let left = c.in-Ok-kept_without_remarks.left in
    let room = bad_room c.args.salvage c.args.bytes.now (head_of h) c.in-Ok.found.1.now c.in-Ok.ensures.0 c.in-Ok.ensures.1 (2 + c.len.result) n (content c.in-Ok-kept_without_remarks.saved) k.0 left.bad k.1 in
    let below : length c.args.bytes.now < 2 ^ 64 = omega arith in
    room_below (2 ^ 64) (length c.args.bytes.now) (2 + c.len.result) c.in-Ok.found.1.now left.bad below room

pub bad_in-bad-requires : goal.bad_in-bad-requires
bad_in-bad-requires c =
    let h = c.in-Ok.found.0 in
    let ok = h.bases.ok in
    let n : 2 + c.len.result ≡ head_lines (head_of h) = omega (arith, ok, c.len.ensures) in
    let k = c.in-Ok-kept_without_remarks.ensures.ok in
    let left = c.in-Ok-kept_without_remarks.left in
    let room = bad_room c.args.salvage c.args.bytes.now (head_of h) c.in-Ok.found.1.now c.in-Ok.ensures.0 c.in-Ok.ensures.1 (2 + c.len.result) n (content c.in-Ok-kept_without_remarks.saved) k.0 left.bad k.1 in
    let below : length c.args.bytes.now < 2 ^ 64 = omega arith in
    room_below (2 ^ 64) (length c.args.bytes.now) (2 + c.len.result) c.in-Ok.found.1.now left.bad below room

pub returns-in-Ok-kept_without_remarks-clause-ok : goal.returns-in-Ok-kept_without_remarks-clause-ok
returns-in-Ok-kept_without_remarks-clause-ok c =
    let h = c.in-Ok.found.0 in
    let ok = h.bases.ok in
    let n : 2 + c.len.result ≡ head_lines (head_of h) = omega (arith, ok, c.len.ensures) in
    let k = c.in-Ok-kept_without_remarks.ensures.ok in
    let left = c.in-Ok-kept_without_remarks.left in
    file_kept c.args.salvage c.args.bytes.now (head_of h) c.in-Ok.found.1.now c.in-Ok.ensures.0 c.in-Ok.ensures.1 (2 + c.len.result) n (content c.in-Ok-kept_without_remarks.saved) k.0 left.bytes left.bad _ _ k.1 k.2 c.bad_in-bad.ensures c.last_place-place.ensures

pub returns-clause-err : goal.returns-clause-err
returns-clause-err c =
    let h = c.in-Ok.found.0 in
    let ok = h.bases.ok in
    let n : 2 + c.len.result ≡ head_lines (head_of h) = omega (arith, ok, c.len.ensures) in
    rw c.journal_refusal.ensures (journal_unkept c.args.salvage c.args.bytes.now (head_of h) c.in-Ok.found.1.now c.in-Ok.ensures.0 c.in-Ok.ensures.1 (2 + c.len.result) n c.in-Err-kept_without_remarks.error c.in-Err-kept_without_remarks.ensures.err)
