use Rattle.std.proofs.Common.{ℕ, List, ◌++◌, subst}
use Rattle.line_service.specs.Loop.{Written, GoesOn, Stops, written_by}
use Rattle.line_service.specs.Stands.{by_stand, stand}
use Rattle.line_service.proofs.Telling.{rests_goes}
use Rattle.line_service.proofs.Parting.{block_stops, block_taken}
use Rattle.line_service.proofs.parts.serve_block.Goals as goal

pub returns-in-Err-clause-serves : goal.returns-in-Err-clause-serves
returns-in-Err-clause-serves g c = λ old before bytes h.
    let now : Written = record { journal = written_by g.J.Grow.contents c.args.journal.now; out = g.W.Write.contents c.args.out.now } in
    subst (λ (x : List ℕ). Stops (by_stand g.S.AnswersLines.is_answered) old before now (bytes ++ x) (stand c.take_bytes.new.service (g.D.Disk.holds c.take_bytes.new.disk))) c.bytes.ensures
    (c.in-Err.ensures.serves old before now bytes (rests_goes c.args.pending.now c.requires.none.0 c.requires.none.1 h))

pub returns-in-Ok-put_pending-clause-serves : goal.returns-in-Ok-put_pending-clause-serves
returns-in-Ok-put_pending-clause-serves g c = λ old before bytes h.
    let now : Written = record { journal = written_by g.J.Grow.contents c.args.journal.now; out = g.W.Write.contents c.args.out.now } in
    let t = block_taken c.args.unread.now c.bytes.result.now c.skip.new.self c.in-Ok.taken.count c.in-Ok.taken.over (λ x. GoesOn (by_stand g.S.AnswersLines.is_answered) old before now (bytes ++ x) (stand c.take_bytes.new.service (g.D.Disk.holds c.take_bytes.new.disk)) c.take_bytes.new.line.items c.take_bytes.new.pending) c.bytes.ensures c.skip.ensures c.in-Ok.ensures.count.1
    (c.in-Ok.ensures.serves old before now bytes (rests_goes c.args.pending.now c.requires.none.0 c.requires.none.1 h)) in (
      t.0,
      t.1,
      t.2,
      c.in-Ok-put_pending.ensures.told old (stand c.take_bytes.new.service (g.D.Disk.holds c.take_bytes.new.disk)) before (bytes ++ t.0) c.take_bytes.new.line.items t.3,
    )

pub returns-in-Err-put_pending-clause-serves : goal.returns-in-Err-put_pending-clause-serves
returns-in-Err-put_pending-clause-serves g c = λ old before bytes h.
    let now : Written = record { journal = written_by g.J.Grow.contents c.args.journal.now; out = g.W.Write.contents c.args.out.now } in
    let t = block_taken c.args.unread.now c.bytes.result.now c.skip.new.self c.in-Ok.taken.count c.in-Ok.taken.over (λ x. GoesOn (by_stand g.S.AnswersLines.is_answered) old before now (bytes ++ x) (stand c.take_bytes.new.service (g.D.Disk.holds c.take_bytes.new.disk)) c.take_bytes.new.line.items c.take_bytes.new.pending) c.bytes.ensures c.skip.ensures c.in-Ok.ensures.count.1
    (c.in-Ok.ensures.serves old before now bytes (rests_goes c.args.pending.now c.requires.none.0 c.requires.none.1 h)) in
    block_stops bytes c.args.unread.now t.0 c.skip.new.self t.1
    (c.in-Err-put_pending.ensures.told old (stand c.take_bytes.new.service (g.D.Disk.holds c.take_bytes.new.disk)) before (bytes ++ t.0) c.take_bytes.new.line.items t.3)

pub returns-in-Err-clause-lasts : goal.returns-in-Err-clause-lasts
returns-in-Err-clause-lasts g c = λ old before bytes h.
    let now : Written = record { journal = written_by g.J.Grow.lasting c.args.journal.now; out = g.W.Write.contents c.args.out.now } in
    subst (λ (x : List ℕ). Stops (by_stand g.S.AnswersLines.is_answered) old before now (bytes ++ x) (stand c.take_bytes.new.service (g.D.Disk.holds c.take_bytes.new.disk))) c.bytes.ensures
    (c.in-Err.ensures.serves old before now bytes (rests_goes c.args.pending.now c.requires.none.0 c.requires.none.1 h))

pub returns-in-Ok-put_pending-clause-lasts : goal.returns-in-Ok-put_pending-clause-lasts
returns-in-Ok-put_pending-clause-lasts g c = λ old before bytes h.
    let now : Written = record { journal = written_by g.J.Grow.lasting c.args.journal.now; out = g.W.Write.contents c.args.out.now } in
    let t = block_taken c.args.unread.now c.bytes.result.now c.skip.new.self c.in-Ok.taken.count c.in-Ok.taken.over (λ x. GoesOn (by_stand g.S.AnswersLines.is_answered) old before now (bytes ++ x) (stand c.take_bytes.new.service (g.D.Disk.holds c.take_bytes.new.disk)) c.take_bytes.new.line.items c.take_bytes.new.pending) c.bytes.ensures c.skip.ensures c.in-Ok.ensures.count.1
    (c.in-Ok.ensures.serves old before now bytes (rests_goes c.args.pending.now c.requires.none.0 c.requires.none.1 h)) in (
      t.0,
      t.1,
      t.2,
      c.in-Ok-put_pending.ensures.lasts old (stand c.take_bytes.new.service (g.D.Disk.holds c.take_bytes.new.disk)) before (bytes ++ t.0) c.take_bytes.new.line.items t.3,
    )

pub returns-in-Err-put_pending-clause-lasts : goal.returns-in-Err-put_pending-clause-lasts
returns-in-Err-put_pending-clause-lasts g c = λ old before bytes h.
    let now : Written = record { journal = written_by g.J.Grow.lasting c.args.journal.now; out = g.W.Write.contents c.args.out.now } in
    let t = block_taken c.args.unread.now c.bytes.result.now c.skip.new.self c.in-Ok.taken.count c.in-Ok.taken.over (λ x. GoesOn (by_stand g.S.AnswersLines.is_answered) old before now (bytes ++ x) (stand c.take_bytes.new.service (g.D.Disk.holds c.take_bytes.new.disk)) c.take_bytes.new.line.items c.take_bytes.new.pending) c.bytes.ensures c.skip.ensures c.in-Ok.ensures.count.1
    (c.in-Ok.ensures.serves old before now bytes (rests_goes c.args.pending.now c.requires.none.0 c.requires.none.1 h)) in
    block_stops bytes c.args.unread.now t.0 c.skip.new.self t.1
    (c.in-Err-put_pending.ensures.lasts old (stand c.take_bytes.new.service (g.D.Disk.holds c.take_bytes.new.disk)) before (bytes ++ t.0) c.take_bytes.new.line.items t.3)
