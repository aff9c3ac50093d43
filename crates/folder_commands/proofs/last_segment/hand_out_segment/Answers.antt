use Rattle.std.proofs.Common.{◌++◌, None, inl, inr, refl, subst}
use Rattle.saved_history.specs.Content.{content}
use Rattle.saved_history.specs.Spelling.{text}
use Rattle.tool_parts.specs.CheckText.{legal_line}
use Rattle.tool_parts.specs.Handed.{IsHanded, IsHandRefusal}
use Rattle.tool_parts.specs.Kept.{left_line}
use Rattle.tool_parts.specs.Worlds.{world}
use Rattle.folder_commands.proofs.last_segment.hand_out_segment.Goals as goal

pub returns-in-Err-clause-err : goal.returns-in-Err-clause-err
returns-in-Err-clause-err g c bytes early late =
    let v = c.args.recovered.now.value in
    let left = c.args.recovered.now.left in
    let h = subst (λ s. IsHandRefusal c.args.word.now (text (content v.0)) (legal_line s ++ left_line left.bytes left.bad) (world (g.D.Disk.holds c.args.disk.now) None (g.W.Write.contents c.args.out.now) (g.E.Write.contents c.args.err.now))
    (world (g.D.Disk.holds c.hand_over_kept.new.disk) None (g.W.Write.contents c.hand_over_kept.new.out) (g.E.Write.contents c.hand_over_kept.new.err)) c.in-Err.fault) c.requires.sums c.in-Err.ensures.err in
    inl (record { to_file = h.to_file; to_output = h.to_output })

pub returns-in-Ok-tell_head-clause-ok : goal.returns-in-Ok-tell_head-clause-ok
returns-in-Ok-tell_head-clause-ok g c bytes early late =
    let v = c.args.recovered.now.value in
    let left = c.args.recovered.now.left in
    let h = subst (λ s. IsHanded c.args.word.now (text (content v.0)) (legal_line s ++ left_line left.bytes left.bad) (world (g.D.Disk.holds c.args.disk.now) None (g.W.Write.contents c.args.out.now) (g.E.Write.contents c.args.err.now))
    (world (g.D.Disk.holds c.hand_over_kept.new.disk) None (g.W.Write.contents c.hand_over_kept.new.out) (g.E.Write.contents c.hand_over_kept.new.err))) c.requires.sums c.in-Ok.ensures.ok in
    let t = c.in-Ok-tell_head.ensures.ok in (
      world (g.D.Disk.holds c.hand_over_kept.new.disk) late (g.W.Write.contents c.hand_over_kept.new.out) (g.E.Write.contents c.hand_over_kept.new.err),
      record { to_file = h.to_file; to_output = h.to_output },
      record { files = refl; to_file = t.to_file; to_output = t.to_output },
    )

pub returns-in-Err-tell_head-clause-err : goal.returns-in-Err-tell_head-clause-err
returns-in-Err-tell_head-clause-err g c bytes early late =
    let v = c.args.recovered.now.value in
    let left = c.args.recovered.now.left in
    let h = subst (λ s. IsHanded c.args.word.now (text (content v.0)) (legal_line s ++ left_line left.bytes left.bad) (world (g.D.Disk.holds c.args.disk.now) None (g.W.Write.contents c.args.out.now) (g.E.Write.contents c.args.err.now))
    (world (g.D.Disk.holds c.hand_over_kept.new.disk) None (g.W.Write.contents c.hand_over_kept.new.out) (g.E.Write.contents c.hand_over_kept.new.err))) c.requires.sums c.in-Ok.ensures.ok in
    let t = c.in-Err-tell_head.ensures.err.1 in
    inr (
      refl,
      (
        world (g.D.Disk.holds c.hand_over_kept.new.disk) late (g.W.Write.contents c.hand_over_kept.new.out) (g.E.Write.contents c.hand_over_kept.new.err),
        record { to_file = h.to_file; to_output = h.to_output },
        record { files = refl; to_file = t.to_file; to_output = t.to_output },
      ),
    )
