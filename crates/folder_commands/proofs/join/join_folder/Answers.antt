use Rattle.std.proofs.Common.{None, inl, inr, subst}
use Rattle.saved_history.specs.Content.{Content, content}
use Rattle.saved_history.specs.Spelling.{text}
use Rattle.ring_check.specs.Legal.{IsLegalText, summary_of}
use Rattle.tool_parts.specs.CheckText.{legal_line}
use Rattle.tool_parts.specs.Handed.{IsHanded, IsHandRefusal}
use Rattle.tool_parts.specs.Worlds.{world}
use Rattle.tool_parts.proofs.Folders.{entered}
use Rattle.folder_commands.proofs.join.join_folder.Goals as goal

pub keep_outside-requires : goal.keep_outside-requires
keep_outside-requires g c = record { folder = entered (g.D.Disk.holds c.args.disk.now) c.args.words.now.folder.now c.args.entries.now c.requires }

pub returns-in-Err-clause-err : goal.returns-in-Err-clause-err
returns-in-Err-clause-err g c early late =
    elim c.in-Err.ensures.err [
      | inl h ↦ inr (c.args.entries.now, c.requires, inl h)
      | inr h ↦ inr (c.args.entries.now, c.requires, inr (h.0, h.1, inl h.2))
    ]

pub returns-in-Err-keep_outside-clause-err : goal.returns-in-Err-keep_outside-clause-err
returns-in-Err-keep_outside-clause-err g c early late =
    inr (c.args.entries.now, c.requires, inr (c.in-Ok.numbers, c.in-Ok.ensures.ok.0, inr (inl c.in-Err-keep_outside.ensures.err)))

pub returns-in-Err-whole_history-clause-err : goal.returns-in-Err-whole_history-clause-err
returns-in-Err-whole_history-clause-err g c early late =
    inr (c.args.entries.now, c.requires, inr (c.in-Ok.numbers, c.in-Ok.ensures.ok.0, inr (inr (inl c.in-Err-whole_history.ensures.err))))

pub returns-in-Ok-hand_over-clause-ok : goal.returns-in-Ok-hand_over-clause-ok
returns-in-Ok-hand_over-clause-ok g c early late =
    let x = c.in-Ok-whole_history.ensures.ok in
    let v = c.in-Ok-whole_history.value in
    let was = world (g.D.Disk.holds c.args.disk.now) None (g.W.Write.contents c.args.out.now) (g.E.Write.contents c.args.err.now) in
    let end = world (g.D.Disk.holds c.hand_over.new.disk) None (g.W.Write.contents c.hand_over.new.out) (g.E.Write.contents c.hand_over.new.err) in
    let handed = subst (λ (k : Content). IsHanded c.args.words.now.new.now (text k) (legal_line (summary_of k)) was end) x.2
    (subst (λ s. IsHanded c.args.words.now.new.now (text (content v.0)) (legal_line s) was end) c.in-Ok-whole_history.ensures.sums c.in-Ok-hand_over.ensures.ok) in (
      c.args.entries.now,
      c.in-Ok.numbers,
      x.0,
      c.requires,
      c.in-Ok.ensures.ok.0,
      c.in-Ok.ensures.ok.1,
      c.in-Ok-keep_outside.ensures.ok,
      x.1,
      subst IsLegalText x.2 c.in-Ok-whole_history.ensures.legal,
      record { to_file = handed.to_file; to_output = handed.to_output },
    )

pub returns-clause-err : goal.returns-clause-err
returns-clause-err g c early late =
    let x = c.in-Ok-whole_history.ensures.ok in
    let v = c.in-Ok-whole_history.value in
    let was = world (g.D.Disk.holds c.args.disk.now) None (g.W.Write.contents c.args.out.now) (g.E.Write.contents c.args.err.now) in
    let end = world (g.D.Disk.holds c.hand_over.new.disk) None (g.W.Write.contents c.hand_over.new.out) (g.E.Write.contents c.hand_over.new.err) in
    let refused = subst (λ (k : Content). IsHandRefusal c.args.words.now.new.now (text k) (legal_line (summary_of k)) was end c.in-Err-hand_over.fault) x.2
    (subst (λ s. IsHandRefusal c.args.words.now.new.now (text (content v.0)) (legal_line s) was end c.in-Err-hand_over.fault) c.in-Ok-whole_history.ensures.sums c.in-Err-hand_over.ensures.err) in
    inr (c.args.entries.now, c.requires, inr (c.in-Ok.numbers, c.in-Ok.ensures.ok.0, inr (inr (inr (x.0, x.1, record { to_file = refused.to_file; to_output = refused.to_output })))))

pub returns-in-Ok-hand_over-clause-unmade : goal.returns-in-Ok-hand_over-clause-unmade
returns-in-Ok-hand_over-clause-unmade g c =
    let x = c.in-Ok-whole_history.ensures.ok in
    inr (
      c.args.entries.now,
      c.in-Ok.numbers,
      x.0,
      c.requires,
      c.in-Ok.ensures.ok.0,
      c.in-Ok.ensures.ok.1,
      c.in-Ok-keep_outside.ensures.ok,
      x.1,
      subst IsLegalText x.2 c.in-Ok-whole_history.ensures.legal,
    )

pub returns-clause-unmade : goal.returns-clause-unmade
returns-clause-unmade g c =
    let x = c.in-Ok-whole_history.ensures.ok in
    inr (
      c.args.entries.now,
      c.in-Ok.numbers,
      x.0,
      c.requires,
      c.in-Ok.ensures.ok.0,
      c.in-Ok.ensures.ok.1,
      c.in-Ok-keep_outside.ensures.ok,
      x.1,
      subst IsLegalText x.2 c.in-Ok-whole_history.ensures.legal,
    )
