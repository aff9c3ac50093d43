use Rattle.std.proofs.Common.{◌++◌, None, inl, inr, sym, subst}
use Rattle.std.proofs.lemmas.Result.{err_from_is_err_and}
use Rattle.saved_history.specs.Content.{content}
use Rattle.saved_history.specs.Spelling.{text}
use Rattle.ring_check.specs.Legal.{summary_of}
use Rattle.tool_parts.specs.CheckText.{legal_line}
use Rattle.tool_parts.specs.Handed.{IsHanded, IsHandRefusal}
use Rattle.tool_parts.specs.Kept.{left_line}
use Rattle.tool_parts.specs.Named.{IsNamed}
use Rattle.tool_parts.specs.Worlds.{world}
use Rattle.folder_commands.proofs.recover.recover_text.Goals as goal

pub returns-in_err-keep_word_apart-clause-err : goal.returns-in_err-keep_word_apart-clause-err
returns-in_err-keep_word_apart-clause-err g c =
    let named = c.in_ok-bytes.ensures.ok in
    let p = err_from_is_err_and c.from_residual-in_err-keep_word_apart.result c.from_residual-in_err-keep_word_apart.ensures.1 in
    rw (p.1, p.2) (inr (_, named, inl c.in_err-keep_word_apart.ensures.err))

pub returns-in_err-kept-clause-err : goal.returns-in_err-kept-clause-err
returns-in_err-kept-clause-err g c =
    let named = subst (λ t. IsNamed c.args.words.now.file.now (g.D.Disk.holds c.args.disk.now) (g.I.Read.remaining c.args.input.now) (g.I.Read.remaining c.read_named.new.input) t)
    (sym c.as_slice.ensures.value) c.in_ok-bytes.ensures.ok in
    let p = err_from_is_err_and c.from_residual-in_err-kept.result c.from_residual-in_err-kept.ensures.1 in
    rw (p.1, p.2) (inr (_, named, inr (inl c.in_err-kept.ensures.err)))

pub returns-in-Ok-clause-ok : goal.returns-in-Ok-clause-ok
returns-in-Ok-clause-ok g c =
    let named = subst (λ t. IsNamed c.args.words.now.file.now (g.D.Disk.holds c.args.disk.now) (g.I.Read.remaining c.args.input.now) (g.I.Read.remaining c.read_named.new.input) t)
    (sym c.as_slice.ensures.value) c.in_ok-bytes.ensures.ok in
    let k = c.in_ok-kept.kept in
    let v = content k.value.0 in
    let is = c.in_ok-kept.ensures.ok in
    let was = world (g.D.Disk.holds c.args.disk.now) None (g.W.Write.contents c.args.out.now) (g.E.Write.contents c.args.err.now) in
    let end = world (g.D.Disk.holds c.hand_over_kept.new.disk) None (g.W.Write.contents c.hand_over_kept.new.out) (g.E.Write.contents c.hand_over_kept.new.err) in
    let handed = subst (λ n. IsHanded c.args.words.now.new.now (text v) (legal_line (summary_of v) ++ left_line n k.left.bad) was end) is.2
    (subst (λ s. IsHanded c.args.words.now.new.now (text v) (legal_line s ++ left_line k.left.bytes k.left.bad) was end) c.in_ok-kept.ensures.sums c.in-Ok.ensures.ok) in
    (_, v, is.0, k.left.bad, named, c.in_ok-keep_word_apart.ensures.ok, is.1, record { to_file = handed.to_file; to_output = handed.to_output })

pub returns-clause-err : goal.returns-clause-err
returns-clause-err g c =
    let named = subst (λ t. IsNamed c.args.words.now.file.now (g.D.Disk.holds c.args.disk.now) (g.I.Read.remaining c.args.input.now) (g.I.Read.remaining c.read_named.new.input) t)
    (sym c.as_slice.ensures.value) c.in_ok-bytes.ensures.ok in
    let k = c.in_ok-kept.kept in
    let v = content k.value.0 in
    let is = c.in_ok-kept.ensures.ok in
    let was = world (g.D.Disk.holds c.args.disk.now) None (g.W.Write.contents c.args.out.now) (g.E.Write.contents c.args.err.now) in
    let end = world (g.D.Disk.holds c.hand_over_kept.new.disk) None (g.W.Write.contents c.hand_over_kept.new.out) (g.E.Write.contents c.hand_over_kept.new.err) in
    let refused = subst (λ n. IsHandRefusal c.args.words.now.new.now (text v) (legal_line (summary_of v) ++ left_line n k.left.bad) was end c.in-Err.fault) is.2
    (subst (λ s. IsHandRefusal c.args.words.now.new.now (text v) (legal_line s ++ left_line k.left.bytes k.left.bad) was end c.in-Err.fault) c.in_ok-kept.ensures.sums c.in-Err.ensures.err) in
    inr (_, named, inr (inr (v, is.0, k.left.bad, is.1, record { to_file = refused.to_file; to_output = refused.to_output })))
