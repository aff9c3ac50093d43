use Rattle.std.proofs.Common.{◌≡◌, ℕ, ◌+◌, List, IsTrue, sym, subst, ◌∙◌, arith}
use Rattle.std.proofs.lemmas.List.{append_cancel_left}
use Rattle.saved_history.specs.Content.{content}
use Rattle.segment_files.specs.Spelling.{head_of, head_text}
use Rattle.segment_files.specs.Remarks.{IsEnded, without_remarks}
use Rattle.segment_files.specs.Files.{IsAllOf}
use Rattle.segment_files.specs.Chain.{head_lines}
use Rattle.segment_files.proofs.Choosing.{clash}
use Rattle.segment_files.proofs.Refusing.{journal_refused, line_room}
use Rattle.segment_files.proofs.segments.read_segment.Goals as goal
use Rattle.segment_files.proofs.segments.read_segment.Goals.{then-all, else-all}

pub journal_refusal-requires : goal.journal_refusal-requires
journal_refusal-requires c =
    let h = c.in-Ok.found.0 in
    let ok = h.bases.ok in
    let n : 2 + c.len.result ≡ head_lines (head_of h) = omega (arith, ok, c.len.ensures) in
    let room = line_room c.args.bytes.now (head_of h) c.in-Ok.found.1.now c.in-Ok.ensures.0 c.in-Ok.ensures.1 c.in-Err-read_rest.error c.in-Err-read_rest.ensures in
    omega (arith, n, room)

pub returns-in-Err-read_rest : goal.returns-in-Err-read_rest
returns-in-Err-read_rest c =
    let h = c.in-Ok.found.0 in
    let ok = h.bases.ok in
    let n : 2 + c.len.result ≡ head_lines (head_of h) = omega (arith, ok, c.len.ensures) in
    rw c.journal_refusal.ensures (journal_refused c.args.bytes.now (head_of h) c.in-Ok.found.1.now c.in-Ok.ensures.0 c.in-Ok.ensures.1 (2 + c.len.result) c.in-Err-read_rest.error n c.in-Err-read_rest.ensures)

pub returns-after-all : goal.returns-after-all
returns-after-all c =
    let h = head_of c.in-Ok.found.0 in
    let rest = c.in-Ok.found.1.now in
    let k = content c.in-Ok-read_rest.saved in
    let r = c.in-Ok-read_rest.ensures in
    let whole : IsTrue c.if-all.whole → IsEnded rest × IsAllOf (without_remarks rest) k = λ t. elim c.if-all.branch [
      | then-all w ↦ (w.is_ended-whole.ensures.0 (sym w.whole-is ∙ t), r.1.0 w.if-all.true)
      | else-all w ↦ absurd (clash c.in-Ok-read_rest.all w.if-all.false (sym w.whole-is ∙ t))
    ] in
    let back : IsEnded rest → IsAllOf (without_remarks rest) k → IsTrue c.if-all.whole = λ e a. elim c.if-all.branch [
      | then-all w ↦ w.whole-is ∙ w.is_ended-whole.ensures.1 e
      | else-all w ↦ absurd (clash c.in-Ok-read_rest.all w.if-all.false (r.1.1 a))
    ] in (
      record { rest = rest; fits = c.in-Ok.ensures.0; spelled = c.in-Ok.ensures.1; recovered = r.0 },
      (
        λ t. record { rest = rest; spelled = c.in-Ok.ensures.1; ended = (whole t).0; all = (whole t).1 },
        λ w.
            let same : w.rest ≡ rest = append_cancel_left (head_text h) w.rest rest (sym w.spelled ∙ c.in-Ok.ensures.1) in
            back (subst IsEnded same w.ended) (subst (λ (u : List ℕ). IsAllOf (without_remarks u) k) same w.all),
      ),
    )
