use Rattle.std.proofs.Common.{◌≡◌, ℕ, List, ◌++◌, ap, sym, ◌∙◌, append_assoc}
use Rattle.std.specs.Prelude.{OnOk, Result, Ok, Err}
use Rattle.line_service.specs.Answering.{joined_lines}
use Rattle.line_replica.specs.State.{key_lines, lines_at}
use Rattle.line_replica.proofs.JoinedLines.{joined_append}
use Rattle.line_replica.proofs.stating.ReplicaHasState.put_state.Goals as goal

if_ok : {T E P : Type 0} (r : Result T E) → P → OnOk r P
if_ok (Ok x) p = p
if_ok (Err e) p = tt

three : (a t u v : List ℕ) (x y z : List (List ℕ)) → t ≡ a ++ joined_lines x → u ≡ t ++ joined_lines y → v ≡ u ++ joined_lines z → v ≡ a ++ joined_lines (x ++ (y ++ z))
three a t u v x y z p q r =
    r ∙ (ap (λ (w : List ℕ). w ++ joined_lines z) (q ∙ ap (λ (w : List ℕ). w ++ joined_lines y) p)
    ∙ (append_assoc (a ++ joined_lines x) (joined_lines y) (joined_lines z)
    ∙ (append_assoc a (joined_lines x) (joined_lines y ++ joined_lines z)
    ∙ ap (λ (w : List ℕ). a ++ w) (ap (λ (w : List ℕ). joined_lines x ++ w) (sym (joined_append y z)) ∙ sym (joined_append x (y ++ z))))))

pub returns-clause-lines : goal.returns-clause-lines
returns-clause-lines g c =
    let r = c.args.self.now in
    if_ok c.sum_of.result (three c.args.text.now.items c.put_state.new.text.items c.put.new.text.items c.put-2.new.text.items (g.S.HasState.state_lines r.numbered.inner) (key_lines r.numbered.keys) (lines_at r.running.place r.running.since)
    c.in-Ok.ensures.lines c.in-Ok-put.ensures.lines c.in-Ok-put-2.ensures.lines)
