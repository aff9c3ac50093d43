use Rattle.std.proofs.Common.{ℕ, List, ◌++◌, ap, sym, ◌∙◌, append_assoc, append-nil}
use Rattle.std.specs.Map.Iter.{deref_pair}
use Rattle.std.proofs.lemmas.Map.Iter.{rest_more, rest_all}
use Rattle.line_service.specs.Answering.{joined_lines}
use Rattle.line_replica.specs.Keys.{Table}
use Rattle.line_replica.specs.State.{key_line, key_lines}
use Rattle.line_replica.proofs.keys.put_keys.Goals as goal

pub loop-key-preserved : goal.loop-key-preserved
loop-key-preserved c =
    let l = c.loop-key in
    let line = key_line (c.in-Some.key.now, c.in-Some.told.now) in
    let rest = joined_lines (key_lines c.next.new.self) in
    let cut = rest_more deref_pair l.key-iterator c.next.new.self c.next.result (c.in-Some.key, c.in-Some.told) c.in-Some.is c.next.ensures.steps in
    ap (λ (u : List ℕ). u ++ rest) c.in-Ok.ensures
    ∙ (append_assoc l.text.items line rest
    ∙ (ap (λ (u : Table). l.text.items ++ joined_lines (key_lines u)) (sym cut) ∙ l.invariant))

pub returns : goal.returns
returns c =
    let l = c.loop-key in
    let none = rest_all deref_pair l.key-iterator c.next.new.self c.next.result c.in-None.is c.next.ensures.steps in
    sym (append-nil l.text.items) ∙ (ap (λ (u : Table). l.text.items ++ joined_lines (key_lines u)) (sym none) ∙ l.invariant)
