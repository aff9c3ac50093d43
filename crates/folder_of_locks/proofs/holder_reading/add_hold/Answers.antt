use Rattle.std.proofs.Common.{◌≡◌, [], ◌∷◌, ◌++◌, map, ap, ◌∙◌, rules, arith}
use Rattle.std.proofs.lemmas.List.{length-map, map-append}
use Rattle.folder_of_locks.specs.Holders.{Hold, hold_of}
use Rattle.folder_of_locks.specs.HolderSteps.{in_text}
use Rattle.folder_of_locks.proofs.Lines.{hold_takes, no_hold}
use Rattle.folder_of_locks.proofs.holder_reading.add_hold.Goals as goal

pub returns-in-Err-Fault-clause-err : goal.returns-in-Err-Fault-clause-err
returns-in-Err-Fault-clause-err c = (let n = c.len.ensures in let m = length-map c.args.holders.now.items hold_of in let k = c.args.holders.now.ok.0 in omega (arith, n, m, k), no_hold c.args.bytes.now c.in-Err-Fault.field-0-0 (rw c.in-Err-Fault.field-0-is at c.in-Err-Fault.ensures))

pub returns-clause-ok : goal.returns-clause-ok
returns-clause-ok c =
    let h : Hold = in_text c.in-Ok.read.0 in
    let t = hold_takes c.args.bytes.now h c.in-Ok.read.1.now c.in-Ok.ensures in
    let olds = c.args.holders.now.items in
    let pushed : c.push.new.self.items ≡ olds ++ c.in-Ok-named.holder ∷ [] = search rules in
    let all : map hold_of c.push.new.self.items ≡ map hold_of olds ++ h ∷ [] =
    ap (λ x. map hold_of x) pushed ∙ (map-append hold_of olds (c.in-Ok-named.holder ∷ []) ∙ ap (λ (x : Hold). map hold_of olds ++ x ∷ []) c.in-Ok-named.ensures) in
    (h, t.0, t.1, all)
