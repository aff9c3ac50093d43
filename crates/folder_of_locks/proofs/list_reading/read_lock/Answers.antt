use Rattle.std.proofs.Common.{refl, sym, ◌∙◌, subst, rules}
use Rattle.std.proofs.lemmas.Bool.{false≢true}
use Rattle.lock_protocol.specs.Names.{IsName}
use Rattle.folder_of_locks.proofs.Cuts.{parts, whole, after_size, is_after}
use Rattle.folder_of_locks.proofs.list_reading.read_lock.Goals as goal

pub returns-in_default : goal.returns-in_default
returns-in_default c = λ l is.
    let p = parts c.args.mark c.args.text.now c.cut.result.0.now _ l is.size c.requires is.name c.cut.ensures is.spelled is.sized in
    c.in_default.ensures l.n l.k is.machines is.values is.size p.1 is.sized

pub returns-then-not-is_name : goal.returns-then-not-is_name
returns-then-not-is_name c = λ l is.
    let p = parts c.args.mark c.args.text.now c.cut.result.0.now _ l is.size c.requires is.name c.cut.ensures is.spelled is.sized in
    false≢true (c.if-not-is_name.ensures.1 (subst IsName (p.0 ∙ sym c.as_bytes.ensures.value) is.name))

pub returns : goal.returns
returns c = record {
  name = subst IsName c.as_bytes.ensures.value (c.if-not-is_name.ensures.0 refl);
  machines = search rules;
  values = search rules;
  size = after_size c.args.mark _;
  spelled = whole c.args.mark c.args.text.now c.cut.result.0.now _ _ c.cut.ensures (is_after c.args.mark _);
  sized = c.in-Some.ensures (after_size c.args.mark _) (is_after c.args.mark _);
}
