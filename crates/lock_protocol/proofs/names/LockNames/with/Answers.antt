use Rattle.std.proofs.Common.{◌≡◌, ℕ, List, map, None, ap, sym, ◌∙◌, refl, rules}
use Rattle.lock_protocol.specs.Names.{Names, lock_named}
use Rattle.lock_protocol.proofs.NameTables.{table_more}
use Rattle.lock_protocol.proofs.names.LockNames.with.Goals as goal

pub returns-in-Ok-Some-clause-err : goal.returns-in-Ok-Some-clause-err
returns-in-Ok-Some-clause-err c =
    let names : Names = map (λ v. v.items) c.self.inside.names.items in (
      c.in-Ok-Some.field-0-0,
      ap (λ (x : Names). lock_named x c.args.name.now) (sym c.self.view_is)
          ∙ (ap (λ (x : List ℕ). lock_named names x) (sym c.in-Ok.ensures) ∙ (sym (c.self.invariant.1 c.in-Ok.key.items) ∙ (sym c.in-Ok-Some.ensures.old ∙ c.in-Ok-Some.field-0-is))),
    )

pub invariant_of-result : goal.invariant_of-result
invariant_of-result c =
    let names : Names = map (λ v. v.items) c.self.inside.names.items in
    let none : lock_named names c.args.name.now ≡ None =
    ap (λ (x : List ℕ). lock_named names x) (sym c.in-Ok.ensures) ∙ (sym (c.self.invariant.1 c.in-Ok.key.items) ∙ (sym c.in-Ok-None.ensures.old ∙ c.in-Ok-None.field-0-is)) in
    table_more (λ v. v.items) (λ k. k.items) c.self.inside.names.items c.push.new.self.items c.self.inside.numbers c.insert.new.self c.in-Ok-copied.kept c.in-Ok.key c.args.name.now c.len-lock.result (search rules) c.self.invariant.0 c.self.invariant.1 (search rules) (c.if-not-is_name.ensures.0 refl)
    c.in-Ok-copied.ensures c.in-Ok.ensures (search rules) c.in-Ok-None.ensures.updates none
