use Rattle.std.proofs.Common.{sym, ◌∙◌, ap, arith, Option}
use Rattle.std.specs.Prelude.{is_some}
use Rattle.held_locks.specs.declared.answers.Holder.{Holder}
use Rattle.name_bindings.proofs.Found.{there_is}
use Rattle.lock_names.proofs.Taking.{settle_free, settle_kept, gone_free, gone_kept}
use Rattle.lock_names.proofs.names.settle.Goals as goal

pub returns-then-ring-rings-clause-names : goal.returns-then-ring-rings-clause-names
returns-then-ring-rings-clause-names c = λ b entry.
    let w = there_is c.args.rings.now.locks c.args.ring c.requires.lock in
    settle_kept c.args.table.now c.args.rings.now.locks c.args.rings.now.fixed c.args.ring b w.0 entry w.1 (λ le. let lt = c.if-ring-rings.true in absurd (omega (arith, le)))

pub returns-then-ring-rings-clause-freed : goal.returns-then-ring-rings-clause-freed
returns-then-ring-rings-clause-freed c =
    let w = there_is c.args.rings.now.locks c.args.ring c.requires.lock in
    gone_kept c.args.rings.now.locks c.args.rings.now.fixed c.args.ring w.0 w.1 (λ le. let lt = c.if-ring-rings.true in absurd (omega (arith, le)))

pub returns-then-is_some-clause-names : goal.returns-then-is_some-clause-names
returns-then-is_some-clause-names c = λ b entry.
    let w = there_is c.args.rings.now.locks c.args.ring c.requires.lock in
    settle_kept c.args.table.now c.args.rings.now.locks c.args.rings.now.fixed c.args.ring b w.0 entry w.1
    (λ le. ap (λ (o : Option Holder). is_some o) (sym (c.holder.ensures w.0 w.1)) ∙ sym c.is_some.ensures ∙ c.if-is_some.true)

pub returns-then-is_some-clause-freed : goal.returns-then-is_some-clause-freed
returns-then-is_some-clause-freed c =
    let w = there_is c.args.rings.now.locks c.args.ring c.requires.lock in
    gone_kept c.args.rings.now.locks c.args.rings.now.fixed c.args.ring w.0 w.1
    (λ le. ap (λ (o : Option Holder). is_some o) (sym (c.holder.ensures w.0 w.1)) ∙ sym c.is_some.ensures ∙ c.if-is_some.true)

pub returns-clause-names : goal.returns-clause-names
returns-clause-names c = λ b entry.
    let w = there_is c.args.rings.now.locks c.args.ring c.requires.lock in
    let ge = c.if-ring-rings.false in
    c.forget.ensures ∙ settle_free c.args.table.now c.args.rings.now.locks c.args.rings.now.fixed c.args.ring b w.0 w.1 (omega arith)
    (ap (λ (o : Option Holder). is_some o) (sym (c.holder.ensures w.0 w.1)) ∙ sym c.is_some.ensures ∙ c.if-is_some.false)

pub returns-clause-freed : goal.returns-clause-freed
returns-clause-freed c =
    let w = there_is c.args.rings.now.locks c.args.ring c.requires.lock in
    let ge = c.if-ring-rings.false in
    gone_free c.args.rings.now.locks c.args.rings.now.fixed c.args.ring w.0 w.1 (omega arith)
    (ap (λ (o : Option Holder). is_some o) (sym (c.holder.ensures w.0 w.1)) ∙ sym c.is_some.ensures ∙ c.if-is_some.false)
