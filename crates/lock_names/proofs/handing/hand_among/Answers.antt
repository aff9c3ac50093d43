use Rattle.std.proofs.Common.{List, refl, sym, ◌∙◌, ap, subst, inl, inr}
use Rattle.std.proofs.lemmas.Bool.{cases_Bool}
use Rattle.held_locks.specs.Kept.{LockView}
use Rattle.lock_names.specs.declared.asks.Rings.{Rings}
use Rattle.lock_names.specs.Kept.{seen, IsKeptNamed}
use Rattle.lock_names.proofs.HandedNames.{name_entry, name_within, lock_within, token_fits, handed_by_name, not_handed_by_name, handed_kept, none_named}
use Rattle.lock_names.proofs.Taking.{ring_found}
use Rattle.lock_names.proofs.handing.hand_among.Goals as goal

pub counts-counts-requires : goal.counts-counts-requires
counts-counts-requires c =
    let v = seen c.args.rings.now c.args.table.now in
    let r = ring_found c.args.name.now c.args.table.now c.in-Some.ring (sym c.find.ensures ∙ c.in-Some.is) in
    name_within v c.args.name.now c.in-Some.ring r.0 r.1

pub holder-requires : goal.holder-requires
holder-requires c =
    let v = seen c.args.rings.now c.args.table.now in
    let r = ring_found c.args.name.now c.args.table.now c.in-Some.ring (sym c.find.ensures ∙ c.in-Some.is) in
    lock_within v c.args.name.now c.in-Some.ring r.0 c.requires r.1

pub own_number-own-requires : goal.own_number-own-requires
own_number-own-requires c =
    let v = seen c.args.rings.now c.args.table.now in
    let x = c.args.name.now in
    let r = ring_found x c.args.table.now c.in-Some.ring (sym c.find.ensures ∙ c.in-Some.is) in
    let counts = c.counts-counts.ensures r.0 (name_entry v x c.in-Some.ring r.0 r.1) in
    token_fits v x c.in-Some.ring r.0 c.counts-counts.result c.holder.result c.requires r.1 counts c.holder.ensures

pub returns-in_default-clause-no : goal.returns-in_default-clause-no
returns-in_default-clause-no c = λ e. (none_named (seen c.args.rings.now c.args.table.now) c.args.name.now c.args.token (sym c.find.ensures ∙ c.in_default.is), refl)

pub returns-clause-yes : goal.returns-clause-yes
returns-clause-yes c = λ done.
    let v = seen c.args.rings.now c.args.table.now in
    let x = c.args.name.now in
    let r = ring_found x c.args.table.now c.in-Some.ring (sym c.find.ensures ∙ c.in-Some.is) in
    let counts = c.counts-counts.ensures r.0 (name_entry v x c.in-Some.ring r.0 r.1) in
    handed_by_name v x c.args.token c.args.client c.in-Some.ring r.0 c.counts-counts.result c.own_number-own.result c.holder.result c.requires r.1 counts c.holder.ensures c.own_number-own.ensures c.hand-handed.new.self (c.hand-handed.ensures.yes done)

pub returns-clause-no : goal.returns-clause-no
returns-clause-no c = λ refused.
    let v = seen c.args.rings.now c.args.table.now in
    let x = c.args.name.now in
    let r = ring_found x c.args.table.now c.in-Some.ring (sym c.find.ensures ∙ c.in-Some.is) in
    let counts = c.counts-counts.ensures r.0 (name_entry v x c.in-Some.ring r.0 r.1) in
    let cannot = c.hand-handed.ensures.no refused in
    let now : Rings = c.args.rings.now in (
      not_handed_by_name v x c.args.token c.args.client c.in-Some.ring r.0 c.counts-counts.result c.own_number-own.result c.holder.result c.requires r.1 counts c.holder.ensures c.own_number-own.ensures cannot.0,
      ap (λ (ls : List LockView). record now { locks = ls }) cannot.1,
    )

pub returns-clause-kept : goal.returns-clause-kept
returns-clause-kept c =
    let v = seen c.args.rings.now c.args.table.now in
    let x = c.args.name.now in
    let r = ring_found x c.args.table.now c.in-Some.ring (sym c.find.ensures ∙ c.in-Some.is) in
    let counts = c.counts-counts.ensures r.0 (name_entry v x c.in-Some.ring r.0 r.1) in
    let now : Rings = c.args.rings.now in
    elim (cases_Bool c.hand-handed.result) [
      | inl done ↦ handed_kept v x c.args.token c.args.client c.in-Some.ring r.0 c.counts-counts.result c.own_number-own.result c.holder.result c.requires r.1 counts c.holder.ensures c.own_number-own.ensures c.hand-handed.new.self
          (c.hand-handed.ensures.yes done) c.are_kept.ensures.1.right
      | inr cannot ↦ subst (λ (ls : List LockView). IsKeptNamed (seen (record now { locks = ls }) c.args.table.now)) (sym (c.hand-handed.ensures.no cannot).1) c.requires
    ]
