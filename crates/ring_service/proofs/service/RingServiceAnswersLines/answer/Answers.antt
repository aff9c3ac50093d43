use Rattle.std.proofs.Common.{◌≡◌, ℕ, List, false, sym, ap, subst, ◌∙◌}
use Rattle.ring_service.specs.Permits.{terms_by}
use Rattle.ring_service.specs.Standings.{Standing}
use Rattle.ring_service.specs.Serving.{IsAnswered}
use Rattle.ring_service.specs.Services.{ServiceView, service_by, may_save, IsServed}
use Rattle.ring_service.proofs.Heeding.{made_ok, made_err}
use Rattle.ring_service.proofs.Sparing.{no_folder}
use Rattle.ring_service.proofs.Known.{open_known, served_known}
use Rattle.ring_service.proofs.service.RingServiceAnswersLines.answer.Goals as goal

pub answer_by-told-requires : goal.answer_by-told-requires
answer_by-told-requires g c =
    let s = c.self.inside in
    open_known s.rules s.served s.shut c.args.self.now c.self.invariant c.self.view_is c.requires

pub invariant_of-self : goal.invariant_of-self
invariant_of-self g c = record { limit = c.self.invariant.limit; tied = c.answer_by-told.ensures.tied }

pub returns-clause-ok : goal.returns-clause-ok
returns-clause-ok g c =
    let s = c.self.inside in
    let was = g.D.Disk.holds c.args.disk.now in
    let is = g.D.Disk.holds c.answer_by-told.new.disk in
    let rings = c.answer_by-told.new.served in
    let new : ServiceView = service_by s.rules rings in
    made_ok c.answer_by-told.result ((rings ≡ s.served) × (is ≡ was)) (λ say note. IsAnswered (terms_by s.rules) s.served was c.args.line.now say note rings is) (λ (say note : List ℕ). IsServed c.args.self.now was c.args.line.now say note new is)
    c.args.pending.now c.answer_by-told.new.pending (λ say note a. served_known s.rules s.served rings c.answer_by-told.new.shut c.args.self.now was is c.args.line.now say note c.self.view_is a c.answer_by-told.ensures.tied c.are_right.ensures) c.answer_by-told.ensures.answered

pub returns-clause-err : goal.returns-clause-err
returns-clause-err g c =
    let s = c.self.inside in
    let was = g.D.Disk.holds c.args.disk.now in
    let is = g.D.Disk.holds c.answer_by-told.new.disk in
    let rings = c.answer_by-told.new.served in
    let new : ServiceView = service_by s.rules rings in
    made_err c.answer_by-told.result ((rings ≡ s.served) × (is ≡ was)) ((new ≡ c.args.self.now) × (is ≡ was)) (λ say note. IsAnswered (terms_by s.rules) s.served was c.args.line.now say note rings is) (λ (say note : List ℕ). IsServed c.args.self.now was c.args.line.now say note new is)
    c.args.pending.now c.answer_by-told.new.pending (λ e. (ap (λ (x : List Standing). service_by s.rules x) e.0 ∙ c.self.view_is, e.1)) (λ say note a. served_known s.rules s.served rings c.answer_by-told.new.shut c.args.self.now was is c.args.line.now say note c.self.view_is a c.answer_by-told.ensures.tied c.are_right.ensures) c.answer_by-told.ensures.answered

pub returns-clause-unchanged : goal.returns-clause-unchanged
returns-clause-unchanged g c = λ none.
    let s = c.self.inside in
    let off : may_save (service_by s.rules s.served) ≡ false = subst (λ (x : ServiceView). may_save x ≡ false) (sym c.self.view_is) none in
    (c.answer_by-told.ensures.unchanged (no_folder s.rules.permits.saves off), off)
