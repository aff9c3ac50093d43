use Rattle.std.proofs.Common.{ap, length, sym, subst, All, List, arith}
use Rattle.ring_model.specs.Ring.{Ring}
use Rattle.ring_model.specs.History.{opening}
use Rattle.ring_model.specs.HistoryLaws.{Settlement}
use Rattle.ring_model.specs.Progress.{Progress}
use Rattle.ring_model.specs.Logs.{Fits}
use Rattle.ring_model.proofs.HistoryLaws.{settlement}
use Rattle.ring_model.proofs.Progress.{history_progress}
use mathlib.Core.List.{IsPrefix}
use Rattle.ring_model.specs.declared.events.Event.{Event}
use Rattle.ring_shared.specs.Client.{Client}
use Rattle.ring_shared.proofs.Orders.{fits_of, calls_of_fits}
use Rattle.ring_shared.proofs.rings.Ring.close.Goals as goal

pub logs_by_number-requires-clause-room : goal.logs_by_number-requires-clause-room
logs_by_number-requires-clause-room g c = let m = c.in-Ok.ensures.room.0 in let k = ap length c.as_slice.ensures.value in omega arith

pub logs_by_number-requires-clause-all : goal.logs_by_number-requires-clause-all
logs_by_number-requires-clause-all g c = let m = c.in-Ok.ensures.all in let k = ap length c.as_slice.ensures.value in omega arith

pub returns-clause-settlement : goal.returns-clause-settlement
returns-clause-settlement g c =
    let held = c.into_parts-book.ensures.held in
    let at : Ring → Type 0 = λ r. Settlement g.R.Resource.works (opening r g.R.Resource.first) c.into_parts-book.result.0.history in
    subst at held.begins (settlement g.R.Resource.works (opening c.into_parts-book.result.0.start g.R.Resource.first) c.into_parts-book.result.0.history held.book.start_ring.ring held.book.legal)

pub returns-clause-progress : goal.returns-clause-progress
returns-clause-progress g c =
    let held = c.into_parts-book.ensures.held in
    let at : Ring → Type 0 = λ r. Progress g.R.Resource.works (opening r g.R.Resource.first) c.into_parts-book.result.0.history in
    subst at held.begins (history_progress g.R.Resource.works (opening c.into_parts-book.result.0.start g.R.Resource.first) c.into_parts-book.result.0.history held.book.start_ring.ring held.book.legal)

pub returns-clause-fits : goal.returns-clause-fits
returns-clause-fits g c =
    let all = λ (ss : List Client). All (λ (s : Client). Fits g.R.Resource.works (opening c.into_parts-book.result.0.start g.R.Resource.first) c.into_parts-book.result.0.history s.number s.log) ss in
    let fit = subst all c.as_slice.ensures.value c.in-Ok.ensures.fits in
    let t = c.logs_by_number.ensures.sorted in
    rw (sym c.into_parts-book.ensures.held.begins) (fits_of _ _ _ _ _ _ t.1 t.2 fit)

pub returns-clause-calls : goal.returns-clause-calls
returns-clause-calls g c =
    let all = λ (ss : List Client). All (λ (s : Client). Fits g.R.Resource.works (opening c.into_parts-book.result.0.start g.R.Resource.first) c.into_parts-book.result.0.history s.number s.log) ss in
    let fit = subst all c.as_slice.ensures.value c.in-Ok.ensures.fits in
    let t = c.logs_by_number.ensures.sorted in
    calls_of_fits g.R.Resource.works (opening c.into_parts-book.result.0.start g.R.Resource.first) c.into_parts-book.result.0.history _ (fits_of _ _ _ _ _ _ t.1 t.2 fit)

pub returns-clause-logs : goal.returns-clause-logs
returns-clause-logs g c = c.logs_by_number.ensures.numbered

pub returns-clause-seen : goal.returns-clause-seen
returns-clause-seen g c =
    let begins = subst (λ (ss : List Client). All (λ (s : Client). IsPrefix s.seen c.into_parts-book.result.1) ss) c.as_slice-2.ensures.value c.all_begin.ensures in
    subst (λ (h : List Event). All (λ (s : Client). IsPrefix s.seen h) c.args.seats.items) c.into_parts-book.ensures.front begins
