use Rattle.std.proofs.Common.{◌≡◌, ℕ, length, ap, sym, arith}
use Rattle.ring_model.specs.History.{State, opening, after}
use Rattle.ticket_desk.specs.Tickets.{roll}
use Rattle.ticket_desk.proofs.Shares.{none_twice, just_those_gone}
use Rattle.ticket_desk.proofs.desks.close.Goals as goal

pub returns-in-Ok-clause-twice : goal.returns-in-Ok-clause-twice
returns-in-Ok-clause-twice g c =
    let done = c.in-Ok.ensures in
    let has = done.logs in
    let long = has.0 in
    let count : length c.in-Ok.closed.logs.items ≡ g.N.Name.seats = omega arith in
    let gone : (after roll (opening g.N.Name.start 0) c.in-Ok.closed.book.history).content ≡ c.in-Ok.closed.book.now.content = rw (sym done.start) (ap (λ (x : State ℕ). x.content) done.book.current) in
    none_twice g.N.Name.seats g.N.Name.start c.in-Ok.closed.book.history c.in-Ok.closed.logs.items c.in-Ok.closed.book.now.content
    done.legal_and_whole.0 gone done.of_seats count has.1 done.fits

pub returns-in-Ok-clause-gone : goal.returns-in-Ok-clause-gone
returns-in-Ok-clause-gone g c =
    let done = c.in-Ok.ensures in
    let has = done.logs in
    let long = has.0 in
    let count : length c.in-Ok.closed.logs.items ≡ g.N.Name.seats = omega arith in
    let gone : (after roll (opening g.N.Name.start 0) c.in-Ok.closed.book.history).content ≡ c.in-Ok.closed.book.now.content = rw (sym done.start) (ap (λ (x : State ℕ). x.content) done.book.current) in
    just_those_gone g.N.Name.seats g.N.Name.start c.in-Ok.closed.book.history c.in-Ok.closed.logs.items c.in-Ok.closed.book.now.content
    done.legal_and_whole.0 gone done.of_seats count has.1 done.fits
