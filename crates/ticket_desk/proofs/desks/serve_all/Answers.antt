use Rattle.ring_shared.proofs.Numbers.{numbers_kept, through}
use Rattle.ticket_desk.proofs.desks.serve_all.Goals as goal

pub returns : goal.returns
returns g c = numbers_kept c.args.seats.now c.for_each_mut.new.s c.for_each_mut.auto.s (λ i d lt. let t = (c.for_each_mut.ensures i d lt).1 in through _ _ _ _ t.argument_is t.left t.call)
