use Rattle.name_history.proofs.RisingBindings.{still_rising}
use Rattle.name_history.proofs.ring_names.RingNames.add.Goals as goal

pub invariant_of-self-2 : goal.invariant_of-self-2
invariant_of-self-2 c =
    still_rising c.args.bound c.self.inside.bindings.items c.deref.result.now c.truncate.new.self.items c.push.new.self.items c.older-count.result c.before-2.result c.self.invariant c.deref.ensures.value c.before-2.ensures
    c.older-count.ensures.older c.truncate.ensures.items c.in_ok-push.ensures.items
