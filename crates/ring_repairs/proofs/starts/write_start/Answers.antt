use Rattle.std.proofs.Common.{◌≡◌, refl, sym, subst}
use Rattle.ring_state.specs.Sizes.{size_of}
use Rattle.ring_repairs.specs.Starts.{start_values, start_left}
use Rattle.ring_repairs.specs.declared.starts.Start.{Start}
use Rattle.ring_repairs.proofs.starts.write_start.Goals as goal

pub returns-in-Any-clause-values : goal.returns-in-Any-clause-values
unfolding start_values
returns-in-Any-clause-values c =
    subst (λ (s : Start). c.write_any.new.ring.values ≡ start_values s (size_of c.args.ring.now) c.args.number c.args.words.now) (sym c.in-Any.is) c.write_any.ensures.values

pub returns-in-Any-clause-words : goal.returns-in-Any-clause-words
unfolding start_left
returns-in-Any-clause-words c =
    subst (λ (s : Start). c.write_any.new.words ≡ start_left s (size_of c.args.ring.now) c.args.words.now) (sym c.in-Any.is) c.write_any.ensures.words

pub returns-in-Faults-clause-values : goal.returns-in-Faults-clause-values
unfolding start_values
returns-in-Faults-clause-values c =
    subst (λ (s : Start). c.write_faults.new.ring.values ≡ start_values s (size_of c.args.ring.now) c.args.number c.args.words.now) (sym c.in-Faults.is)
    c.write_faults.ensures.values

pub returns-in-Faults-clause-words : goal.returns-in-Faults-clause-words
unfolding start_left
returns-in-Faults-clause-words c =
    subst (λ (s : Start). c.write_faults.new.words ≡ start_left s (size_of c.args.ring.now) c.args.words.now) (sym c.in-Faults.is)
    c.write_faults.ensures.words

pub returns-in-All-clause-values : goal.returns-in-All-clause-values
unfolding start_values
returns-in-All-clause-values c =
    subst (λ (s : Start). c.write_numbered.new.ring.values ≡ start_values s (size_of c.args.ring.now) c.args.number c.args.words.now) (sym c.in-All.is)
    c.write_numbered.ensures.values

pub returns-in-All-clause-words : goal.returns-in-All-clause-words
unfolding start_left
returns-in-All-clause-words c =
    subst (λ (s : Start). c.args.words.now ≡ start_left s (size_of c.args.ring.now) c.args.words.now) (sym c.in-All.is) refl
