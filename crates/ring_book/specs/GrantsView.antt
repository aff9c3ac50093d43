-- The counted grants as contracts see them.
use Rattle.std.specs.Prelude.{◌≡◌, ◌+◌, ◌<◌, ℕ, List, length, slice_index, slice_set, cond, Bool, replicate}
use Rattle.ring_model.specs.Numbers.{sum_below}
use Rattle.ring_model.specs.History.{Works, State}
use Rattle.ring_model.specs.Grants.{grants_of, settled_grants_of}
use Rattle.ring_model.specs.declared.events.Event.{Event}

-- the granted passes in all, those of each machine, and those of each machine in the settled run
pub record GrantsView : Type 0 where
  pub total : ℕ
  pub each : List ℕ
  pub settled : List ℕ

-- the counts, for n machines, are those of a history from the state a
pub record IsGrantsOf {C : Type 0} (w : Works C) (a : State C) (h : List Event) (n : ℕ)
    (g : GrantsView) : Type 0 where
  pub total : g.total ≡ sum_below (λ i. grants_of i h) n
  pub machines : length g.each ≡ n
  pub each : (i : ℕ) → i < n → slice_index g.each i ≡ grants_of i h
  pub settled_machines : length g.settled ≡ n
  pub settled : (i : ℕ) → i < n → slice_index g.settled i ≡ settled_grants_of w a i h

-- one more at place i
abbrev pub raised : List ℕ → ℕ → List ℕ
raised counts i = slice_set counts i (slice_index counts i + 1)

-- no grants of n machines
abbrev pub no_grants : ℕ → GrantsView
no_grants n = record { total = 0; each = replicate n 0; settled = replicate n 0 }

-- one grant more, of machine i, in the settled run where that continues
abbrev pub one_grant : GrantsView → ℕ → Bool → GrantsView
one_grant g i settled = record {
  total = g.total + 1;
  each = raised g.each i;
  settled = cond settled (raised g.settled i) g.settled;
}

-- a settled run ends
abbrev pub run_ended : GrantsView → GrantsView
run_ended g = record { total = g.total; each = g.each; settled = replicate (length g.settled) 0 }
