-- The values with which a trial starts, as functions of the words of its generator.
use Rattle.std.specs.Prelude.{◌≡◌, ℕ, zero, suc, ◌-◌, ◌/◌, ◌%◌, ◌^◌, ◌≤◌, nat_lt, nat_le, cond, List, [], ◌∷◌, ◌++◌}
use Rattle.rand_pcg.specs.Lcg.{Lcg}
use Rattle.ring_state.specs.Sizes.{Size}
use Rattle.ring_repairs.specs.Draws.{draw}
use Rattle.ring_repairs.specs.declared.starts.Start.{Start}
use Rattle.ring_repairs.specs.declared.starts.Start.TheVariants.{Any, Faults, All}

-- the generator after n drawn values below k
unfoldable pub after_values : ℕ → Lcg → ℕ → Lcg
after_values k g zero = g
after_values k g (suc n) = (draw k (after_values k g n)).1

-- n drawn values below k, machine 0's first
unfoldable pub drawn_values : ℕ → Lcg → ℕ → List ℕ
drawn_values k g zero = []
drawn_values k g (suc n) = drawn_values k g n ++ (draw k (after_values k g n)).0 ∷ []

-- the value of machine i in a settled ring: machines 0 to p hold 1, the others 0
abbrev pub settled_value : ℕ → ℕ → ℕ
settled_value p i = cond (nat_le i p) 1 0

-- on the way through the machines, from machine 0 on: the values so far, how many machines are still
-- to be hit by a fault, and the generator
pub record Hits : Type 0 where
  pub values : List ℕ
  pub left : ℕ
  pub words : Lcg

abbrev pub hits_with : List ℕ → ℕ → Lcg → Hits
hits_with values left words = record { values = values; left = left; words = words }

-- one machine more: it is hit where a number that is drawn below the number of machines that are left
-- is below the number of hits that are left, so that each choice of machines is as likely as each
-- other; a machine that is hit gets a drawn value below k
abbrev pub hit_by : ℕ → ℕ → Hits → ℕ × Lcg → Hits
hit_by k old h d =
    cond (nat_lt d.0 h.left)
    (hits_with (h.values ++ (draw k d.1).0 ∷ []) (h.left - 1) (draw k d.1).1)
    (hits_with (h.values ++ old ∷ []) h.left d.1)

-- the first i machines, where n machines with values below k are settled at p, and f of them are hit
unfoldable pub hits : Size → ℕ → ℕ → Lcg → ℕ → Hits
hits size p f g zero = hits_with [] f g
hits size p f g (suc i) =
    hit_by size.k (settled_value p i) (hits size p f g i) (draw (size.n - i) (hits size p f g i).words)

-- f of the machines of a settled ring are hit; where it is settled is drawn
abbrev pub faulty : Size → ℕ → Lcg → Hits
faulty size f g = hits size (draw size.n g).0 f (draw size.n g).1 size.n

-- the digits of a number to the base k, the least first, as many as are asked for
abbrev pub digits : ℕ → ℕ → ℕ → List ℕ
digits k number zero = []
digits k number (suc n) = number % k ∷ digits k (number / k) n

-- the state of this number: machine 0 holds 0, and the others the digits of the number, of which the
-- least is machine 1's
abbrev pub numbered : Size → ℕ → List ℕ
numbered size number = 0 ∷ digits size.k number (size.n - 1)

-- how many states a start goes through: of all, those in which machine 0 holds 0, since each other is
-- one of these with the same number added to each value; else one
unfoldable pub states : Start → Size → ℕ
states Any size = 1
states (Faults f) size = 1
states All size = size.k ^ (size.n - 1)

-- the values of a start, where `number` is that of its state
unfoldable pub start_values : Start → Size → ℕ → Lcg → List ℕ
start_values Any size number g = drawn_values size.k g size.n
start_values (Faults f) size number g = (faulty size f g).values
start_values All size number g = numbered size number

-- the generator after them
unfoldable pub start_left : Start → Size → Lcg → Lcg
start_left Any size g = after_values size.k g size.n
start_left (Faults f) size g = (faulty size f g).words
start_left All size g = g

-- no more faults than machines
abbrev pub AreFaultsFor : ℕ → Start → Type 0
AreFaultsFor n Any = Unit {0}
AreFaultsFor n (Faults f) = f ≤ n
AreFaultsFor n All = Unit {0}
