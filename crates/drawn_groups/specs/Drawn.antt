-- Groups of privileged machines, as functions of the words of a generator (this project's own).
use Rattle.std.specs.Prelude.{ℕ, zero, suc, ◌/◌, ◌%◌, Bool, cond, nat_lt, ◌==◌, ◌&&◌, List, [], ◌∷◌, ◌++◌, length}
use Rattle.rand_pcg.specs.Lcg.{Lcg}
use Rattle.rand_pcg.specs.Pcg.{pcg32}
use Rattle.ring_model.specs.Ring.{is_privileged, first_privileged}

-- on the way through the machines, from machine 0 on: the members so far, the bits that are left of
-- the last word, and the generator
pub record Drawing : Type 0 where
  pub members : List ℕ
  pub bits : ℕ
  pub words : Lcg

abbrev pub drawing_with : List ℕ → ℕ → Lcg → Drawing
drawing_with members bits words = record { members = members; bits = bits; words = words }

-- the bits from which machine i takes its own, and the generator: of each word 32 machines take one
abbrev pub bits_for : ℕ → Drawing → ℕ × Lcg
bits_for i d = cond (i % 32 == 0) (pcg32 d.words) (d.bits, d.words)

-- the members with machine i, if it is privileged and the least of the bits is 1
abbrev pub members_with : List ℕ → ℕ → ℕ → List ℕ → List ℕ
members_with s i bits members =
    cond (is_privileged s i && (bits % 2 == 1)) (members ++ i ∷ []) members

-- the first i machines: each that is privileged is a member or not, as likely as each other
unfoldable pub drawing : List ℕ → Lcg → ℕ → Drawing
drawing s g zero = drawing_with [] 0 g
drawing s g (suc i) =
    drawing_with (members_with s i (bits_for i (drawing s g i)).0 (drawing s g i).members)
    ((bits_for i (drawing s g i)).0 / 2)
    (bits_for i (drawing s g i)).1

-- all machines
abbrev pub drawn : List ℕ → Lcg → Drawing
drawn s g = drawing s g (length s)

-- a set of privileged machines is a group where it is not empty and not all machines
abbrev pub is_group : List ℕ → List ℕ → Bool
is_group s members = nat_lt 0 (length members) && nat_lt (length members) (length s)

-- the first drawn set that is a group, so that each group is as likely as each other, where at most
-- `more` sets are looked at; else the first privileged machine by itself
unfoldable pub group_within : ℕ → List ℕ → Lcg → List ℕ × Lcg
group_within zero s g = (first_privileged s ∷ [], g)
group_within (suc more) s g =
    cond (is_group s (drawn s g).members) ((drawn s g).members, (drawn s g).words)
    (group_within more s (drawn s g).words)

-- how many sets are looked at: at most a quarter of all is not a group, so that more are never met
abbrev pub set_limit : ℕ
set_limit = 64

-- a drawn group of the machines that hold s, rising, and the generator after it
unfoldable pub group : List ℕ → Lcg → List ℕ × Lcg
group s g = group_within set_limit s g
