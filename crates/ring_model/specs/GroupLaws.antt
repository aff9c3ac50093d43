-- The laws of group passes.
use Rattle.std.specs.Prelude.{◌≡◌, ℕ, ◌-◌, ◌<◌, ◌≤◌, true, List, [], ◌∷◌, length, take, drop}
use Rattle.ring_model.specs.Ring.{Ring, IsRing, is_privileged, rest}
use Rattle.ring_model.specs.Runs.{after_passes, granted_passes}
use Rattle.ring_model.specs.History.{Works, State, next, reply, after, IsLegal}
use Rattle.ring_model.specs.HistoryLaws.{between}
use Rattle.ring_model.specs.Groups.{has, GroupMove, IsInOrder, Rises, move_order, IsBlockOf, ArePieces, joined, IsWhole, left_after}
use Rattle.ring_model.specs.declared.events.Op.TheVariants.{Member}
use Rattle.ring_model.specs.declared.events.Event.{Event}

-- each machine of the group is privileged
abbrev pub AreAllPrivileged : List ℕ → List ℕ → Type 0
AreAllPrivileged s group = (i : ℕ) → has group i ≡ true → is_privileged s i ≡ true

-- a group that can move where the machines hold s, as a rising list: it has a machine and leaves
-- one out, and each of its machines is privileged
pub record CanMove (s machines : List ℕ) : Type 0 where
  pub rising : Rises 0 (length s) machines
  pub some : 1 ≤ length machines
  pub fewer : length machines < length s
  pub able : AreAllPrivileged s machines

-- one after the other, in the order of the moves, each machine of the group is privileged in its
-- turn, and together they make the group move
abbrev pub GroupOrder : Type 0
GroupOrder =
    (before : Ring) (ms : List ℕ) → IsRing before → IsInOrder (length before.values) ms
    → AreAllPrivileged before.values ms
    → (granted_passes before ms ≡ ms) × GroupMove before ms (after_passes before ms)

-- a group move leads to one state
abbrev pub GroupMoveIsOne : Type 0
GroupMoveIsOne =
    (before : Ring) (ms : List ℕ) (t u : Ring) → GroupMove before ms t → GroupMove before ms u
    → t ≡ u

-- a group move lowers the rest by the number of its machines, down to 0
abbrev pub GroupDescent : Type 0
GroupDescent =
    (before : Ring) (ms : List ℕ) (t : Ring) → IsRing before → IsInOrder (length before.values) ms
    → GroupMove before ms t → rest t ≤ rest before - length ms

-- a rising list of machines that leaves one out has the same machines in the order of the moves
pub record IsOrderOf (n : ℕ) (machines ms : List ℕ) : Type 0 where
  pub in_order : IsInOrder n ms
  pub size : length ms ≡ length machines
  pub same : (i : ℕ) → has ms i ≡ has machines i

abbrev pub MoveOrder : Type 0
MoveOrder =
    (n : ℕ) (machines : List ℕ) → Rises 0 n machines → 1 ≤ length machines → length machines < n
    → IsOrderOf n machines (move_order machines)

-- the block of a group from the state a: each member's reply is the one that its call determines
abbrev pub block_of : {C : Type 0} → Works C → State C → ℕ → ℕ → List ℕ → List Event
block_of w a seat order [] = []
block_of w a seat order (m ∷ ms) =
    record {
      seat = seat;
      op = Member m order (length ms);
      reply = reply w a (Member m order (length ms));
    } ∷ block_of w (next w a (Member m order (length ms))) seat order ms

-- where each machine of the group is privileged, its block is legal: each member can also move by
-- itself in its turn
abbrev pub BlocksAreLegal : Type 0 → Type 0
BlocksAreLegal C =
    (w : Works C) (a : State C) (seat order : ℕ) (ms : List ℕ) → IsRing a.ring
    → IsInOrder (length a.ring.values) ms → AreAllPrivileged a.ring.values ms
    → IsLegal w a (block_of w a seat order ms)
    × IsBlockOf (length a.ring.values) seat order ms (block_of w a seat order ms)

-- from the place before a block to the place after it the values make the group move
abbrev pub BlocksMove : Type 0 → Type 0
BlocksMove C =
    (w : Works C) (a : State C) (h : List Event) → IsRing a.ring → IsLegal w a h
    → (p q seat order : ℕ) (ms : List ℕ) → p ≤ q → q ≤ length h
    → IsBlockOf (length a.ring.values) seat order ms (between h p q)
    → GroupMove (after w a (take p h)).ring ms (after w a (take q h)).ring

-- a place of a whole history is outside its blocks exactly where the events before it are whole by
-- themselves, and then those after it are too
abbrev pub WholePlaces : Type 0
WholePlaces =
    (n : ℕ) (h : List Event) (p : ℕ) → IsWhole n h → p ≤ length h
    → (left_after (take p h) ≡ 0 → IsWhole n (take p h) × IsWhole n (drop p h))
    × (IsWhole n (take p h) → left_after (take p h) ≡ 0)

-- there is one way to cut a whole history into blocks and events by themselves
abbrev pub OneWayToCut : Type 0
OneWayToCut =
    (n : ℕ) (pieces others : List (List Event)) → ArePieces n pieces → ArePieces n others
    → joined pieces ≡ joined others → pieces ≡ others
