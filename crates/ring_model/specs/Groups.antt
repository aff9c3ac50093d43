-- Group passes: privileged machines that leave out at least one machine move at once (this
-- project's own). A history shows the move as a block of members, in an order in which each of them
-- can also move by itself.
use Rattle.std.specs.Prelude.{◌≡◌, ℕ, zero, suc, ◌<◌, ◌≤◌, Bool, true, false, cond, ◌||◌, ◌==◌, List, [], ◌∷◌, ◌++◌, length, slice_index, drop, reverse, ◌⊎◌}
use Rattle.ring_model.specs.Ring.{Ring, is_privileged, moved_value}
use Rattle.ring_model.specs.History.{Works, State, IsLegal}
use Rattle.ring_model.specs.declared.events.Op.{Op}
use Rattle.ring_model.specs.declared.events.Op.TheVariants.{Pass, Member, Corrupt}
use Rattle.ring_model.specs.declared.events.Event.{Event}

-- machine i is one of the group's
abbrev pub has : List ℕ → ℕ → Bool
has [] i = false
has (m ∷ ms) i = (i == m) || has ms i

-- The group move from r to t: the group has a machine and leaves one out, each of its machines is
-- privileged in r, and in t each of them holds what its own move from r gives, and each other
-- machine its old value.
pub record GroupMove (r : Ring) (group : List ℕ) (t : Ring) : Type 0 where
  pub some : 1 ≤ length group
  pub leaves_out : (x : ℕ) × (x < length r.values) × (has group x ≡ false)
  pub privileged : (i : ℕ) → has group i ≡ true
      → (i < length r.values) × (is_privileged r.values i ≡ true)
  pub same : t.k ≡ r.k
  pub size : length t.values ≡ length r.values
  pub values : (i : ℕ) → i < length r.values
      → slice_index t.values i ≡ cond (has group i) (moved_value r i) (slice_index r.values i)

-- x - 1 down to 0
abbrev pub down_from : ℕ → List ℕ
down_from zero = []
down_from (suc x) = x ∷ down_from x

-- falling numbers, below high and at least low
abbrev pub Falls : ℕ → ℕ → List ℕ → Type 0
Falls low high [] = Unit {0}
Falls low high (m ∷ ms) = (m < high) × (low ≤ m) × Falls low m ms

-- The order of the moves: with x the least machine that is left out, x - 1 down to 0, and then from
-- n - 1 down to x + 1.
pub record IsInOrder (n : ℕ) (ms : List ℕ) : Type 0 where
  pub least : ℕ
  pub machine : least < n
  pub back : List ℕ
  pub order : ms ≡ down_from least ++ back
  pub falls : Falls (suc least) n back
  pub some : 1 ≤ length ms

-- rising numbers, at least low and below high
abbrev pub Rises : ℕ → ℕ → List ℕ → Type 0
Rises low high [] = Unit {0}
Rises low high (m ∷ ms) = (low ≤ m) × (m < high) × Rises (suc m) high ms

-- the least number from x on that a rising list from x on leaves out
abbrev pub least_left_out : ℕ → List ℕ → ℕ
least_left_out x [] = x
least_left_out x (m ∷ ms) = cond (m == x) (least_left_out (suc x) ms) x

-- a group that is given as a rising list, in the order of the moves
abbrev pub move_order : List ℕ → List ℕ
move_order machines =
    down_from (least_left_out 0 machines) ++ reverse (drop (least_left_out 0 machines) machines)

-- the events are members of one seat and one order, by these machines, and each says how many are
-- left
abbrev pub AreMembers : ℕ → ℕ → List ℕ → List Event → Type 0
AreMembers seat order [] es = es ≡ []
AreMembers seat order (m ∷ ms) [] = ⊥
AreMembers seat order (m ∷ ms) (e ∷ es) =
    (e.seat ≡ seat) × (e.op ≡ Member m order (length ms)) × AreMembers seat order ms es

-- a block of a ring of n machines: a group's members, in the order of the moves
pub record IsBlockOf (n seat order : ℕ) (ms : List ℕ) (es : List Event) : Type 0 where
  pub in_order : IsInOrder n ms
  pub members : AreMembers seat order ms es

pub record IsBlock (n : ℕ) (es : List Event) : Type 0 where
  pub seat : ℕ
  pub order : ℕ
  pub machines : List ℕ
  pub is : IsBlockOf n seat order machines es

-- a call that is not a member's
abbrev pub IsAlone : Op → Type 0
IsAlone (Pass machine order) = Unit {0}
IsAlone (Member machine order left) = ⊥
IsAlone (Corrupt machine value) = Unit {0}

-- A history is whole where it is, end to end, a row of pieces: blocks, and events that are not
-- members.
abbrev pub IsPiece : ℕ → List Event → Type 0
IsPiece n es = ((e : Event) × (es ≡ e ∷ []) × IsAlone e.op) ⊎ IsBlock n es

abbrev pub ArePieces : ℕ → List (List Event) → Type 0
ArePieces n [] = Unit {0}
ArePieces n (p ∷ ps) = IsPiece n p × ArePieces n ps

abbrev pub joined : List (List Event) → List Event
joined [] = []
joined (p ∷ ps) = p ++ joined ps

pub record IsWhole (n : ℕ) (h : List Event) : Type 0 where
  pub pieces : List (List Event)
  pub are : ArePieces n pieces
  pub all : joined pieces ≡ h

-- A history of the one-thread ring: each event is a step, and it is whole.
abbrev pub IsHistory : {C : Type 0} → Works C → State C → List Event → Type 0
IsHistory w a h = IsLegal w a h × IsWhole (length a.ring.values) h

-- how many members of its group come after a call, and after the last call of a history; a place of
-- a history is inside a block where that is more than 0 for the events before it
abbrev pub left_of : Op → ℕ
left_of (Pass machine order) = 0
left_of (Member machine order left) = left
left_of (Corrupt machine value) = 0

abbrev pub left_after : List Event → ℕ
left_after [] = 0
left_after (e ∷ []) = left_of e.op
left_after (e ∷ d ∷ es) = left_after (d ∷ es)
