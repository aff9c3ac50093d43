-- What an input does to its lock, by cases.
use Rattle.std.proofs.Common.{◌≡◌, ℕ, ◌<◌, Bool, true, false, List, [], ◌∷◌, map, length, refl, sym, ap, Option, Some, None, is_some}
use Rattle.std.specs.Prelude.{nat_le, ◌&&◌, ◌==◌, slice_index, if◌then◌else◌}
use Rattle.std.proofs.lemmas.Bool.{leb-false, eqb-true, false≢true}
use Rattle.ring_model.specs.History.{after}
use Rattle.ring_model.specs.Resources.{till}
use Rattle.held_locks.specs.declared.answers.Waiter.{Waiter}
use Rattle.held_locks.specs.declared.answers.Holder.{Holder}
use Rattle.held_locks.specs.declared.answers.Answer.{Answer}
use Rattle.held_locks.specs.declared.answers.Answer.TheVariants as answer
use Rattle.held_locks.specs.declared.answers.Refusal.TheVariants as refusal
use Rattle.held_locks.specs.Queues.{Lock, stands, without, is_held_by, is_held_with, waits_for, client_of, comes_to}
use Rattle.held_locks.specs.Locks.{Ask, Acquire, Try, Release, Cancel, Leave, Corrupt, Stats, Call, Turn, told, granted, ended, fault, joined, acquired, tried, tried_of, turn}

-- the answer is not a grant
abbrev pub is_grant : Answer → Bool
is_grant (answer.Granted token) = true
is_grant _ = false

abbrev pub waiter : ℕ → ℕ → Waiter
waiter c order = record { client = c; label = order }

abbrev pub is_leave : Ask → Bool
is_leave Leave = true
is_leave _ = false

-- the client asks for the lock
pub data IsAsking (ask : Ask) (order : ℕ) : Type 0 where
  Acquires : ask ≡ Acquire order → IsAsking ask order
  Tries : ask ≡ Try order → IsAsking ask order

-- the client ends its hold: it releases with its token, or leaves
pub data IsEnd (l : Lock) (c : ℕ) (h : Holder) (ask : Ask) (seat : ℕ) (queue : List Waiter) (answers : List (ℕ × Answer)) : Type 0 where
  Released : ask ≡ Release h.token → seat ≡ 1 → queue ≡ l.queue → answers ≡ (c, answer.Released) ∷ [] → IsEnd l c h ask seat queue answers
  Left : ask ≡ Leave → seat ≡ 2 → queue ≡ without c l.queue → answers ≡ [] → IsEnd l c h ask seat queue answers

-- the client gives up
pub data IsDrop (c : ℕ) (ask : Ask) (answers : List (ℕ × Answer)) : Type 0 where
  Cancelled : ask ≡ Cancel → answers ≡ (c, answer.Cancelled) ∷ [] → IsDrop c ask answers
  Gone : ask ≡ Leave → answers ≡ [] → IsDrop c ask answers

pub data Move (ls : List Lock) (l : Lock) (c : ℕ) (ask : Ask) (t : Turn) : Type 0 where
  Stays : (a : Answer) → is_grant a ≡ false → is_leave ask ≡ false → t ≡ told l c a → Move ls l c ask t
  Waits : (order : ℕ) (h : Holder) → ask ≡ Acquire order → l.holder ≡ Some h → is_held_by c l.holder ≡ false → is_some (waits_for ls c) ≡ false →
      comes_to (length ls) ls c (client_of l.holder) ≡ false → t ≡ joined l (waiter c order) (Some h) → Move ls l c ask t
  Gets : (order : ℕ) → IsAsking ask order → l.holder ≡ None → t ≡ granted l.ring l.queue (waiter c order) → Move ls l c ask t
  Ends : (h : Holder) (seat : ℕ) (queue : List Waiter) (answers : List (ℕ × Answer)) → l.holder ≡ Some h → h.client ≡ c → IsEnd l c h ask seat queue answers →
      t ≡ ended l.ring queue seat answers → Move ls l c ask t
  Drops : (answers : List (ℕ × Answer)) → IsDrop c ask answers → t ≡ record { lock = record l { queue = without c l.queue }; marks = []; answers = answers } → Move ls l c ask t
  Faults : (i v : ℕ) → ask ≡ Corrupt i v → i < length l.ring.ring.values → v < l.ring.ring.k →
      t ≡ record { lock = record l { ring = after till l.ring (fault l.ring i v) }; marks = map Call (fault l.ring i v); answers = (c, answer.Corrupted (slice_index l.ring.ring.values i)) ∷ [] } →
      Move ls l c ask t

both : (x y : Bool) → (x && y) ≡ true → (x ≡ true) × (y ≡ true)
both true y e = (refl, e)
both false y e = absurd (false≢true e)

module _ (ls : List Lock) (l : Lock) (c : ℕ) where
  joins : (order : ℕ) (h : Option Holder) → is_held_by c l.holder ≡ false → is_some (waits_for ls c) ≡ false → comes_to (length ls) ls c (client_of l.holder) ≡ false → l.holder ≡ h → Move ls l c (Acquire order) (joined l (waiter c order) h)
  joins order None a b d e = Gets order (Acquires refl) e refl
  joins order (Some h) a b d e = Waits order h refl e a b d refl

  acquires : (order : ℕ) (held waits circle : Bool) → is_held_by c l.holder ≡ held → is_some (waits_for ls c) ≡ waits → comes_to (length ls) ls c (client_of l.holder) ≡ circle →
      Move ls l c (Acquire order) (acquired l (waiter c order) (if held then Some refusal.Holds else if waits then Some refusal.Waits else if circle then Some refusal.Circle else None))
  acquires order true waits circle a b d = Stays (answer.Refused refusal.Holds) refl refl refl
  acquires order false true circle a b d = Stays (answer.Refused refusal.Waits) refl refl refl
  acquires order false false true a b d = Stays (answer.Refused refusal.Circle) refl refl refl
  acquires order false false false a b d = joins order l.holder a b d refl

  tries_of : (order : ℕ) (h : Option Holder) → l.holder ≡ h → Move ls l c (Try order) (tried_of l (waiter c order) h)
  tries_of order None e = Gets order (Tries refl) e refl
  tries_of order (Some h) e = Stays answer.Busy refl refl refl

  tries : (order : ℕ) (held waits : Bool) → Move ls l c (Try order) (tried l (waiter c order) (if held then Some refusal.Holds else if waits then Some refusal.Waits else None))
  tries order true waits = Stays (answer.Refused refusal.Holds) refl refl refl
  tries order false true = Stays (answer.Refused refusal.Waits) refl refl refl
  tries order false false = tries_of order l.holder refl

  releases : (token : ℕ) (h : Option Holder) (is : Bool) → is_held_with c token h ≡ is → l.holder ≡ h →
      Move ls l c (Release token) (if is then ended l.ring l.queue 1 ((c, answer.Released) ∷ []) else told l c (answer.Refused refusal.Holder))
  releases token h false a e = Stays (answer.Refused refusal.Holder) refl refl refl
  releases token None true a e = absurd (false≢true a)
  releases token (Some h) true a e =
      let b = both (h.client == c) (h.token == token) a in
      Ends h 1 l.queue ((c, answer.Released) ∷ []) e (eqb-true h.client c b.0) (Released (ap Release (sym (eqb-true h.token token b.1))) refl refl refl) refl

  leaves : (h : Option Holder) (is : Bool) → is_held_by c h ≡ is → l.holder ≡ h →
      Move ls l c Leave (if is then ended l.ring (without c l.queue) 2 [] else record { lock = record l { queue = without c l.queue }; marks = []; answers = [] })
  leaves h false a e = Drops [] (Gone refl refl) refl
  leaves None true a e = absurd (false≢true a)
  leaves (Some h) true a e = Ends h 2 (without c l.queue) [] e (eqb-true h.client c a) (Left refl refl refl refl) refl

  cancels : (is : Bool) → Move ls l c Cancel (if is then told (record l { queue = without c l.queue }) c answer.Cancelled else told l c (answer.Refused refusal.Waiter))
  cancels false = Stays (answer.Refused refusal.Waiter) refl refl refl
  cancels true = Drops ((c, answer.Cancelled) ∷ []) (Cancelled refl refl) refl

  breaks : (i v : ℕ) (far great : Bool) → nat_le (length l.ring.ring.values) i ≡ far → nat_le l.ring.ring.k v ≡ great →
      Move ls l c (Corrupt i v) (if far then told l c (answer.Refused refusal.Machine) else if great then told l c (answer.Refused refusal.Value)
      else record { lock = record l { ring = after till l.ring (fault l.ring i v) }; marks = map Call (fault l.ring i v); answers = (c, answer.Corrupted (slice_index l.ring.ring.values i)) ∷ [] })
  breaks i v true great a b = Stays (answer.Refused refusal.Machine) refl refl refl
  breaks i v false true a b = Stays (answer.Refused refusal.Value) refl refl refl
  breaks i v false false a b = Faults i v refl (leb-false (length l.ring.ring.values) i a) (leb-false l.ring.ring.k v b) refl

  -- each ask is one of these
  pub move_of : (ask : Ask) → Move ls l c ask (turn ls l c ask)
  move_of (Acquire order) = acquires order (is_held_by c l.holder) (is_some (waits_for ls c)) (comes_to (length ls) ls c (client_of l.holder)) refl refl refl
  move_of (Try order) = tries order (is_held_by c l.holder) (stands c l.queue)
  move_of (Release token) = releases token l.holder (is_held_with c token l.holder) refl refl
  move_of Cancel = cancels (stands c l.queue)
  move_of Leave = leaves l.holder (is_held_by c l.holder) refl refl
  move_of (Corrupt i v) = breaks i v (nat_le (length l.ring.ring.values) i) (nat_le l.ring.ring.k v) refl refl
  move_of Stats = Stays (answer.Stats (record { machines = length l.ring.ring.values; waiters = length l.queue; passes = l.ring.grants; holder = l.holder })) refl refl refl
