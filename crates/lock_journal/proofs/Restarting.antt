-- The locks that are made of what is recovered are those that were, restarted.
use Rattle.std.proofs.Common.{◌≡◌, ℕ, suc, ◌+◌, true, List, [], ◌∷◌, ◌++◌, map, length, Option, Some, None, refl, sym, ◌∙◌, ap, subst, arith, slice_get, ◌<◌, ◌^◌, append_assoc, zero, drop}
use Rattle.std.specs.Prelude.{option_map}
use Rattle.std.specs.List.{AllByRecursion, filter, All}
use Rattle.std.proofs.lemmas.List.{append-nil, map-append}
use Rattle.ring_model.specs.Ring.{Ring, is_settled}
use Rattle.ring_model.specs.History.{State, opening, next, after, IsLegal}
use Rattle.ring_model.specs.Resources.{till, add_order}
use Rattle.ring_model.specs.declared.events.Event.{Event}
use Rattle.ring_model.specs.declared.events.Entry.{Entry}
use Rattle.saved_history.specs.declared.saved.SavedSurvey.{SavedSurvey}
use Rattle.saved_history.specs.Content.{Block}
use Rattle.ring_check.specs.Table.{event_of}
use Rattle.ring_check.specs.Legal.{history}
use Rattle.ring_check.specs.Meaning.{IsRightSurvey, IsRightBlock}
use Rattle.saved_history.specs.Versions.{latest_version}
use Rattle.ring_model.specs.Limits.{seat_limit}
use Rattle.one_thread_ring.specs.Resuming.{CanGoOnWith}
use Rattle.ring_service.proofs.Legality.{right_block}
use Rattle.one_thread_ring.specs.SavedOf.{saved_event, entry_surveys}
use Rattle.journal.specs.ContentAfter.{is_of}
use Rattle.journal.specs.Spelling.{journal_head}
use Rattle.journal.specs.Recovery.{IsRecovered}
use Rattle.ring_model.specs.declared.bases.Base.{Base}
use Rattle.ring_model.specs.Bases.{shifted}
use Rattle.one_thread_ring.specs.Texts.{surveys_told}
use Rattle.endless_ring.specs.Endless.{EndlessView}
use Rattle.ring_service.specs.Standings.{Standing, standing_of}
use Rattle.ring_service.specs.Saved.{content_of, IsRight, block_at, blocks_from}
use Rattle.ring_service.proofs.Effects.{right_at}
use Rattle.ring_service.proofs.Grown.{grown_at}
use Rattle.ring_service.proofs.RecordedBlocks.{told_seat, right_numbered}
use Rattle.ring_service.proofs.RecordedFits.{bounded}
use Rattle.ring_service.proofs.Recovering.{lines_of}
use Rattle.held_locks.specs.declared.answers.Holder.{Holder}
use Rattle.held_locks.specs.Grants.{most_passes, repairs}
use Rattle.held_locks.specs.Queues.{Lock}
use Rattle.held_locks.specs.Locks.{Call, restarted}
use Rattle.held_locks.specs.Promises.{open_after, token_of, IsRightLock}
use Rattle.held_locks.specs.Kept.{LockView, locks_of, seat_count, lock_of, AreMade, state_of}
use Rattle.held_locks.specs.Opened.{open_in, last_survey, later, holder_after}
use Rattle.held_locks.proofs.Calls.{made_state, repairs_none}
use Rattle.ring_service.specs.Segments.{bases_of}
use Rattle.one_thread_ring.proofs.WrittenBlocks.{line_tells as event_back}
use Rattle.lock_journal.proofs.Chains.{chain_many, chain_grown}
use Rattle.lock_journal.proofs.Following.{some_is, none_is, also_there, lock_there, Follows}
use Rattle.lock_journal.proofs.LockLines.{IsNotedSo}
use Rattle.lock_journal.proofs.Longer.{noted_lines}
use Rattle.lock_journal.proofs.Recovering.{rings_many, ring_at, begun_right, begun_few, followed_begun, kept_bounded, recovered_of}
use Rattle.lock_journal.proofs.Shadows.{open_of, log_at, end_of}
use Rattle.lock_journal.specs.Begun.{begun_text}
use Rattle.lock_journal.specs.Recovered.{IsMadeOf, AreMadeOf, AreAdded, LocksComeBack}
use Rattle.lock_journal.specs.Segments.{rings_of}
use Rattle.ring_model.specs.declared.events.Entry.TheVariants as entry

-- ---- a saved block gives its ring back

pub events_back : (a : State ℕ) (h : List Event) → IsLegal till a h → map event_of (map saved_event h) ≡ h
events_back a [] l = refl
events_back a (e ∷ h) l =
    ap (λ (x : Event). x ∷ map event_of (map saved_event h)) (event_back a (next till a e.op) e.seat e.op e.reply l.0) ∙ ap (λ (x : List Event). e ∷ x) (events_back (next till a e.op) h l.1)

-- the last survey of a log, from its surveys only
abbrev last_place : ℕ → List SavedSurvey → ℕ
last_place place [] = place
last_place place (s ∷ ss) = last_place s.position ss

last_saved : (seat place : ℕ) (log : List Entry) → last_survey place log ≡ last_place place (entry_surveys seat log)
last_saved seat place [] = refl
last_saved seat place (entry.Receipt r ∷ log) = last_saved seat place log
last_saved seat place (entry.Survey s ∷ log) = last_saved seat s.position log

same_last : (r s : Standing) (seat : ℕ) → IsRight r → IsRight s → surveys_told r.clients ≡ surveys_told s.clients → last_survey 0 (log_at r.clients seat) ≡ last_survey 0 (log_at s.clients seat)
same_last r s seat j k e =
    let told : entry_surveys seat (log_at r.clients seat) ≡ entry_surveys seat (log_at s.clients seat) =
    sym (told_seat seat r.clients (right_numbered r j).0) ∙ (ap (λ (x : List SavedSurvey). filter (is_of seat) x) e ∙ told_seat seat s.clients (right_numbered s k).0) in
    last_saved seat 0 (log_at r.clients seat) ∙ (ap (λ (x : List SavedSurvey). last_place 0 x) told ∙ sym (last_saved seat 0 (log_at s.clients seat)))

same_end : (r s : Standing) → IsRight r → IsRight s → surveys_told r.clients ≡ surveys_told s.clients → end_of r.clients ≡ end_of s.clients
same_end r s j k e =
    ap (λ (x : ℕ). later x (last_survey 0 (log_at r.clients 2))) (same_last r s 1 j k e) ∙ ap (λ (x : ℕ). later (last_survey 0 (log_at s.clients 1)) x) (same_last r s 2 j k e)

pub same_open : (r s : Standing) → IsRight r → IsRight s → r.base ≡ s.base → r.history ≡ s.history → surveys_told r.clients ≡ surveys_told s.clients → open_of r ≡ open_of s
same_open r s j k b h e =
    ap (λ (n : ℕ). open_after None (map Call (drop n (shifted r.base r.history)))) (same_end r s j k e)
    ∙ (ap (λ (x : Base). open_after None (map Call (drop (end_of s.clients) (shifted x r.history)))) b ∙ ap (λ (x : List Event). open_after None (map Call (drop (end_of s.clients) (shifted s.base x)))) h)

-- ---- one lock

-- the ring that the journal records is that of a lock that is right, and of this base
pub record Returns (s : Standing) (before : Base) (v : LockView) : Type 0 where
  pub follows : Follows s v
  pub right : IsRight s
  pub of_base : s.base ≡ before
  pub lock : IsRightLock (lock_of v)

restarted_holder : (h : Option Holder) → holder_after (token_of h) ≡ option_map (λ (x : Holder). record { client = 0; token = x.token }) h
restarted_holder None = refl
restarted_holder (Some h) = refl

state_like : (b c : Base) (x y : State ℕ) → b ≡ c → x ≡ y →
    ◌≡◌ {A = State ℕ} (record { ring = x.ring; content = add_order b.amount x.content; grants = b.grants + x.grants }) (record { ring = y.ring; content = add_order c.amount y.content; grants = c.grants + y.grants })
state_like b c x y e f =
    ap (λ (z : Base). record { ring = x.ring; content = add_order z.amount x.content; grants = z.grants + x.grants }) e ∙ ap (λ (z : State ℕ). record { ring = z.ring; content = add_order c.amount z.content; grants = c.grants + z.grants }) f

lock_like : (a b : State ℕ) (h k : Option Holder) → a ≡ b → h ≡ k → ◌≡◌ {A = Lock} (record { ring = a; queue = []; holder = h }) (record { ring = b; queue = []; holder = k })
lock_like a b h k e f = ap (λ (x : State ℕ). record { ring = x; queue = []; holder = h }) e ∙ ap (λ (x : Option Holder). record { ring = b; queue = []; holder = x }) f

module _ (place : ℕ) (s : Standing) (base : Base) (v : LockView) (e : EndlessView) (k : Returns s base v) (m : IsMadeOf base (block_at place s) e) where
  history_back : e.ring.book.history ≡ s.history
  history_back = m.history ∙ events_back (opening s.start 0) s.history (bounded s k.right).legal

  base_back : e.base ≡ v.ring.base
  base_back = m.base ∙ (sym k.of_base ∙ k.follows.shadows.base)

  state_back : state_of e ≡ state_of v.ring
  state_back =
      let now : e.ring.book.now ≡ v.ring.ring.book.now =
      sym m.kept.endless.ring.book.current ∙ (ap (λ (r : Ring). after till (opening r 0) e.ring.book.history) m.start ∙ (ap (λ (h : List Event). after till (opening s.start 0) h) history_back ∙ k.follows.shadows.now)) in
      state_like e.base v.ring.base e.ring.book.now v.ring.ring.book.now base_back now

  open_back : open_in e ≡ token_of v.holder
  open_back = same_open (standing_of e) s (e, m.kept.endless, refl) k.right (m.base ∙ sym k.of_base) history_back m.surveys ∙ k.follows.hold

  lock_back : (ring : EndlessView) → AreMade e (map Call (repairs (most_passes (length e.ring.book.now.ring.values)) (state_of e))) ring → lock_of (record { ring = ring; queue = []; holder = holder_after (open_in e) }) ≡ restarted (lock_of v)
  lock_back ring made =
      let settled : is_settled (state_of e).ring.values ≡ true = ap (λ (a : State ℕ). is_settled a.ring.values) state_back ∙ k.lock.settled in
      let none : repairs (most_passes (length e.ring.book.now.ring.values)) (state_of e) ≡ [] = repairs_none (most_passes (length e.ring.book.now.ring.values)) (state_of e) settled in
      let same : AreMade e [] ring = subst (λ (x : List Event). AreMade e (map Call x) ring) none made in
      lock_like (state_of ring) (state_of v.ring) (holder_after (open_in e)) (option_map (λ (x : Holder). record { client = 0; token = x.token }) v.holder) (made_state e ring [] same ∙ state_back) (ap holder_after open_back ∙ restarted_holder v.holder)

-- ---- all locks

abbrev pub AllReturn : List Standing → List Base → List LockView → Type 0
AllReturn [] bs [] = Unit {0}
AllReturn [] bs (v ∷ vs) = ⊥
AllReturn (s ∷ ss) bs [] = ⊥
AllReturn (s ∷ ss) [] (v ∷ vs) = ⊥
AllReturn (s ∷ ss) (b ∷ bs) (v ∷ vs) = Returns s b v × AllReturn ss bs vs

all_return : (ss : List Standing) (bs : List Base) (vs : List LockView) → length ss ≡ length vs → length ss ≡ length bs →
    ((i : ℕ) (s : Standing) (b : Base) (v : LockView) → slice_get ss i ≡ Some s → slice_get bs i ≡ Some b → slice_get vs i ≡ Some v → Returns s b v) → AllReturn ss bs vs
all_return [] bs [] n m f = tt
all_return [] bs (v ∷ vs) n m f = absurd (omega (arith, n))
all_return (s ∷ ss) bs [] n m f = absurd (omega (arith, n))
all_return (s ∷ ss) [] (v ∷ vs) n m f = absurd (omega (arith, m))
all_return (s ∷ ss) (b ∷ bs) (v ∷ vs) n m f = (f 0 s b v refl refl refl, all_return ss bs vs (omega (arith, n)) (omega (arith, m)) (λ i x y z p q r. f (suc i) x y z p q r))

pub locks_back : (place : ℕ) (ss : List Standing) (bs : List Base) (vs : List LockView) (es : List EndlessView) (old made : List LockView) → AllReturn ss bs vs → AreMadeOf bs (blocks_from place ss) es → AreAdded old es made →
    locks_of made ≡ locks_of old ++ map restarted (locks_of vs)
locks_back place [] bs [] es old made r m a =
    let none : made ≡ old = subst (λ (x : List EndlessView). AreAdded old x made) m a in
    ap locks_of none ∙ sym (append-nil (locks_of old))
locks_back place [] bs (v ∷ vs) es old made r m a = absurd r
locks_back place (s ∷ ss) bs [] es old made r m a = absurd r
locks_back place (s ∷ ss) [] (v ∷ vs) es old made r m a = absurd r
locks_back place (s ∷ ss) (b ∷ bs) (v ∷ vs) [] old made r m a = absurd m
locks_back place (s ∷ ss) (b ∷ bs) (v ∷ vs) (e ∷ es) old made r m a =
    let one : LockView = record { ring = a.1.ring; queue = []; holder = holder_after (open_in e) } in
    let lock : lock_of one ≡ restarted (lock_of v) = lock_back place s b v e r.0 m.0 a.1.ring a.1.repaired in
    let here : locks_of a.0 ≡ locks_of old ++ restarted (lock_of v) ∷ [] = ap locks_of a.1.added ∙ (map-append lock_of old (one ∷ []) ∙ ap (λ (x : Lock). locks_of old ++ x ∷ []) lock) in
    locks_back (place + 1) ss bs vs es a.0 made r.1 m.1 a.2 ∙ (ap (λ (x : List Lock). x ++ map restarted (locks_of vs)) here ∙ append_assoc (locks_of old) (restarted (lock_of v) ∷ []) (map restarted (locks_of vs)))

-- ---- the law

-- a ring with seats for locks can be made of each block
surveyed_seats : (b : Block) (ss : List SavedSurvey) → All (IsRightSurvey b) ss → All (λ (s : SavedSurvey). s.seat < seat_limit) ss
surveyed_seats b ss all = λ i d l. (all i d l).seat

can_go_on : (place : ℕ) (s : Standing) → IsRight s → CanGoOnWith seat_count (block_at place s)
can_go_on place s k =
    let right : IsRightBlock latest_version place (block_at place s) = right_block place s k in
    let same : history (block_at place s) ≡ s.history = events_back (opening s.start 0) s.history (bounded s k).legal in
    let long : length (history (block_at place s)) ≡ length s.history = ap (λ (h : List Event). length h) same in
    let few = (bounded s k).few in record {
      version = latest_version;
      place = place;
      right = right;
      count = (omega arith, omega arith);
      callers = right.seats;
      surveyors = surveyed_seats (block_at place s) (surveys_told s.clients) right.surveys;
      few = omega (arith, long, few);
    }

all_go_on : (place : ℕ) (ss : List Standing) → AllByRecursion IsRight ss → AllByRecursion (CanGoOnWith seat_count) (blocks_from place ss)
all_go_on place [] all = tt
all_go_on place (s ∷ ss) all = (can_go_on place s all.0, all_go_on (place + 1) ss all.1)

pub base_at : (vs : List LockView) (i : ℕ) (v : LockView) (before : Base) → slice_get vs i ≡ Some v → slice_get (bases_of (rings_of vs)) i ≡ Some before → before ≡ v.ring.base
base_at [] i v before e f = absurd (none_is v e)
base_at (x ∷ vs) zero v before e f = sym (some_is x.ring.base before f) ∙ ap (λ (y : LockView). y.ring.base) (some_is x v e)
base_at (x ∷ vs) (suc i) v before e f = base_at vs i v before e f

bases_many : (vs : List LockView) → length (bases_of (rings_of vs)) ≡ length vs
bases_many [] = refl
bases_many (v ∷ vs) = ap suc (bases_many vs)

-- the rings that the journal records after some lines
module _ (old new : List LockView) (noted : List ℕ) (n : IsNotedSo (rings_of old) new noted) where
  of_base : (i : ℕ) (s : Standing) (before : Base) (v : LockView) → slice_get n.behind i ≡ Some s → slice_get (bases_of (rings_of old)) i ≡ Some before → slice_get new i ≡ Some v → s.base ≡ before
  of_base i s before v p q t =
      let size : length n.behind ≡ length (rings_of old) = chain_many (rings_of old) n.behind n.calls n.chain in
      let many : length n.behind ≡ length new = n.followed.many in
      let long : length (rings_of old) ≡ length old = rings_many old in
      let w = also_there new old i v (omega (arith, size, many, long)) t in
      let g = grown_at (rings_of old) n.behind i (standing_of w.0.ring) (chain_grown (rings_of old) n.behind n.calls n.chain) (ring_at old i w.0 w.1) in
      let same : g.0 ≡ s = some_is g.0 s (sym g.1 ∙ p) in
      ap (λ (x : Standing). x.base) (sym same) ∙ (g.2.base ∙ sym (base_at old i w.0 before w.1 q))

  pub return_all : AllReturn n.behind (bases_of (rings_of old)) new
  return_all =
      let size : length n.behind ≡ length (rings_of old) = chain_many (rings_of old) n.behind n.calls n.chain in
      let long : length (rings_of old) ≡ length old = rings_many old in
      let bases : length (bases_of (rings_of old)) ≡ length old = bases_many old in
      all_return n.behind (bases_of (rings_of old)) new n.followed.many (omega (arith, size, long, bases)) (λ i s before v p q t.
      let f = n.followed.each i v t in
      record {
        follows = subst (λ (x : Standing). Follows x v) (some_is f.0 s (sym f.1 ∙ p)) f.2;
        right = right_at n.behind i s n.followed.right p;
        of_base = of_base i s before v p q t;
        lock = n.followed.locks.each i (lock_of v) (lock_there new i v t);
      })

pub locks_come_back : LocksComeBack
locks_come_back terms old new entries lines said noted torn begun a k none =
    let rings : List Standing = rings_of old.locks in
    let head : List ℕ = journal_head (content_of rings) in
    let few : length rings < 2 ^ 32 = begun_few old.locks begun in
    let all : AllByRecursion IsRight rings = begun_right old.locks begun in
    let n = (noted_lines terms rings old new lines said noted few (followed_begun old.locks begun) a.noting a.answers (kept_bounded new.locks entries k)).notes in
    let text : begun_text old.locks ++ (noted ++ torn) ≡ head ++ (lines_of n.calls ++ torn) = ap (λ (u : List ℕ). head ++ (u ++ torn)) n.lines in record {
      history = content_of n.behind;
      recovered = subst (λ (u : List ℕ). IsRecovered u (content_of n.behind)) (sym text) (recovered_of rings n.behind n.calls torn all begun.text n.chain none);
      can_start = all_go_on 0 n.behind n.followed.right;
      locks = λ es made m added. locks_back 0 n.behind (bases_of rings) new.locks es [] made (return_all old.locks new.locks noted n) m added;
    }
