-- What is kept of the notes of lines, cut at any byte, records the locks after some of their
-- inputs.
use Rattle.std.proofs.Common.{◌≡◌, ℕ, suc, ◌+◌, false, List, [], ◌∷◌, ◌++◌, length, Option, Some, None, refl, sym, ◌∙◌, ap, subst, inl, inr, arith, slice_get, ◌<◌, ◌^◌, append_assoc, slice_set, drop, ◌≤◌, length-append, ◌≢◌}
use Rattle.std.specs.Prelude.{option_map}
use Rattle.std.specs.List.{AllByRecursion}
use Rattle.std.proofs.lemmas.Bool.{cases_eq, cases_lt}
use Rattle.std.proofs.lemmas.List.{append-nil, length-set}
use Rattle.std.proofs.lemmas.Grind.{flat_map-append}
use Rattle.std.proofs.lemmas.Option.{slice_get-map}
use Rattle.ring_model.specs.Limits.{event_limit}
use Rattle.ring_model.specs.History.{State}
use Rattle.saved_history.specs.Versions.{latest_version}
use Rattle.journal.specs.declared.calls.JournalLine.{JournalLine}
use Rattle.journal.specs.Spelling.{journal_line}
use Rattle.journal.specs.Recovery.{has_line_end}
use Rattle.one_thread_ring.specs.Journals.{event_lines}
use Rattle.ring_service.specs.Standings.{Standing}
use Rattle.ring_service.specs.Saved.{IsRight}
use Rattle.ring_service.proofs.Effects.{right_at}
use Rattle.ring_service.proofs.RecordedBlocks.{set_there}
use Rattle.ring_service.proofs.Recovering.{lines_of, split, after_head, cut_calls}
use Rattle.held_locks.specs.declared.answers.Waiter.{Waiter}
use Rattle.held_locks.specs.Queues.{Lock}
use Rattle.held_locks.specs.Locks.{Ask, Corrupt, Mark, step, Survey, Turn, turn, Asked, Step, advanced, Input}
use Rattle.held_locks.specs.Promises.{locks_after, AreRight}
use Rattle.held_locks.specs.Kept.{LockView, locks_of, lock_of, ended_in, AreMade, state_of}
use Rattle.held_locks.proofs.Moves.{move_of, Move, Stays, Waits, Gets, Ends, Drops, Faults}
use Rattle.held_locks.proofs.Right.{right_stays}
use Rattle.held_locks.proofs.Shown.{locks_append}
use Rattle.held_locks.proofs.Standing.{get_set_other, get_set_same}
use Rattle.lock_journal.proofs.Chains.{Chain, chain_append, chain_right, chain_fits}
use Rattle.lock_journal.proofs.Following.{some_is, lock_there, Followed, Follows, step_is, turned_so}
use Rattle.lock_journal.proofs.LockLines.{IsNotedSo}
use Rattle.lock_journal.proofs.Marks.{IsSmallAsk, IsEndFirst}
use Rattle.lock_journal.specs.Noting.{end_line}
use Rattle.lock_life.proofs.GivenUp.{same_lists, all_give_up, each_gives_up, ended_alone}
use Rattle.lock_life.specs.Life.{AreKeptOf}

-- These bytes are the first of the notes of some inputs. The locks that the journal records with
-- them are those after what was kept of these inputs.
pub record IsCutSo (rings : List Standing) (ls : List Lock) (asked : List Input) (bytes : List ℕ) : Type 0 where
  pub kept : List Input
  pub kept_so : AreKeptOf asked kept
  pub locks : List LockView
  pub notes : List ℕ
  pub torn : List ℕ
  pub is : bytes ≡ notes ++ torn
  pub none : has_line_end torn ≡ false
  pub noted : IsNotedSo rings locks notes
  pub behind : locks_of locks ≡ locks_after ls kept

pub kept_none : (asked : List Input) → AreKeptOf asked []
kept_none asked = inl (asked, refl)

pub kept_all : (asked : List Input) → AreKeptOf asked asked
kept_all asked = inl ([], sym (append-nil asked))

-- more is asked after them, or before
pub kept_then : (asked kept more : List Input) → AreKeptOf asked kept → AreKeptOf (asked ++ more) kept
kept_then asked kept more (inl p) = inl (p.0 ++ more, ap (λ (x : List Input). x ++ more) p.1 ∙ append_assoc kept p.0 more)
kept_then asked kept more (inr k) = inr (record {
  front = k.front;
  client = k.client;
  lock = k.lock;
  ask = k.ask;
  back = k.back ++ more;
  given_up = k.given_up;
  asked_is = ap (λ (x : List Input). x ++ more) k.asked_is ∙ append_assoc k.front (Asked k.client k.lock k.ask ∷ k.back) more;
  kept_is = k.kept_is;
  each = k.each;
})

pub kept_behind : (first asked kept : List Input) → AreKeptOf asked kept → AreKeptOf (first ++ asked) (first ++ kept)
kept_behind first asked kept (inl p) = inl (p.0, ap (λ (x : List Input). first ++ x) p.1 ∙ sym (append_assoc first kept p.0))
kept_behind first asked kept (inr k) = inr (record {
  front = first ++ k.front;
  client = k.client;
  lock = k.lock;
  ask = k.ask;
  back = k.back;
  given_up = k.given_up;
  asked_is = ap (λ (x : List Input). first ++ x) k.asked_is ∙ sym (append_assoc first k.front (Asked k.client k.lock k.ask ∷ k.back));
  kept_is = ap (λ (x : List Input). first ++ x) k.kept_is ∙ sym (append_assoc first k.front (k.given_up ++ Asked k.client k.lock k.ask ∷ []));
  each = k.each;
})

pub nothing_of : (xs ys : List ℕ) → xs ++ ys ≡ [] → xs ≡ []
nothing_of [] ys e = refl
nothing_of (x ∷ xs) ys e = let long : length (x ∷ (xs ++ ys)) ≡ 0 = ap (λ (u : List ℕ). length u) e in absurd (omega (arith, long))

-- nothing of them is recorded yet
pub cut_none : (rings : List Standing) (vs : List LockView) (asked : List Input) (bytes : List ℕ) → Followed rings vs → has_line_end bytes ≡ false → IsCutSo rings (locks_of vs) asked bytes
cut_none rings vs asked bytes f none = record {
  kept = [];
  kept_so = kept_none asked;
  locks = vs;
  notes = [];
  torn = bytes;
  is = refl;
  none = none;
  noted = record { calls = []; behind = rings; chain = refl; followed = f; lines = refl };
  behind = refl;
}

pub cut_empty : (rings : List Standing) (vs : List LockView) (asked : List Input) (bytes lost : List ℕ) → Followed rings vs → bytes ++ lost ≡ [] → IsCutSo rings (locks_of vs) asked bytes
cut_empty rings vs asked bytes lost f e = cut_none rings vs asked bytes f (ap has_line_end (nothing_of bytes lost e))

-- more was asked after them
pub cut_then : (rings : List Standing) (ls : List Lock) (asked more : List Input) (bytes : List ℕ) → IsCutSo rings ls asked bytes → IsCutSo rings ls (asked ++ more) bytes
cut_then rings ls asked more bytes c = record {
  kept = c.kept;
  kept_so = kept_then asked c.kept more c.kept_so;
  locks = c.locks;
  notes = c.notes;
  torn = c.torn;
  is = c.is;
  none = c.none;
  noted = c.noted;
  behind = c.behind;
}

-- some inputs were recorded as a whole before
abbrev pub cut_behind : (rings : List Standing) (ls : List Lock) (vs : List LockView) (first asked : List Input) (notes rest bytes : List ℕ) (n : IsNotedSo rings vs notes) → locks_of vs ≡ locks_after ls first → IsCutSo n.behind (locks_of vs) asked rest → bytes ≡ notes ++ rest →
    IsCutSo rings ls (first ++ asked) bytes
cut_behind rings ls vs first asked notes rest bytes n now c e = record {
  kept = first ++ c.kept;
  kept_so = kept_behind first asked c.kept c.kept_so;
  locks = c.locks;
  notes = notes ++ c.notes;
  torn = c.torn;
  is = e ∙ (ap (λ (x : List ℕ). notes ++ x) c.is ∙ sym (append_assoc notes c.notes c.torn));
  none = c.none;
  noted = record {
    calls = n.calls ++ c.noted.calls;
    behind = c.noted.behind;
    chain = chain_append rings n.behind c.noted.behind n.calls c.noted.calls n.chain c.noted.chain;
    followed = c.noted.followed;
    lines = ap (λ (x : List ℕ). x ++ c.notes) n.lines ∙ (ap (λ (x : List ℕ). lines_of n.calls ++ x) c.noted.lines ∙ sym (flat_map-append journal_line n.calls c.noted.calls));
  };
  behind = c.behind ∙ (ap (λ (x : List Lock). locks_after x c.kept) now ∙ sym (locks_append ls first c.kept));
}

-- bytes that end within the first of two texts
pub within_first : (bytes lost first later : List ℕ) → bytes ++ lost ≡ first ++ later → length bytes ≤ length first → bytes ++ drop (length bytes) first ≡ first
within_first bytes lost first later e le = sym (split first later bytes lost (sym e) le)

-- ---- one lock is asked

-- another lock at this place, whose ring the journal records
set_followed : (rings : List Standing) (vs : List LockView) (i : ℕ) (v w : LockView) (s t : Standing) → Followed rings vs → slice_get vs i ≡ Some v → slice_get rings i ≡ Some s → Follows t w → AllByRecursion IsRight (slice_set rings i t) → AreRight (locks_of (slice_set vs i w)) →
    Followed (slice_set rings i t) (slice_set vs i w)
set_followed rings vs i v w s t f at there follows right locks =
    let a : length (slice_set rings i t) ≡ length rings = length-set rings i t in
    let b : length (slice_set vs i w) ≡ length vs = length-set vs i w in
    let many = f.many in record {
      many = omega (arith, a, b, many);
      right = right;
      each = λ j x e. elim (cases_eq j i) [
        | inl q ↦
            let same : w ≡ x = some_is w x (sym (get_set_same vs i w v at) ∙ (ap (λ (m : ℕ). slice_get (slice_set vs i w) m) (sym q) ∙ e)) in (
              t,
              subst (λ (m : ℕ). slice_get (slice_set rings i t) m ≡ Some t) (sym q) (set_there rings i s t there),
              subst (λ (y : LockView). Follows t y) same follows,
            )
        | inr q ↦
            let g = f.each j x (sym (get_set_other vs i j w q) ∙ e) in
            (g.0, get_set_other rings i j t q ∙ g.1, g.2)
      ];
      locks = locks;
    }

-- the locks with another one at this place
set_locks : (vs : List LockView) (i : ℕ) (v w : LockView) → slice_get vs i ≡ Some v → slice_get (locks_of (slice_set vs i w)) i ≡ Some (lock_of w)
set_locks vs i v w at = lock_there (slice_set vs i w) i w (get_set_same vs i w v at)

set_others : (vs : List LockView) (i j : ℕ) (w : LockView) → j ≢ i → slice_get (locks_of (slice_set vs i w)) j ≡ slice_get (locks_of vs) j
set_others vs i j w n =
    slice_get-map lock_of (slice_set vs i w) j ∙ (ap (λ (x : Option LockView). option_map lock_of x) (get_set_other vs i j w n) ∙ sym (slice_get-map lock_of vs j))

-- as many lines as marks
few_marks : (t : Turn) (calls : List JournalLine) (x next : JournalLine) (xs back : List JournalLine) → length calls ≡ length t.marks → calls ≡ (x ∷ xs) ++ next ∷ back → 2 + length xs ≤ length t.marks
few_marks t calls x next xs back n e =
    let a : length calls ≡ length ((x ∷ xs) ++ next ∷ back) = ap (λ (u : List JournalLine). length u) e in
    let b : length ((x ∷ xs) ++ next ∷ back) ≡ length (x ∷ xs) + length (next ∷ back) = length-append (x ∷ xs) (next ∷ back) in
    omega (arith, a, b, n)

advanced_few : (a : State ℕ) (line : List Waiter) → length (advanced a line).marks ≤ 1
advanced_few a [] = omega arith
advanced_few a (w ∷ line) = omega arith

-- An ask is not a fault.
abbrev pub IsNoFault : Ask → Type 0
IsNoFault ask = (i v : ℕ) → ask ≡ Corrupt i v → ⊥

module _ (rings : List Standing) (vs : List LockView) (few : length rings < 2 ^ 32) (f : Followed rings vs) (i : ℕ) (v : LockView) (c : ℕ) (ask : Ask) (at : slice_get vs i ≡ Some v) (w : LockView) (small : IsSmallAsk ask) (plain : IsNoFault ask) where
  abbrev ls : List Lock
  ls = locks_of vs

  abbrev turned : Turn
  turned = turn ls (lock_of v) c ask

  here : slice_get ls i ≡ Some (lock_of v)
  here = lock_there vs i v at

  -- the lock after the end of a hold, for which nobody waits
  abbrev ended_lock : LockView
  ended_lock = record { ring = v.ring; queue = []; holder = None }

  cut_midst : (call : JournalLine) (later : List JournalLine) (mid s : Standing) → slice_get rings i ≡ Some s → Chain rings (call ∷ []) (slice_set rings i mid) → Follows mid ended_lock → (bytes torn : List ℕ) → bytes ≡ lines_of (call ∷ []) ++ torn → has_line_end torn ≡ false →
      locks_of (slice_set vs i ended_lock) ≡ locks_after ls (all_give_up i v.queue ++ Asked c i ask ∷ []) → IsCutSo rings ls (Asked c i ask ∷ []) bytes
  cut_midst call later mid s there chain follows bytes torn is none now = record {
    kept = all_give_up i v.queue ++ Asked c i ask ∷ [];
    kept_so = inr (record { front = []; client = c; lock = i; ask = ask; back = []; given_up = all_give_up i v.queue; asked_is = refl; kept_is = refl; each = each_gives_up i v.queue });
    locks = slice_set vs i ended_lock;
    notes = lines_of (call ∷ []);
    torn = torn;
    is = is;
    none = none;
    noted = record {
      calls = call ∷ [];
      behind = slice_set rings i mid;
      chain = chain;
      followed = set_followed rings vs i v ended_lock s mid f at there follows (chain_right rings (slice_set rings i mid) (call ∷ []) f.right chain) (subst AreRight (sym now) (right_stays ls (all_give_up i v.queue ++ Asked c i ask ∷ []) f.locks));
      lines = refl;
    };
    behind = now;
  }

  module _ (made : AreMade v.ring turned.marks w.ring) (lock : lock_of w ≡ turned.lock) (most : length w.ring.ring.book.history ≤ event_limit) (bytes lost : List ℕ) (e : bytes ++ lost ≡ end_line i (ended_in v.ring turned.marks) ++ event_lines i (drop (length v.ring.ring.book.history) w.ring.ring.book.history)) where
    stepped : locks_of (slice_set vs i w) ≡ locks_after ls (Asked c i ask ∷ [])
    stepped =
        let s : (step ls (Asked c i ask)).locks ≡ slice_set ls i turned.lock = ap (λ (x : Step). x.locks) (step_is ls i c ask (lock_of v) here) in
        same_lists (locks_of (slice_set vs i w)) (step ls (Asked c i ask)).locks (λ j.
        (elim (cases_eq j i) [
          | inl q ↦
              ap (λ (k : ℕ). slice_get (locks_of (slice_set vs i w)) k) q
              ∙ (set_locks vs i v w at ∙ (ap (λ (x : Lock). Some x) lock ∙ (sym (get_set_same ls i turned.lock (lock_of v) here) ∙ ap (λ (k : ℕ). slice_get (slice_set ls i turned.lock) k) (sym q))))
          | inr q ↦ set_others vs i j w q ∙ sym (get_set_other ls i j turned.lock q)
        ]) ∙ ap (λ (x : List Lock). slice_get x j) (sym s))

    pub cut_turn : IsCutSo rings ls (Asked c i ask ∷ []) bytes
    cut_turn =
        let k = f.each i v at in
        let t = turned_so rings i k.0 v w ls c ask few k.1 (right_at rings i k.0 f.right k.1) k.2 f.locks here small made lock most in
        let whole : bytes ++ lost ≡ lines_of t.calls ++ [] = e ∙ (sym t.lines ∙ sym (append-nil (lines_of t.calls))) in
        elim (cases_lt (length bytes) (length (lines_of t.calls))) [
          | inl lt ↦
              let p = cut_calls latest_version (length rings) t.calls bytes lost [] (chain_fits rings (slice_set rings i t.behind) t.calls t.chain) whole lt in
              front k.0 k.1 t.calls (slice_set rings i t.behind) t.chain t.counted t.first p.front p.next p.back p.tail p.parts p.is p.none
          | inr le ↦
              let rest : List ℕ = drop (length (lines_of t.calls)) bytes in
              let empty : rest ≡ [] = nothing_of rest lost (after_head bytes lost (lines_of t.calls) [] whole le) in record {
                kept = Asked c i ask ∷ [];
                kept_so = kept_all (Asked c i ask ∷ []);
                locks = slice_set vs i w;
                notes = lines_of t.calls;
                torn = rest;
                is = split bytes lost (lines_of t.calls) [] whole le;
                none = ap has_line_end empty;
                noted = record {
                  calls = t.calls;
                  behind = slice_set rings i t.behind;
                  chain = t.chain;
                  followed = set_followed rings vs i v w k.0 t.behind f at k.1 t.follows (chain_right rings (slice_set rings i t.behind) t.calls f.right t.chain) (subst AreRight (sym stepped) (right_stays ls (Asked c i ask ∷ []) f.locks));
                  lines = refl;
                };
                behind = stepped;
              }
        ]
      where
        none_more : (call : JournalLine) (xs : List JournalLine) (m : ℕ) → 2 + length xs ≤ m → m ≤ 2 → call ∷ xs ≡ call ∷ []
        none_more call [] m p q = refl
        none_more call (x ∷ xs) m p q = absurd (omega (arith, p, q))

        by_move : (s : Standing) (there : slice_get rings i ≡ Some s) (calls : List JournalLine) (behind : List Standing) (chain : Chain rings calls behind) → length calls ≡ length turned.marks → ((seat : ℕ) (more : List Mark) → turned.marks ≡ Survey seat ∷ more → IsEndFirst rings i v.ring calls) →
            (x : JournalLine) (xs : List JournalLine) (next : JournalLine) (back : List JournalLine) (tail : List ℕ) → calls ≡ (x ∷ xs) ++ next ∷ back → bytes ≡ lines_of (x ∷ xs) ++ tail → has_line_end tail ≡ false → 2 + length xs ≤ length turned.marks →
            Move ls (lock_of v) c ask turned → IsCutSo rings ls (Asked c i ask ∷ []) bytes
        by_move s there calls behind chain counted first x xs next back tail parts is none long (Stays a q leave t) = absurd (let n : length turned.marks ≡ 0 = ap (λ (y : Turn). length y.marks) t in omega (arith, n, long))
        by_move s there calls behind chain counted first x xs next back tail parts is none long (Waits order h a held other free_ circle t) = absurd (let n : length turned.marks ≡ 0 = ap (λ (y : Turn). length y.marks) t in omega (arith, n, long))
        by_move s there calls behind chain counted first x xs next back tail parts is none long (Gets order asking a t) = absurd (let n : length turned.marks ≡ 1 = ap (λ (y : Turn). length y.marks) t in omega (arith, n, long))
        by_move s there calls behind chain counted first x xs next back tail parts is none long (Drops answers d t) = absurd (let n : length turned.marks ≡ 0 = ap (λ (y : Turn). length y.marks) t in omega (arith, n, long))
        by_move s there calls behind chain counted first x xs next back tail parts is none long (Faults m y a lt lk t) = absurd (plain m y a)
        by_move s there calls behind chain counted first x xs next back tail parts is none long (Ends h seat line answers held own end t) =
            let marks : turned.marks ≡ Survey seat ∷ (advanced (state_of v.ring) line).marks = ap (λ (y : Turn). y.marks) t in
            let n : length turned.marks ≡ suc (length (advanced (state_of v.ring) line).marks) = ap (λ (y : List Mark). length y) marks in
            let few_more = advanced_few (state_of v.ring) line in
            let d = first seat (advanced (state_of v.ring) line).marks marks in
            let same : x ≡ d.call = first_same (sym parts ∙ d.parts) in
            let one : x ∷ xs ≡ x ∷ [] = none_more x xs (length turned.marks) long (omega (arith, n, few_more)) in
            let all : x ∷ xs ≡ d.call ∷ [] = one ∙ ap (λ (y : JournalLine). y ∷ []) same in
            cut_midst d.call d.later d.mid s there d.chain (record { shadows = d.shadows; hold = d.open_hold; small = tt }) bytes tail (is ∙ ap (λ (y : List JournalLine). lines_of y ++ tail) all) none
            (ended_alone ls (locks_of (slice_set vs i ended_lock)) i (lock_of v) c ask h seat line answers here (f.locks.each i (lock_of v) here).apart held own end (set_locks vs i v ended_lock at) (λ j q. set_others vs i j ended_lock q))
          where
            first_same : {xs_ ys_ : List JournalLine} {a b : JournalLine} → a ∷ xs_ ≡ b ∷ ys_ → a ≡ b
            first_same p = cc

        front : (s : Standing) (there : slice_get rings i ≡ Some s) (calls : List JournalLine) (behind : List Standing) (chain : Chain rings calls behind) → length calls ≡ length turned.marks → ((seat : ℕ) (more : List Mark) → turned.marks ≡ Survey seat ∷ more → IsEndFirst rings i v.ring calls) →
            (front_ : List JournalLine) (next : JournalLine) (back : List JournalLine) (tail : List ℕ) → calls ≡ front_ ++ next ∷ back → bytes ≡ lines_of front_ ++ tail → has_line_end tail ≡ false → IsCutSo rings ls (Asked c i ask ∷ []) bytes
        front s there calls behind chain counted first [] next back tail parts is none = cut_none rings vs (Asked c i ask ∷ []) bytes f (ap has_line_end is ∙ none)
        front s there calls behind chain counted first (x ∷ xs) next back tail parts is none =
            by_move s there calls behind chain counted first x xs next back tail parts is none (few_marks turned calls x next xs back counted parts) (move_of ls (lock_of v) c ask)
