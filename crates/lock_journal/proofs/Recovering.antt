-- What is kept of a journal records rings that have continued from those of the delivered lines.
use Rattle.std.proofs.Common.{◌≡◌, ℕ, suc, ◌+◌, Bool, true, false, List, [], ◌∷◌, ◌++◌, length, Some, refl, sym, ◌∙◌, ap, subst, inl, inr, arith, slice_get, ◌<◌, ◌^◌, append_assoc, zero, drop, ◌≤◌, if◌then◌else◌}
use Rattle.std.specs.Prelude.{nat_le}
use Rattle.std.specs.List.{AllByRecursion}
use Rattle.std.proofs.lemmas.Bool.{cases_lt}
use Rattle.std.proofs.lemmas.List.{append-nil}
use Rattle.ring_model.specs.History.{State, opening, Works}
use Rattle.ring_model.specs.Logs.{IsFollowed}
use Rattle.ring_model.specs.Resources.{till}
use Rattle.ring_model.specs.declared.events.Event.{Event}
use Rattle.ring_model.specs.declared.events.Entry.{Entry}
use Rattle.saved_history.specs.Versions.{latest_version}
use Rattle.saved_history.specs.Spelling.{Fits}
use Rattle.journal.specs.declared.calls.JournalLine.{JournalLine}
use Rattle.journal.specs.Spelling.{journal_head, JournalLineFits}
use Rattle.journal.specs.Recovery.{has_line_end, IsRecovered}
use Rattle.endless_ring.specs.Endless.{EndlessView}
use Rattle.ring_service.specs.Standings.{Standing, standing_of}
use Rattle.ring_service.specs.Saved.{content_of, IsRight}
use Rattle.ring_service.proofs.Journaling.{begins}
use Rattle.ring_service.proofs.Recovering.{lines_of, split, after_head, cut_calls, is_recovered}
use Rattle.held_locks.specs.Opened.{last_survey, later}
use Rattle.held_locks.specs.Kept.{LockView, IsKeptLock, IsKeptRing, AreKept}
use Rattle.lock_journal.proofs.Chains.{Chain, chain_front, chain_fits, chain_stands}
use Rattle.lock_journal.proofs.Following.{some_is, none_is, Followed}
use Rattle.lock_journal.proofs.LockLines.{AreBounded}
use Rattle.lock_journal.proofs.Shadows.{log_at, end_of}
use Rattle.lock_journal.specs.Begun.{HaveBegun}
use Rattle.lock_journal.specs.Segments.{rings_of}
use Rattle.ring_model.specs.declared.events.Entry.TheVariants as entry

-- ---- where a segment begins

last_within : {C : Type 0} (w : Works C) (a : State C) (h : List Event) (front place : ℕ) (log : List Entry) → place ≤ length h → IsFollowed w a h front log → last_survey place log ≤ length h
last_within w a h front place [] l f = l
last_within w a h front place (entry.Receipt r ∷ log) l f = last_within w a h (r.position + 1) place log l f.2
last_within w a h front place (entry.Survey s ∷ log) l f = last_within w a h s.position s.position log f.1.0 f.2

later_within : (a b m : ℕ) → a ≤ m → b ≤ m → later a b ≤ m
later_within a b m la lb = go (nat_le a b)
  where
    go : (t : Bool) → (if t then b else a) ≤ m
    go true = lb
    go false = la

pub end_within : (e : EndlessView) → IsKeptRing e → end_of e.ring.clients ≤ length e.ring.book.history
end_within e k =
    let n = k.seats in
    let one = k.endless.ring.each 1 (record { number = 1; log = [] }) (omega (arith, n)) in
    let two = k.endless.ring.each 2 (record { number = 2; log = [] }) (omega (arith, n)) in
    later_within (last_survey 0 (log_at e.ring.clients 1)) (last_survey 0 (log_at e.ring.clients 2)) (length e.ring.book.history)
    (last_within till (opening e.ring.book.start 0) e.ring.book.history 0 0 (log_at e.ring.clients 1) (omega arith) one.fits.entries) (last_within till (opening e.ring.book.start 0) e.ring.book.history 0 0 (log_at e.ring.clients 2) (omega arith) two.fits.entries)

-- the rings of locks, one by one
pub rings_many : (vs : List LockView) → length (rings_of vs) ≡ length vs
rings_many [] = refl
rings_many (v ∷ vs) = ap suc (rings_many vs)

pub ring_at : (vs : List LockView) (i : ℕ) (v : LockView) → slice_get vs i ≡ Some v → slice_get (rings_of vs) i ≡ Some (standing_of v.ring)
ring_at [] i v e = absurd (none_is v e)
ring_at (x ∷ vs) zero v e = ap (λ (y : LockView). Some (standing_of y.ring)) (some_is x v e)
ring_at (x ∷ vs) (suc i) v e = ring_at vs i v e

all_begun : (vs : List LockView) → ((i : ℕ) (v : LockView) → slice_get vs i ≡ Some v → IsKeptLock v) → AllByRecursion IsRight (rings_of vs)
all_begun [] each = tt
all_begun (v ∷ vs) each = ((v.ring, (each 0 v refl).ring.endless, refl), all_begun vs (λ i w e. each (suc i) w e))

pub begun_right : (vs : List LockView) → HaveBegun vs → AllByRecursion IsRight (rings_of vs)
begun_right vs b = all_begun vs b.kept.each

pub begun_few : (vs : List LockView) → HaveBegun vs → length (rings_of vs) < 2 ^ 32
begun_few vs b = b.text.rings_said

pub followed_begun : (vs : List LockView) → HaveBegun vs → Followed (rings_of vs) vs
followed_begun vs b = record {
  many = rings_many vs;
  right = begun_right vs b;
  each = λ i v e.
      let k = b.kept.each i v e in
      let g = b.each i v e in (
        standing_of v.ring,
        ring_at vs i v e,
        record {
          shadows = record {
            base = refl;
            start = refl;
            history = refl;
            now = k.ring.endless.ring.book.current;
            seats = k.ring.seats;
            ended = end_within v.ring k.ring;
          };
          hold = g.shown;
          small = g.small;
        },
      );
  locks = b.kept.right;
}

pub kept_bounded : (vs : List LockView) (entries : List (ℕ × ℕ)) → AreKept vs entries → AreBounded vs
kept_bounded vs entries k i v e = let most = (k.each i v e).ring.endless.ring.book.bounded in omega (arith, most)

-- ---- what is recovered of a beginning, calls, and a tail in which no line ends

pub recovered_of : (old new : List Standing) (calls : List JournalLine) (tail : List ℕ) → AllByRecursion IsRight old → Fits (content_of old) → Chain old calls new → has_line_end tail ≡ false →
    IsRecovered (journal_head (content_of old) ++ (lines_of calls ++ tail)) (content_of new)
recovered_of old new calls tail all fits chain none =
    let no_more : calls ++ [] ≡ calls = append-nil calls in
    let whole : IsRecovered ((journal_head (content_of old) ++ lines_of (calls ++ [])) ++ tail) (content_of new) = is_recovered old new calls [] tail all fits (chain_stands old [] old new calls (begins old all) chain) refl
    (subst (λ (x : List JournalLine). AllByRecursion (JournalLineFits latest_version (length old)) x) (sym no_more) (chain_fits old new calls chain)) none in
    let text : (journal_head (content_of old) ++ lines_of (calls ++ [])) ++ tail ≡ journal_head (content_of old) ++ (lines_of calls ++ tail) =
    ap (λ (x : List JournalLine). (journal_head (content_of old) ++ lines_of x) ++ tail) no_more ∙ append_assoc (journal_head (content_of old)) (lines_of calls) tail in
    subst (λ (x : List ℕ). IsRecovered x (content_of new)) text whole

-- ---- how far bytes reach

pub record Reaches (rings : List Standing) (bytes : List ℕ) : Type 0 where
  pub calls : List JournalLine
  pub tail : List ℕ
  pub behind : List Standing
  pub chain : Chain rings calls behind
  pub is : bytes ≡ lines_of calls ++ tail
  pub none : has_line_end tail ≡ false

nothing : (xs ys : List ℕ) → xs ++ ys ≡ [] → xs ≡ []
nothing [] ys e = refl
nothing (x ∷ xs) ys e = let long : length (x ∷ (xs ++ ys)) ≡ 0 = ap (λ (u : List ℕ). length u) e in absurd (omega (arith, long))

pub reaches : (rings new : List Standing) (calls : List JournalLine) (bytes lost : List ℕ) → Chain rings calls new → bytes ++ lost ≡ lines_of calls → Reaches rings bytes
reaches rings new calls bytes lost chain e =
    let whole : bytes ++ lost ≡ lines_of calls ++ [] = e ∙ sym (append-nil (lines_of calls)) in
    elim (cases_lt (length bytes) (length (lines_of calls))) [
      | inl lt ↦
          let c = cut_calls latest_version (length rings) calls bytes lost [] (chain_fits rings new calls chain) whole lt in
          let f = chain_front rings new c.front (c.next ∷ c.back) (subst (λ (x : List JournalLine). Chain rings x new) c.parts chain) in
          record { calls = c.front; tail = c.tail; behind = f.0; chain = f.1; is = c.is; none = c.none }
      | inr le ↦
          let rest : List ℕ = drop (length (lines_of calls)) bytes in
          let empty : rest ≡ [] = nothing rest lost (after_head bytes lost (lines_of calls) [] whole le) in
          record {
            calls = calls;
            tail = rest;
            behind = new;
            chain = chain;
            is = split bytes lost (lines_of calls) [] whole le;
            none = ap (λ (x : List ℕ). has_line_end x) empty;
          }
    ]
