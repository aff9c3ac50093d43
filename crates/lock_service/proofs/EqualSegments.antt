-- Equal locks continue in equal segments.
use Rattle.std.proofs.Common.{◌≡◌, ℕ, zero, suc, ◌<◌, List, [], ◌∷◌, length, Some, refl, sym, ap, subst, ◌∙◌, arith, slice_get}
use Rattle.std.specs.Prelude.{slice_index_or}
use Rattle.ring_model.specs.Ring.{Ring}
use Rattle.ring_model.specs.History.{opening, after}
use Rattle.ring_model.specs.Resources.{till}
use Rattle.ring_model.specs.declared.events.Event.{Event}
use Rattle.ring_logs.specs.LogView.{LogView}
use Rattle.ring_book.specs.BookView.{BookView}
use Rattle.one_thread_ring.specs.Rings.{AreFresh}
use Rattle.ring_model.specs.declared.bases.Base.{Base}
use Rattle.ring_model.specs.Bases.{base_after}
use Rattle.endless_ring.specs.Endless.{EndlessView, IsSameEndless, IsNextRing}
use Rattle.ring_service.specs.Standings.{Standing, standing_of}
use Rattle.held_locks.specs.Queues.{Lock}
use Rattle.held_locks.specs.Promises.{carries}
use Rattle.held_locks.specs.Kept.{LockView, lock_of, locks_of, IsKeptRing, AreMade}
use Rattle.held_locks.specs.Cuts.{IsNextOf, AreNext}
use Rattle.lock_journal.specs.declared.terms.Terms.{Terms}
use Rattle.lock_journal.specs.Segments.{rings_of}
use Rattle.lock_journal.specs.Stages.{limit_of}
use Rattle.ring_service.specs.Texts.{segment_text}
use Rattle.lock_journal.specs.Equal.{AreEqualLocks}
use Rattle.lock_service.specs.Equal.{EqualSegmentsEndEqually}
use Rattle.lock_journal.proofs.Following.{some_is}
use Rattle.lock_journal.proofs.EqualRings.{book_is, made_same}
use Rattle.lock_journal.proofs.EqualLocks.{lock_equal, others_equal, not_none}

-- ---- a ring

-- lists with the same members
same_members : {X : Type 0} (xs ys : List X) → length ys ≡ length xs → ((i : ℕ) (c : X) → i < length xs → slice_index_or ys i c ≡ slice_index_or xs i c) → ys ≡ xs
same_members [] [] n f = refl
same_members [] (y ∷ ys) n f = absurd (omega (arith, n))
same_members (x ∷ xs) [] n f = absurd (omega (arith, n))
same_members {X} (x ∷ xs) (y ∷ ys) n f =
    let head : y ≡ x = f 0 x (omega arith) in
    let tail : ys ≡ xs = same_members xs ys (omega (arith, n)) (λ i c l. f (suc i) c (omega (arith, l))) in
    ap (λ (z : X). z ∷ ys) head ∙ ap (λ (zs : List X). x ∷ zs) tail

fresh_same : (m n : ℕ) (cs ds : List LogView) → n ≡ m → AreFresh m cs → AreFresh n ds → ds ≡ cs
fresh_same m n cs ds e f g =
    let many : length ds ≡ length cs = g.0 ∙ e ∙ sym f.0 in
    let left = f.0 in
    let right = g.0 in
    same_members cs ds many (λ i c l. g.1 i c (omega (arith, l, many, right)) ∙ sym (f.1 i c (omega (arith, l, left))))

begun_same : (a b c d : EndlessView) → IsSameEndless a b → IsKeptRing c → IsKeptRing d → IsNextRing a c → IsNextRing b d → IsSameEndless c d
begun_same a b c d s k l p q =
    let start : d.ring.book.start ≡ c.ring.book.start = q.start ∙ ap (λ (x : BookView ℕ). x.now.ring) s.ring.book ∙ sym p.start in
    let history : d.ring.book.history ≡ c.ring.book.history = q.history ∙ sym p.history in
    let fresh : c.ring.book.now ≡ opening c.ring.book.start 0 = sym k.endless.ring.book.current ∙ ap (λ (x : List Event). after till (opening c.ring.book.start 0) x) p.history in
    let again : d.ring.book.now ≡ opening d.ring.book.start 0 = sym l.endless.ring.book.current ∙ ap (λ (x : List Event). after till (opening d.ring.book.start 0) x) q.history in
    let now : d.ring.book.now ≡ c.ring.book.now = again ∙ ap (λ (x : Ring). opening x 0) start ∙ sym fresh in
    let base : base_after b.base b.ring.book.start b.ring.book.history ≡ base_after a.base a.ring.book.start a.ring.book.history =
    ap (λ (x : Base). base_after x b.ring.book.start b.ring.book.history) s.base ∙ ap (λ (x : BookView ℕ). base_after a.base x.start x.history) s.ring.book in record {
      base = q.base ∙ base ∙ sym p.base;
      ring = record {
        book = book_is c.ring.book.start c.ring.book.start d.ring.book.start c.ring.book.now d.ring.book.now c.ring.book.history d.ring.book.history c.ring.book.room d.ring.book.room start now history;
        clients = fresh_same (length a.ring.clients) (length b.ring.clients) c.ring.clients d.ring.clients (ap (λ (x : List LogView). length x) s.ring.clients) p.clients q.clients;
      };
    }

next_same : (v w : LockView) (x y : EndlessView) → lock_of w ≡ lock_of v → IsSameEndless v.ring w.ring → IsNextOf v x → IsNextOf w y → IsSameEndless x y
next_same v w x y l s p q =
    made_same p.empty q.empty x y (carries (lock_of v)) (begun_same v.ring w.ring p.empty q.empty s p.kept q.kept p.begun q.begun) p.carried
    (subst (λ (k : Lock). AreMade q.empty (carries k) y) l q.carried)

-- ---- all locks

cons_equal : (v w : LockView) (a b : List LockView) → lock_of w ≡ lock_of v → IsSameEndless v.ring w.ring → AreEqualLocks a b → AreEqualLocks (v ∷ a) (w ∷ b)
cons_equal v w a b l s e = record {
  locks = ap (λ (x : Lock). x ∷ locks_of b) l ∙ ap (λ (xs : List Lock). lock_of v ∷ xs) e.locks;
  rings = rings;
}
  where
    rings : (i : ℕ) (x y : LockView) → slice_get (v ∷ a) i ≡ Some x → slice_get (w ∷ b) i ≡ Some y → IsSameEndless x.ring y.ring
    rings zero x y p q = subst (λ (z : LockView). IsSameEndless x.ring z.ring) (some_is w y q) (subst (λ (z : LockView). IsSameEndless z.ring w.ring) (some_is v x p) s)
    rings (suc i) x y p q = e.rings i x y p q

all_next : (a b c d : List LockView) → AreEqualLocks a b → AreNext a c → AreNext b d → AreEqualLocks c d
all_next [] [] c d e p q = subst (λ (x : List LockView). AreEqualLocks x d) (sym p) (subst (λ (x : List LockView). AreEqualLocks [] x) (sym q) e)
all_next [] (w ∷ b) c d e p q = absurd (not_none (lock_of w) (locks_of b) (sym e.locks))
all_next (v ∷ a) [] c d e p q = absurd (not_none (lock_of v) (locks_of a) e.locks)
all_next (v ∷ a) (w ∷ b) [] d e p q = absurd p
all_next (v ∷ a) (w ∷ b) (x ∷ c) [] e p q = absurd q
all_next (v ∷ a) (w ∷ b) (x ∷ c) (y ∷ d) e p q =
    let l : lock_of w ≡ lock_of v = lock_equal (v ∷ a) (w ∷ b) e 0 v w refl refl in
    cons_equal x y c d (q.0.same ∙ l ∙ sym p.0.same) (next_same v w x.ring y.ring l (e.rings 0 v w refl refl) p.0.ring q.0.ring) (all_next a b c d (others_equal v w a b e) p.1 q.1)

-- ---- their text

standing_same : (a b : EndlessView) → IsSameEndless a b → standing_of b ≡ standing_of a
standing_same a b s =
    ap (λ (x : Base). record { base = x; start = b.ring.book.start; history = b.ring.book.history; clients = b.ring.clients }) s.base
    ∙ ap (λ (x : BookView ℕ). record { base = a.base; start = x.start; history = x.history; clients = b.ring.clients }) s.ring.book
    ∙ ap (λ (x : List LogView). record { base = a.base; start = a.ring.book.start; history = a.ring.book.history; clients = x }) s.ring.clients

rings_same : (a b : List LockView) → AreEqualLocks a b → rings_of b ≡ rings_of a
rings_same [] [] e = refl
rings_same [] (w ∷ b) e = absurd (not_none (lock_of w) (locks_of b) (sym e.locks))
rings_same (v ∷ a) [] e = absurd (not_none (lock_of v) (locks_of a) e.locks)
rings_same (v ∷ a) (w ∷ b) e =
    ap (λ (x : Standing). x ∷ rings_of b) (standing_same v.ring w.ring (e.rings 0 v w refl refl)) ∙ ap (λ (xs : List Standing). standing_of v.ring ∷ xs) (rings_same a b (others_equal v w a b e))

pub equal_segments : EqualSegmentsEndEqually
equal_segments a b c d number behind e p q =
    let locks = all_next a.segment.locks b.segment.locks c.segment.locks d.segment.locks e.segment.locks p.locks q.locks in (
      record {
        segment = record {
          locks = locks;
          names = q.names ∙ e.segment.names ∙ sym p.names;
          remaining = q.remaining ∙ ap (λ (x : Terms). limit_of x.limit) e.terms ∙ sym p.remaining;
          short = q.short ∙ sym p.short;
        };
        terms = q.terms ∙ e.terms ∙ sym p.terms;
        stage = q.stage_is ∙ sym p.stage_is;
      },
      ap (λ (x : List Standing). segment_text number behind x) (rings_same c.segment.locks d.segment.locks locks),
    )
