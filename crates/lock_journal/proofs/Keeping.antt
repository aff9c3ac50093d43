-- Nothing that was delivered is lost, wherever the journal was cut: each lock continues in what is
-- recovered.
use Rattle.std.proofs.Common.{◌≡◌, ℕ, suc, ◌+◌, List, [], ◌∷◌, ◌++◌, length, Option, Some, refl, sym, ◌∙◌, ap, subst, arith, slice_get, ◌<◌, ◌^◌, append_assoc, zero}
use Rattle.std.specs.List.{AllByRecursion}
use Rattle.std.proofs.lemmas.List.{append_cancel_left}
use Rattle.std.proofs.lemmas.Grind.{flat_map-append}
use Rattle.ring_model.specs.History.{opening}
use Rattle.ring_model.specs.declared.events.Event.{Event}
use Rattle.journal.specs.declared.calls.JournalLine.{JournalLine}
use Rattle.journal.specs.Spelling.{journal_line, journal_head}
use Rattle.journal.specs.Recovery.{IsRecovered}
use Rattle.endless_ring.specs.Endless.{EndlessView}
use Rattle.ring_service.specs.Standings.{Standing, standing_of}
use Rattle.ring_service.specs.Saved.{content_of, IsRight, block_at, blocks_from}
use Rattle.ring_service.proofs.Recovering.{lines_of}
use Rattle.held_locks.specs.Opened.{events_in, open_in}
use Rattle.held_locks.specs.Kept.{LockView}
use Rattle.ring_model.specs.declared.bases.Base.{Base}
use Rattle.ring_model.specs.Bases.{shifted}
use Rattle.ring_service.specs.Segments.{bases_of}
use Rattle.ring_service.proofs.Effects.{right_at}
use Rattle.ring_service.proofs.Grown.{grown_at}
use Rattle.ring_service.proofs.RecordedFits.{bounded}
use Rattle.held_locks.specs.Promises.{Alternate, events_of, open_after}
use Rattle.lock_journal.proofs.Chains.{Chain, chain_append, chain_many, chain_grown, HaveGoneOn, GoesOnBy, chain_right, chain_goes}
use Rattle.lock_journal.proofs.Following.{some_is, none_is, also_there, Followed, Follows}
use Rattle.lock_journal.proofs.LockLines.{AreBounded}
use Rattle.lock_journal.proofs.Longer.{bounded_all, are_of, noted_lines}
use Rattle.lock_journal.proofs.Recovering.{rings_many, ring_at, begun_right, begun_few, followed_begun, kept_bounded, recovered_of, reaches}
use Rattle.lock_journal.proofs.Restarting.{same_open, events_back, base_at}
use Rattle.lock_journal.proofs.Shadows.{open_of}
use Rattle.lock_journal.specs.Recovered.{NothingToldIsLost, IsMadeOf, AreMadeOf, GoesOnIn}
use Rattle.lock_journal.specs.Segments.{rings_of}

-- ---- the ring that is made of a block

-- of some place, and what came before it is known
record IsMadeAt (bases : List Base) (ss : List Standing) (i : ℕ) (e : EndlessView) : Type 0 where
  pub before : Base
  pub ring : Standing
  pub place : ℕ
  pub base_there : slice_get bases i ≡ Some before
  pub ring_there : slice_get ss i ≡ Some ring
  pub made : IsMadeOf before (block_at place ring) e

made_at : (place : ℕ) (bases : List Base) (ss : List Standing) (es : List EndlessView) (i : ℕ) (e : EndlessView) → AreMadeOf bases (blocks_from place ss) es → slice_get es i ≡ Some e → IsMadeAt bases ss i e
made_at place bases [] es i e m f = absurd (none_is e (ap (λ (x : List EndlessView). slice_get x i) (sym m) ∙ f))
made_at place bases (s ∷ ss) [] i e m f = absurd m
made_at place [] (s ∷ ss) (x ∷ es) i e m f = absurd m
made_at place (b ∷ bases) (s ∷ ss) (x ∷ es) zero e m f = record {
  before = b;
  ring = s;
  place = place;
  base_there = refl;
  ring_there = refl;
  made = subst (λ (y : EndlessView). IsMadeOf b (block_at place s) y) (some_is x e f) m.0;
}
made_at place (b ∷ bases) (s ∷ ss) (x ∷ es) (suc i) e m f =
    let k = made_at (place + 1) bases ss es i e m.1 f in
    record { before = k.before; ring = k.ring; place = k.place; base_there = k.base_there; ring_there = k.ring_there; made = k.made }

-- the same events, and the same hold is open
one_goes : (v : LockView) (r s : Standing) (e : EndlessView) (before : Base) (place : ℕ) → Follows r v → GoesOnBy r s → IsRight s → s.base ≡ before → IsMadeOf before (block_at place s) e → GoesOnIn v e
one_goes v r s e before place f g right base m =
    let history : e.ring.book.history ≡ s.history = m.history ∙ events_back (opening s.start 0) s.history (bounded s right).legal in
    let same : e.base ≡ s.base = m.base ∙ sym base in
    let open_hold : open_in e ≡ open_of s = same_open (standing_of e) s (e, m.kept.endless, refl) right same history m.surveys in
    let shown : events_in e ≡ shifted s.base s.history = ap (λ (b : Base). shifted b e.ring.book.history) same ∙ ap (λ (h : List Event). shifted s.base h) history in
    let was : shifted r.base r.history ≡ events_in v.ring = ap (λ (b : Base). shifted b r.history) f.shadows.base ∙ ap (λ (h : List Event). shifted v.ring.base h) f.shadows.history in record {
      marks = g.marks;
      events = shown ∙ (g.events ∙ ap (λ (x : List Event). x ++ events_of g.marks) was);
      alternate = subst (λ (x : Option ℕ). Alternate x g.marks) f.hold g.alternate;
      hold = open_hold ∙ (g.hold ∙ ap (λ (x : Option ℕ). open_after x g.marks) f.hold);
    }

goes_on : (old new : List LockView) (told rings : List Standing) (calls : List JournalLine) → Followed told new → AllByRecursion IsRight rings → Chain (rings_of old) calls rings → HaveGoneOn told rings → (es : List EndlessView) →
    AreMadeOf (bases_of (rings_of old)) (blocks_from 0 rings) es → (i : ℕ) (v : LockView) (e : EndlessView) → slice_get new i ≡ Some v → slice_get es i ≡ Some e → GoesOnIn v e
goes_on old new told rings calls f right chain gone es m i v e at there =
    let k = made_at 0 (bases_of (rings_of old)) rings es i e m there in
    let r = f.each i v at in
    let g = gone i r.0 r.1 in
    let same : g.0 ≡ k.ring = some_is g.0 k.ring (sym g.1 ∙ k.ring_there) in
    let size : length rings ≡ length (rings_of old) = chain_many (rings_of old) rings calls chain in
    let long : length (rings_of old) ≡ length old = rings_many old in
    let w = also_there rings old i k.ring (size ∙ long) k.ring_there in
    let h = grown_at (rings_of old) rings i (standing_of w.0.ring) (chain_grown (rings_of old) rings calls chain) (ring_at old i w.0 w.1) in
    let here : h.0 ≡ k.ring = some_is h.0 k.ring (sym h.1 ∙ k.ring_there) in
    let base : k.ring.base ≡ k.before = ap (λ (x : Standing). x.base) (sym here) ∙ (h.2.base ∙ sym (base_at old i w.0 k.before w.1 k.base_there)) in
    one_goes v r.0 k.ring e k.before k.place r.2 (subst (λ (x : Standing). GoesOnBy r.0 x) same g.2) (right_at rings i k.ring right k.ring_there) base k.made

-- ---- the law

pub nothing_told_is_lost : NothingToldIsLost
nothing_told_is_lost terms old mid new entries told untold said noted unsaid notes kept lost begun a b k whole front =
    let rings : List Standing = rings_of old.locks in
    let head : List ℕ = journal_head (content_of rings) in
    let few : length rings < 2 ^ 32 = begun_few old.locks begun in
    let all : AllByRecursion IsRight rings = begun_right old.locks begun in
    let most : AreBounded new.locks = kept_bounded new.locks entries k in
    let one = noted_lines terms rings old mid told said noted few (followed_begun old.locks begun) a.noting a.answers (bounded_all terms mid new untold unsaid notes b.answers most) in
    let size : length one.notes.behind ≡ length rings = chain_many rings one.notes.behind one.notes.calls one.notes.chain in
    let two = noted_lines terms one.notes.behind mid new untold unsaid notes (omega (arith, few, size)) one.notes.followed b.noting b.answers most in
    let extra : List ℕ = front.0 in
    let after : extra ++ lost ≡ notes = append_cancel_left (head ++ noted) (extra ++ lost) notes
    (sym (append_assoc (head ++ noted) extra lost) ∙ (ap (λ (u : List ℕ). u ++ lost) (sym front.1) ∙ (whole ∙ sym (append_assoc head noted notes)))) in
    let r = reaches one.notes.behind two.notes.behind two.notes.calls extra lost two.notes.chain (after ∙ two.notes.lines) in
    let both : Chain rings (one.notes.calls ++ r.calls) r.behind = chain_append rings one.notes.behind r.behind one.notes.calls r.calls one.notes.chain r.chain in
    let text : kept ≡ head ++ (lines_of (one.notes.calls ++ r.calls) ++ r.tail) =
    front.1
    ∙ (append_assoc head noted extra
    ∙ (ap (λ (u : List ℕ). head ++ (u ++ extra)) one.notes.lines
    ∙ (ap (λ (u : List ℕ). head ++ (lines_of one.notes.calls ++ u)) r.is
    ∙ (ap (λ (u : List ℕ). head ++ u) (sym (append_assoc (lines_of one.notes.calls) (lines_of r.calls) r.tail))
    ∙ ap (λ (u : List ℕ). head ++ (u ++ r.tail)) (sym (flat_map-append journal_line one.notes.calls r.calls)))))) in record {
      told = one.notes.behind;
      each = one.told;
      of_locks = are_of one.notes.behind mid.locks one.notes.followed;
      rings = r.behind;
      recovered = subst (λ (u : List ℕ). IsRecovered u (content_of r.behind)) (sym text) (recovered_of rings r.behind (one.notes.calls ++ r.calls) r.tail all begun.text both r.none);
      grown = chain_grown one.notes.behind r.behind r.calls r.chain;
      locks = goes_on old.locks mid.locks one.notes.behind r.behind (one.notes.calls ++ r.calls) one.notes.followed (chain_right rings r.behind (one.notes.calls ++ r.calls) all both) both (chain_goes one.notes.behind r.behind r.calls r.chain);
    }
