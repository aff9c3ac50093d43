-- Each ring has the history of the chain of its segments.
use Rattle.std.proofs.Common.{◌≡◌, ℕ, zero, suc, ◌+◌, List, [], ◌∷◌, ◌++◌, length, map, refl, sym, ap, subst, ◌∙◌, arith}
use Rattle.std.specs.Prelude.{Option, Some, None, slice_get}
use Rattle.std.specs.List.{AllByRecursion}
use Rattle.std.proofs.lemmas.List.{append-nil, append_assoc}
use Rattle.ring_model.specs.Ring.{Ring}
use Rattle.ring_model.specs.declared.events.Event.{Event}
use Rattle.saved_history.specs.Content.{Block}
use Rattle.ring_check.specs.Legal.{history}
use Rattle.ring_check.specs.Meaning.{AreRightBlocks}
use Rattle.ring_check.proofs.Meanings.{legal_means}
use Rattle.journal.specs.ContentAfter.{in_order}
use Rattle.ring_model.specs.declared.bases.Base.{Base}
use Rattle.ring_model.specs.Bases.{IsBase, shifted}
use Rattle.ring_model.specs.Chains.{chain_history}
use Rattle.ring_model.proofs.ChainHistories.{history_append}
use Rattle.segment_files.specs.Files.{File, Place, Link, segments_of, segments, link_after, first_link, AreBases, AreStarts, IsShort, Follows, AreChainedAfter, at_number, of_ring}
use Rattle.segment_files.proofs.Starts.{file_starts}
use Rattle.chain_readers.specs.Joining.{without_events, opened, extended, with_file, with_files}
use Rattle.chain_readers.specs.JoinLaws.{JoinedIsOfChains}
use Rattle.chain_readers.proofs.Whole.{start_of, Stands, AreJoined, HasStart, IsSound, no_base_is, sound_begun, stands_begun, events_more, file_more, to_recursion}

-- the history of the ring of this number, if there is one
history_at : ℕ → List Block → List Event
history_at i [] = []
history_at zero (k ∷ ks) = history k
history_at (suc i) (k ∷ ks) = history_at i ks

ring_more : (version place i : ℕ) (ks : List Block) (ps : List Place) (bs : List Base) (fs : List Block) → AreJoined place ks ps → length bs ≡ length fs → AreBases ps bs → AreStarts ps fs
    → AreRightBlocks version place fs → AllByRecursion HasStart fs → AllByRecursion IsShort fs
    → history_at i (extended (opened ks fs) bs fs) ≡ history_at i ks ++ chain_history (at_number i (segments_of bs fs))
unfolding history_at
ring_more version place i [] [] [] [] j e b s r h short = refl
ring_more version place i [] [] [] (f ∷ fs) j e b s r h short = absurd (omega (arith, e))
ring_more version place i [] [] (b ∷ bs) [] j e bases s r h short = absurd (omega (arith, e))
ring_more version place zero [] [] (b ∷ bs) (f ∷ fs) j e bases s r h short =
    let sound : IsSound place (without_events f) = sound_begun version place f r.0 h.0 in
    let stands : Stands (without_events f) b (start_of f) = subst (λ (x : Base). Stands (without_events f) x (start_of f)) (sym bases.0) (stands_begun f) in
    let room : IsBase b = subst IsBase (sym bases.0) no_base_is in
    events_more version place (without_events f) f b sound stands r.0 short.0 room ∙ sym (append-nil (shifted b (history f)))
ring_more version place (suc i) [] [] (b ∷ bs) (f ∷ fs) j e bases s r h short = ring_more version (place + 1) i [] [] bs fs tt (omega (arith, e)) bases.1 tt r.1 h.1 short.1
ring_more version place i (k ∷ ks) [] bs fs j e b s r h short = absurd j
ring_more version place i [] (p ∷ ps) bs fs j e b s r h short = absurd j
ring_more version place i (k ∷ ks) (p ∷ ps) [] fs j e b s r h short = absurd b
ring_more version place i (k ∷ ks) (p ∷ ps) (b ∷ bs) [] j e bases s r h short = absurd s
ring_more version place zero (k ∷ ks) (p ∷ ps) (b ∷ bs) (f ∷ fs) j e bases s r h short =
    let stands : Stands k b (start_of f) = subst (λ (x : Base). Stands k x (start_of f)) (sym bases.0) (subst (λ (x : Ring). Stands k p.base x) (sym s.0) j.1) in
    events_more version place k f b j.0 stands r.0 short.0 bases.1 ∙ ap (λ (x : List Event). history k ++ x) (sym (append-nil (shifted b (history f))))
ring_more version place (suc i) (k ∷ ks) (p ∷ ps) (b ∷ bs) (f ∷ fs) j e bases s r h short = ring_more version (place + 1) i ks ps bs fs j.2 (omega (arith, e)) bases.2 s.1 r.1 h.1 short.1

file_history : (l : Link) (i : ℕ) (ks : List Block) (f : File) → AreJoined 0 ks l.places → Follows l f → history_at i (with_file ks f) ≡ history_at i ks ++ chain_history (at_number i (segments f))
file_history l i ks f j h =
    let starts = file_starts f h.file in
    ring_more f.content.version 0 i ks l.places f.head.bases f.content.rings j h.bases.rings h.bases.bases h.starts
    ((legal_means f.content starts).0 h.file.recovered.legal).blocks (to_recursion HasStart f.content.rings starts) h.short

one_more : (l : Link) (i : ℕ) (ks : List Block) (f : File) (fs : List File) → AreJoined 0 ks l.places → Follows l f
    → history_at i (with_files (with_file ks f) fs) ≡ history_at i (with_file ks f) ++ chain_history (of_ring i fs)
    → history_at i (with_files ks (f ∷ fs)) ≡ history_at i ks ++ chain_history (of_ring i (f ∷ fs))
one_more l i ks f fs j h more =
    more
    ∙ ap (λ (x : List Event). x ++ chain_history (of_ring i fs)) (file_history l i ks f j h)
    ∙ append_assoc (history_at i ks) (chain_history (at_number i (segments f))) (chain_history (of_ring i fs))
    ∙ ap (λ (x : List Event). history_at i ks ++ x) (sym (history_append (at_number i (segments f)) (of_ring i fs)))

files_history : (l : Link) (i : ℕ) (ks : List Block) (fs : List File) → AreJoined 0 ks l.places → AreChainedAfter l fs → history_at i (with_files ks fs) ≡ history_at i ks ++ chain_history (of_ring i fs)
files_history l i ks [] j a = sym (append-nil (history_at i ks))
files_history l i ks (f ∷ []) j a = one_more l i ks f [] j a (sym (append-nil (history_at i (with_file ks f))))
files_history l i ks (f ∷ g ∷ fs) j a = one_more l i ks f (g ∷ fs) j a.0 (files_history (link_after f) i (with_file ks f) (g ∷ fs) (file_more l ks f j a.0) a.2)

history_of : Option Block → List Event
history_of None = []
history_of (Some k) = history k

found : (i : ℕ) (ks : List Block) → history_of (slice_get (map in_order ks) i) ≡ history_at i ks
unfolding history_at history_of
found i [] = refl
found zero (k ∷ ks) = refl
found (suc i) (k ∷ ks) = found i ks

some_history : (k : Block) → history_of (Some k) ≡ history k
unfolding history_of
some_history k = refl

nothing_at : (i : ℕ) → history_at i [] ≡ []
unfolding history_at
nothing_at i = refl

pub joined_is_of_chains : JoinedIsOfChains
joined_is_of_chains fs a i k at =
    sym (some_history k) ∙ sym (ap history_of at) ∙ found i (with_files [] fs) ∙ files_history first_link i [] fs tt a
    ∙ ap (λ (x : List Event). x ++ chain_history (of_ring i fs)) (nothing_at i)
