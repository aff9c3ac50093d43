-- The rings that the loop has read, and the bytes that are still to be read.
use Rattle.std.proofs.Common.{◌≡◌, ℕ, ◌<◌, List, [], ◌∷◌, ◌++◌, length, Result, Ok, Err, refl, sym, ap, ◌∙◌, append_assoc}
use Rattle.text_lines.specs.declared.fault.Fault.{Fault}
use Rattle.text_lines.specs.declared.fault.Stop.{Stop}
use Rattle.text_lines.specs.declared.fault.Stop.TheVariants as stops
use Rattle.text_lines.specs.Reading.{◌>>=◌, Fails, this, that}
use Rattle.text_lines.proofs.Repetitions.{with_items, with_none, item_shrinks, item_keeps, items_fault, items_end, items_more}
use Rattle.saved_history.specs.declared.saved.RingHeader.{RingHeader}
use Rattle.saved_history.specs.Content.{Block}
use Rattle.saved_history.specs.Spelling.{RingHeaderFits}
use Rattle.saved_history.specs.Lines.{Body, Rings, blocks, ring_at, linked_rings_at, rings_at, head_at}
use Rattle.saved_history.proofs.LineLaws.{head_reads}
use Rattle.saved_history.proofs.TextLaws.{rings_repeat, as_blocks}

-- the rings as blocks, with those that were read before them
abbrev pub with_blocks : List Block → Result (Body × List ℕ) Fault → Result (Body × List ℕ) Fault
with_blocks = with_items

abbrev with_ring : Block × RingHeader → Rings × List ℕ → Result (Rings × List ℕ) Fault
with_ring x y = Ok ((x ∷ y.0.0, y.0.1), y.1)

regroup : (x : Block × RingHeader) (front : List Block) (r : Result (Rings × List ℕ) Fault) → with_blocks front ((r >>= with_ring x) >>= as_blocks) ≡ with_blocks (front ++ x.0 ∷ []) (r >>= as_blocks)
regroup x front (Ok y) = ap (λ (xs : List Block). Ok ((xs, y.0.1.1), y.1)) (sym (append_assoc front (x.0 ∷ []) (blocks y.0)))
regroup x front (Err d) = refl

module _ (version : ℕ) (front : List Block) (h : RingHeader) (fits : RingHeaderFits h) (rest : List ℕ) (total : Result (Body × List ℕ) Fault) (so_far : with_blocks front (rings_at version h rest) ≡ total) where
  pub rings_last : (b : Block) (n : ℕ) (after : List ℕ) → ring_at version h rest ≡ Ok (that (b, n), after) → total ≡ Ok ((front ++ b ∷ [], n), after)
  unfolding rings_at linked_rings_at
  rings_last b n after e =
      let one : linked_rings_at version h rest ≡ Ok (([], (b, n)), after) = items_end (rings_repeat version) h fits rest [] (linked_rings_at version h rest) (with_none (linked_rings_at version h rest)) (b, n) after e in
      sym so_far ∙ ap (λ (r : Result (Rings × List ℕ) Fault). with_blocks front (r >>= as_blocks)) one

  pub rings_more : (b : Block) (g : RingHeader) (after : List ℕ) → ring_at version h rest ≡ Ok (this (b, g), after) → with_blocks (front ++ b ∷ []) (rings_at version g after) ≡ total
  unfolding rings_at linked_rings_at
  rings_more b g after e =
      let one : with_items ((b, g) ∷ []) (linked_rings_at version g after) ≡ linked_rings_at version h rest = items_more (rings_repeat version) h fits rest [] (linked_rings_at version h rest) (with_none (linked_rings_at version h rest)) (b, g) after e in
      sym (regroup (b, g) front (linked_rings_at version g after)) ∙ ap (λ (r : Result (Rings × List ℕ) Fault). with_blocks front (r >>= as_blocks)) one ∙ so_far

  pub rings_fault : (e : Stop) → Fails e (ring_at version h rest) → Fails e total
  unfolding rings_at linked_rings_at
  rings_fault stops.Memory k = tt
  rings_fault (stops.Fault d) k =
      let one : linked_rings_at version h rest ≡ Err d = items_fault (rings_repeat version) h fits rest [] (linked_rings_at version h rest) (with_none (linked_rings_at version h rest)) (stops.Fault d) k in
      sym so_far ∙ ap (λ (r : Result (Rings × List ℕ) Fault). with_blocks front (r >>= as_blocks)) one

pub next_fits : (version : ℕ) (h : RingHeader) → RingHeaderFits h → (rest : List ℕ) (b : Block) (g : RingHeader) (after : List ℕ) → ring_at version h rest ≡ Ok (this (b, g), after) → RingHeaderFits g
next_fits version h fits rest b g after e = item_keeps (rings_repeat version) h fits rest (b, g) after e

pub ring_less : (version : ℕ) (h : RingHeader) → RingHeaderFits h → (rest : List ℕ) (b : Block) (g : RingHeader) (after : List ℕ) → ring_at version h rest ≡ Ok (this (b, g), after) → length after < length rest
ring_less version h fits rest b g after e = item_shrinks (rings_repeat version) h fits rest (b, g) after e

pub head_fits : (bytes : List ℕ) (h : RingHeader) (rest : List ℕ) → head_at bytes ≡ Ok (h, rest) → RingHeaderFits h
head_fits bytes h rest e = (head_reads.takes bytes h rest e).0
