-- The lines of rings, one after the other, and what is known of the blocks of a legal text.
use Rattle.std.proofs.Common.{◌≡◌, ◌∙◌, ◌++◌, [], ◌∷◌, ◌<◌, ◌≤◌, ℕ, zero, suc, ◌+◌, List, length, take, get_or, map, ap, sym, subst, arith, refl}
use Rattle.std.specs.List.{flat_map}
use Rattle.std.proofs.lemmas.List.{append-nil, take_more, take_all}
use Rattle.std.proofs.lemmas.List.Folds.{flat_map-map}
use Rattle.std.proofs.lemmas.List.Concat.{flat_map-append}
use Rattle.ring_model.specs.Limits.{machine_limit}
use Rattle.saved_history.specs.declared.saved.SavedRing.{SavedRing}
use Rattle.saved_history.specs.declared.saved.Saved.{Saved}
use Rattle.saved_history.specs.Content.{Content, Block, content, block_of}
use Rattle.ring_check.specs.Limits.{machine_limit_of}
use Rattle.ring_check.specs.Meaning.{AreRightBlocks, IsRightBlock, IsRightText}
use Rattle.ring_check.proofs.Blocks.{machine_limit_most}
use Rattle.history_repairs.specs.Lines.{repairs_line, repairs_lines}

-- the lines of rings
abbrev pub rings_text : List SavedRing → List ℕ
rings_text rings = flat_map (λ (r : SavedRing). repairs_line (block_of r)) rings

-- with one ring more
pub rings_more : (rings : List SavedRing) (i : ℕ) (ring : SavedRing) (was is : List ℕ) → i < length rings → ring ≡ get_or rings i ring → was ≡ rings_text (take i rings) →
    is ≡ was ++ repairs_line (block_of ring) → is ≡ rings_text (take (i + 1) rings)
rings_more rings i ring was is lt at before added =
    let f : SavedRing → List ℕ = λ r. repairs_line (block_of r) in
    added ∙ ap (λ (t : List ℕ). t ++ f ring) before ∙ ap (λ (r : SavedRing). rings_text (take i rings) ++ f r) at
    ∙ ap (λ (t : List ℕ). rings_text (take i rings) ++ t) (sym (append-nil (f (get_or rings i ring))))
    ∙ sym (flat_map-append f (take i rings) (get_or rings i ring ∷ [])) ∙ ap rings_text (sym (take_more rings i ring lt))

-- all of them
pub rings_all : (saved : Saved) (i : ℕ) (text : List ℕ) → length saved.rings.items ≤ i → text ≡ rings_text (take i saved.rings.items) → text ≡ repairs_lines (content saved)
rings_all saved i text past is = is ∙ ap rings_text (take_all i saved.rings.items past) ∙ sym (flat_map-map repairs_line block_of saved.rings.items)

-- a ring of a legal text has a value or more, and no more machines than a ring may have
pub record IsSized (ring : SavedRing) : Type 0 where
  pub some : 0 < ring.k
  pub few : ring.n ≤ machine_limit

sized : (version place : ℕ) (ring : SavedRing) → IsRightBlock version place (block_of ring) → IsSized ring
sized version place ring right =
    let two : 2 ≤ ring.n = right.two in
    let enough : ring.n ≤ ring.k = right.enough in
    let few : ring.n ≤ machine_limit_of version = right.most_machines in
    let most : machine_limit_of version ≤ machine_limit = machine_limit_most version in
    record { some = omega arith; few = omega arith }

sized_at : (version place i : ℕ) (rings : List SavedRing) (d : SavedRing) → AreRightBlocks version place (map block_of rings) → i < length rings → IsSized (get_or rings i d)
sized_at version place i [] d h lt = absurd (omega arith)
sized_at version place zero (x ∷ rings) d h lt = sized version place x h.0
sized_at version place (suc i) (x ∷ rings) d h lt = sized_at version (place + 1) i rings d h.1 (omega arith)

pub ring_sized : (saved : Saved) (i : ℕ) (ring : SavedRing) → IsRightText (content saved) → i < length saved.rings.items → ring ≡ get_or saved.rings.items i ring → IsSized ring
ring_sized saved i ring right lt at = subst IsSized (sym at) (sized_at saved.version 0 i saved.rings.items ring right.blocks lt)
