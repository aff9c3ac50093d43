-- Facts on a ring that is drawn of a legal saved text.
use Rattle.std.proofs.Common.{◌≡◌, ℕ, zero, suc, ◌+◌, ◌<◌, ◌≤◌, List, [], ◌∷◌, Option, Some, ap, subst, arith}
use Rattle.std.specs.Prelude.{slice_get}
use Rattle.std.specs.Option.{unwrap_or}
use Rattle.ring_model.specs.Limits.{machine_limit}
use Rattle.saved_history.specs.Content.{Block, Content, block_of}
use Rattle.ring_check.specs.declared.answers.Summary.{Summary}
use Rattle.ring_check.specs.Legal.{summary_of}
use Rattle.ring_check.specs.Limits.{machine_limit_of}
use Rattle.ring_check.specs.Meaning.{IsRightBlock, AreRightBlocks}
use Rattle.ring_check.proofs.Blocks.{machine_limit_most}
use Rattle.tool_parts.specs.declared.requests.PictureWords.{PictureWords}
use Rattle.text_commands.specs.declared.picture.Drawing.{Drawing}
use Rattle.tool_parts.specs.Checked.{IsLegalSavedText}
use Rattle.text_commands.specs.Pictured.{IsLegalTextOf, IsDrawing}

-- a legal saved text, of this value, is its text, with its sums
pub legal_text : (bytes : List ℕ) (c : Content) (sums : Summary) (legal : IsLegalSavedText bytes sums) → legal.content ≡ c → IsLegalTextOf bytes c × (sums ≡ summary_of c)
legal_text bytes c sums legal is =
    subst (λ (x : Content). IsLegalTextOf bytes x × (sums ≡ summary_of x)) is (record { fits = legal.fits; spelled = legal.spelled; right = legal.right }, legal.sums_right)

-- the first block is one of a legal text, and so is each after it
block_at : (version place i : ℕ) (bs : List Block) (b : Block) → AreRightBlocks version place bs → slice_get bs i ≡ Some b → (at : ℕ) × IsRightBlock version at b
block_at version place i [] b h e = let bad : ⊥ = cc in absurd bad
block_at version place zero (x ∷ bs) b h e =
    let same : x ≡ b = ap (λ (o : Option Block). unwrap_or o x) e in
    (place, subst (λ (y : Block). IsRightBlock version place y) same h.0)
block_at version place (suc i) (x ∷ bs) b h e = block_at version (place + 1) i bs b h.1 e

-- its K is positive, and it has no more machines than a ring may have
pub drawn_some : (words : PictureWords) (bytes : List ℕ) (d : Drawing) → IsDrawing words bytes d → 0 < d.ring.k
drawn_some words bytes d h =
    let right = (block_at h.content.version 0 words.ring h.content.rings (block_of d.ring) h.legal.right.blocks h.ring).1 in
    let two : 2 ≤ d.ring.n = right.two in
    let enough : d.ring.n ≤ d.ring.k = right.enough in
    omega arith

pub drawn_few : (words : PictureWords) (bytes : List ℕ) (d : Drawing) → IsDrawing words bytes d → d.ring.n ≤ machine_limit
drawn_few words bytes d h =
    let right = (block_at h.content.version 0 words.ring h.content.rings (block_of d.ring) h.legal.right.blocks h.ring).1 in
    let few : d.ring.n ≤ machine_limit_of h.content.version = right.most_machines in
    let most : machine_limit_of h.content.version ≤ machine_limit = machine_limit_most h.content.version in
    omega arith
