-- A saved history without events: rings that are settled from the start (this project's own).
use Rattle.std.specs.Prelude.{◌≡◌, ℕ, ◌+◌, ◌<◌, ◌≤◌, ◌^◌, List, [], ◌∷◌, length, replicate, true}
use Rattle.std.specs.List.{All}
use Rattle.ring_model.specs.Ring.{is_settled}
use Rattle.ring_state.specs.Sizes.{Size, IsSize}
use Rattle.saved_history.specs.Content.{Block, Content}
use Rattle.saved_history.specs.Spelling.{Fits}
use Rattle.saved_history.specs.Versions.{latest_version}
use Rattle.ring_check.specs.Legal.{IsLegalText}
use Rattle.ring_check.specs.Meaning.{IsRightText}

-- the block of a ring of this size at its place: all machines begin with the value 0, and nothing
-- has happened yet
abbrev pub fresh_block : ℕ → Size → Block
fresh_block place size = record {
  index = place;
  n = size.n;
  k = size.k;
  start = replicate size.n 0;
  events = [];
  events_said = 0;
  surveys = [];
}

-- the blocks of rings of these sizes, each at its place, the first at the given one
abbrev pub fresh_blocks : ℕ → List Size → List Block
fresh_blocks place [] = []
fresh_blocks place (s ∷ ss) = fresh_block place s ∷ fresh_blocks (place + 1) ss

-- the saved history of them, in the latest version
abbrev pub fresh : List Size → Content
fresh sizes = record {
  version = latest_version;
  rings = fresh_blocks 0 sizes;
  rings_said = length sizes;
}

-- The block is that of a ring of this size, at its place, in which exactly one machine is
-- privileged; it has no events and no surveys.
pub record IsFreshBlock (place : ℕ) (size : Size) (b : Block) : Type 0 where
  pub index : b.index ≡ place
  pub n : b.n ≡ size.n
  pub k : b.k ≡ size.k
  pub machines : length b.start ≡ size.n
  pub settled : is_settled b.start ≡ true
  pub no_events : b.events ≡ []
  pub no_surveys : b.surveys ≡ []

-- each block is that of the ring of its size
abbrev pub AreFreshBlocks : ℕ → List Size → List Block → Type 0
AreFreshBlocks place [] bs = bs ≡ []
AreFreshBlocks place (s ∷ ss) [] = ⊥
AreFreshBlocks place (s ∷ ss) (b ∷ bs) = IsFreshBlock place s b × AreFreshBlocks (place + 1) ss bs

-- The content is that of settled rings of these sizes, in their order, without events; it has a
-- text, and it is legal, by the table of the refusals and in the subject's words.
pub record IsFreshHistory (sizes : List Size) (c : Content) : Type 0 where
  pub rings : AreFreshBlocks 0 sizes c.rings
  pub fits : Fits c
  pub table : IsLegalText c
  pub right : IsRightText c

-- rings of sizes that are allowed, at least one and fewer than 2 ^ 32
pub record AreSizes (sizes : List Size) : Type 0 where
  pub some : 1 ≤ length sizes
  pub most : length sizes < 2 ^ 32
  pub allowed : All IsSize sizes

-- such rings have such a history
abbrev pub FreshIsSettled : Type 0
FreshIsSettled = (sizes : List Size) → AreSizes sizes → IsFreshHistory sizes (fresh sizes)
