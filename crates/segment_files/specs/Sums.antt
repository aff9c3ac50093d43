-- What the files of a chain add up to.
use Rattle.std.specs.Prelude.{ℕ, ◌+◌, ◌-◌, ◌^◌, ◌==◌, cond, min, List, length}
use Rattle.std.specs.List.{sum_by}
use Rattle.ring_model.specs.Surveys.{corrupted_count}
use Rattle.saved_history.specs.Content.{Block}
use Rattle.ring_check.specs.Legal.{history}
use Rattle.segment_files.specs.declared.sums.ChainSums.{ChainSums}
use Rattle.segment_files.specs.Spelling.{no_digest}
use Rattle.segment_files.specs.Files.{File, Place, link_after}

-- a sum, which stops at the greatest number of 64 bits
abbrev pub capped : ℕ → ℕ
capped n = min n (2 ^ 64 - 1)

-- how many events and grants there are before these places, over all rings
abbrev pub events_before : List Place → ℕ
events_before ps = capped (sum_by (λ (p : Place). p.base.events) ps)

abbrev pub grants_before : List Place → ℕ
grants_before ps = capped (sum_by (λ (p : Place). p.base.grants) ps)

-- how many corruptions and surveys there are in these blocks
abbrev pub corruptions_in : List Block → ℕ
corruptions_in ks = capped (sum_by (λ (k : Block). corrupted_count (history k)) ks)

abbrev pub surveys_in : List Block → ℕ
surveys_in ks = capped (sum_by (λ (k : Block). length k.surveys) ks)

-- of no file
abbrev pub no_sums : ChainSums
no_sums = record {
  first = 0;
  segments = 0;
  rings = 0;
  events = 0;
  granted = 0;
  corrupted = 0;
  surveys = 0;
  behind = no_digest;
}

-- With a file more: its rings; their events and grants up to its end, from the first of all on;
-- the corruptions and the surveys of the files that were added; and the digest that it has of the
-- file before it.
abbrev pub sums_after : ChainSums → File → ChainSums
sums_after s f = record {
  first = cond (s.segments == 0) f.head.number s.first;
  segments = capped (s.segments + 1);
  rings = length f.content.rings;
  events = events_before (link_after f).places;
  granted = grants_before (link_after f).places;
  corrupted = capped (s.corrupted + corruptions_in f.content.rings);
  surveys = capped (s.surveys + surveys_in f.content.rings);
  behind = f.head.behind;
}
