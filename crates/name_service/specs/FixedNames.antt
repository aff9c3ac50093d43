-- Locks of a list without a pool: by names they are what they are by their places (this project's own).
use Rattle.std.specs.Prelude.{◌≡◌, ℕ, ◌<◌, List, length}
use Rattle.lock_protocol.specs.Names.{Names}
use Rattle.lock_names.specs.Kept.{NamedView, top_limit}
use Rattle.lock_names.specs.Begun.{fixed_names}
use Rattle.lock_journal.specs.Answering.{IsLineAnswered}
use Rattle.lock_journal.specs.Counting.{SegmentView}
use Rattle.name_service.specs.declared.service.NameTerms.{NameTerms}
use Rattle.name_service.specs.Naming.{NamingView}
use Rattle.name_service.specs.Serving.{IsNameLineAnswered}

-- each lock has its name of the list for ever, and there are no others
pub record AreFixed (names : Names) (v : NamedView) : Type 0 where
  pub named : v.names ≡ fixed_names names
  pub fixed : v.fixed ≡ length names
  pub many : length v.locks ≡ length names

-- the same locks, by their places in the list
abbrev pub by_place : Names → NamingView → SegmentView
by_place names s = record {
  locks = s.named.locks;
  names = names;
  left = s.left;
  remaining = s.remaining;
  short = s.short;
}

-- A law: while fewer than 2^63 grants were made, each line is answered as the locks of the list answer
-- it, with the same text, notes and steps; and the names stay those of the list.
abbrev pub FixedNamesAreLocks : Type 0
FixedNamesAreLocks =
    (names : Names) (terms : NameTerms) (old new : NamingView) (line said noted : List ℕ)
    → terms.most ≡ 0 → AreFixed names old.named → old.named.top < top_limit
    → IsNameLineAnswered terms old line said noted new
    → IsLineAnswered terms.lines (by_place names old) line said noted (by_place names new)
    × AreFixed names new.named
