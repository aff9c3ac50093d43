-- The segment with which locks by any name start (this project's own).
use Rattle.std.specs.Prelude.{◌≡◌, ℕ, ◌-◌, []}
use Rattle.lock_names.specs.Kept.{NamedView}
use Rattle.lock_journal.specs.Due.{has_short}
use Rattle.lock_journal.specs.Counting.{lines_at_start}
use Rattle.name_service.specs.Naming.{NamingView}

-- its journal may have this number of lines, those with which it begins among them, remarks aside
pub record IsNameStart (limit : ℕ) (named : NamedView) (s : NamingView) : Type 0 where
  pub named_is : s.named ≡ named
  pub left : s.left ≡ []
  pub remaining : s.remaining ≡ limit - lines_at_start named.locks
  pub short : s.short ≡ has_short named.locks
