-- The versions of the saved text (this project's own).
use Rattle.std.specs.Prelude.{ℕ, ◌<◌, ◌≤◌}

-- the first one
abbrev pub first_version : ℕ
first_version = 1

-- the one in which a farm's outcome is written
abbrev pub latest_version : ℕ
latest_version = 2

-- there are these, and those between them
abbrev pub IsVersion : ℕ → Type 0
IsVersion version = (first_version ≤ version) × (version ≤ latest_version)

-- group passes have lines in all but the first
abbrev pub HasGroups : ℕ → Type 0
HasGroups version = first_version < version
