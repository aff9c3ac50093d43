-- How large the rings of a text may be, by the version of the text (this project's own).
use Rattle.std.specs.Prelude.{ℕ, cond, ◌==◌}
use Rattle.ring_model.specs.Limits.{machine_limit, value_limit}
use Rattle.saved_history.specs.Versions.{first_version}

-- the most machines and the most values of a ring of the first version
abbrev pub first_version_machine_limit : ℕ
first_version_machine_limit = 256

abbrev pub first_version_value_limit : ℕ
first_version_value_limit = 256

-- the limits of a text of the first version, or else a text of a later one
abbrev pub by_version : ℕ → ℕ → ℕ → ℕ
by_version version first later = cond (version == first_version) first later

-- the most machines of a ring in a text of this version: later versions have the rings' own limits
abbrev pub machine_limit_of : ℕ → ℕ
machine_limit_of version = by_version version first_version_machine_limit machine_limit

-- the most values
abbrev pub value_limit_of : ℕ → ℕ
value_limit_of version = by_version version first_version_value_limit value_limit
