-- Limits of lines (this project's own).
use Rattle.std.specs.Prelude.{ℕ}

-- the most bytes of a line, with its LF: 8 KiB
abbrev pub line_limit : ℕ
line_limit = 8192
