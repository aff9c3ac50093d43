-- Text that stays on one line.
use Rattle.std.specs.Prelude.{ℕ, List, cond}
use Rattle.std.specs.List.{flat_map}
use Rattle.std.specs.Char.{encode_utf8, is_control}
use Rattle.std.specs.Char.Escape.{escape_default}
use Rattle.std.specs.Str.{chars, encode_utf8_all}

-- the bytes of a character on one line: a control character is escaped, as `\n`
abbrev pub escaped : ℕ → List ℕ
escaped c = cond (is_control c) (encode_utf8_all (escape_default c)) (encode_utf8 c)

-- a text on one line
abbrev pub one_line : List ℕ → List ℕ
one_line text = flat_map escaped (chars text)
