-- The bytes that a writer holds: after one write and another, when it was flushed, or before a line.
use Rattle.std.proofs.Common.{◌≡◌, ℕ, ◌<◌, List, [], ◌++◌, length, Option, None, Some, append_assoc, append-nil, refl, sym, ◌∙◌}
use Rattle.std.specs.Io.KnownBytes.{Appends, Keeps}
use Rattle.text_lines.specs.Writing.{Wrote}
use Rattle.tool_parts.specs.Written.{AppendsFront}

pub appends_nil : (a : Option (List ℕ)) → Appends a a []
appends_nil None = tt
appends_nil (Some x) = sym (append-nil x)

pub appends_then : (a b c : Option (List ℕ)) (xs ys : List ℕ) → Appends a b xs → Appends b c ys → Appends a c (xs ++ ys)
appends_then None b c xs ys p q = tt
appends_then (Some x) None c xs ys p q = absurd p
appends_then (Some x) (Some y) None xs ys p q = absurd q
appends_then (Some x) (Some y) (Some z) xs ys p q = rw (q, p) (append_assoc x xs ys)

-- nothing is written yet
pub wrote_none : (a : Option (List ℕ)) (text left : List ℕ) → text ≡ left → Wrote a a text left
wrote_none a text left e = ([], e, appends_nil a)

-- the written bytes stay there at a flush
pub flushed : (old mid new : Option (List ℕ)) (bytes : List ℕ) → Appends old mid bytes → Keeps mid new → Appends old new bytes
flushed None mid new bytes wrote keeps = tt
flushed (Some xs) None new bytes wrote keeps = absurd wrote
flushed (Some xs) (Some ys) None bytes wrote keeps = absurd keeps
flushed (Some xs) (Some ys) (Some zs) bytes wrote keeps = keeps ∙ wrote

-- where nothing of a line was written yet, it is all left
pub line_left : (o : Option (List ℕ)) (line : List ℕ) → 0 < length line → AppendsFront o o line
line_left o line some = (line, some, wrote_none o line line refl)
