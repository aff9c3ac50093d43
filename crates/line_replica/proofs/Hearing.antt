-- What is heard of a line, from what is read of it.
use Rattle.std.proofs.Common.{◌≡◌, ℕ, ◌≤◌, List, length, cond, Option, Some, None, sym, ap, ◌∙◌}
use Rattle.std.proofs.lemmas.Bool.{le-ltb}
use Rattle.text_lines.specs.Limits.{line_limit}
use Rattle.line_replica.specs.declared.reading.Tag.{Tag}
use Rattle.line_replica.specs.Reading.{Tagged, Place, Digest, Plain, heard, of_tagged, of_place, of_digest, tagged_at, place_at, digest_at}

short_line : (line : List ℕ) → length line ≤ line_limit → of_tagged (tagged_at line) line ≡ heard line
unfolding heard
short_line line le = sym (ap (λ b. cond b Plain (of_tagged (tagged_at line) line)) (le-ltb line_limit (length line) le))

pub is_tagged : (line rest : List ℕ) (tag : Tag) → length line ≤ line_limit → Some (tag, rest) ≡ tagged_at line → Tagged tag rest ≡ heard line
is_tagged line rest tag le e = ap (λ (t : Option (Tag × List ℕ)). of_tagged t line) e ∙ short_line line le

pub is_untagged : (line : List ℕ) → length line ≤ line_limit → None ≡ tagged_at line → of_place (place_at line) line ≡ heard line
is_untagged line le e = ap (λ (t : Option (Tag × List ℕ)). of_tagged t line) e ∙ short_line line le

pub is_place : (line : List ℕ) (place : ℕ) → Some place ≡ place_at line → Place place ≡ of_place (place_at line) line
is_place line place e = ap (λ (p : Option ℕ). of_place p line) e

pub is_digest : (line digest : List ℕ) (place : ℕ) → None ≡ place_at line → Some (place, digest) ≡ digest_at line → Digest place digest ≡ of_place (place_at line) line
is_digest line digest place e f = ap of_digest f ∙ ap (λ (p : Option ℕ). of_place p line) e

pub is_plain : (line : List ℕ) → None ≡ place_at line → None ≡ digest_at line → Plain ≡ of_place (place_at line) line
is_plain line e f = ap of_digest f ∙ ap (λ (p : Option ℕ). of_place p line) e
