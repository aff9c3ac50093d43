-- The lines of holds, one ring after the other.
use Rattle.std.proofs.Common.{◌≡◌, ℕ, ◌+◌, ◌<◌, List, ◌++◌, length, map, drop, get_or, sym, ap, subst, ◌∙◌, arith, Option, Err, Vec, Global}
use Rattle.std.specs.Io.KnownBytes.{Appends}
use Rattle.std.proofs.lemmas.List.{drop_more, length-map}
use Rattle.std.proofs.Math.ListN.{get_or-map}
use Rattle.text_lines.specs.declared.write.WriteFault.{WriteFault}
use Rattle.text_lines.specs.Writing.{Wrote, Writes}
use Rattle.text_lines.proofs.Writing.{wrote_piece, wrote_fault}
use Rattle.chain_readers.specs.declared.holds.Hold.{Hold}
use Rattle.chain_readers.specs.declared.hold_lines.Choice.{Choice}
use Rattle.lock_commands.specs.ToldHolds.{Called, lines_of, all_lines}
use Rattle.lock_commands.proofs.FolderNames.{items}

module _ (choice : Choice) (names : Called) (locks : List (Vec Hold Global)) (i : ℕ) (v : Vec Hold Global) (holds : List Hold) (lt : i < length locks) (is : v ≡ get_or locks i v) (same : holds ≡ v.items) (a b c : Option (List ℕ)) where
  abbrev all : List ℕ
  all = all_lines choice names 0 (map items locks)

  abbrev left : List ℕ
  left = all_lines choice names (i + 1) (drop (i + 1) (map items locks))

  next : all_lines choice names i (drop i (map items locks)) ≡ lines_of choice names i holds ++ left
  next =
      let many = length-map locks items in
      ap (all_lines choice names i) (drop_more (map items locks) i (items v) (omega (arith, many, lt)))
      ∙ ap (λ (u : List Hold). lines_of choice names i u ++ left) (get_or-map items locks i v ∙ ap items (sym is) ∙ sym same)

  so_far : Wrote a b all (all_lines choice names i (drop i (map items locks))) → Wrote a b all (lines_of choice names i holds ++ left)
  so_far w = subst (λ (u : List ℕ). Wrote a b all u) next w

  pub ring_written : Wrote a b all (all_lines choice names i (drop i (map items locks))) → Appends b c (lines_of choice names i holds) → Wrote a c all left
  ring_written w h = wrote_piece a b c all (lines_of choice names i holds) left (so_far w) h

  pub ring_fault : (e : WriteFault) → Wrote a b all (all_lines choice names i (drop i (map items locks))) → Writes b c (Err e) (lines_of choice names i holds) → Writes a c (Err e) all
  ring_fault e w h = wrote_fault a b c e all (lines_of choice names i holds) left (so_far w) h
