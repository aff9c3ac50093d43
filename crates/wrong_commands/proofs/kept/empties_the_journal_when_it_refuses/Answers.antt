use Rattle.std.proofs.Common.{◌≡◌, ℕ, List, [], ◌∷◌, Option, Some, subst}
use Rattle.disks.specs.Held.{Held, bytes_of, Replaces}
use Rattle.wrong_commands.proofs.Cuts.{if_some}
use Rattle.wrong_commands.proofs.Places.{known_of}
use Rattle.wrong_commands.proofs.EmptyJournals.{emptied, put_there}
use Rattle.wrong_commands.proofs.kept.empties_the_journal_when_it_refuses.Goals as goal

pub returns-in-Ok : goal.returns-in-Ok
returns-in-Ok g c = record {
  wrong = λ input rest out after early late h.
      let before = g.D.Disk.holds c.args.disk.now in
      let ended = g.D.Disk.holds c.replace.new.disk in
      let name = c.args.name.now in
      let known = known_of before c.requires.known in
      let some = if_some before known.0 (λ (held : Held). (b : ℕ) × (bs : List ℕ) × (bytes_of held name ≡ Some (b ∷ bs))) known.1 c.requires.some in
      let there = put_there known.0 ended name (subst (λ (x : Option Held). Replaces x ended name (Some [])) known.1 c.in-Ok.ensures.replaced) in
      emptied name known.0 there.0 some.0 some.1 before ended c.args._words.now input rest out after early late _ known.1 there.1 some.2 there.2 c.requires.named h;
}
