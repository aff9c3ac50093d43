use Rattle.std.proofs.Common.{◌≡◌, List, map, sym, ap, ◌∙◌, subst}
use Rattle.std.specs.Prelude.{slice_get, Some}
use Rattle.std.specs.List.{AllByRecursion}
use Rattle.saved_history.specs.declared.saved.SavedRing.{SavedRing}
use Rattle.saved_history.specs.Content.{Block, block_of}
use Rattle.ring_model.specs.declared.bases.Base.{Base}
use Rattle.segment_files.specs.Files.{IsShort}
use Rattle.chain_readers.specs.Joining.{extended, opened, with_file}
use Rattle.chain_readers.specs.Joins.{Joined, IsJoinedWith, IsOverfull}
use Rattle.chain_readers.proofs.JoinedFiles.{same_file}
use Rattle.chain_readers.proofs.join.Join.with_file.Goals as goal

abbrev was : List SavedRing → List SavedRing → List Base → List Block
was rings next bases = extended (opened (map block_of rings) (map block_of next)) bases (map block_of next)

pub returns-in-None-clause-ok : goal.returns-in-None-clause-ok
returns-in-None-clause-ok c =
    let a = c.in-Ok.ensures in
    let before : Joined = record { state = c.self.inside.chain; blocks = map block_of c.self.inside.rings.items } in
    let segment = c.in-Ok-read_segment.segment in
    let is : map block_of c.add_file.new.rings.items ≡ with_file (map block_of c.self.inside.rings.items) a.2.file =
    c.in_ok-add_file.ensures
    ∙ ap (λ (u : List SavedRing). was c.self.inside.rings.items u c.deref.result.now) c.deref-2.ensures.value
    ∙ ap (λ (u : List Base). was c.self.inside.rings.items segment.saved.rings.items u) c.deref.ensures.value
    ∙ same_file before c.args.bytes.now c.args.last a.0 a.2 segment c.in-Ok-read_segment.ensures.0 in
    subst (λ (o : Joined). IsJoinedWith o c.args.bytes.now c.args.last (record { state = c.add.new.self; blocks = map block_of c.add_file.new.rings.items })) c.self.view_is
    (record {
      state = a.0;
      added = a.2;
      next = a.1;
      blocks = is;
      short = subst (λ (u : List SavedRing). AllByRecursion IsShort (map block_of u)) c.deref-3.ensures.value c.in-None.ensures;
    })

pub returns-in-Some-clause-err : goal.returns-in-Some-clause-err
returns-in-Some-clause-err c =
    let a = c.in-Ok.ensures in
    let before : Joined = record { state = c.self.inside.chain; blocks = map block_of c.self.inside.rings.items } in
    let segment = c.in-Ok-read_segment.segment in
    let is : map block_of c.add_file.new.rings.items ≡ with_file (map block_of c.self.inside.rings.items) a.2.file =
    c.in_ok-add_file.ensures
    ∙ ap (λ (u : List SavedRing). was c.self.inside.rings.items u c.deref.result.now) c.deref-2.ensures.value
    ∙ ap (λ (u : List Base). was c.self.inside.rings.items segment.saved.rings.items u) c.deref.ensures.value
    ∙ same_file before c.args.bytes.now c.args.last a.0 a.2 segment c.in-Ok-read_segment.ensures.0 in
    let o = c.in-Some.ensures in
    subst (λ (old : Joined). IsOverfull old c.args.bytes.now c.args.last c.in-Some.place) c.self.view_is
    (record {
      state = a.0;
      added = a.2;
      block = o.0;
      at = sym (ap (λ (ks : List Block). slice_get ks c.in-Some.place) (ap (map block_of) c.deref-3.ensures.value ∙ is)) ∙ o.1;
      long = o.2;
    })
