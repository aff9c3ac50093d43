use Rattle.std.proofs.Common.{◌≡◌, ◌++◌, ◌∷◌, [], ℕ, List, Option, None, length, sym, subst, ap, ◌∙◌}
use Rattle.std.specs.Prelude.{slice_set}
use Rattle.held_locks.specs.declared.parts.LockParts.{LockParts}
use Rattle.held_locks.specs.Queues.{client_of}
use Rattle.held_locks.specs.Holding.{AreHolders}
use Rattle.held_locks.specs.Parts.{views_of}
use Rattle.held_locks.proofs.Listing.{holder_more}
use Rattle.held_locks.proofs.growing.add_to.Goals as goal

pub returns-clause-holders : goal.returns-clause-holders
returns-clause-holders c =
    let ps = c.args.locks.now.items in
    let more : List (Option ℕ) = c.args.holds.now ++ None ∷ [] in
    let p : LockParts = record { ring = c.args.ring; queue = c.new-queue.result; holder = c.args.holder } in
    let count : c.len-count.result ≡ length ps = c.len-count.ensures ∙ c.args.locks.now.ok.0 in
    let items : c.push_reserved.new.self.items ≡ ps ++ p ∷ [] = c.push_reserved.ensures.items ∙ ap (λ (x : List LockParts). x ++ p ∷ []) c.reserve.ensures.items in
    let held : c.put.new.self ≡ slice_set more (length ps) (client_of c.args.holder) =
    c.put.ensures ∙ ap (λ (x : List (Option ℕ)). slice_set x c.len-count.result c.client_of-client.result) c.in-Ok-add.ensures.ok
    ∙ ap (λ (n : ℕ). slice_set more n c.client_of-client.result) count
    ∙ ap (λ (o : Option ℕ). slice_set more (length ps) o) c.client_of-client.ensures in
    subst (λ (x : List LockParts). AreHolders (views_of x) c.put.new.self) (sym items)
    (subst (λ (x : List (Option ℕ)). AreHolders (views_of (ps ++ p ∷ [])) x) (sym held) (holder_more ps c.args.holds.now p c.requires.holders))
