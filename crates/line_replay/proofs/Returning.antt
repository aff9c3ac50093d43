-- The laws of what comes back at a start.
use Rattle.std.proofs.Common.{◌≡◌, ℕ, ◌+◌, List, [], ◌∷◌, ◌++◌, length, take, drop, sym, ap, subst, ◌∙◌}
use Rattle.std.proofs.lemmas.List.{take-append-drop, append_cancel_right}
use Rattle.line_replay.specs.declared.replaying.Replay.{Replay}
use Rattle.line_replay.specs.Machines.{Machine, StaysUnchanged, after, trace}
use Rattle.line_replay.specs.Following.{CanFollow, BeginApart}
use Rattle.line_replay.specs.Redone.{AreRedone, IsReplayed}
use Rattle.line_replay.specs.Replays.{LinesComeBack, ToldComeBack, CutsAreTaken, MendedComesBack, OneReplay}
use Rattle.line_replay.proofs.Starting.{nothing_follows}
use Rattle.line_replay.proofs.Redoing.{keeps}
use Rattle.line_replay.proofs.Coming.{come, told_come}
use Rattle.line_replay.proofs.Again.{one_redone}
use Rattle.line_replay.proofs.Refusing.{no_damage, no_idle}

module _ (M : Machine) where
  kept_is : (n : ℕ) (s t : M.State) (bytes : List ℕ) (r : Replay) (p : IsReplayed M n s bytes r t) → take r.kept bytes ≡ (keeps M p.lines n s bytes r.missing.items (drop r.kept bytes) p.redone).kept
  kept_is n s t bytes r p =
      let k = keeps M p.lines n s bytes r.missing.items (drop r.kept bytes) p.redone in
      append_cancel_right (take r.kept bytes) k.kept (drop r.kept bytes) (take-append-drop r.kept bytes ∙ k.split)

  text_is : (n : ℕ) (s t : M.State) (bytes : List ℕ) (r : Replay) (p : IsReplayed M n s bytes r t) → take r.kept bytes ++ r.missing.items ≡ trace M n s p.lines
  text_is n s t bytes r p =
      let k = keeps M p.lines n s bytes r.missing.items (drop r.kept bytes) p.redone in
      ap (λ (x : List ℕ). x ++ r.missing.items) (kept_is n s t bytes r p) ∙ k.text

  none_follow : (n : ℕ) (s t : M.State) (bytes : List ℕ) (r : Replay) (p : IsReplayed M n s bytes r t) → ¬ CanFollow (n + length p.lines) (drop r.kept bytes)
  none_follow n s t bytes r p = subst (λ (k : ℕ). ¬ CanFollow k (drop r.kept bytes)) p.count p.none

  pub one_replay : OneReplay M
  one_replay n s t u bytes r q p o =
      let same = one_redone M p.lines o.lines n s bytes r.missing.items (drop r.kept bytes) q.missing.items (drop q.kept bytes)
      p.redone p.apart (none_follow n s t bytes r p) o.redone o.apart (none_follow n s u bytes q o) in (
        o.state ∙ ap (λ (ls : List (List ℕ)). after M s ls) (sym same) ∙ sym p.state,
        o.count ∙ ap (λ (ls : List (List ℕ)). n + length ls) (sym same) ∙ sym p.count,
      )

  pub mended_comes_back : MendedComesBack M
  mended_comes_back n s t u bytes r q part p first o =
      let k = keeps M p.lines n s bytes r.missing.items (drop r.kept bytes) p.redone in
      let mended : List ℕ = take r.kept bytes ++ part in
      let again : AreRedone M n s mended p.lines first.0 [] = subst (λ (x : List ℕ). AreRedone M n s (x ++ part) p.lines first.0 []) (sym (kept_is n s t bytes r p)) (k.mended part first.0 first.1) in
      let same = one_redone M p.lines o.lines n s mended first.0 [] q.missing.items (drop q.kept mended)
      again (ends first.0) (nothing_follows (n + length p.lines)) o.redone o.apart (none_follow n s u mended q o) in (
        o.state ∙ ap (λ (ls : List (List ℕ)). after M s ls) (sym same) ∙ sym p.state,
        o.count ∙ ap (λ (ls : List (List ℕ)). n + length ls) (sym same) ∙ sym p.count,
      )
    where
      ends : (missing : List ℕ) → BeginApart missing []
      ends [] = tt
      ends (a ∷ rest) = tt

module _ (M : Machine) (quiet : StaysUnchanged M) where
  pub lines_come_back : LinesComeBack M
  lines_come_back n s t lines bytes r given first p =
      let c = come M quiet lines p.lines n s bytes r.missing.items (drop r.kept bytes) given.each given.counts first p.redone in (
        c.0,
        c.1,
        c.2,
        record {
          state = p.state ∙ sym c.3;
          count = p.count ∙ sym c.4;
          text = text_is M n s t bytes r p ∙ sym c.5;
        },
      )

  pub told_come_back : ToldComeBack M
  told_come_back n s t told others bytes r given there first p =
      let c = told_come M quiet told others p.lines n s bytes r.missing.items (drop r.kept bytes) given.each given.counts there first p.redone p.apart (none_follow M n s t bytes r p) in (
        c.0,
        c.1,
        c.2,
        record {
          state = p.state ∙ sym c.3;
          count = p.count ∙ sym c.4;
          text = text_is M n s t bytes r p ∙ sym c.5;
        },
      )

  pub cuts_are_taken : CutsAreTaken M
  cuts_are_taken n s lines bytes place given first = (
    (λ d. no_damage M quiet lines d.lines n s bytes d.missing (drop place bytes) given.each given.counts first d.redone d.apart d.other d.some),
    (λ d. no_idle M quiet lines d.lines n s bytes (drop place bytes) d.line d.rest given.each given.counts first d.redone d.note d.idle),
  )
