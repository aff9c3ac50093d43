-- From the answer of a command, and whether its output left, to how the request ends.
use Rattle.std.proofs.Common.{◌≡◌, ◌∙◌, ◌≢◌, ◌≤◌, ℕ, List, Bool, true, false, cond, Option, Result, Ok, Err, inl, inr, refl, ap, sym, subst, arith}
use Rattle.std.specs.Prelude.{OnOk, IfErr}
use Rattle.std.proofs.lemmas.Bool.{false≢true}
use Rattle.disks.specs.Held.{Held}
use Rattle.tool_parts.specs.declared.requests.Request.{Request}
use Rattle.tool_parts.specs.declared.requests.Request.TheVariants as asked
use Rattle.tool_requests.specs.declared.wanted.Wanted.{Wanted}
use Rattle.tool_requests.specs.declared.wanted.Wanted.TheVariants as wanted
use Rattle.ring_tool.specs.Answered.{IsRefusal, IsOfLines}
use Rattle.ring_tool.specs.Wanted.{IsDoing, IsRefusing, ServesLines, LeavesInput, LeavesFiles, LeavesError}
use Rattle.ring_tool.specs.Ended.{IsRefused, HasEnded}
use Rattle.ring_tool.specs.Left.{HasFront, HasLine, HasEndedAnswered}
use Rattle.serve_commands.proofs.ServeRefusals.{no_list}
use Rattle.lock_commands.proofs.UnreadNames.{unread_lists_keep}
use Rattle.tool_parts.specs.Faults.{is_bad_list, status_of}
use Rattle.tool_parts.specs.Worlds.{World, world}
use Rattle.tool_parts.specs.declared.faults.ToolError.{ToolError}
use Rattle.tool_parts.specs.declared.faults.ToolError.TheVariants as tool

some : (b : Bool) → cond {A = ℕ} b 2 1 ≡ 0 → ⊥
some true h = omega (arith, h)
some false h = omega (arith, h)

one : (b : Bool) → cond {A = ℕ} b 2 1 ≡ 1 → b ≡ false
one true h = absurd (omega (arith, h))
one false h = refl

most : (b : Bool) → cond {A = ℕ} b 2 1 ≤ 2
most true = omega arith
most false = omega arith

two : (b : Bool) → cond {A = ℕ} b 2 1 ≡ 2 → b ≡ true
two true h = refl
two false h = absurd (omega (arith, h))

not_write : (e : ToolError) → is_bad_list e ≡ true → e ≢ tool.Write
not_write e bad same = false≢true (sym (ap is_bad_list same) ∙ bad)

pub bad_list : (e : ToolError) → is_bad_list e ≡ true → e ≡ tool.BadList
bad_list tool.BadList h = refl
bad_list tool.TooFew h = absurd (false≢true h)
bad_list tool.TooMany h = absurd (false≢true h)
bad_list tool.FewValues h = absurd (false≢true h)
bad_list tool.ManyValues h = absurd (false≢true h)
bad_list tool.Length h = absurd (false≢true h)
bad_list (tool.Value a) h = absurd (false≢true h)
bad_list (tool.Choice a) h = absurd (false≢true h)
bad_list tool.Json h = absurd (false≢true h)
bad_list (tool.Shape a) h = absurd (false≢true h)
bad_list (tool.Limit a) h = absurd (false≢true h)
bad_list (tool.Ring a b) h = absurd (false≢true h)
bad_list (tool.Script a b) h = absurd (false≢true h)
bad_list tool.Spawn h = absurd (false≢true h)
bad_list tool.GateShut h = absurd (false≢true h)
bad_list tool.NoSeat h = absurd (false≢true h)
bad_list tool.HistoryFull h = absurd (false≢true h)
bad_list tool.Mismatch h = absurd (false≢true h)
bad_list (tool.Syntax a) h = absurd (false≢true h)
bad_list tool.Truncated h = absurd (false≢true h)
bad_list (tool.Bad a b) h = absurd (false≢true h)
bad_list (tool.Read a) h = absurd (false≢true h)
bad_list (tool.TooLarge a) h = absurd (false≢true h)
bad_list (tool.Save a) h = absurd (false≢true h)
bad_list (tool.SameFile a) h = absurd (false≢true h)
bad_list (tool.Stream a) h = absurd (false≢true h)
bad_list tool.Write h = absurd (false≢true h)
bad_list tool.OutOfMemory h = absurd (false≢true h)
bad_list (tool.NoRing a) h = absurd (false≢true h)
bad_list (tool.NoPlace a) h = absurd (false≢true h)
bad_list tool.ManyDrawn h = absurd (false≢true h)
bad_list (tool.InUse a) h = absurd (false≢true h)
bad_list (tool.Full a) h = absurd (false≢true h)
bad_list (tool.Journal a b) h = absurd (false≢true h)
bad_list tool.NoHistory h = absurd (false≢true h)
bad_list tool.TotalsTooLarge h = absurd (false≢true h)
bad_list (tool.SavesInJournal a) h = absurd (false≢true h)
bad_list (tool.NoSegment a) h = absurd (false≢true h)
bad_list (tool.Foreign a b) h = absurd (false≢true h)
bad_list (tool.Irregular a b) h = absurd (false≢true h)
bad_list (tool.Missing a b) h = absurd (false≢true h)
bad_list (tool.UnreadSegment a b) h = absurd (false≢true h)
bad_list (tool.LargeSegment a b) h = absurd (false≢true h)
bad_list (tool.Segment a b d) h = absurd (false≢true h)
bad_list (tool.Begins a b) h = absurd (false≢true h)
bad_list (tool.InFolder a) h = absurd (false≢true h)
bad_list tool.ManyLocks h = absurd (false≢true h)
bad_list (tool.Twice a) h = absurd (false≢true h)
bad_list (tool.NoLocks a) h = absurd (false≢true h)
bad_list (tool.NoLocksFile a) h = absurd (false≢true h)
bad_list (tool.UnreadLocks a) h = absurd (false≢true h)
bad_list (tool.BadLocks a) h = absurd (false≢true h)
bad_list (tool.OtherLock a b) h = absurd (false≢true h)
bad_list (tool.OtherRing a b) h = absurd (false≢true h)
bad_list (tool.NoHold a b d) h = absurd (false≢true h)
bad_list (tool.NoOpenHold a b) h = absurd (false≢true h)
bad_list (tool.BadNames a) h = absurd (false≢true h)
bad_list (tool.WrongNames a b c d) h = absurd (false≢true h)

-- a request that is refused for a list has changed no file, also if it serves lines
request_kept : (request : Request) (was is : World) → IsRefusal request was is tool.BadList → ((IsOfLines request → ⊥) → is.files ≡ was.files) → is.files ≡ was.files
request_kept (asked.Step words) was is refused kept = kept (λ lines. lines)
request_kept (asked.Run words) was is refused kept = kept (λ lines. lines)
request_kept (asked.Check words) was is refused kept = kept (λ lines. lines)
request_kept (asked.CheckAll words) was is refused kept = kept (λ lines. lines)
request_kept (asked.Report words) was is refused kept = kept (λ lines. lines)
request_kept (asked.Picture words) was is refused kept = kept (λ lines. lines)
request_kept (asked.Upgrade words) was is refused kept = kept (λ lines. lines)
request_kept (asked.Recover words) was is refused kept = kept (λ lines. lines)
request_kept (asked.Join words) was is refused kept = kept (λ lines. lines)
request_kept (asked.New words) was is refused kept = kept (λ lines. lines)
request_kept (asked.Holds words) was is refused kept = kept (λ lines. lines)
request_kept (asked.Serve words) was is refused kept = absurd (no_list words was is refused)
request_kept (asked.Locks words) was is refused kept = unread_lists_keep words was is refused

files_kept : (asked : Wanted) (was is : World) → IsRefusing asked was is tool.BadList → ((ServesLines asked → ⊥) → is.files ≡ was.files) → is.files ≡ was.files
files_kept (wanted.Tool request) was is refused kept = request_kept request was is refused kept
files_kept (wanted.RunInTurn words) was is refused kept = kept (λ lines. lines)
files_kept (wanted.ReportRepairs words) was is refused kept = kept (λ lines. lines)
files_kept (wanted.States words) was is refused kept = kept (λ lines. lines)
files_kept (wanted.StepStates words) was is refused kept = kept (λ lines. lines)
files_kept (wanted.Drawn words) was is refused kept = kept (λ lines. lines)
files_kept (wanted.Settings words) was is refused kept = kept (λ lines. lines)

-- what holds of an answer, or of a refusal
pub of_ok : {E : Type 0} (P : Type 0) (r : Result (Unit {0}) E) (u : Unit {0}) → r ≡ Ok u → OnOk r P → P
of_ok {E} P r u is h = subst (λ (x : Result (Unit {0}) E). OnOk x P) is h

pub of_err : {E : Type 0} (P : E → Type 0) (r : Result (Unit {0}) E) (e : E) → r ≡ Err e → IfErr r P → P e
of_err {E} P r e is h = subst (λ (x : Result (Unit {0}) E). IfErr x P) is h

-- the end of what was wanted, if it was answered
pub ended_answered : (asked : Wanted) (was : World) (status : ℕ) (told : Bool) (files : Option Held) (input printed out said err : Option (List ℕ)) →
    IsDoing asked was (world files input printed said) → (LeavesError asked → said ≡ was.err) → (LeavesInput asked → input ≡ was.input) → (LeavesFiles asked → files ≡ was.files) → status ≤ 1 →
    HasEndedAnswered status told printed out said err → HasEnded asked status told was (world files input out err)
ended_answered asked was status told files input printed out said err answered silent unread made bound ends = record {
  most = omega (arith, bound);
  done = λ s.
      let whole = ends.whole s in
      (printed, subst (λ (e : Option (List ℕ)). IsDoing asked was (world files input printed e)) (sym whole.1) answered, (λ q. whole.1 ∙ silent q), whole.0);
  failed = λ s.
      let cut = ends.cut s in
      inl (printed, said, answered, silent, cut.0, cut.1);
  unread = λ s. absurd (omega (arith, s, bound));
  kept = unread;
  made = made;
}

-- the end of what was wanted, if it was refused
pub ended_refused : (asked : Wanted) (was : World) (e : ToolError) (status : ℕ) (told : Bool) (files : Option Held) (input printed out said err : Option (List ℕ)) →
    status ≡ status_of e → IsRefusing asked was (world files input printed said) e → (LeavesError asked → said ≡ was.err) → (LeavesInput asked → input ≡ was.input) → (LeavesFiles asked → files ≡ was.files) →
    ((ServesLines asked → ⊥) → e ≢ tool.Write → files ≡ was.files) → HasFront printed out → HasLine e told said err → HasEnded asked status told was (world files input out err)
ended_refused asked was e status told files input printed out said err same refused silent unread made kept front line =
    let is = world files input out err in
    let all : IsRefused asked e told was is = (printed, said, refused, silent, front, line, kept) in
    record {
      most = subst (λ (s : ℕ). s ≤ 2) (sym same) (most (is_bad_list e));
      done = λ s. absurd (some (is_bad_list e) (sym same ∙ s));
      failed = λ s. inr (e, one (is_bad_list e) (sym same ∙ s), all);
      unread = λ s.
          let bad = two (is_bad_list e) (sym same ∙ s) in (
            subst (λ (x : ToolError). IsRefused asked x told was is) (bad_list e bad) all,
            files_kept asked was (world files input printed said) (subst (λ (x : ToolError). IsRefusing asked was (world files input printed said) x) (bad_list e bad) refused)
                (λ other. kept other (not_write e bad)),
          );
      kept = unread;
      made = made;
    }
