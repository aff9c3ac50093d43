-- What is known of a service of rings.
use Rattle.std.proofs.Common.{◌≡◌, ℕ, ◌+◌, ◌≤◌, ◌^◌, ◌⊎◌, Bool, true, false, not, ◌&&◌, List, Option, None, Some, refl, sym, ap, subst, ◌∙◌, inl, inr}
use Rattle.std.specs.List.{AllByRecursion}
use Rattle.std.proofs.lemmas.Bool.{false≢true}
use Rattle.std.specs.Prelude.{IsSome, is_some}
use Rattle.sha2.specs.declared.Sha256.{Sha256}
use Rattle.disks.specs.Held.{Held}
use Rattle.line_service.specs.Loop.{AllLasts}
use Rattle.line_service.specs.Digested.{hashed}
use Rattle.line_service.specs.Segments.{HasBegun, moment_of}
use Rattle.line_service.proofs.SegmentLasting.{begun_lasts, replaced_known}
use Rattle.line_service.specs.declared.segmented.EndFault.{EndFault}
use Rattle.line_service.specs.declared.segmented.EndFault.TheVariants as end
use Rattle.ring_service.specs.declared.answers.Refusal.{Refusal}
use Rattle.ring_service.specs.Standings.{Standing}
use Rattle.ring_service.specs.Saved.{IsRight}
use Rattle.ring_service.specs.Segments.{AreNext, IsFull}
use Rattle.ring_service.specs.Due.{is_due}
use Rattle.ring_service.specs.Permits.{terms_by, IsOpen, is_shut, IsTied}
use Rattle.ring_service.specs.Serving.{IsAnswered}
use Rattle.ring_service.proofs.Shutting.{tied_open}
use Rattle.ring_service.specs.declared.chain_segments.ChainRules.{ChainRules}
use Rattle.ring_service.specs.declared.rules.Rules.{Rules}
use Rattle.ring_service.specs.Texts.{segment_text}
use Rattle.ring_service.specs.Rules.{file_of, next_rules, HasNoNumber, IsLimit}
use Rattle.ring_service.specs.Services.{ServiceView, service_by, is_over, may_save, IsKnown, IsServed, IsNext, HasNoNext, with_refusal, refusal_of, segmenting}
use Rattle.ring_service.proofs.Fresh.{next_goes}

and_true : (b : Bool) → (b && true) ≡ b
and_true true = refl
and_true false = refl

and_false : (b : Bool) → (b && false) ≡ false
and_false true = refl
and_false false = refl

-- where no line is refused it is shut just if the segment is due
shut_due : (rules : Rules) (rings : List Standing) → rules.refusing ≡ None → is_shut (terms_by rules) rings ≡ is_due rules.limit rings
shut_due rules rings none = ap (λ (r : Option Refusal). is_due rules.limit rings && not (is_some r)) none ∙ and_true (is_due rules.limit rings)

-- the service with which lines begin
pub known_first : (rules : Rules) (rings : List Standing) (shut : Bool) → IsLimit rules.limit → rules.refusing ≡ None → shut ≡ is_due rules.limit rings → IsKnown rules rings shut
known_first rules rings shut limit none e = record {
  limit = limit;
  tied = (
    e ∙ sym (shut_due rules rings none),
    λ off. absurd (false≢true (sym (ap (λ (r : Option Refusal). is_some r) none) ∙ off)),
  );
}

-- and one that is kept on
pub known_kept : (rules : Rules) (rings : List Standing) (why : Refusal) (shut : Bool) → IsKnown rules rings shut → is_due rules.limit rings ≡ true → IsKnown (record rules { refusing = Some why }) rings false
known_kept rules rings why shut k due = record {
  limit = k.limit;
  tied = (sym (and_false (is_due rules.limit rings)), λ _. due);
}

-- ---- a line

pub open_known : (rules : Rules) (rings : List Standing) (shut : Bool) (v : ServiceView) → IsKnown rules rings shut → service_by rules rings ≡ v → is_over v ≡ false → IsOpen (terms_by rules) rings
open_known rules rings shut v k is_v not_over =
    tied_open (terms_by rules) rings shut k.tied (subst (λ (x : ServiceView). is_over x ≡ false) (sym is_v) not_over)

pub served_known : (rules : Rules) (old new : List Standing) (after : Bool) (v : ServiceView) (was is : Option Held) (line said noted : List ℕ) → service_by rules old ≡ v → IsAnswered (terms_by rules) old was line said noted new is → IsTied (terms_by rules) new after → AllByRecursion IsRight new →
    IsServed v was line said noted (service_by rules new) is
served_known rules old new after v was is line said noted is_v a tied right =
    let one : IsServed (service_by rules old) was line said noted (service_by rules new) is = record {
      answered = a;
      rules = refl;
      due = tied.1;
      right = right;
    } in
    subst (λ (x : ServiceView). IsServed x was line said noted (service_by rules new) is) is_v one

-- ---- the end of a segment

pub due_known : (rules : Rules) (rings : List Standing) (v : ServiceView) → service_by rules rings ≡ v → is_due v.rules.limit v.rings ≡ true → is_due rules.limit rings ≡ true
due_known rules rings v is_v e = subst (λ (x : ServiceView). is_due x.rules.limit x.rings ≡ true) (sym is_v) e

pub next_is : (rules on : Rules) (rings next : List Standing) (v r : ServiceView) → service_by rules rings ≡ v → r ≡ service_by on next → on ≡ next_rules rules → AreNext rings next → AllByRecursion IsRight r.rings → IsNext v r
next_is rules on rings next v r is_v is_r is_on a right =
    let one : IsNext (service_by rules rings) r = record {
      rules = ap (λ (x : ServiceView). x.rules) is_r ∙ is_on;
      rings = subst (λ (x : ServiceView). AreNext rings x.rings) (sym is_r) a;
      right = right;
    } in
    subst (λ (x : ServiceView). IsNext x r) is_v one

fresh_goes : (limit : Option ℕ) (rings next : List Standing) → IsLimit limit → AreNext rings next → is_due limit next ≡ false
fresh_goes None rings next k a = refl
fresh_goes (Some limit) rings next k a = next_goes limit rings next k a

pub next_open : (rules on : Rules) (rings next : List Standing) (r : ServiceView) → r ≡ service_by on next → on ≡ next_rules rules → IsLimit rules.limit → AreNext rings next → is_over r ≡ false
next_open rules on rings next r is_r is_on limit a =
    subst (λ (x : ServiceView). is_over x ≡ false) (sym (is_r ∙ ap (λ (x : Rules). service_by x next) is_on)) (and_true (is_due rules.limit next) ∙ fresh_goes rules.limit rings next limit a)

-- and lines may save, and a segment has lines, as before
pub next_limit : (rules on : Rules) → on ≡ next_rules rules → IsLimit rules.limit → IsLimit on.limit
next_limit rules on e limit = subst (λ (x : Rules). IsLimit x.limit) (sym e) limit

pub next_saves : (rules on : Rules) (rings next : List Standing) (v r : ServiceView) → service_by rules rings ≡ v → r ≡ service_by on next → on ≡ next_rules rules → may_save r ≡ may_save v
next_saves rules on rings next v r is_v is_r is_on = ap may_save (is_r ∙ ap (λ (x : Rules). service_by x next) is_on) ∙ ap may_save is_v

-- why there is no next one
pub no_next : (rules : Rules) (rings : List Standing) (v : ServiceView) (why : EndFault) → service_by rules rings ≡ v → ((why ≡ end.Full) × IsFull rings) ⊎ (why ≡ end.OutOfMemory) → HasNoNext v.rings v.rules.journal why
no_next rules rings v why is_v (inl h) =
    let one : HasNoNext rings rules.journal why = inl (h.0, inl h.1) in
    subst (λ (x : ServiceView). HasNoNext x.rings x.rules.journal why) is_v one
no_next rules rings v why is_v (inr e) = inr e

pub no_number : (rules : Rules) (rings : List Standing) (v : ServiceView) (why : EndFault) → service_by rules rings ≡ v → why ≡ end.Full → HasNoNumber rules.journal → HasNoNext v.rings v.rules.journal why
no_number rules rings v why is_v full none =
    let one : HasNoNext rings rules.journal why = inl (full, inr none) in
    subst (λ (x : ServiceView). HasNoNext x.rings x.rules.journal why) is_v one

pub kept_is : (rules : Rules) (rings : List Standing) (v : ServiceView) (r : Refusal) (why : EndFault) → service_by rules rings ≡ v → r ≡ refusal_of why → service_by (record rules { refusing = Some r }) rings ≡ with_refusal v (refusal_of why)
kept_is rules rings v r why is_v e =
    ap (λ (x : Refusal). service_by (record rules { refusing = Some x }) rings) e ∙ ap (λ (x : ServiceView). with_refusal x (refusal_of why)) is_v

-- a service that is kept on answers lines
pub kept_open : (rules : Rules) (rings : List Standing) (r : Refusal) → is_over (service_by (record rules { refusing = Some r }) rings) ≡ false
kept_open rules rings r = and_false (is_due rules.limit rings)

-- ---- the first segment

-- the files are known still when it has begun, and all of its file lasts
pub first_lasts : (s : ChainRules) (v : ServiceView) (first : ℕ) (behind : List ℕ) (before files : Option Held) (number : ℕ) (contents lasting : Option (List ℕ)) (hasher : Sha256) → HasBegun segmenting s.files.folder.now v first behind before (moment_of v files number (hashed contents hasher)) → IsSome before → lasting ≡ contents →
    IsSome files × AllLasts (hashed contents hasher) lasting
first_lasts s v first behind before files number contents lasting hasher h some all =
    let text : List ℕ = segment_text first behind v.rings in (
      replaced_known before files (file_of s first) (Some text) h.file.put some,
      begun_lasts before contents lasting hasher text h.file.journal some all,
    )
