-- `is_closed` compares the pointer with null, where it lies.
use Rattle.std.proofs.Common.{◌≡◌, Bool, not, List, [], ◌∷◌, refl}
use mir.Syntax.{named}
use mir.Val.{Val, vptr, vbool}
use base.Logic.{SProp, emp}
use base.Fraction.{full_share}
use base.Fml.{ftrue, flft}
use types.Kit.{‵, raw, given, ◌⊛◌, ◌$◌, ◌∵◌, !, qed, by, move, keep, drop, split, join, fsplit, fsplit3, fjoin, fjoin3, use0, use1, learn, rewrite, feq_i}
use types.Run.{stop, fld, load, lit, bin, of_opd, returns, enter}
use types.ByLocal.{alloc_all, pass_all, free_all, look_at, get, through, is, sets}
use types.Part.{whole, sub, look_in}
use contract.Monad.{fact, fact_i}
use contract.Running.{tables}
use denote.RattleType.{owns}
use denote.Memory.{cell_at}
use denote.RawPtr.{ptr_val, tests_null}
use denote.Ref.{MutRef, mut_vals, mut_Tells}
use denote.Signature.{plain}
use denote.Steps.{nothing, opens, closes}
use denote.Triple.Walked.{Stays, stay_ref, walk_of, Goes-ref}
use Rattle.core.proofs.atomic.Steps.{Ptr-Good}
use Rattle.std.proofs.raw_atomic.Walks.{proved, leaves}
use Rattle.wozgirt_c.specs.Held.{held}
use Rattle.wozgirt_c.proofs.Values.{both}
use Rattle.wozgirt_c.proofs.Handles.{Hd, boxed, nulled, Told, held_tells, handle_parts, handle_whole}
use Rattle.wozgirt_c.specs.contracts.handle.is_closed.{ended, clauses}
use Rattle.wozgirt_c.specs.contracts.handle.is_closed.Key.{name as #self}
use Rattle.wozgirt_c.proofs.handle.is_closed.Statement.{statement}
use Rattle.wozgirt_c.proofs.handle.is_closed.Code as code

pub is_closed_spec : {M : Type 1} → statement M
is_closed_spec 𝓤 𝓛 𝓜 𝓡 wired =
    let H = 𝓛.H in let 𝓣 = tables 𝓤 H 𝓜 𝓡 𝓡.env in let En = ended in let c = clauses 𝓛 𝓜.mem 𝓡.returns in let fn = code.function in
    let hs : Stays En.signature.params En.kept = (stay_ref (0 ∷ []) tt (plain (λ _. Hd)), tt) in
    proved 𝓛 En hs c 𝓜 𝓡 (Goes-ref 𝓛 1 0 tt (plain (λ _. Hd)), tt) #self fn (code.unfolded 𝓤 H 𝓜 𝓡 wired) (λ κs. (mut_vals, tt)) (λ κs. (mut_Tells (named 0) κs.0 Hd, tt)) (λ κs qs bounds a g are.
    let κ = κs.0 in let q = qs.0 in let d = a.0.now in let rb = a.0.ref_ptr.0 in let ro = a.0.ref_ptr.1 in
    let z : (walk_of 𝓛 En hs c).Ghost = ((κs, qs, bounds, a, (vptr rb ro ∷ [], tt)), g) in let Post : Val → SProp 𝓤 = (walk_of 𝓛 En hs c).post z in
    let y : Bool = (nulled d.at).0 in let F = boxed d.alloc d.value d.at in let Same : Type 0 = d ≡ d in let Is : Type 0 = y ≡ not d.full in
    qed 𝓛 (((‵ (flft κ q) ⊛ ‵ ftrue) ⊛ ‵ (owns (MutRef (named 0) κ Hd ∷ []) a (vptr rb ro ∷ [], tt))) ∷ raw ((c κs a).requires g) ∷ []) ∵
    split ! $ split ! $ move ! (2 ∷ []) $ fsplit ! $ fsplit3 ! $ drop ! $ keep ! (0 ∷ 1 ∷ 3 ∷ []) $
    enter ! 𝓣.C 𝓣.Λ fn (vptr rb ro ∷ []) Post $ alloc_all ! (λ l. pass_all ! refl ((tt, tt), tt) $
    opens ! tt Hd {h = d} rb ro (λ vs. move ! (1 ∷ []) $ handle_parts ! d vs (λ h ws fits.
    use1 𝓛 (given (Told d.at d.full) (‵ (held d.at d.full F))) (held_tells 𝓛 d.at d.full F) $ learn ! (λ told. let v = both (ptr_val d.at) h in
    rewrite ! 2 (λ (us : List Val). ‵ (cell_at full_share Hd.mir us rb ro)) ws refl $
    sets ! (of_opd ! (load ! (through ! refl (fld ! refl (stop !))) (look_in ! 2 (sub ! 0 refl (whole !))))) refl (Ptr-Good d.at) $
    sets ! (is ! (bin ! (get ! refl) (lit ! tt) (tests_null d.at told.0)) (nulled d.at).1) refl (tt, tt) $
    handle_whole ! d h $ move ! (1 ∷ 0 ∷ []) $ closes ! tt Hd d (v ∷ []) rb ro $ feq_i ! (List Val) (vptr rb ro ∷ []) (vptr rb ro ∷ []) refl $ fjoin3 ! $
    nothing ! $ move ! (1 ∷ 0 ∷ []) $ fjoin ! $ nothing ! $ move ! (2 ∷ 0 ∷ []) $ join ! $ feq_i ! (List Val) (vbool y ∷ []) (vbool y ∷ []) refl $
    use0 𝓛 (raw (fact 𝓤 Is)) (fact_i 𝓤 Is (emp 𝓤) told.1) $ use0 𝓛 (raw (fact 𝓤 Same)) (fact_i 𝓤 Same (emp 𝓤) refl) $ join ! $
    returns ! (look_at ! 0 refl) $ free_all ! refl $ keep ! (2 ∷ 3 ∷ 1 ∷ 0 ∷ []) $ by ! (leaves 𝓛 En hs c z (vbool y) y (d, tt) (tt, tt)))))))
