-- `take` moves the pointer and what it owns into a `Loose`, and leaves null.
use Rattle.std.proofs.Common.{◌≡◌, true, false, List, [], ◌∷◌, ◌++◌, refl, sym, subst}
use mir.Val.{Val, vptr, vnull, has_ty}
use base.Logic.{SProp, ent, emp, id⊢}
use prog.Wp.{WpFn}
use types.Kit.{‵, raw, ◌⊛◌, ◌$◌, ◌∵◌, !, qed, by, move, keep, split, fsplit3, fjoin, suffices, rewrite, use0}
use types.Run.{stop, fld, lit, of_opd, no_more, and_then, returns, enter}
use types.ByLocal.{alloc_all, pass_all, free_all, look_at, get, get_in, sets}
use types.Part.{agg, sub, whole}
use contract.Monad.{fact, fact_i}
use contract.Running.{tables}
use denote.Exit.{yes}
use denote.RattleType.{RattleType, owns}
use denote.Signature.{types_at, plain}
use denote.RawPtr.{block_ptr, null_ptr}
use denote.Param.{layout}
use denote.Steps.{nothing, heard}
use denote.Triple.Entry.{alive}
use denote.Triple.Walked.{Stays, stay_dropped, walk_of, Goes-dropped}
use Rattle.core.proofs.cell.Inside.{one}
use Rattle.std.proofs.raw_atomic.Walks.{proved_at, leaves}
use Rattle.std.proofs.alloc.Global.TheLaws as heap_laws
use Rattle.std.specs.contracts.impls.GlobalAllocator.TheImpl.{ghosts}
use Rattle.wozgirt_c.proofs.Values.{both, both_tt, Loose, loose_good, loose_in, pair_in}
use Rattle.wozgirt_c.proofs.LockHandles.{R, Z, Hd, handle_good, handle_out, handle_whole}
use Rattle.wozgirt_c.specs.contracts.lock_handle.take.{ended, clauses}
use Rattle.wozgirt_c.specs.contracts.lock_handle.take.Key.{name as #self}
use Rattle.wozgirt_c.proofs.lock_handle.take.Statement.{statement}
use Rattle.wozgirt_c.proofs.lock_handle.take.Code as code

pub take_spec : {M : Type 1} → statement M
take_spec 𝓤 𝓛 𝓜 𝓡 wired =
    let H = 𝓛.H in let 𝓣 = tables 𝓤 H 𝓜 𝓡 𝓡.env in let En = ended in let c = clauses 𝓛 𝓜.mem 𝓡.returns in let fn = code.function in
    let Lr : RattleType = Loose R Z heap_laws.the_row_laws ghosts in
    let hs : Stays En.signature.params En.kept = (stay_dropped (plain (λ _. Hd)) yes, (stay_dropped (plain (λ _. Z)) yes, tt)) in
    proved_at 𝓛 En hs c 𝓜 𝓡 (Goes-dropped 𝓛 0 (plain (λ _. Hd)) yes (λ κs x f. refl), (Goes-dropped 𝓛 0 (plain (λ _. Z)) yes (λ κs x f. refl), tt)) #self fn (code.unfolded 𝓤 H 𝓜 𝓡 wired) (λ z are.
    let v = z.0.3.0 in let a = v.alloc in let a₁ = z.0.3.1.0 in let Post : Val → SProp 𝓤 = (walk_of 𝓛 En hs c).post z in let Run : List Val → SProp 𝓤 = λ ws. WpFn 𝓤 H 𝓣.C 𝓣.Λ fn ws Post in
    let g = one (layout Z) z.0.4.1.0 ((heap_laws.the_row_laws.lawful 𝓛).typed a₁ z.0.4.1.0 are.1.0) in
    qed 𝓛 ((raw (alive 𝓛 En.signature z.0.0 z.0.1) ⊛ ‵ (owns (types_at En.signature.params z.0.0) z.0.3 z.0.4)) ∷ raw (fact 𝓤 (v.full ≡ true)) ∷ []) ∵
    move ! (1 ∷ []) $ heard ! (v.full ≡ true) (λ full. split ! $ move ! (1 ∷ []) $ fsplit3 ! $ rewrite ! 1 (λ (us : List Val). ‵ (Z.own_val a₁ us)) g.1 refl $
    handle_out ! v z.0.4.0 full (λ b o h e ws fits.
    let w : Val = both (vptr b o) h in let typed = loose_good R Z heap_laws.the_row_laws ghosts b o h fits in
    let w₀ : Val = both vnull g.0 in let good₀ = handle_good null_ptr g.0 g.2 in
    let d₀ : Hd.Denot = record { at = null_ptr; alloc = a₁; full = false; value = v.value } in let d₁ : Lr.Denot = record { at = block_ptr b o; alloc = a; full = true; value = v.value } in
    suffices ! (Run (w ∷ g.0 ∷ [])) (subst (λ (us : List Val). ent 𝓤 (Run (w ∷ g.0 ∷ [])) (Run us)) (sym (λ i. ws i ++ (g.1 i ++ []))) (id⊢ 𝓤 (Run (w ∷ g.0 ∷ [])))) $
    enter ! 𝓣.C 𝓣.Λ fn (w ∷ g.0 ∷ []) Post $ alloc_all ! (λ l. pass_all ! refl (typed, (g.2, tt)) $
    sets ! (of_opd ! (get_in ! (fld ! refl (stop !)) (sub ! 0 refl (whole !)))) refl (tt, tt) $ sets ! (of_opd ! (get_in ! (fld ! refl (stop !)) (sub ! 1 refl (whole !)))) refl fits $
    sets ! (agg ! (and_then ! (lit ! tt) (and_then ! (get ! refl) (no_more !)))) refl good₀ $
    sets ! (of_opd ! (get ! refl)) refl (tt, tt) $ sets ! (agg ! (and_then ! (get ! refl) (and_then ! (get ! refl) (no_more !)))) refl typed $
    sets ! (agg ! (and_then ! (get ! refl) (and_then ! (get ! refl) (no_more !)))) refl (both_tt (has_ty (layout Hd) w₀) (has_ty (layout Lr) w) good₀.0 typed.0, (good₀.1, (typed.1, tt))) $
    loose_in R Z heap_laws.the_row_laws ghosts ! b o h a v.value $ move ! (1 ∷ []) $ nothing ! $ handle_whole ! d₀ g.0 $ pair_in Hd Lr ! d₀ d₁ w₀ w $
    use0 𝓛 (raw (fact 𝓤 ((false ≡ false) × (true ≡ true) × (v.value ≡ v.value)))) (fact_i 𝓤 ((false ≡ false) × (true ≡ true) × (v.value ≡ v.value)) (emp 𝓤) (refl, refl, refl)) $
    nothing ! $ nothing ! $ fjoin ! $ nothing ! $ fjoin ! $
    returns ! (look_at ! 0 refl) $ free_all ! refl $ keep ! (4 ∷ 0 ∷ 2 ∷ 1 ∷ []) $
    by ! (leaves 𝓛 En hs c z (both w₀ w) (d₀, d₁) (tt, (tt, tt)) (tt, (tt, tt)))))))
