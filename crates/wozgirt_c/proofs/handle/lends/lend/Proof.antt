-- `lend` lends what the pointer points at, and the handle follows it.
use Rattle.std.proofs.Common.{◌≡◌, Bool, true, ℕ, List, [], ◌∷◌, refl, sym}
use seplogic.Ra.Ura.{Ura}
use mir.Syntax.{named}
use mir.Val.{Val, vptr}
use mir.Raw.{raw as bare}
use base.Logic.{SProp, ent, sep, id⊢}
use base.Fraction.{full_share}
use base.Fml.{GName, Fml, ftrue, fsep, flft}
use types.Logic.{Logic, sem}
use types.Kit.{‵, raw, some, later, at_ret, ◌⊛◌, ◌$◌, ◌∵◌, !, qed, move, keep, drop, split, split3, join, pick, fsplit, fsplit3, fjoin, fpack, suffices, frame, done, use1, await, group, rewrite}
use types.Run.{stop, fld, load, of_opd, first, blocks, exec, returns, enter, addr}
use types.ByLocal.{alloc_all, pass_all, free_all, look_at, get, through, sets, env, sets_last}
use types.Part.{whole, sub, look_in}
use contract.Monad.{fact}
use contract.Running.{tables}
use denote.Exit.{no}
use denote.RattleType.{owns}
use denote.Memory.{part_at, part_of, mem, cell_at, lone}
use denote.RawPtr.{Ptr, block_ptr}
use denote.Ref.{MutRef, mut_vals, mut_Tells}
use denote.Follow.{follows, Part, lends_Part}
use denote.Builtin.{RefMutOf}
use denote.Signature.{plain}
use denote.Steps.{nothing, heard, opens}
use denote.Triple.Walked.{says, Stays, stay_dropped, walk_of, ends_at, Goes-spent_ref}
use Rattle.std_alloc.proofs.VecSteps.Shapes.{after}
use Rattle.std.proofs.raw_atomic.Walks.{proved}
use Rattle.std.specs.contracts.impls.GlobalAllocator.TheImpl.{ghosts}
use Rattle.wozgirt_c.proofs.Values.{both}
use Rattle.wozgirt_c.proofs.Handles.{R, Z, Hd, handle_out, handle_in}
use Rattle.wozgirt_c.specs.Lent.{with_ring}
use Rattle.wozgirt_c.specs.contracts.handle.lends.lend.{ended, clauses}
use Rattle.wozgirt_c.specs.contracts.handle.lends.lend.Key.{name as #self}
use Rattle.wozgirt_c.proofs.handle.lends.lend.Statement.{statement}
use Rattle.wozgirt_c.proofs.handle.lends.lend.Code as code

module _ (d : Hd.Denot) (rb ro b o : ℕ) (h : Val) where
  -- all of the handle but the ring
  abbrev Rest : Fml
  Rest = fsep (fsep (ghosts.dealloc_token d.alloc (bare (lone R.mir)) (block_ptr b o)) (Z.own_val d.alloc (h ∷ []))) (cell_at full_share Hd.mir (both (vptr b o) h ∷ []) rb ro)

  module _ {M : Type 1} {𝓤 : Ura M} (𝓛 : Logic 𝓤) (e : d.at ≡ block_ptr b o) (full : d.full ≡ true) where
    back : (w : R.Denot) → ent 𝓤 (sep 𝓤 (sem 𝓛 ((mem R).own_at w b o)) (sem 𝓛 Rest)) (sem 𝓛 ((mem Hd).own_at (with_ring d w) rb ro))
    unfolding part_of
    back w = let v = both (vptr b o) h in
        qed 𝓛 (‵ (part_at R full_share w b o) ∷ ‵ Rest ∷ []) ∵ move ! (1 ∷ []) $ fsplit ! $ fsplit ! $ move ! (3 ∷ 0 ∷ []) $ fjoin ! $ handle_in ! b o h d.alloc w $
        rewrite ! 0 (λ (p : Ptr). ‵ (Hd.own_val (record { at = p; alloc = d.alloc; full = true; value = w }) (v ∷ []))) (sym e) refl $
        rewrite ! 0 (λ (y : Bool). ‵ (Hd.own_val (record { at = d.at; alloc = d.alloc; full = y; value = w }) (v ∷ []))) (sym full) refl $ move ! (1 ∷ 0 ∷ []) $ fjoin ! $
        fpack ! (List Val) (λ us. fsep (cell_at full_share Hd.mir us rb ro) (Hd.own_val (with_ring d w) us)) (v ∷ []) $ done !

pub lend_spec : {M : Type 1} → statement M
lend_spec 𝓤 𝓛 𝓜 𝓡 wired =
    let H = 𝓛.H in let 𝓣 = tables 𝓤 H 𝓜 𝓡 𝓡.env in let C = 𝓣.C in let Λ = 𝓣.Λ in let En = ended in let c = clauses 𝓛 𝓜.mem 𝓡.returns in let fn = code.function in
    let hs : Stays En.signature.params En.kept = (stay_dropped (RefMutOf (0 ∷ []) tt (plain (λ _. Hd)) (λ _. tt)) no, tt) in
    proved 𝓛 En hs c 𝓜 𝓡 (Goes-spent_ref 𝓛 1 (0 ∷ []) tt (plain (λ _. Hd)), tt) #self fn (code.unfolded 𝓤 H 𝓜 𝓡 wired) (λ κs. (mut_vals, tt)) (λ κs. (mut_Tells (named 0) κs.0 Hd, tt)) (λ κs qs bounds a g are.
    let κ = κs.0 in let q = qs.0 in let d = a.0.now in let rb = a.0.ref_ptr.0 in let ro = a.0.ref_ptr.1 in let γ = a.0.ghost_name in
    let z : (walk_of 𝓛 En hs c).Ghost = ((κs, qs, bounds, a, (vptr rb ro ∷ [], tt)), g) in let Post : Val → SProp 𝓤 = (walk_of 𝓛 En hs c).post z in
    let lent : ℕ → ℕ → GName → (MutRef (named 0) κ R).Denot = λ b o γ'. record { ref_ptr = (b, o); ghost_name = γ'; now = d.value } in
    qed 𝓛 (((‵ (flft κ q) ⊛ ‵ ftrue) ⊛ ‵ (owns (MutRef (named 0) κ Hd ∷ []) a (vptr rb ro ∷ [], tt))) ∷ raw (fact 𝓤 (d.full ≡ true)) ∷ []) ∵
    move ! (1 ∷ []) $ heard ! (d.full ≡ true) (λ full. split ! $
    enter ! C Λ fn (vptr rb ro ∷ []) Post $ alloc_all ! (λ l. pass_all ! refl ((tt, tt), tt) $ let Ev = env fn.locals l in
    move ! (1 ∷ []) $ fsplit ! $ fsplit3 ! $ drop ! $ move ! (3 ∷ []) $ split ! $ move ! (2 ∷ 3 ∷ 0 ∷ []) $
    opens ! tt Hd {h = d} rb ro (λ vs. move ! (1 ∷ []) $ handle_out ! d vs full (λ b o h e ws fits.
    fsplit ! $ move ! (1 ∷ 2 ∷ []) $ fjoin ! $ move ! (1 ∷ []) $ rewrite ! 2 (λ (us : List Val). ‵ (cell_at full_share Hd.mir us rb ro)) ws refl $
    first ! $ blocks ! $ sets ! (of_opd ! (load ! (through ! refl (fld ! refl (stop !))) (look_in ! 2 (sub ! 0 refl (whole !))))) refl (tt, tt) $
    sets ! (of_opd ! (get ! refl)) refl (tt, tt) $ sets_last ! (addr ! (through ! refl (stop !))) refl (tt, tt) $
    exec ! C Λ Ev (after 1 fn.body) (at_ret Ev Post) $ sets ! (of_opd ! (get ! refl)) refl (tt, tt) $
    move ! (1 ∷ 2 ∷ []) $ fjoin ! $ move ! (2 ∷ 3 ∷ 4 ∷ 1 ∷ 0 ∷ []) $ group ! 5 $
    use1 𝓛 (later (some (λ (γ' : GName). raw (Part 𝓛 Hd R (with_ring d) (named 0) κ q rb ro b o γ (sem 𝓛 (Rest d rb ro b o h)) (back d rb ro b o h 𝓛 e full) d.value γ'))))
    (lends_Part 𝓛 Hd R (with_ring d) (named 0) κ q rb ro b o γ (sem 𝓛 (Rest d rb ro b o h)) (back d rb ro b o h 𝓛 e full) (Hd.coded.code d) (Hd.coded.code d) d.value) $ await ! tt $ pick ! (λ γ'.
    returns ! (look_at ! 0 refl) $ free_all ! refl $ keep ! (0 ∷ []) $
    use1 𝓛 (‵ ((MutRef (named 0) κ R).own_val (lent b o γ') (vptr b o ∷ [])) ⊛ ‵ (flft κ q) ⊛ ‵ (follows Hd R γ γ' (with_ring d))) (id⊢ 𝓤 _) $ split3 ! $
    suffices ! _ (ends_at 𝓛 En hs c z (vptr b o) (lent b o γ') (tt, tt) (tt, tt)) $
    nothing ! $ nothing ! $ fjoin ! $ join ! $ nothing ! $ move ! (2 ∷ 0 ∷ []) $ join ! $ join ! $ frame ! $ says ! refl $ done !))))))
