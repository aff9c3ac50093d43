-- The machine value of a handle, and what its pointer says. Assumes `Logic`.
use Rattle.std.proofs.Common.{◌≡◌, ℕ, List, [], ◌∷◌, ◌++◌, refl, subst, lit<}
use mathlib.Core.Bool.{Bool, true, false, not, ◌&&◌}
use lib.Dec.{T}
use seplogic.Ra.Ura.{Ura}
use mir.Syntax.{impl, tnil, dnil, ptr_eq}
use mir.Raw.{raw as bare}
use mir.Val.{Val, vptr, vnull, vbool, vstruct, of_list, op2_val, has_ty, WT}
use base.Logic.{ent, never_e, guard, guard_i, via, snd∗}
use base.Fml.{Fml, ftrue}
use types.Logic.{Logic, sem}
use types.Kit.{Item, Goal, Seq, Step, step, ‵, given, ◌$◌, ◌∵◌, !, qed, done, check, move, drop, fsplit, fjoin, fpick, fpack, feq_i, feq_l, use1, learn}
use contract.Monad.{fact_use}
use denote.RattleType.{RattleType, Valss}
use denote.Builtin.{RawPtr}
use denote.Memory.{lone}
use denote.RawPtr.{Ptr, block_ptr, null_ptr, ptr_val, Testable, lies_at}
use denote.Steps.{nothing}
use denote.Param.{layout}
use denote.Struct.Struct.{within}
use denote.Struct.Owning.{shape, to}
use Rattle.core.proofs.alloc.Calls.{Al, handle_tells}
use Rattle.core.proofs.atomic.Steps.{Ptr-Good}
use Rattle.core.proofs.cell.Inside.{Good}
use Rattle.std_alloc.specs.Box.Ownership.{box_owns}
use Rattle.std.specs.contracts.alloc.Global as heap
use Rattle.std.proofs.alloc.Global.TheLaws as heap_laws
use Rattle.std.proofs.GlobalToken.{dealloc_token-Testable}
use Rattle.std.specs.contracts.impls.GlobalAllocator.TheImpl.{ghosts}
use Rattle.wozgirt_c.specs.Held.{held}
use Rattle.c_calls.specs.contracts.kept.Kept as kept
use Rattle.wozgirt_c.specs.contracts.handle.Handle as handle
use Rattle.wozgirt_c.proofs.Values.{both, both_tt}

abbrev pub R : RattleType
R = kept.the_row

abbrev pub Z : RattleType
Z = heap.the_row

abbrev pub Hd : RattleType
Hd = handle.the_row

abbrev al : Al
al = record { row = Z; laws = heap_laws.the_row_laws; g = ghosts; d = impl [] tnil dnil; drops = impl [] tnil dnil }

abbrev pub boxed : Z.Denot → R.Denot → Ptr → Fml
boxed a x p = box_owns (ghosts.dealloc_token a) R p x

-- whether the pointer is null, as the machine finds it
abbrev pub nulled : (p : Ptr) → (y : Bool) × (op2_val ptr_eq (ptr_val p) vnull ≡ vbool y)
nulled (block_ptr b o) = (false, refl)
nulled null_ptr = (true, refl)

-- what is held at a pointer shows whether it is null
abbrev pub Told : Ptr → Bool → Type 0
Told p full = Testable p × ((nulled p).0 ≡ not full)

pub handle_good : (p : Ptr) (h : Val) → Good (layout Z) h → T (has_ty (layout RawPtr) (ptr_val p) && (has_ty (layout Z) h && true)) × WT (both (ptr_val p) h)
handle_good p h fits = (both_tt (has_ty (layout RawPtr) (ptr_val p)) (has_ty (layout Z) h) (Ptr-Good p).0 fits.0, ((Ptr-Good p).1, (fits.1, tt)))

module _ {M : Type 1} {𝓤 : Ura M} (𝓛 : Logic 𝓤) where
  pub tested : (a : Z.Denot) (x : R.Denot) (p : Ptr) → ent 𝓤 (sem 𝓛 (boxed a x p)) (guard 𝓤 (Testable p) (sem 𝓛 (boxed a x p)))
  tested a x p = fact_use 𝓤 (Testable p) (via 𝓤 _ (snd∗ 𝓤 (sem 𝓛 (lies_at R base.Fraction.full_share p x)) (sem 𝓛 (ghosts.dealloc_token a (bare (lone R.mir)) p))) (dealloc_token-Testable 𝓛 a (bare (lone R.mir)) p)) (guard_i 𝓤 (Testable p) (sem 𝓛 (boxed a x p)))

  pub held_tells : (p : Ptr) (full : Bool) (F : Fml) → ent 𝓤 (sem 𝓛 (held p full F)) (guard 𝓤 (Told p full) (sem 𝓛 (held p full F)))
  held_tells null_ptr false F = qed 𝓛 (‵ ftrue ∷ []) ∵ check ! (lit< tt, refl) $ done !
  held_tells null_ptr true F = never_e 𝓤 _
  held_tells (block_ptr b o) true F = qed 𝓛 (‵ (held (block_ptr b o) true F) ∷ []) ∵ fsplit ! $ fpick ! (λ u. drop ! $ check ! (u, refl) $ nothing ! $ fpack ! (Testable (block_ptr b o)) (λ _. ftrue) u $ fjoin ! $ done !)
  held_tells (block_ptr b o) false F = never_e 𝓤 _

module _ {M : Type 1} {𝓤 : Ura M} {𝓛 : Logic 𝓤} {K : Type 0} {Γ : List (Item 𝓤)} {G : Goal 𝓤 𝓛.H} where
  -- a handle that is full has a block
  full_out : K → (p : Ptr) (F : Ptr → Fml) → ((b o : ℕ) → p ≡ block_ptr b o → Seq K 𝓛 (‵ (F (block_ptr b o)) ∷ Γ) G) → Seq K 𝓛 (‵ (held p true (F p)) ∷ Γ) G
  full_out t (block_ptr b o) F k = fsplit t $ drop t $ k b o refl
  full_out t null_ptr F k = use1 𝓛 (given ⊥ (‵ ftrue)) (never_e 𝓤 _) $ learn t (λ z. absurd z)

module _ {M : Type 1} {𝓤 : Ura M} {𝓛 : Logic 𝓤} {K : Type 0} {Γ : List (Item 𝓤)} {G : Goal 𝓤 𝓛.H} where
  pub handle_parts : K → (d : Hd.Denot) (vs : List Val)
      → ((h : Val) → vs ≡ both (ptr_val d.at) h ∷ [] → Good (layout Z) h → Seq K 𝓛 (‵ (held d.at d.full (boxed d.alloc d.value d.at)) ∷ ‵ (Z.own_val d.alloc (h ∷ [])) ∷ Γ) G)
      → Seq K 𝓛 (‵ (Hd.own_val d vs) ∷ Γ) G
  handle_parts t d vs k =
      fsplit t $ fpick t (λ vss. fsplit t $ feq_l t (λ ev. fsplit t $ feq_l t (λ ep. fsplit t $ handle_tells al t d.alloc vss.1.0 (λ h ea fits. move t (1 ∷ []) $ drop t $ move t (1 ∷ []) $
      k h (subst (λ (ws : List Val). vs ≡ vstruct (of_list (ptr_val d.at ∷ (ws ++ []))) ∷ []) ea (subst (λ (ps : List Val). vs ≡ vstruct (of_list (ps ++ (vss.1.0 ++ []))) ∷ []) ep ev)) fits))))

  pub handle_whole : K → (d : Hd.Denot) (h : Val)
      → Step K 𝓛 (‵ (Hd.own_val d (both (ptr_val d.at) h ∷ [])) ∷ Γ) G (‵ (held d.at d.full (boxed d.alloc d.value d.at)) ∷ ‵ (Z.own_val d.alloc (h ∷ [])) ∷ Γ) G
  handle_whole t d h = step (λ s. let v : Val = both (ptr_val d.at) h in
      nothing t $ move t (2 ∷ 0 ∷ []) $ fjoin t $ feq_i t (List Val) (ptr_val d.at ∷ []) (ptr_val d.at ∷ []) refl $ fjoin t $ feq_i t (List Val) (v ∷ []) (v ∷ []) refl $ fjoin t $
      fpack t (Valss (RawPtr ∷ Z ∷ [])) (within (shape handle.the_type) (to handle.the_type d) (v ∷ [])) (ptr_val d.at ∷ [], (h ∷ [], tt)) $ fjoin t $ s)

  pub handle_out : K → (d : Hd.Denot) (vs : List Val) → d.full ≡ true
      → ((b o : ℕ) (h : Val) → d.at ≡ block_ptr b o → vs ≡ both (vptr b o) h ∷ [] → Good (layout Z) h → Seq K 𝓛 (‵ (boxed d.alloc d.value (block_ptr b o)) ∷ ‵ (Z.own_val d.alloc (h ∷ [])) ∷ Γ) G)
      → Seq K 𝓛 (‵ (Hd.own_val d vs) ∷ Γ) G
  handle_out t d vs is k = handle_parts t d vs (λ h ws fits. types.Kit.rewrite t 0 (λ (y : Bool). ‵ (held d.at y (boxed d.alloc d.value d.at))) is refl $
      full_out t d.at (boxed d.alloc d.value) (λ b o e. k b o h e (subst (λ (p : Ptr). vs ≡ both (ptr_val p) h ∷ []) e ws) fits))

  pub handle_in : K → (b o : ℕ) (h : Val) (a : Z.Denot) (x : R.Denot)
      → Step K 𝓛 (‵ (Hd.own_val (record { at = block_ptr b o; alloc = a; full = true; value = x }) (both (vptr b o) h ∷ [])) ∷ Γ) G (‵ (boxed a x (block_ptr b o)) ∷ ‵ (Z.own_val a (h ∷ [])) ∷ Γ) G
  handle_in t b o h a x = step (λ s. use1 𝓛 (given (Testable (block_ptr b o)) (‵ (boxed a x (block_ptr b o)))) (tested 𝓛 a x (block_ptr b o)) $ learn t (λ u.
      nothing t $ fpack t (Testable (block_ptr b o)) (λ _. ftrue) u $ fjoin t $ handle_whole t (record { at = block_ptr b o; alloc = a; full = true; value = x }) h $ s))
