-- No client waits for itself, however far round: after each change of a lock one still comes to an end.
use Rattle.std.proofs.Common.{◌≡◌, ◌≢◌, ℕ, zero, suc, true, false, List, refl, sym, ◌∙◌, ap, subst, inl, inr, Option, Some, None}
use Rattle.std.specs.Prelude.{◌==◌, slice_get, slice_set, ◌⊎◌}
use Rattle.std.proofs.lemmas.Bool.{cases_Bool, cases_eq, eqb-false, true≢false, or_parts, both_ways}
use Rattle.held_locks.specs.Queues.{Lock, stands, waits_for, client_of, holder_of, comes_to}
use Rattle.held_locks.specs.Promises.{comes, ComesToAnEnd}
use Rattle.held_locks.proofs.Standing.{Once, get_set, get_set_same, get_set_other, waits_at, waits_nowhere, nowhere_waits, waits_there}

-- the holder of what the client waits for
abbrev pub whom : List Lock → ℕ → Option ℕ
whom ls c = holder_of (waits_for ls c)

-- whom the client waits for after a change: nobody, one that waits for nobody, or the same
pub data Next (ls ms : List Lock) (c : ℕ) : Type 0 where
  Nobody : whom ms c ≡ None → Next ls ms c
  Another : (d : ℕ) → whom ms c ≡ Some d → whom ms d ≡ None → Next ls ms c
  Same : whom ms c ≡ whom ls c → Next ls ms c

some_none : (c : ℕ) → ◌≡◌ {A = Option ℕ} (Some c) None → ⊥
some_none c e = cc

step_on : (ls ms : List Lock) (c : ℕ) → Next ls ms c → ComesToAnEnd ms (whom ls c) → ComesToAnEnd ms (Some c)
step_on ls ms c (Nobody e) more = (1, ap (λ (x : Option ℕ). comes 0 ms x) e)
step_on ls ms c (Another d e f) more = (2, ap (λ (x : Option ℕ). comes 1 ms x) e ∙ ap (λ (x : Option ℕ). comes 0 ms x) f)
step_on ls ms c (Same e) more = (suc more.0, ap (λ (x : Option ℕ). comes more.0 ms x) e ∙ more.1)

pub ends_kept : (ls ms : List Lock) → ((c : ℕ) → Next ls ms c) → (steps : ℕ) (at : Option ℕ) → comes steps ls at ≡ None → ComesToAnEnd ms at
ends_kept ls ms next steps None e = (0, refl)
ends_kept ls ms next zero (Some c) e = absurd (some_none c e)
ends_kept ls ms next (suc steps) (Some c) e = step_on ls ms c (next c) (ends_kept ls ms next steps (whom ls c) e)

-- ---- a client that begins to wait

-- the client that asks does not come back to itself
module _ (ls ms : List Lock) (asker : ℕ) (others : (c : ℕ) → c ≢ asker → whom ms c ≡ whom ls c) where
  pub no_way_back : (steps : ℕ) (at : Option ℕ) → comes_to steps ls asker at ≡ false → ComesToAnEnd ms at
  no_way_back steps None e = (0, refl)
  no_way_back zero (Some c) e = absurd (true≢false e)
  no_way_back (suc steps) (Some c) e =
      let p = or_parts (c == asker) (comes_to steps ls asker (whom ls c)) e in
      let more = no_way_back steps (whom ls c) p.1 in
      (suc more.0, ap (λ (x : Option ℕ). comes more.0 ms x) (others c (eqb-false c asker p.0)) ∙ more.1)

  pub ends_after : (h : ℕ) → whom ms asker ≡ Some h → ComesToAnEnd ms (Some h) → (steps : ℕ) (at : Option ℕ) → comes steps ls at ≡ None → ComesToAnEnd ms at
  ends_after h q end steps None e = (0, refl)
  ends_after h q end zero (Some c) e = absurd (some_none c e)
  ends_after h q end (suc steps) (Some c) e =
      let more = ends_after h q end steps (whom ls c) e in
      elim (cases_eq c asker) [
        | inl is ↦ (suc end.0, ap (λ (x : ℕ). comes end.0 ms (whom ms x)) is ∙ ap (λ (x : Option ℕ). comes end.0 ms x) q ∙ end.1)
        | inr ne ↦ (suc more.0, ap (λ (x : Option ℕ). comes more.0 ms x) (others c ne) ∙ more.1)
      ]

-- ---- one lock changes

-- nobody waits for two locks after a change
pub once_kept : (ls : List Lock) (i : ℕ) (l m : Lock) → Once ls → slice_get ls i ≡ Some l →
    ((c : ℕ) → stands c m.queue ≡ true → (stands c l.queue ≡ true) ⊎ (waits_for ls c ≡ None)) → Once (slice_set ls i m)
once_kept ls i l m once at new c j k x y fx fy sx sy =
    let elsewhere : (k : ℕ) (y : Lock) → stands c m.queue ≡ true → slice_get ls k ≡ Some y → stands c y.queue ≡ true → i ≡ k = λ k y s f t. elim (new c s) [
      | inl was ↦ once c i k l y at f was t
      | inr free ↦ absurd (both_ways (stands c y.queue) (waits_nowhere ls c k y free f) t)
    ] in
    elim (get_set ls i j m l x at fx) [
      | inl p ↦
          let s : stands c m.queue ≡ true = subst (λ (z : Lock). stands c z.queue ≡ true) p.1 sx in
          elim (get_set ls i k m l y at fy) [
            | inl q ↦ p.0 ∙ sym q.0
            | inr q ↦ p.0 ∙ elsewhere k y s q.1 sy
          ]
      | inr p ↦ elim (get_set ls i k m l y at fy) [
        | inl q ↦
            let s : stands c m.queue ≡ true = subst (λ (z : Lock). stands c z.queue ≡ true) q.1 sy in
            sym (elsewhere j x s p.1 sx) ∙ sym q.0
        | inr q ↦ once c j k x y p.1 q.1 sx sy
      ]
    ]

-- what a client waits for after it
pub data WaitsAfter (ls ms : List Lock) (l m : Lock) (c : ℕ) : Type 0 where
  There : stands c m.queue ≡ true → waits_for ms c ≡ Some m → WaitsAfter ls ms l m c
  Gone : stands c m.queue ≡ false → stands c l.queue ≡ true → waits_for ms c ≡ None → WaitsAfter ls ms l m c
  As_before : stands c m.queue ≡ false → stands c l.queue ≡ false → waits_for ms c ≡ waits_for ls c → WaitsAfter ls ms l m c

module _ (ls : List Lock) (i : ℕ) (l m : Lock) (once : Once ls) (again : Once (slice_set ls i m)) (at : slice_get ls i ≡ Some l) where
  nowhere : (c : ℕ) → stands c m.queue ≡ false → ((j : ℕ) (x : Lock) → j ≢ i → slice_get ls j ≡ Some x → stands c x.queue ≡ false) → waits_for (slice_set ls i m) c ≡ None
  nowhere c s rest = nowhere_waits (slice_set ls i m) c (λ j x f. elim (get_set ls i j m l x at f) [
    | inl p ↦ subst (λ (z : Lock). stands c z.queue ≡ false) (sym p.1) s
    | inr p ↦ rest j x p.0 p.1
  ])

  elsewhere : (c : ℕ) (w : Option Lock) → waits_for ls c ≡ w → stands c m.queue ≡ false → stands c l.queue ≡ false → waits_for (slice_set ls i m) c ≡ w
  elsewhere c None e s t = nowhere c s (λ j x n f. waits_nowhere ls c j x e f)
  elsewhere c (Some x) e s t =
      let p = waits_at ls c x e in
      let n : p.at ≢ i = λ (q : p.at ≡ i).
      let same : ◌≡◌ {A = Option Lock} (Some x) (Some l) = sym p.lock ∙ ap (λ (k : ℕ). slice_get ls k) q ∙ at in
      let is : x ≡ l = cc in
      both_ways (stands c x.queue) (subst (λ (z : Lock). stands c z.queue ≡ false) (sym is) t) p.stands in
      waits_there (slice_set ls i m) c p.at x again (get_set_other ls i p.at m n ∙ p.lock) p.stands

  pub waits_after : (c : ℕ) → WaitsAfter ls (slice_set ls i m) l m c
  waits_after c = elim (cases_Bool (stands c m.queue)) [
    | inl s ↦ There s (waits_there (slice_set ls i m) c i m again (get_set_same ls i m l at) s)
    | inr s ↦ elim (cases_Bool (stands c l.queue)) [
      | inl t ↦ Gone s t (nowhere c s (λ j x n f. elim (cases_Bool (stands c x.queue)) [
        | inl u ↦ absurd (n (sym (once c i j l x at f t u)))
        | inr u ↦ u
      ]))
      | inr t ↦ As_before s t (elsewhere c (waits_for ls c) refl s t)
    ]
  ]

  -- a lock with the same holder, in whose queue nobody is new
  same_next : (c : ℕ) → m.holder ≡ l.holder → (stands c m.queue ≡ true → stands c l.queue ≡ true) → WaitsAfter ls (slice_set ls i m) l m c → Next ls (slice_set ls i m) c
  same_next c h fewer (There s w) = Same (ap holder_of w ∙ ap client_of h ∙ sym (ap holder_of (waits_there ls c i l once at (fewer s))))
  same_next c h fewer (Gone s t w) = Nobody (ap holder_of w)
  same_next c h fewer (As_before s t w) = Same (ap holder_of w)

  -- a lock for which nobody waits any more
  empty_next : (c : ℕ) → stands c m.queue ≡ false → WaitsAfter ls (slice_set ls i m) l m c → Next ls (slice_set ls i m) c
  empty_next c none (There s w) = absurd (both_ways (stands c m.queue) none s)
  empty_next c none (Gone s t w) = Nobody (ap holder_of w)
  empty_next c none (As_before s t w) = Same (ap holder_of w)

  -- a lock that one of those holds who waited for it
  free : (d : ℕ) → stands d m.queue ≡ false → stands d l.queue ≡ true → WaitsAfter ls (slice_set ls i m) l m d → whom (slice_set ls i m) d ≡ None
  free d none was (There s w) = absurd (both_ways (stands d m.queue) none s)
  free d none was (Gone s t w) = ap holder_of w
  free d none was (As_before s t w) = absurd (both_ways (stands d l.queue) t was)

  passed_next : (c d : ℕ) → client_of m.holder ≡ Some d → stands d m.queue ≡ false → stands d l.queue ≡ true → WaitsAfter ls (slice_set ls i m) l m c → Next ls (slice_set ls i m) c
  passed_next c d h none was (There s w) = Another d (ap holder_of w ∙ h) (free d none was (waits_after d))
  passed_next c d h none was (Gone s t w) = Nobody (ap holder_of w)
  passed_next c d h none was (As_before s t w) = Same (ap holder_of w)

  kept : ((c : ℕ) → Next ls (slice_set ls i m) c) → ((c : ℕ) → ComesToAnEnd ls (Some c)) → (c : ℕ) → ComesToAnEnd (slice_set ls i m) (Some c)
  kept next ends c = let e = ends c in ends_kept ls (slice_set ls i m) next e.0 (Some c) e.1

  pub ends_same : m.holder ≡ l.holder → ((c : ℕ) → stands c m.queue ≡ true → stands c l.queue ≡ true) → ((c : ℕ) → ComesToAnEnd ls (Some c)) → (c : ℕ) → ComesToAnEnd (slice_set ls i m) (Some c)
  ends_same h fewer ends c = kept (λ d. same_next d h (fewer d) (waits_after d)) ends c

  pub ends_empty : ((c : ℕ) → stands c m.queue ≡ false) → ((c : ℕ) → ComesToAnEnd ls (Some c)) → (c : ℕ) → ComesToAnEnd (slice_set ls i m) (Some c)
  ends_empty none ends c = kept (λ d. empty_next d (none d) (waits_after d)) ends c

  pub ends_passed : (d : ℕ) → client_of m.holder ≡ Some d → stands d m.queue ≡ false → stands d l.queue ≡ true → ((c : ℕ) → ComesToAnEnd ls (Some c)) → (c : ℕ) → ComesToAnEnd (slice_set ls i m) (Some c)
  ends_passed d h none was ends c = kept (λ e. passed_next e d h none was (waits_after e)) ends c

  -- a lock for which one client more waits
  other_whom : (asker : ℕ) → m.holder ≡ l.holder → ((c : ℕ) → c ≢ asker → stands c m.queue ≡ stands c l.queue) → (c : ℕ) → c ≢ asker → WaitsAfter ls (slice_set ls i m) l m c → whom (slice_set ls i m) c ≡ whom ls c
  other_whom asker h same c n (There s w) = ap holder_of w ∙ ap client_of h ∙ sym (ap holder_of (waits_there ls c i l once at (sym (same c n) ∙ s)))
  other_whom asker h same c n (Gone s t w) = absurd (both_ways (stands c l.queue) (sym (same c n) ∙ s) t)
  other_whom asker h same c n (As_before s t w) = ap holder_of w

  pub ends_joined : (asker d : ℕ) → m.holder ≡ l.holder → client_of l.holder ≡ Some d → stands asker m.queue ≡ true → ((c : ℕ) → c ≢ asker → stands c m.queue ≡ stands c l.queue) → (steps : ℕ) →
      comes_to steps ls asker (client_of l.holder) ≡ false → ((c : ℕ) → ComesToAnEnd ls (Some c)) → (c : ℕ) → ComesToAnEnd (slice_set ls i m) (Some c)
  ends_joined asker d h held stands_there same steps back ends c =
      let ms : List Lock = slice_set ls i m in
      let others : (c : ℕ) → c ≢ asker → whom ms c ≡ whom ls c = λ c n. other_whom asker h same c n (waits_after c) in
      let way = no_way_back ls ms asker others steps (client_of l.holder) back in
      let end : ComesToAnEnd ms (Some d) = subst (λ (x : Option ℕ). ComesToAnEnd ms x) held way in
      let now : whom ms asker ≡ Some d = ap holder_of (waits_there ms asker i m again (get_set_same ls i m l at) stands_there) ∙ ap client_of h ∙ held in
      let e = ends c in
      ends_after ls ms asker others d now end e.0 (Some c) e.1
