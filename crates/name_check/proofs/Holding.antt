-- The holds of a name are one after the other.
use Rattle.std.proofs.Common.{◌≡◌, ℕ, zero, suc, ◌+◌, ◌-◌, ◌<◌, ◌≤◌, Bool, true, false, List, [], ◌∷◌, ◌++◌, length, Option, None, Some, ◌⊎◌, inl, inr, refl, sym, ◌∙◌, ap, subst, arith}
use Rattle.std.specs.Prelude.{if◌then◌else◌, slice_get, slice_set}
use Rattle.std.specs.List.{cons_option}
use Rattle.std.specs.Str.{bytes_eq}
use Rattle.std.proofs.lemmas.Bool.{cases_Bool, both_ways, eq-eqb, false≢true}
use Rattle.std.proofs.lemmas.Option.{slice_get_within}
use Rattle.name_bindings.proofs.Places.{get_set, get_set_same, get_set_other}
use Rattle.name_bindings.specs.Bindings.{Bound, token_in, frees}
use Rattle.name_bindings.proofs.Found.{same_name, own_name, some_same, none_some, unlike, there_is}
use Rattle.name_check.specs.declared.lines.Ring.{Ring}
use Rattle.name_check.specs.declared.lines.Due.{Due}
use Rattle.name_check.specs.declared.lines.Due.TheVariants as due
use Rattle.name_check.specs.Entries.{Entry, Top, Bind, Free, Grant, Repair, End, Other, File, Judged, fresh_rings, is_held}
use Rattle.name_check.specs.Judged.{refused_bind, refused_free, refused_grant, refused_repair, refused_end, refusal, passed, repaired, ended, closed, noted}
use Rattle.name_check.specs.Kept.{is_between, IsSoundRing, IsSoundDue, IsSound}
use Rattle.name_check.specs.Laws.{Sign, Begins, Ends, bound_to, begins, ends, sign_of, signs_of, AreHolds, IsNow, JudgedAreNamed, SoundStays}
use Rattle.name_check.proofs.Refusing.{no_ring, free_due, end_due, MayBeGranted, IsBound, IsHanded, IsFixed, grant_due, file_due, IsNew, MayBeBound, New, Again, Trusted}
use Rattle.name_check.proofs.Sounding.{name_at, may_bind, sound_free, sound_stays, set_same, joined, named_before}

-- ---- a binding

now_new : (x : List ℕ) (low : ℕ) (busy : Bool) (s : Judged) (r : ℕ) (b : Bound) (g : Ring) (d : Due) → IsSound false s → slice_get s.rings r ≡ Some g → IsNew s r b g → slice_get s.names r ≡ Some None →
    IsNow x low busy s → IsNow x low busy (record { rings = s.rings; names = slice_set s.names r (Some b); fixed = s.fixed; top = s.top; due = d })
now_new x low busy s r b g d h there n entry w = record {
  top = w.top;
  each = λ i k e f p same. elim (get_set s.names r i (Some b) None (Some e) entry p) [
    | inl q ↦
        let is : e ≡ b = some_same e b q.1 in
        let own : b.name ≡ x = ap (λ (z : Bound). z.name) (sym is) ∙ same in
        let ring : k ≡ g = some_same k g (sym f ∙ ap (λ (z : ℕ). slice_get s.rings z) q.0 ∙ there) in
        let low_top : low ≤ s.top = w.top in
        let before : b.before ≡ g.grants = n.before in
        let floor : b.floor ≡ s.top = n.floor in
        let token : low ≤ token_in b g.grants = omega arith in (
          subst (λ (z : Bound). low ≤ token_in z k.grants) (sym is) (subst (λ (z : Ring). low ≤ token_in b z.grants) (sym ring) token),
          ap (λ (z : Ring). is_held z) ring ∙ n.idle ∙ sym (w.none (λ j t u v. unlike b.name s.names j t n.nobody u (v ∙ sym own))),
        )
    | inr q ↦ w.each i k e f q.1 same
  ];
  none = λ nobody. w.none (λ j t u v. nobody j t (get_set_other_some j t u) v);
}
  where
    get_set_other_some : (j : ℕ) (t : Bound) → slice_get s.names j ≡ Some (Some t) → slice_get (slice_set s.names r (Some b)) j ≡ Some (Some t)
    get_set_other_some j t u = get_set_other s.names r j (Some b) (λ at. none_some t (some_same None (Some t) (sym entry ∙ ap (λ (z : ℕ). slice_get s.names z) (sym at) ∙ u))) ∙ u

now_bound : (x : List ℕ) (low : ℕ) (busy : Bool) (s : Judged) (r : ℕ) (b : Bound) (g : Ring) → IsSound false s → slice_get s.rings r ≡ Some g → MayBeBound s r b g → IsNow x low busy s → IsNow x low busy (noted s (Bind r b))
now_bound x low busy s r b g h there (New n) w =
    let o = name_at false s r g h there in
    now_new x low busy s r b g (noted s (Bind r b)).due h there n (free_entry o.0 o.1) w
  where
    free_entry : (o : Option Bound) → slice_get s.names r ≡ Some o → slice_get s.names r ≡ Some None
    free_entry None e = e
    free_entry (Some k) e = absurd (false≢true ((subst (λ (z : Due). IsSoundRing false s.fixed s.top z r g (Some k)) n.nothing (h.each r g (Some k) there e)).2 n.pool n.idle))
now_bound x low busy s r b g h there (Again d entry) w = record {
  top = w.top;
  each = λ i k e f p same. w.each i k e f (subst (λ (os : List (Option Bound)). slice_get os i ≡ Some (Some e)) (set_same s.names r (Some b) entry) p) same;
  none = λ nobody. w.none (λ j t u v. nobody j t (subst (λ (os : List (Option Bound)). slice_get os j ≡ Some (Some t)) (sym (set_same s.names r (Some b) entry)) u) v);
}
now_bound x low busy s r b g h there (Trusted d entry t) w = absurd (false≢true ((h.each r g None there entry).1 held).0)
  where
    by : ((k : Ring) → slice_get s.rings r ≡ Some k → is_held k ≡ true) → is_held g ≡ true
    by f = f g there

    held : is_held g ≡ true
    held = by (subst (λ (z : Due). IsSoundDue s.fixed s.rings z) d h.next)

-- ---- a name that is forgotten

was_idle : (s : Judged) (r : ℕ) (g : Ring) (b : Bound) → IsSound false s → s.due ≡ due.Handed r → slice_get s.rings r ≡ Some g → slice_get s.names r ≡ Some (Some b) → is_held g ≡ false
was_idle s r g b h d there entry = by (subst (λ (z : Due). IsSoundRing false s.fixed s.top z r g (Some b)) d (h.each r g (Some b) there entry))
  where
    by : IsSoundRing false s.fixed s.top (due.Handed r) r g (Some b) → is_held g ≡ false
    by w = w.1 (eq-eqb r r refl)

-- another ring has this name
not_there : (os : List (Option Bound)) (r j : ℕ) (o : Option Bound) (t : Bound) → slice_get os r ≡ Some o → slice_get os j ≡ Some (Some t) → (o ≡ Some t → ⊥) → slice_get (slice_set os r None) j ≡ Some (Some t)
not_there os r j o t e u n = get_set_other os r j None (λ at. n (some_same o (Some t) (sym e ∙ ap (λ (z : ℕ). slice_get os z) (sym at) ∙ u))) ∙ u

free_none : (x : List ℕ) (low : ℕ) (busy : Bool) (s : Judged) (r : ℕ) (g : Ring) (o : Option Bound) → IsSound false s → s.due ≡ due.Handed r → slice_get s.rings r ≡ Some g → slice_get s.names r ≡ Some o → IsNow x low busy s →
    ((i : ℕ) (b : Bound) → slice_get (slice_set s.names r None) i ≡ Some (Some b) → b.name ≡ x → ⊥) → busy ≡ false
free_none x low busy s r g None h d there e w nobody = w.none (λ j t u v. nobody j t (not_there s.names r j None t e u (λ q. none_some t q)) v)
free_none x low busy s r g (Some b) h d there e w nobody = elim (cases_Bool (bytes_eq b.name x)) [
  | inl q ↦ sym (w.each r g b there e (same_name b.name x q)).1 ∙ was_idle s r g b h d there e
  | inr q ↦ w.none (λ j t u v. nobody j t (not_there s.names r j (Some b) t e u (λ k. both_ways (bytes_eq b.name x) q (own_name b.name x (ap (λ (z : Bound). z.name) (some_same b t k) ∙ v)))) v)
]

now_free : (x : List ℕ) (low : ℕ) (busy : Bool) (s : Judged) (r : ℕ) (g : Ring) (d : Due) → IsSound false s → s.due ≡ due.Handed r → slice_get s.rings r ≡ Some g → IsNow x low busy s →
    IsNow x low busy (record { rings = s.rings; names = slice_set s.names r None; fixed = s.fixed; top = s.top; due = d })
now_free x low busy s r g d h handed there w =
    let o = name_at false s r g h there in
    record {
      top = w.top;
      each = λ i k t f p same. elim (get_set s.names r i None o.0 (Some t) o.1 p) [
        | inl q ↦ absurd (none_some t (sym q.1))
        | inr q ↦ w.each i k t f q.1 same
      ];
      none = λ nobody. free_none x low busy s r g o.0 h handed there o.1 w nobody;
    }

-- ---- a ring that changes

abbrev with_ring : Judged → ℕ → Ring → ℕ → Due → Judged
with_ring s r k top d = record { rings = slice_set s.rings r k; names = s.names; fixed = s.fixed; top = top; due = d }

-- a ring of another name, or one that is held as before
now_other : (x : List ℕ) (low : ℕ) (busy : Bool) (s : Judged) (r : ℕ) (g k : Ring) (top : ℕ) (d : Due) → slice_get s.rings r ≡ Some g → s.top ≤ top → IsNow x low busy s →
    ((b : Bound) → slice_get s.names r ≡ Some (Some b) → b.name ≡ x → (low ≤ token_in b k.grants) × (is_held k ≡ busy)) → IsNow x low busy (with_ring s r k top d)
now_other x low busy s r g k top d there more w own = record {
  top = let le : low ≤ s.top = w.top in omega arith;
  each = λ i y b f p same. elim (get_set s.rings r i k g y there f) [
    | inl q ↦
        subst (λ (z : Ring). (low ≤ token_in b z.grants) × (is_held z ≡ busy)) (sym q.1)
        (own b (subst (λ (z : ℕ). slice_get s.names z ≡ Some (Some b)) q.0 p) same)
    | inr q ↦ w.each i y b q.1 p same
  ];
  none = λ nobody. w.none nobody;
}

-- the ring of the name, where the hold begins or ends
now_own : (x : List ℕ) (low high : ℕ) (busy next : Bool) (s : Judged) (r : ℕ) (g k : Ring) (b : Bound) (top : ℕ) (d : Due) → IsSound false s → slice_get s.rings r ≡ Some g → slice_get s.names r ≡ Some (Some b) → b.name ≡ x →
    high ≤ top → high ≤ token_in b k.grants → is_held k ≡ next → IsNow x high next (with_ring s r k top d)
now_own x low high busy next s r g k b top d h there entry same le token held = record {
  top = le;
  each = λ i y e f p own.
      let at : i ≡ r = h.once i r e b p entry (own ∙ sym same) in
      let bound : b ≡ e = some_same b e (some_same (Some b) (Some e) (sym entry ∙ ap (λ (z : ℕ). slice_get s.names z) (sym at) ∙ p)) in
      let ring : k ≡ y = some_same k y (sym (get_set_same s.rings r k g there) ∙ ap (λ (z : ℕ). slice_get (slice_set s.rings r k) z) (sym at) ∙ f) in
      subst (λ (z : Ring). (high ≤ token_in e z.grants) × (is_held z ≡ next)) ring (subst (λ (z : Bound). high ≤ token_in z k.grants) bound token, held);
  none = λ nobody. absurd (nobody r b entry same);
}

-- ---- one line

-- what a line does to a name
abbrev Goes : List ℕ → ℕ → Bool → Judged → Option Sign → Type 0
Goes x low busy t None = IsNow x low busy t
Goes x low busy t (Some (Begins token)) = (busy ≡ false) × (low < token) × IsNow x token true t
Goes x low busy t (Some Ends) = (busy ≡ true) × IsNow x low false t

-- a ring that may be granted is not held
idle : (s : Judged) (r : ℕ) (g : Ring) (b : Bound) → IsSound false s → slice_get s.rings r ≡ Some g → slice_get s.names r ≡ Some (Some b) → MayBeGranted s.due s.fixed r g → is_held g ≡ false
idle s r g b h there entry (IsBound e) = (h.each r g (Some b) there entry).1 (ap (λ (d : Due). is_between d r) e ∙ eq-eqb r r refl)
idle s r g b h there entry (IsHanded e) = (h.each r g (Some b) there entry).1 (ap (λ (d : Due). is_between d r) e ∙ eq-eqb r r refl)
idle s r g b h there entry (IsFixed e unheld lt) = unheld

-- a name, and whether it is this one
bound_is : (x : List ℕ) (b : Bound) (q : Bool) → bytes_eq x b.name ≡ q → bound_to x (Some (Some b)) ≡ (if q then Some b else None)
bound_is x b q e = ap (λ (z : Bool). if z then Some b else None) e

abbrev granted_ring : Ring → Ring
granted_ring g = record { grants = g.grants + 1; held = Some (g.grants + 1) }

abbrev freed_ring : Ring → Ring
freed_ring g = record { grants = g.grants; held = None }

grant_goes : (x : List ℕ) (low : ℕ) (busy : Bool) (s : Judged) (r : ℕ) (g : Ring) (o : Option Bound) → IsSound false s → slice_get s.rings r ≡ Some g → slice_get s.names r ≡ Some o → MayBeGranted s.due s.fixed r g → IsNow x low busy s →
    Goes x low busy (with_ring s r (record { grants = g.grants + 1; held = Some (g.grants + 1) }) (s.top + 1) due.Nothing) (begins (bound_to x (Some o)) (Some g))
grant_goes x low busy s r g None h there entry m w =
    now_other x low busy s r g (record { grants = g.grants + 1; held = Some (g.grants + 1) }) (s.top + 1) due.Nothing there (omega arith) w (λ b p same. absurd (none_some b (some_same None (Some b) (sym entry ∙ p))))
grant_goes x low busy s r g (Some b) h there entry m w = by (bytes_eq x b.name) refl
  where
    by : (q : Bool) → bytes_eq x b.name ≡ q → Goes x low busy (with_ring s r (granted_ring g) (s.top + 1) due.Nothing) (begins (if q then Some b else None) (Some g))
    by true q =
        let same : b.name ≡ x = sym (same_name x b.name q) in
        let now = w.each r g b there entry same in
        let within = (h.each r g (Some b) there entry).0 in
        let before : b.before ≤ g.grants = within.before in
        let token : b.floor + (g.grants - b.before) ≤ s.top = within.token in
        let low_now : low ≤ b.floor + (g.grants - b.before) = now.0 in
        let le : b.floor + ((g.grants + 1) - b.before) ≤ s.top + 1 = omega arith in
        let lt : low < b.floor + ((g.grants + 1) - b.before) = omega arith in (
          sym now.1 ∙ idle s r g b h there entry m,
          lt,
          now_own x low (token_in b (g.grants + 1)) busy true s r g (granted_ring g) b (s.top + 1) due.Nothing h there entry same le (omega arith) refl,
        )
    by false q =
        now_other x low busy s r g (granted_ring g) (s.top + 1) due.Nothing there (omega arith) w
        (λ e p same. absurd (both_ways (bytes_eq x b.name) q (own_name x b.name (sym (ap (λ (z : Bound). z.name) (some_same b e (some_same (Some b) (Some e) (sym entry ∙ p))) ∙ same)))))

end_goes : (x : List ℕ) (low : ℕ) (busy : Bool) (s : Judged) (r : ℕ) (g : Ring) (o : Option Bound) (d : Due) → IsSound false s → slice_get s.rings r ≡ Some g → slice_get s.names r ≡ Some o → is_held g ≡ true → IsNow x low busy s →
    Goes x low busy (with_ring s r (record { grants = g.grants; held = None }) s.top d) (ends (bound_to x (Some o)))
end_goes x low busy s r g None d h there entry held w =
    now_other x low busy s r g (record { grants = g.grants; held = None }) s.top d there (omega arith) w (λ b p same. absurd (none_some b (some_same None (Some b) (sym entry ∙ p))))
end_goes x low busy s r g (Some b) d h there entry held w = by (bytes_eq x b.name) refl
  where
    by : (q : Bool) → bytes_eq x b.name ≡ q → Goes x low busy (with_ring s r (freed_ring g) s.top d) (ends (if q then Some b else None))
    by true q =
        let same : b.name ≡ x = sym (same_name x b.name q) in
        let now = w.each r g b there entry same in
        (sym now.1 ∙ held, now_own x low low busy false s r g (freed_ring g) b s.top d h there entry same w.top now.0 refl)
    by false q =
        now_other x low busy s r g (freed_ring g) s.top d there (omega arith) w
        (λ e p same. absurd (both_ways (bytes_eq x b.name) q (own_name x b.name (sym (ap (λ (z : Bound). z.name) (some_same b e (some_same (Some b) (Some e) (sym entry ∙ p))) ∙ same)))))

repair_now : (x : List ℕ) (low : ℕ) (busy : Bool) (s : Judged) (r : ℕ) (g : Ring) (d : Due) → IsSound false s → slice_get s.rings r ≡ Some g → IsNow x low busy s → IsNow x low busy (with_ring s r (record { grants = g.grants + 1; held = g.held }) (s.top + 1) d)
repair_now x low busy s r g d h there w =
    now_other x low busy s r g (record { grants = g.grants + 1; held = g.held }) (s.top + 1) d there (omega arith) w
    (λ b p same.
    let now = w.each r g b there p same in
    let le : low ≤ b.floor + (g.grants - b.before) = now.0 in
    (omega arith, now.1))

-- ---- the next file

grown_now : (x : List ℕ) (low : ℕ) (busy : Bool) (s : Judged) (n : ℕ) (d : Due) → IsSound false s → IsNow x low busy s →
    IsNow x low busy (record { rings = s.rings ++ fresh_rings n; names = s.names ++ frees n; fixed = s.fixed; top = s.top; due = d })
grown_now x low busy s n d h w = record {
  top = w.top;
  each = λ i g b e p same. elim (joined s.rings (fresh_rings n) i g e) [
    | inl q ↦ w.each i g b q (named_before s.names n i b p) same
    | inr q ↦
        let lt : i < length s.names = slice_get_within s.names i (Some b) (named_before s.names n i b p) in
        let many : length s.names ≡ length s.rings = h.many in
        let at : i ≡ length s.rings + q.0 = q.1 in
        absurd (omega arith)
  ];
  none = λ nobody. w.none (λ i b p same. nobody i b (before s.names i (Some b) p) same);
}
  where
    before : (os : List (Option Bound)) (i : ℕ) (o : Option Bound) → slice_get os i ≡ Some o → slice_get (os ++ frees n) i ≡ Some o
    before [] i o e = absurd (none_some o e)
    before (y ∷ os) zero o e = e
    before (y ∷ os) (suc i) o e = before os i o e

file_now : (x : List ℕ) (low : ℕ) (busy : Bool) (s : Judged) (n : ℕ) → IsSound false s → (s.due ≡ due.Nothing) ⊎ ((q : ℕ) × (s.due ≡ due.Handed q)) → IsNow x low busy s → IsNow x low busy (noted s (File n))
file_now x low busy s n h (inl d) w =
    subst (λ (z : Due). IsNow x low busy (record { rings = s.rings ++ fresh_rings (n - length s.rings); names = closed z s.names ++ frees (n - length s.rings); fixed = s.fixed; top = s.top; due = due.Top })) (sym d)
    (grown_now x low busy s (n - length s.rings) due.Top h w)
file_now x low busy s n h (inr (q, d)) w =
    let places : (s.fixed ≤ q) × (q < length s.rings) = subst (λ (z : Due). IsSoundDue s.fixed s.rings z) d h.next in
    let g = there_is s.rings q places.1 in
    subst (λ (z : Due). IsNow x low busy (record { rings = s.rings ++ fresh_rings (n - length s.rings); names = closed z s.names ++ frees (n - length s.rings); fixed = s.fixed; top = s.top; due = due.Top })) (sym d)
    (grown_now x low busy (noted s (Free q)) (n - length s.rings) due.Top (sound_free false s q g.0 h d g.1) (now_free x low busy s q g.0 due.Nothing h d g.1 w))

-- ---- all lines

goes : (x : List ℕ) (low : ℕ) (busy : Bool) (s : Judged) (e : Entry) → IsSound false s → refusal s e ≡ None → IsNow x low busy s → Goes x low busy (noted s e) (sign_of x s e)
goes x low busy s (Top n) h e w = record { top = w.top; each = w.each; none = w.none }
goes x low busy s (Bind r b) h e w =
    let v = no_ring (refused_bind s.due s r b) (slice_get s.rings r) e in
    now_bound x low busy s r b v.0 h v.1 (may_bind false s r b v.0 h v.1 v.2) w
goes x low busy s (Free r) h e w =
    let v = no_ring (λ (g : Ring). refused_free s.due r) (slice_get s.rings r) e in
    now_free x low busy s r v.0 due.Nothing h (free_due s.due r v.2) v.1 w
goes x low busy s (Grant r) h e w =
    let v = no_ring (refused_grant s.due s.fixed s.top r) (slice_get s.rings r) e in
    let o = name_at false s r v.0 h v.1 in
    subst (λ (z : Option Ring). Goes x low busy (record { rings = passed z r s.rings; names = s.names; fixed = s.fixed; top = s.top + 1; due = due.Nothing }) (begins (bound_to x (slice_get s.names r)) z)) (sym v.1)
    (subst (λ (z : Option (Option Bound)). Goes x low busy (with_ring s r (record { grants = v.0.grants + 1; held = Some (v.0.grants + 1) }) (s.top + 1) due.Nothing) (begins (bound_to x z) (Some v.0))) (sym o.1)
    (grant_goes x low busy s r v.0 o.0 h v.1 o.1 (grant_due s.due s.fixed s.top r v.0 v.2).0 w))
goes x low busy s (Repair r) h e w =
    let v = no_ring (λ (g : Ring). refused_repair s.due s.top) (slice_get s.rings r) e in
    subst (λ (z : Option Ring). IsNow x low busy (record { rings = repaired z r s.rings; names = s.names; fixed = s.fixed; top = s.top + 1; due = s.due })) (sym v.1)
    (repair_now x low busy s r v.0 s.due h v.1 w)
goes x low busy s (End r) h e w =
    let v = no_ring (refused_end s.due) (slice_get s.rings r) e in
    let o = name_at false s r v.0 h v.1 in
    let d = noted s (End r) in
    subst (λ (z : Option Ring). Goes x low busy (record { rings = ended z r s.rings; names = s.names; fixed = s.fixed; top = s.top; due = d.due }) (ends (bound_to x (slice_get s.names r)))) (sym v.1)
    (subst (λ (z : Option (Option Bound)). Goes x low busy (with_ring s r (record { grants = v.0.grants; held = None }) s.top d.due) (ends (bound_to x z))) (sym o.1)
    (end_goes x low busy s r v.0 o.0 d.due h v.1 o.1 (end_due s.due v.0 v.2).1 w))
goes x low busy s Other h e w = w
goes x low busy s (File n) h e w = file_now x low busy s n h (file_due s.due (length s.rings) n e).0 w

holds_by : (x : List ℕ) (low : ℕ) (busy : Bool) (t : Judged) (signs : List Sign) (o : Option Sign) → Goes x low busy t o → ((high : ℕ) (next : Bool) → IsNow x high next t → AreHolds high next signs) → AreHolds low busy (cons_option o signs)
holds_by x low busy t signs None g rest = rest low busy g
holds_by x low busy t signs (Some (Begins token)) g rest = (g.0, g.1, rest token true g.2)
holds_by x low busy t signs (Some Ends) g rest = (g.0, rest low false g.1)

pub judged_are_named : JudgedAreNamed
judged_are_named x low busy s [] h w r = tt
judged_are_named x low busy s (e ∷ es) h w r =
    holds_by x low busy (noted s e) (signs_of x (noted s e) es) (sign_of x s e) (goes x low busy s e h r.0 w)
    (λ high next v. judged_are_named x high next (noted s e) es (sound_stays false s e h r.0) v r.1)

pub stays_sound : SoundStays
stays_sound trust s [] h r = h
stays_sound trust s (e ∷ es) h r = stays_sound trust (noted s e) es (sound_stays trust s e h r.0) r.1
