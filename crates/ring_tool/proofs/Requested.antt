-- From what a command promises to what is said of its request.
use Rattle.std.proofs.Common.{◌≢◌, Result, Ok, Err}
use Rattle.std.specs.Prelude.{OnOk, IfErr}

-- the answer of a command that is not given standard input, whatever that has left
pub told : {A E : Type 0} (r : Result (Unit {0}) E) (P : A → A → Type 0) (x y : A) → OnOk r ((x y : A) → P x y) → OnOk r (P x y)
told (Ok u) P x y h = h x y
told (Err e) P x y h = tt

pub refused : {A E : Type 0} (r : Result (Unit {0}) E) (P : E → A → A → Type 0) (x y : A) → IfErr r (λ e. (x y : A) → P e x y) → IfErr r (λ e. P e x y)
refused (Ok u) P x y h = tt
refused (Err e) P x y h = h x y

-- with a fact that holds anyhow
pub told_with : {E : Type 0} (r : Result (Unit {0}) E) (P Q : Type 0) → Q → OnOk r P → OnOk r (P × Q)
told_with (Ok u) P Q q h = (h, q)
told_with (Err e) P Q q h = tt

pub refused_with : {E : Type 0} (r : Result (Unit {0}) E) (P : E → Type 0) (Q : Type 0) → Q → IfErr r P → IfErr r (λ e. P e × Q)
refused_with (Ok u) P Q q h = tt
refused_with (Err e) P Q q h = (h, q)

pub kept_anyhow : {E : Type 0} (r : Result (Unit {0}) E) (e : E) (Q : Type 0) → Q → IfErr r (λ x. x ≢ e → Q)
kept_anyhow (Ok u) e Q q = tt
kept_anyhow (Err x) e Q q = λ _. q
