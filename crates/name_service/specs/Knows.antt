-- What is known of files stays known: no line changes any.
use Rattle.std.proofs.Common.{Option, subst, sym}
use Rattle.std.specs.Prelude.{IsSome}
use Rattle.disks.specs.Held.{Held}
use Rattle.line_service.specs.Segmenting.{KeepsKnown}
use Rattle.name_service.specs.Serving.{IsNameServed}

pub knows : KeepsKnown IsNameServed
knows old new was is line said noted a some = subst (λ (f : Option Held). IsSome f) (sym a.files) some
