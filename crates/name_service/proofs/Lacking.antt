-- A reply that a client gets as a lack is one.
use Rattle.std.proofs.Common.{◌≡◌, Bool, true, false, Option, None, Some}
use Rattle.std.specs.Prelude.{◌&&◌, option_map}
use Rattle.std.proofs.lemmas.Bool.{false≢true}
use Rattle.lock_names.specs.declared.replies.Reply.{Reply}
use Rattle.lock_names.specs.declared.replies.Reply.TheVariants as reply
use Rattle.name_service.specs.Naming.{reply_told, is_name_lack}

pub told_lack : (wanting : Bool) (o : Option Reply) → is_name_lack (option_map (reply_told wanting) o) ≡ true → is_name_lack (option_map (reply_told true) o) ≡ true
told_lack wanting None e = e
told_lack true (Some (reply.Lock a)) e = e
told_lack false (Some (reply.Lock a)) e = e
told_lack true (Some reply.Names) e = e
told_lack false (Some reply.Names) e = absurd (false≢true e)

pub is_both : (a b : Bool) → (a && b) ≡ true → b ≡ true
is_both true b e = e
is_both false b e = absurd (false≢true e)
