-- The controller's rows keep a record's rules.
use Rattle.csi_world.proofs.Words.{sym, subst, AreRowsApart}
use Rattle.csi_world.proofs.auditing.audit_parts.Goals as goal

pub audit_lists-requires : goal.audit_lists-requires
audit_lists-requires c = subst AreRowsApart (sym c.all_rows.ensures.value) (record { rising = c.all_rows.ensures.sound.rising; names = c.all_rows.ensures.sound.names })
