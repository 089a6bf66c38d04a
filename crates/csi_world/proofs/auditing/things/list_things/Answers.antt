-- What is listed is what holds.
use Rattle.csi_world.proofs.Words.{List, sym, subst, Thing, IsAmong, Lists}
use Rattle.std.proofs.lemmas.Result.{IfOk-weaker}
use Rattle.csi_world.proofs.ThingsHeld.{listed-then-holds, holds-then-listed}
use Rattle.csi_world.proofs.auditing.things.list_things.Goals as goal

pub returns : goal.returns
returns c world is =
    let lists : Lists = record { rows = c.args.rows.now; nodes = c.args.nodes.now } in
    IfOk-weaker c.gathered.result _ _
    (λ things same thing. (
      λ among. listed-then-holds lists world is c.requires thing (subst (λ (l : List Thing). IsAmong thing l) same among),
      λ h. subst (λ (l : List Thing). IsAmong thing l) (sym same) (holds-then-listed lists world is c.requires thing h),
    ))
    c.gathered.ensures
