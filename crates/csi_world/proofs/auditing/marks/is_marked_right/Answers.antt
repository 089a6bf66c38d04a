-- By both lists.
use Rattle.csi_world.proofs.Words.{Bool, ◌&&◌, ◌∙◌, list_all, is_affirmed, is_noted}
use Rattle.std.proofs.lemmas.Result.{IfOk-weaker}
use Rattle.csi_orchestrator.specs.Model.Shown.{orchestrator_view}
use Rattle.csi_world.proofs.MarksTold.{marked-told}
use Rattle.csi_world.proofs.auditing.marks.is_marked_right.Goals as goal

pub returns : goal.returns
returns c world is =
    let things = c.deref.ensures.value in
    let noted = c.deref-2.ensures.value in
    IfOk-weaker c.are_right.result _ _
    (λ (right : Bool) told.
    marked-told (orchestrator_view c.args.orchestrator.now).marks world c.in_ok-things.things.items c.in-Ok.noted.items (c.in_ok-things.ensures world is) c.in-Ok.ensures.marks right
    (told ∙ (λ i. list_all (is_affirmed (things i)) (noted i) && list_all (is_noted (noted i)) (things i))))
    c.are_right.ensures
