-- The node answers where it stands.
use Rattle.std.proofs.Common.{refl, sym, ◌∙◌}
use Rattle.std.proofs.lemmas.Result.{IfOk-weaker}
use Rattle.csi_world.specs.Public.System.{world_parts}
use Rattle.csi_node.proofs.ChangedRows.{on_ok_holds}
use Rattle.csi_world.proofs.SettledEvents.{same-ids}
use Rattle.csi_world.proofs.SystemCalls.{node-becomes, nowhere-becomes}
use Rattle.csi_world.proofs.system.System.call.Goals as goal

pub returns-in-Some-clause-does : goal.returns-in-Some-clause-does
returns-in-Some-clause-does c = λ world own shows.
    IfOk-weaker c.step_node.result _ _
    (λ outcome replies. node-becomes (world_parts c.args.self.now) c.in-Node.id c.in-Some.place c.index_mut.result.now c.step_node.new.node c.step_node.new.frames.items c.args.frame.now replies.reply outcome world own shows
    (sym c.party.ensures ∙ c.in-Node.is) (cc) c.index_mut.ensures.value replies.does replies.posts)
    c.step_node.ensures.replies

pub returns-in-None-clause-does : goal.returns-in-None-clause-does
returns-in-None-clause-does c = λ world own shows. nowhere-becomes (world_parts c.args.self.now) c.in-Node.id c.args.frame.now world own shows (sym c.party.ensures ∙ c.in-Node.is) (cc)

pub returns-in-Some-clause-make : goal.returns-in-Some-clause-make
returns-in-Some-clause-make c =
    on_ok_holds c.step_node.result
    (record { config = refl; ids = same-ids c.args.self.now.nodes.items c.in-Some.place c.index_mut.result.now c.step_node.new.node c.index_mut.ensures.value c.step_node.ensures.id })
