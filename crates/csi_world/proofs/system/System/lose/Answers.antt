-- A node that is there or listed is given up.
use Rattle.csi_world.proofs.Words.{◌≡◌, true, false, ◌||◌, is_some, position, sym, ◌∙◌, ap, subst, list_any, IfOk}
use Rattle.csi_world.proofs.Words.{same_text, Occurred, IsWorldAfter}
use Rattle.csi_world.proofs.Lemmas.{false≢true}
use Rattle.csi_world.specs.Public.System.{world_parts}
use Rattle.csi_world.proofs.SystemNodes.{is_shown_node}
use Rattle.csi_world.proofs.SystemChanges.{node-known, lost-known, lost-nowhere}
use Rattle.csi_world.proofs.system.System.lose.Goals.{then-is_some, else-is_some}
use Rattle.csi_world.proofs.system.System.lose.Goals as goal

pub returns-then-is_listed : goal.returns-then-is_listed
returns-then-is_listed c = λ world own shows.
    let is : (is_some (position (is_shown_node c.args.id.now) c.args.self.now.nodes.items) || list_any (same_text c.args.id.now) (c.args.self.now.orchestrator).nodes) ≡ true = elim c.if-is_some.branch [ then-is_some w ↦ let here : is_some (position (is_shown_node c.args.id.now) c.args.self.now.nodes.items) ≡ true = cc in ap (λ b. b || list_any (same_text c.args.id.now) (c.args.self.now.orchestrator).nodes) here | else-is_some w ↦ let here : is_some (position (is_shown_node c.args.id.now) c.args.self.now.nodes.items) ≡ false = cc in let told : list_any (same_text c.args.id.now) (c.args.self.now.orchestrator).nodes ≡ true = cc in ap (λ b. b || list_any (same_text c.args.id.now) (c.args.self.now.orchestrator).nodes) here ∙ told ] in
    subst (λ (o : Occurred). IfOk c.give_up.result (λ outcome. IsWorldAfter (world_parts c.args.self.now) (world_parts c.give_up.new.self) outcome o))
    (sym (lost-known world c.args.id.now (node-known (world_parts c.args.self.now) c.args.id.now world shows ∙ is)))
    (c.give_up.ensures world own shows)

pub returns-else-is_listed : goal.returns-else-is_listed
returns-else-is_listed c = λ world own shows.
    let is : (is_some (position (is_shown_node c.args.id.now) c.args.self.now.nodes.items) || list_any (same_text c.args.id.now) (c.args.self.now.orchestrator).nodes) ≡ false = elim c.if-is_some.branch [ then-is_some w ↦ let wrong : false ≡ true = cc in absurd (false≢true wrong) | else-is_some w ↦ let here : is_some (position (is_shown_node c.args.id.now) c.args.self.now.nodes.items) ≡ false = cc in let told : list_any (same_text c.args.id.now) (c.args.self.now.orchestrator).nodes ≡ false = cc in ap (λ b. b || list_any (same_text c.args.id.now) (c.args.self.now.orchestrator).nodes) here ∙ told ] in
    lost-nowhere (world_parts c.args.self.now) c.args.id.now world own shows (node-known (world_parts c.args.self.now) c.args.id.now world shows ∙ is)
