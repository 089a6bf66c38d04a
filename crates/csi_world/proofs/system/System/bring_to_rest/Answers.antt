-- By whether something is wanted then.
use Rattle.csi_world.proofs.Words.{sym, ◌∙◌, settling_way}
use Rattle.csi_world.specs.Public.System.{world_parts}
use Rattle.csi_world.proofs.OnItsWay.{told-wanted, told-at-rest}
use Rattle.csi_world.proofs.system.System.bring_to_rest.Goals as goal

pub returns-then-is_wanted : goal.returns-then-is_wanted
returns-then-is_wanted c = λ world own shows.
    told-wanted (world_parts c.args.self.now) (world_parts c.go_to_rest.new.self) (settling_way world c.args.name.now) c.args.name.now c.in_ok-count.count
    (λ history agrees. sym c.if-is_wanted.true ∙ c.is_wanted.ensures history agrees) (c.in_ok-count.ensures.came world own shows)

pub returns-else-is_wanted : goal.returns-else-is_wanted
returns-else-is_wanted c = λ world own shows.
    told-at-rest (world_parts c.args.self.now) (world_parts c.go_to_rest.new.self) (settling_way world c.args.name.now) c.args.name.now c.in_ok-count.count
    (λ history agrees. sym c.if-is_wanted.false ∙ c.is_wanted.ensures history agrees) (c.in_ok-count.ensures.came world own shows)
