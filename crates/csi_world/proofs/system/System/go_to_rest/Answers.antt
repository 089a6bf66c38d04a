-- A timeout, and what is delivered then.
use Rattle.std.proofs.Common.{◌≡◌, length, rules, sym, ◌∙◌}
use Rattle.csi_world.specs.Public.System.{world_parts}
use Rattle.csi_world.proofs.OnItsWay.{nothing-on, all-went}
use Rattle.csi_world.proofs.system.System.go_to_rest.Goals as goal

pub returns-then-not-is_wanted-clause-came : goal.returns-then-not-is_wanted-clause-came
returns-then-not-is_wanted-clause-came c = λ world own shows.
    nothing-on (world_parts c.args.self.now) world c.args.name.now (λ history agrees. sym c.if-not-is_wanted.true ∙ c.is_wanted.ensures history agrees) own shows

pub returns-clause-came : goal.returns-clause-came
returns-clause-came c = λ world own shows.
    let sent : c.len-first.result ≡ length c.args.self.now.frames.items = search rules in
    all-went (world_parts c.args.self.now) (world_parts c.outcome_of_timeout.new.self) (world_parts c.deliver_on.new.self) world c.args.name.now c.len-first.result c.in_ok-brought.brought _
    (λ history agrees. sym c.if-not-is_wanted.false ∙ c.is_wanted.ensures history agrees) sent shows (c.in_ok-outcome_of_timeout.ensures.does world own shows)
    (λ timed o s. c.in_ok-brought.ensures.came timed o s)
