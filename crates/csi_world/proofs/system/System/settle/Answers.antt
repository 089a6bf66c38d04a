-- A timeout, and what is delivered then.
use Rattle.std.proofs.Common.{◌≡◌, length, rules, sym, ◌∙◌}
use Rattle.csi_world.specs.Public.System.{world_parts}
use Rattle.csi_world.proofs.SettledEvents.{all-settled, make-then}
use Rattle.csi_world.proofs.system.System.settle.Goals as goal

pub returns-clause-went : goal.returns-clause-went
returns-clause-went c = λ config events run.
    let sent : c.len-first.result ≡ length c.args.self.now.frames.items = search rules in
    all-settled config events c.args.name.now c.len-first.result c.in_ok-count.count (world_parts c.args.self.now) (world_parts c.time_out.new.self) (world_parts c.deliver_next.new.self)
    (λ history agrees. sym c.if-not-is_wanted.false ∙ c.is_wanted.ensures history agrees) sent (λ world own shows. c.in_ok-time_out.ensures.logged world own shows)
    (λ more began. c.in_ok-count.ensures.went config more began) run

pub returns-clause-make : goal.returns-clause-make
returns-clause-make c = make-then (world_parts c.args.self.now) (world_parts c.time_out.new.self) (world_parts c.deliver_next.new.self) c.in_ok-time_out.ensures.make c.in_ok-count.ensures.make
