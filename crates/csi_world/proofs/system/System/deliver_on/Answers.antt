-- One more, until none is to be delivered.
use Rattle.csi_world.proofs.Words.{◌≡◌, ◌+◌, refl, sym, ◌∙◌, subst, arith, delivered_on, CameOn}
use Rattle.csi_world.specs.Public.System.{world_parts}
use Rattle.csi_world.proofs.OnItsWay.{on-first, on-ended, on-more, on-twelve}
use Rattle.csi_world.proofs.SettledEvents.{ends-there, goes-there}
use Rattle.csi_world.proofs.system.System.deliver_on.Goals as goal

pub loop-brought-init : goal.loop-brought-init
loop-brought-init c = λ world own shows. on-first (world_parts c.args.self.now) world c.args.name.now c.args.first own shows

pub returns-then-not-goes_on-clause-came : goal.returns-then-not-goes_on-clause-came
returns-then-not-goes_on-clause-came c = λ world own shows.
    on-ended (world_parts c.args.self.now) (record { world = world; events = 1 }) c.args.name.now c.args.first c.loop-brought.brought (world_parts c.loop-brought.self)
    (λ w s. ends-there w c.args.name.now (c.args.first + c.loop-brought.brought) (sym c.if-not-goes_on.true ∙ c.goes_on.ensures w s)) (c.loop-brought.invariant world own shows)

pub loop-brought-preserved : goal.loop-brought-preserved
loop-brought-preserved c = λ world own shows.
    on-more (world_parts c.args.self.now) (record { world = world; events = 1 }) c.args.name.now c.args.first c.loop-brought.brought (c.args.first + c.loop-brought.brought + 1) _ (world_parts c.loop-brought.self) (world_parts c.deliver.new.self) c.loop-brought-test.true refl
    (λ w s. goes-there w c.args.name.now (c.args.first + c.loop-brought.brought) (sym c.if-not-goes_on.false ∙ c.goes_on.ensures w s)) (λ w o s. c.in_ok-deliver.ensures.does w o s)
    (c.loop-brought.invariant world own shows)

pub returns-clause-came : goal.returns-clause-came
returns-clause-came c = λ world own shows.
    let all : c.loop-brought.brought ≡ 12 = omega (arith, c.loop-brought-test.false, c.loop-brought.auto.brought-end) in
    subst (λ n. CameOn (world_parts c.args.self.now) (world_parts c.loop-brought.self) (delivered_on 12 (record { world = world; events = 1 }) c.args.name.now c.args.first) (n + 1)) all
    (on-twelve (world_parts c.args.self.now) (record { world = world; events = 1 }) c.args.name.now c.args.first c.loop-brought.brought (world_parts c.loop-brought.self) c.loop-brought-test.false (c.loop-brought.invariant world own shows))
