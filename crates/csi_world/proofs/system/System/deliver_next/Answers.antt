-- One more, until none is to be delivered.
use Rattle.csi_world.proofs.Words.{◌≡◌, ◌+◌, refl, sym, ◌∙◌, subst, arith, after, deliveries, WentOn}
use Rattle.csi_world.specs.Public.System.{world_parts}
use Rattle.csi_world.proofs.SettledEvents.{none-delivered, delivered-all, delivered-more, delivered-twelve, ends-there, goes-there, make-same, make-then}
use Rattle.csi_world.proofs.system.System.deliver_next.Goals as goal

pub loop-count-init : goal.loop-count-init
loop-count-init c = ((λ config events run. none-delivered config events c.args.name.now c.args.first (world_parts c.args.self.now) run), make-same (world_parts c.args.self.now))

pub returns-then-not-goes_on-clause-went : goal.returns-then-not-goes_on-clause-went
returns-then-not-goes_on-clause-went c = λ config events run.
    delivered-all config events c.args.name.now c.args.first c.loop-count.count (world_parts c.loop-count.self)
    (λ world shows. ends-there world c.args.name.now (c.args.first + c.loop-count.count) (sym c.if-not-goes_on.true ∙ c.goes_on.ensures world shows)) ((c.loop-count.invariant).0 config events run)

pub loop-count-preserved : goal.loop-count-preserved
loop-count-preserved c = (
  (λ config events run.
      delivered-more config events c.args.name.now c.args.first c.loop-count.count (c.args.first + c.loop-count.count + 1) (world_parts c.loop-count.self) (world_parts c.bring.new.self) c.loop-count-test.true refl
      (λ world shows. goes-there world c.args.name.now (c.args.first + c.loop-count.count) (sym c.if-not-goes_on.false ∙ c.goes_on.ensures world shows)) (λ world own shows. c.in_ok-bring.ensures.logged world own shows)
      ((c.loop-count.invariant).0 config events run)),
  make-then (world_parts c.args.self.now) (world_parts c.loop-count.self) (world_parts c.bring.new.self) (c.loop-count.invariant).1 c.in_ok-bring.ensures.make,
)

pub returns-then-not-goes_on-clause-make : goal.returns-then-not-goes_on-clause-make
returns-then-not-goes_on-clause-make c = (c.loop-count.invariant).1

pub returns-clause-make : goal.returns-clause-make
returns-clause-make c = (c.loop-count.invariant).1

pub returns-clause-went : goal.returns-clause-went
returns-clause-went c = λ config events run.
    let all : c.loop-count.count ≡ 12 = omega (arith, c.loop-count-test.false, c.loop-count.auto.count-end) in
    subst (λ n. WentOn config events (deliveries 12 (after config events).world c.args.name.now c.args.first) (world_parts c.loop-count.self) n) all
    (delivered-twelve config events c.args.name.now c.args.first c.loop-count.count (world_parts c.loop-count.self) c.loop-count-test.false ((c.loop-count.invariant).0 config events run))
