-- Nothing, or its volume.
use Rattle.std.proofs.Common.{◌∙◌, sym, ap, map}
use Rattle.std.proofs.lemmas.List.{map_push}
use Rattle.csi_types.proofs.Options.{none-where}
use Rattle.csi_orchestrator.specs.Public.Shown.{row_shown}
use Rattle.csi_recovery.specs.Public.Rebuilding.{made_shown}
use Rattle.csi_recovery.proofs.RebuiltStates.{bare-none, gone-none, there-some}
use Rattle.csi_recovery.proofs.rebuilding.add_volume.Goals as goal

pub returns-in_default : goal.returns-in_default
returns-in_default c = let row = row_shown c.args.row.now in bare-none _ row (none-where row.id c.in_default.not-Some)

pub returns-then-not-may_be : goal.returns-then-not-may_be
returns-then-not-may_be c = gone-none _ (row_shown c.args.row.now) c.in-Some.id c.in-Some.is (sym c.may_be.ensures ∙ c.if-not-may_be.true)

pub returns : goal.returns
returns c =
    let one = c.in_ok-one.one in
    there-some _ _ (row_shown c.args.row.now) c.in-Some.id (made_shown one) c.in-Some.is (sym c.may_be.ensures ∙ c.if-not-may_be.false) (ap (map made_shown) c.in_ok-push.ensures.items ∙ map_push made_shown _ one)
    (λ i. (c.in_ok-one.ensures.volume i, c.in_ok-one.ensures.holdings i))
