use Rattle.std.proofs.Common.{List, ℕ, subst}
use Rattle.std.proofs.lemmas.Result.{IfOk-weaker, IfErr-weaker}
use Rattle.csi_embedded.specs.Private.Recovering.{IsMadeOf, IsUnmadeOf, IsOpenedNew, IsNotOpenedNew}
use Rattle.csi_embedded.proofs.MadeOfRecords.{made-of, unopened-of}
use Rattle.csi_embedded.proofs.recovering.of_records.Goals as goal

pub returns-in-Ok-clause-made : goal.returns-in-Ok-clause-made
returns-in-Ok-clause-made c =
    IfOk-weaker c.opened_new.result (IsOpenedNew c.in-Ok.kept c.args.again.items) (IsMadeOf c.args.nodes.items c.args.session c.args.controller.now c.args.given.now) (λ made opened.
    made-of c.args.nodes.items c.args.session c.args.controller.now c.args.given.now c.in-Ok.kept made c.in-Ok.ensures.value c.in-Ok.ensures.may
    (subst (λ (nodes : List (List ℕ)). IsOpenedNew c.in-Ok.kept nodes made) c.requires opened)) c.opened_new.ensures.made

pub returns-in-Ok-clause-refused : goal.returns-in-Ok-clause-refused
returns-in-Ok-clause-refused c =
    IfErr-weaker c.opened_new.result (IsNotOpenedNew c.in-Ok.kept c.args.again.items) (IsUnmadeOf c.args.nodes.items c.args.session c.args.controller.now c.args.given.now c.args.place.now) (λ ending none.
    unopened-of c.args.nodes.items c.args.session c.args.controller.now c.args.given.now c.in-Ok.kept c.args.place.now ending c.ranges.session.fits c.in-Ok.ensures.nodes c.in-Ok.ensures.value
    (subst (λ (nodes : List (List ℕ)). IsNotOpenedNew c.in-Ok.kept nodes ending) c.requires none)) c.opened_new.ensures.refused
