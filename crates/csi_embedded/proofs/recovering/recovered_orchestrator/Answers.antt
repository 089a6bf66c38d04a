use Rattle.std.proofs.Common.{List, refl, subst, rules}
use Rattle.csi_node.specs.Model.Record.{NodeParts}
use Rattle.csi_embedded.specs.Public.Recovering.{had_by}
use Rattle.csi_embedded.specs.Private.Recovering.{IsMadeOf, IsUnmadeOf}
use Rattle.csi_embedded.proofs.MadeOfRecords.{recovered-of, not-recovered-of, no-controller-recovered, no-nodes-recovered}
use Rattle.csi_embedded.proofs.recovering.recovered_orchestrator.Goals as goal

pub returns-in_err-kept-clause-refused : goal.returns-in_err-kept-clause-refused
returns-in_err-kept-clause-refused c =
    let none = no-controller-recovered c.args.config.now c.args.session c.args.controller.now.held.embedded (had_by c.args.nodes.now) c.args.place.now c.in_err-kept.field-0.0 c.in_err-kept.ensures.none in search rules

pub returns-in_err-given-clause-refused : goal.returns-in_err-given-clause-refused
returns-in_err-given-clause-refused c =
    let none = no-nodes-recovered c.args.config.now c.args.session c.args.controller.now.held.embedded (had_by c.args.nodes.now) c.args.place.now c.in_err-given.field-0.0 c.in_err-given.ensures.none in search rules

pub returns-in-Ok-clause-made : goal.returns-in-Ok-clause-made
returns-in-Ok-clause-made c = (
  recovered-of c.args.config.now c.args.session c.args.controller.now.held.embedded (had_by c.args.nodes.now) c.in_ok-listed.listed.items c.in_ok-kept.kept c.in_ok-given.given.items c.in-Ok.made
      c.in_ok-listed.ensures.made c.in_ok-kept.ensures.kept c.in_ok-given.ensures.kept (subst (λ (given : List NodeParts). IsMadeOf c.in_ok-listed.listed.items c.args.session c.in_ok-kept.kept given c.in-Ok.made) c.deref.ensures.value c.in-Ok.ensures.made),
  refl,
)

pub returns-clause-refused : goal.returns-clause-refused
returns-clause-refused c =
    not-recovered-of c.args.config.now c.args.session c.args.controller.now.held.embedded (had_by c.args.nodes.now) c.in_ok-listed.listed.items c.in_ok-kept.kept c.in_ok-given.given.items c.of_records.new.place c.in-Err.ending
    c.in_ok-listed.ensures.made c.in_ok-kept.ensures.kept c.in_ok-given.ensures.kept
    (subst (λ (given : List NodeParts). IsUnmadeOf c.in_ok-listed.listed.items c.args.session c.in_ok-kept.kept given c.of_records.new.place c.in-Err.ending) c.deref.ensures.value c.in-Err.ensures.refused)
