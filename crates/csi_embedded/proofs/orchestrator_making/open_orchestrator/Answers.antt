-- What was read is raised to the session before.
use Rattle.std.proofs.Common.{◌≡◌, ◌∙◌, ℕ, ap, subst, refl, rules}
use Rattle.csi_orchestrator.specs.Public.Raised.{raised_record}
use Rattle.csi_orchestrator.specs.Public.Record.{RecordParts}
use Rattle.csi_service.specs.Public.OrchestratorOpening.{raised_before}
use Rattle.csi_embedded.specs.Public.OrchestratorMaking.{IsReopened}
use Rattle.csi_embedded.specs.Private.OrchestratorMaking.{IsNotReopened}
use Rattle.csi_embedded.proofs.MadeOrchestrators.{no-nodes-opened, none-opened}
use Rattle.csi_embedded.proofs.orchestrator_making.open_orchestrator.Goals as goal

pub returns-in-Ok-clause-made : goal.returns-in-Ok-clause-made
returns-in-Ok-clause-made c =
    let raised : c.raise.new.self ≡ raised_before c.args.session c.in_ok-kept.kept = c.raise.ensures ∙ ap (λ (s : ℕ). raised_record s c.in_ok-kept.kept) c.saturating_sub.ensures in (
      record {
        kept = c.in_ok-kept.kept;
        read = c.in_ok-kept.ensures.read;
        nodes = c.in_ok-nodes.nodes.items;
        said = c.in_ok-nodes.ensures.made;
        reopened = subst (λ (r : RecordParts). IsReopened r c.in_ok-nodes.nodes.items c.in-Ok.made) raised c.in-Ok.ensures.made;
      },
      refl,
    )

pub returns-in-Err-clause-refused : goal.returns-in-Err-clause-refused
returns-in-Err-clause-refused c =
    let raised : c.raise.new.self ≡ raised_before c.args.session c.in_ok-kept.kept = c.raise.ensures ∙ ap (λ (s : ℕ). raised_record s c.in_ok-kept.kept) c.saturating_sub.ensures in
    none-opened c.args.config.now c.args.bytes.now c.args.session c.in_ok-nodes.nodes.items c.in_ok-kept.kept c.in-Err.ending c.in_ok-nodes.ensures.made c.in_ok-kept.ensures.read
    (subst (λ (r : RecordParts). IsNotReopened r c.in_ok-nodes.nodes.items c.in-Err.ending) raised c.in-Err.ensures.refused)

pub returns-in_err-nodes-clause-refused : goal.returns-in_err-nodes-clause-refused
returns-in_err-nodes-clause-refused c =
    let none = no-nodes-opened c.args.config.now c.args.bytes.now c.args.session c.in_err-nodes.field-0.0 c.in_err-nodes.ensures.refused in search rules
