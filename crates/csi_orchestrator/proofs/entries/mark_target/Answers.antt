-- The first entry of the target is changed.
use Rattle.csi_orchestrator.proofs.Words.{refl, sym, ◌∙◌, ap, TargetEntry, target_marked}
use Rattle.csi_orchestrator.proofs.Lemmas.{map-id}
use Rattle.csi_orchestrator.proofs.ChangedEntries.{change-place, change-none_placed}
use Rattle.csi_orchestrator.proofs.entries.mark_target.Goals as goal

pub returns-in-Some : goal.returns-in-Some
returns-in-Some c =
    sym (map-id _)
    ∙ change-place (λ (target_entry : TargetEntry). target_entry) (λ (target_entry : TargetEntry). target_entry.target) c.args.target.now (λ (target_entry : TargetEntry). record target_entry { published = c.args.known }) c.args.target_entries.now.items c.in-Some.index c.index_mut.result.now
    _ (cc) c.index_mut.ensures.value refl
    ∙ ap (target_marked c.args.known c.args.target.now) (map-id c.args.target_entries.now.items)

pub returns-in_default : goal.returns-in_default
returns-in_default c =
    sym (map-id _)
    ∙ change-none_placed (λ (target_entry : TargetEntry). target_entry) (λ (target_entry : TargetEntry). target_entry.target) c.args.target.now (λ (target_entry : TargetEntry). record target_entry { published = c.args.known }) c.args.target_entries.now.items (cc)
    ∙ ap (target_marked c.args.known c.args.target.now) (map-id c.args.target_entries.now.items)
