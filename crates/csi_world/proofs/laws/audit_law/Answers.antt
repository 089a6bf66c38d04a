-- Clause by clause.
use Rattle.csi_world.proofs.Words.{◌≡◌, Some, None, refl, sym, ◌∙◌, Thing, Known, known, World, Safe, AreMarkedRight}
use Rattle.csi_world.proofs.Lemmas.{some_is_not_none}
use Rattle.csi_orchestrator.specs.Model.Shown.{orchestrator_view}
use Rattle.csi_world.specs.declared.violation.Violation.{Violation}
use Rattle.csi_world.specs.declared.violation.Violation.TheVariants.{TwoNodes, StagedUnattached, PublishedUnstaged, DeletedAttached, RecordedWrong}
use Rattle.csi_world.specs.Public.Audited.{Finds}
use Rattle.csi_world.proofs.laws.audit_law.Goals as goal

-- in a safe world all is marked right, by marks that are what is known
marked : (marks : Thing → Known) (world : World) → ((thing : Thing) → marks thing ≡ known world.history thing) → Safe world → AreMarkedRight marks world
marked marks world same safe thing =
    record {
      yes = λ is. (safe.recorded_right thing).yes (sym (same thing) ∙ is);
      no = λ is. (safe.recorded_right thing).no (sym (same thing) ∙ is);
    }

-- where an audit finds nothing by such marks, the world is safe
is_safe : (marks : Thing → Known) (world : World) → ((thing : Thing) → marks thing ≡ known world.history thing) → Finds marks world None → Safe world
is_safe marks world same finds =
    record {
      exclusive = finds.0;
      staged_where_attached = finds.1;
      published_where_staged = finds.2;
      attached_while_live = finds.3;
      recorded_right = λ thing. record { yes = λ is. (finds.4 thing).yes (same thing ∙ is); no = λ is. (finds.4 thing).no (same thing ∙ is) };
    }

-- and where it finds something, the world isn't
unsafe : (marks : Thing → Known) (world : World) (violation : Violation) → ((thing : Thing) → marks thing ≡ known world.history thing) → Finds marks world (Some violation) → Safe world → ⊥
unsafe marks world TwoNodes same finds safe = finds safe.exclusive
unsafe marks world StagedUnattached same finds safe = finds.1 safe.staged_where_attached
unsafe marks world PublishedUnstaged same finds safe = finds.2 safe.published_where_staged
unsafe marks world DeletedAttached same finds safe = finds.3 safe.attached_while_live
unsafe marks world RecordedWrong same finds safe = finds.4 (marked marks world same safe)

pub returns : goal.returns
returns c parts world None agrees finds = (λ e. is_safe (orchestrator_view parts).marks world agrees.same_marks finds, λ safe. refl)
returns c parts world (Some violation) agrees finds = (
  λ e. absurd (some_is_not_none violation e),
  λ safe. absurd (unsafe (orchestrator_view parts).marks world violation agrees.same_marks finds safe),
)
