-- Which call is due after a success. This profile's own.
use Rattle.std.specs.Prelude.{◌≡◌, ℕ, Option, Some, None}
use Rattle.std.specs.Option.{option_or}
use Rattle.csi_types.specs.declared.call.Kind.{Kind}
use Rattle.csi_orchestrator.specs.declared.marks.Marks.{Marks}
use Rattle.csi_orchestrator.specs.declared.row.Goal.{Goal}
use Rattle.csi_orchestrator.specs.declared.step.Step.{Step}
use Rattle.csi_orchestrator.specs.declared.step.Step.TheVariants.{Succeed}
use Rattle.csi_orchestrator.specs.declared.thing.Known.{Known}
use Rattle.csi_orchestrator.specs.Model.Due.{Due}
use Rattle.csi_orchestrator.specs.Private.Found.{kind_due}
use Rattle.csi_orchestrator.specs.Public.Sound.{IsSoundRow}
use Rattle.csi_orchestrator.specs.Model.Shown.{RowShown}
use Rattle.csi_orchestrator.specs.Public.RowDue.{marks_for, due_with, due_in}
use Rattle.csi_orchestrator.specs.Private.RowChanges.{Aspect, Existence, Attachment, Staging, Publication, aspect_of, known_by_success_of, id_told}

-- what is known of what a goal names, once this is marked
abbrev pub marks_marked : Known → Aspect → Marks → Marks
marks_marked mark Existence marks = record marks { exists = mark }
marks_marked mark Attachment marks = record marks { attached = mark }
marks_marked mark Staging marks = record marks { staged = mark }
marks_marked mark Publication marks = record marks { published = mark }

-- once the call of this kind that was due for it succeeded
abbrev pub marks_heard : Kind → Marks → Marks
marks_heard kind marks = marks_marked (known_by_success_of kind) (aspect_of kind) marks

-- the call that is due then
abbrev pub due_heard : Kind → Option ℕ → RowShown → Option Goal → Option Due
due_heard kind id row None = None
due_heard kind id row (Some goal) = due_with row.name row.arguments (option_or (id_told kind id) row.id) (marks_heard kind (marks_for row goal)) goal

-- a success is the one of the due call
abbrev pub IsDueSuccess : Step → RowShown → Type 0
IsDueSuccess (Succeed kind id) row = IsSoundRow row × (kind_due (due_in row) ≡ Some kind)
IsDueSuccess step row = Unit {0}
