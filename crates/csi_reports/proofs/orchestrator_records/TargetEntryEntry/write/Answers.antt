-- Member by member.
use Rattle.std.proofs.Common.{ap, refl, codes, ◌∷◌, []}
use Rattle.std.proofs.lemmas.Result.{on_ok_weaker}
use Rattle.json.specs.Token.{begin_object}
use Rattle.csi_reports.proofs.WrittenSteps.{next, of_text}
use Rattle.csi_reports.proofs.orchestrator_records.TargetEntryEntry.write.Goals as goal

pub returns : goal.returns
returns c =
    on_ok_weaker c.end_object.result
    (λ last. next _ _ _ _ (begin_object ∷ []) _ c.in_ok-begin_object.ensures refl
    (next _ _ _ _ _ _ c.in_ok-put_text.ensures (ap (of_text (codes "known")) c.known_text.ensures)
    (next _ _ _ _ _ _ c.in_ok-put_text-2.ensures (ap (of_text (codes "target")) c.as_str.ensures.value) last)))
    c.end_object.ensures
