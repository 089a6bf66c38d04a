-- The key, and then the array.
use Rattle.std.proofs.Common.{refl, ◌∷◌, []}
use Rattle.std.proofs.lemmas.Result.{on_ok_weaker}
use Rattle.json.specs.Token.{key}
use Rattle.csi_reports.proofs.WrittenLists.{array_written}
use Rattle.csi_reports.proofs.WrittenSteps.{next}
use Rattle.csi_reports.proofs.members.put_array.Goals as goal

pub returns : goal.returns
returns g c =
    on_ok_weaker c.end_array.result
    (λ last. next _ _ _ _ (key c.args.key.now ∷ []) _ c.in_ok-key.ensures refl
    (array_written g.T.Entry.entry c.args.items.now _ _ _ _ c.in_ok-begin_array.ensures c.in_ok-write_items.ensures last))
    c.end_array.ensures
