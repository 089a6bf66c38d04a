-- The two volumes change places.
use Rattle.std.proofs.Common.{[], ◌∷◌, refl, arith}
use Rattle.std.specs.Prelude.{codes}
use Rattle.std.proofs.lemmas.List.Sorted.{IsPermutation-append_comm}
use Rattle.csi_recovery.specs.Private.WorkedRebuilt.{volume}
use Rattle.csi_recovery.proofs.worked.rebuilt.Goals as goal

pub returns : goal.returns
returns c = record {
  volumes = IsPermutation-append_comm (volume 2 (codes "v") ∷ []) (volume 1 (codes "x") ∷ []);
  rising = ((omega arith, tt), (tt, tt));
  holdings = refl;
  has_next = refl;
  in_session = refl;
}
