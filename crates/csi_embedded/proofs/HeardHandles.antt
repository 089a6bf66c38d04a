-- A handle whose orchestrator heard a frame.
use Rattle.std.proofs.Common.{◌≡◌, ℕ, List, Option, Some, sym, subst}
use Rattle.csi_embedded.specs.declared.ending.CallEnding.{CallEnding}
use Rattle.csi_embedded.specs.declared.embedded.Embedded.{Embedded}
use Rattle.csi_embedded.specs.Public.Asking.{HearsOne, HasHeard}
use Rattle.csi_embedded.specs.Public.Endings.{ending_number}

-- what it had heard it, and it has what that came to
pub handle-heard : (came : List ℕ) (before after : Embedded) (old new : Option Embedded) (used room count : ℕ) (bytes : List ℕ) (fault number : ℕ) (ending : CallEnding) → Some before ≡ old → new ≡ Some after → number ≡ ending_number ending
    → HearsOne before came used after room count bytes fault ending → HasHeard came old used new room count bytes fault number
handle-heard came before after old new used room count bytes fault number ending was is told hears =
    subst (λ (o : Option Embedded). HasHeard came o used new room count bytes fault number) was
    (subst (λ (n : Option Embedded). HasHeard came (Some before) used n room count bytes fault number) (sym is) (record { ending = ending; is = told; hears = hears }))
