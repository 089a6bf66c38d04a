-- Parts that are no record: whose record parts may begin is told by the second byte of the first part, so that what refuses them for one kind of
-- records refuses them for two.
use Rattle.std.proofs.Common.{◌≡◌, ◌∙◌, refl, sym, ap, subst, inl, inr, ◌⊎◌, ℕ, ◌<◌, List, [], ◌∷◌, ◌++◌, length, take, None, Err, arith}
use Rattle.std.proofs.lemmas.List.{length-append}
use Rattle.csi_stores.specs.Public.Part.{StoredPart}
use Rattle.csi_records.specs.declared.fault.RecordStop.{RecordStop}
use Rattle.csi_records.specs.declared.fault.RecordStop.TheVariants.{BadRecord}
use Rattle.csi_records.specs.declared.version.RecordVersion.{RecordVersion}
use Rattle.csi_records.specs.Public.Places.{ReadsStored}
use Rattle.csi_records.specs.Public.Records.{IsInSome, IsControllerRecord, IsNodeRecord, Begins}
use Rattle.csi_streams.specs.declared.ending.Ending.{Ending}
use Rattle.csi_streams.specs.declared.ending.Ending.TheVariants as endings
use Rattle.csi_plugins.specs.Public.Recording.{IsOrchestratorRecord, IsNodeOrOrchestrator, IsNoneAt}
use Rattle.csi_plugins.specs.Private.Recording.{HasNoLine}

-- ---- whose record it is

-- the second byte of the first part, which says whose record it is
second : List ℕ → ℕ
second [] = 0
second (a ∷ []) = 0
second (a ∷ b ∷ more) = b

-- that byte of the first part, and 0 where there is no part
owner : List StoredPart → ℕ
owner [] = 0
owner (part ∷ parts) = second part.value

-- parts that begin as a controller's record have 0 there
owner-of-controller : (parts more : List StoredPart) → IsControllerRecord parts → owner (parts ++ more) ≡ 0
unfolding owner second
owner-of-controller parts more is = ap (λ (ps : List StoredPart). owner (ps ++ more)) is.there.spelled.are

-- a controller's record itself
owner-of-controller-alone : (parts : List StoredPart) → IsControllerRecord parts → owner parts ≡ 0
unfolding owner second
owner-of-controller-alone parts is = ap owner is.there.spelled.are

-- parts that begin as a node's record have 1 there
owner-of-node : (parts more : List StoredPart) → IsNodeRecord None parts → owner (parts ++ more) ≡ 1
unfolding owner second
owner-of-node parts more is = ap (λ (ps : List StoredPart). owner (ps ++ more)) is.there.spelled.are

-- a node's record itself
owner-of-node-alone : (parts : List StoredPart) → IsNodeRecord None parts → owner parts ≡ 1
unfolding owner second
owner-of-node-alone parts is = ap owner is.there.spelled.are

-- parts that begin as an orchestrator's record have 2 there
owner-of-orchestrator : (parts more : List StoredPart) → IsOrchestratorRecord parts → owner (parts ++ more) ≡ 2
unfolding owner second
owner-of-orchestrator parts more is = ap (λ (ps : List StoredPart). owner (ps ++ more)) is.there.spelled.are

-- an orchestrator's record itself
owner-of-orchestrator-alone : (parts : List StoredPart) → IsOrchestratorRecord parts → owner parts ≡ 2
unfolding owner second
owner-of-orchestrator-alone parts is = ap owner is.there.spelled.are

-- ---- kinds of records

-- parts that begin as a record of the one kind are no record of the other
abbrev NeverBegins : (List StoredPart → Type 0) → (List StoredPart → Type 0) → Type 0
NeverBegins One Other = (parts more : List StoredPart) → One parts → Other (parts ++ more) → ⊥

-- nodes' records and orchestrators'
node-never-begins : NeverBegins (IsNodeRecord None) IsOrchestratorRecord
node-never-begins parts more of_node of_orchestrator = omega (arith, owner-of-node parts more of_node, owner-of-orchestrator-alone (parts ++ more) of_orchestrator)

-- the other way round
orchestrator-never-begins : NeverBegins IsOrchestratorRecord (IsNodeRecord None)
orchestrator-never-begins parts more of_orchestrator of_node = omega (arith, owner-of-orchestrator parts more of_orchestrator, owner-of-node-alone (parts ++ more) of_node)

-- controllers' records and all others
controller-never-begins : NeverBegins IsControllerRecord IsNodeOrOrchestrator
controller-never-begins parts more of_controller (inl of_node) = omega (arith, owner-of-controller parts more of_controller, owner-of-node-alone (parts ++ more) of_node)
controller-never-begins parts more of_controller (inr of_orchestrator) = omega (arith, owner-of-controller parts more of_controller, owner-of-orchestrator-alone (parts ++ more) of_orchestrator)

-- the other way round
others-never-begin : NeverBegins IsNodeOrOrchestrator IsControllerRecord
others-never-begin parts more (inl of_node) of_controller = omega (arith, owner-of-node parts more of_node, owner-of-controller-alone (parts ++ more) of_controller)
others-never-begin parts more (inr of_orchestrator) of_controller = omega (arith, owner-of-orchestrator parts more of_orchestrator, owner-of-controller-alone (parts ++ more) of_controller)

-- ---- where they are refused

-- what reading refuses, where it is told with a place
pub refused_at : {X : Type 0} (Is : RecordVersion → List StoredPart → Type 0) (IsOf : RecordVersion → List StoredPart → X → Type 0) (parts : List StoredPart) (stop : RecordStop) (place : ℕ) → stop ≡ BadRecord place
    → ReadsStored Is IsOf parts (Err stop) → IsNoneAt (IsInSome Is) parts place
refused_at Is IsOf parts stop place is reads = subst (λ (s : RecordStop). ReadsStored Is IsOf parts (Err s)) is reads

-- a list of no length has nothing
nothing : {A : Type 0} (xs : List A) → length xs ≡ 0 → xs ≡ []
nothing [] e = refl
nothing (x ∷ xs) e = absurd (omega (arith, e))

-- the first part alone, of parts that begin so
first_alone : (parts before : List StoredPart) (part : StoredPart) (after : List StoredPart) → parts ≡ before ++ part ∷ after → before ≡ [] → take 1 parts ≡ before ++ part ∷ []
first_alone parts before part after are none = ap (take 1) are ∙ sym (subst (λ (b : List StoredPart). b ++ part ∷ [] ≡ take 1 (b ++ part ∷ after)) (sym none) refl)

module _ (One Other : List StoredPart → Type 0) where
  -- a record of the one kind, or of the other
  abbrev Either : List StoredPart → Type 0
  Either parts = One parts ⊎ Other parts

  -- what refuses parts behind the first for the one kind refuses them for both
  refused_behind : NeverBegins One Other → (parts : List StoredPart) (place : ℕ) → 0 < place → IsNoneAt One parts place → IsNoneAt Either parts place
  refused_behind apart parts place behind (inl none) = absurd (omega (arith, none.1, behind))
  refused_behind apart parts place behind (inr at) = inr (record {
    before = at.before;
    part = at.part;
    after = at.after;
    are = at.are;
    here = at.here;
    begins = elim at.begins [ inl none ↦ inl none | inr is ↦ inr (inl is) ];
    refused = refused at.begins;
  }) where
    refused : Begins One at.before → Either (at.before ++ at.part ∷ []) → ⊥
    refused begins (inl is) = at.refused is
    refused (inl none) (inr is) = absurd (omega (arith, ap length none, at.here, behind))
    refused (inr begun) (inr is) = apart at.before (at.part ∷ []) begun is

  -- where the first part is refused for the one kind, what refuses the parts for the other refuses them for both
  refused_first : NeverBegins Other One → (parts : List StoredPart) (first place : ℕ) → first ≡ 0 → IsNoneAt One parts first → IsNoneAt Other parts place → IsNoneAt Either parts place
  refused_first apart parts first place front other (inl none) = inl none
  refused_first apart parts first place front other (inr at) = inr (record {
    before = at.before;
    part = at.part;
    after = at.after;
    are = at.are;
    here = at.here;
    begins = elim at.begins [ inl none ↦ inl none | inr is ↦ inr (inr is) ];
    refused = refused at.begins other;
  }) where
    refused : Begins Other at.before → IsNoneAt One parts first → Either (at.before ++ at.part ∷ []) → ⊥
    refused begins too (inr is) = at.refused is
    refused (inr begun) too (inl is) = apart at.before (at.part ∷ []) begun is
    refused (inl none) (inl gone) (inl is) = absurd (omega (arith, ap length (sym gone.0 ∙ at.are), length-append at.before (at.part ∷ at.after)))
    refused (inl none) (inr too) (inl is) =
        let same = sym (first_alone parts at.before at.part at.after at.are none) ∙ first_alone parts too.before too.part too.after too.are (nothing too.before (too.here ∙ front)) in
        too.refused (subst One same is)

  -- why the other kind has no line is why there is none, where the one kind refuses the first part
  for_both : NeverBegins Other One → (parts : List StoredPart) (first : ℕ) → first ≡ 0 → IsNoneAt One parts first → (ending : Ending) → HasNoLine Other parts ending → HasNoLine Either parts ending
  for_both apart parts first zero other (endings.RecordFault place) why = refused_first apart parts first place zero other why
  for_both apart parts first zero other endings.Memory why = tt
  for_both apart parts first zero other ending why = absurd why

-- ---- of the three kinds

-- behind a controller's head
pub refused_controller : (parts : List StoredPart) (place : ℕ) → 0 < place → IsNoneAt IsControllerRecord parts place → IsNoneAt (λ ps. IsControllerRecord ps ⊎ IsNodeOrOrchestrator ps) parts place
refused_controller = refused_behind IsControllerRecord IsNodeOrOrchestrator controller-never-begins

-- behind a node's
pub refused_node : (parts : List StoredPart) (place : ℕ) → 0 < place → IsNoneAt (IsNodeRecord None) parts place → IsNoneAt IsNodeOrOrchestrator parts place
refused_node = refused_behind (IsNodeRecord None) IsOrchestratorRecord node-never-begins

-- where the first part is no controller's head
pub no_controller : (parts : List StoredPart) (first : ℕ) → first ≡ 0 → IsNoneAt IsControllerRecord parts first → (ending : Ending) → HasNoLine IsNodeOrOrchestrator parts ending
    → HasNoLine (λ ps. IsControllerRecord ps ⊎ IsNodeOrOrchestrator ps) parts ending
no_controller = for_both IsControllerRecord IsNodeOrOrchestrator others-never-begin

-- nor a node's
pub no_node : (parts : List StoredPart) (first : ℕ) → first ≡ 0 → IsNoneAt (IsNodeRecord None) parts first → (ending : Ending) → HasNoLine IsOrchestratorRecord parts ending → HasNoLine IsNodeOrOrchestrator parts ending
no_node = for_both (IsNodeRecord None) IsOrchestratorRecord orchestrator-never-begins
