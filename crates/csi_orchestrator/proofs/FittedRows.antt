-- Rows of volumes that are there come to be told by calls that fit: each volume's creation, each attachment, staging and publication; and what is
-- kept of a history grows with it.
use Rattle.csi_orchestrator.proofs.Words.{Bool, [], ◌∷◌, false, arith}
use Rattle.csi_orchestrator.proofs.Words.{◌≡◌, ◌⊎◌, ℕ, suc, List, true, refl, sym, ◌∙◌, ap, subst, ⊎_elim, Option, Some}
use Rattle.csi_orchestrator.proofs.Words.{None, AllByRecursion, IsAmong, EachTwo, Call, Party, Controller, Node}
use Rattle.csi_orchestrator.proofs.Words.{Capability, Number, same_text, Goal, Stop, TargetEntry, Thing, Staged, Yes}
use Rattle.csi_orchestrator.proofs.Words.{No, Maybe, Issued, thing_at, is_thing, History, history_after, with_items}
use Rattle.csi_orchestrator.proofs.Words.{Sent, Accepted, Closed, Noted, issued_in, id_of, last_number, IsNextNumber}
use Rattle.csi_orchestrator.proofs.Words.{NodeEntryShown, RowShown, mark_of, IsRestorable}
use Rattle.csi_orchestrator.proofs.Lemmas.{and_parts, false≢true, each-weaker, same_text-tells}
use Rattle.csi_types.specs.declared.call.Call.TheVariants as calls
use Rattle.csi_types.specs.declared.status.Status.TheVariants.{Ok}
use Rattle.csi_orchestrator.specs.Model.History.{Goal as Wanted}
use Rattle.csi_orchestrator.proofs.FirstEntries.{still}
use Rattle.csi_orchestrator.proofs.RowsAfterSending.{mark-same}
use Rattle.csi_orchestrator.proofs.RowsTold.{Keeps}
use Rattle.csi_orchestrator.proofs.EntriesTold.{TargetFits, EntryFits, IsTried, RowFits}
use Rattle.csi_orchestrator.proofs.AllTold.{AreTold, all-told}

-- before a CreateVolume of a name no id of it was heard, and before each other call one was
abbrev pub IsIdRight : History → List ℕ → Call → Type 0
IsIdRight history name (calls.CreateVolume create required limit capabilities) = id_of history name ≡ None
IsIdRight history name call = (heard : ℕ) × (id_of history name ≡ Some heard)

-- what is kept of a history grows with it, where each call that is sent fits, as does the id that its success brings
pub record Grows (P : History → Type 0) (Fits : List ℕ → Party → Call → Option ℕ → Type 0) : Type 0 where
  pub noted : (history : History) (name : List ℕ) (goal : Option Wanted) → P history → P (with_items history (Noted name goal ∷ []))
  pub closed : (history : History) (number : Number) → P history → P (with_items history (Closed number ∷ []))
  pub sent : (history : History) (issued : Issued) (id : Option ℕ) → Fits issued.name issued.party issued.call id → IsNextNumber (last_number history) issued.number → IsIdRight history issued.name issued.call → P history
      → P (with_items history (Sent issued ∷ []))
  pub accepted : (history : History) (issued : Issued) (id : Option ℕ) → Fits issued.name issued.party issued.call id → IsAmong issued (issued_in history.items) → P history → P (with_items history (Accepted issued.number Ok id ∷ []))

module _ (P : History → Type 0) (Fits : List ℕ → Party → Call → Option ℕ → Type 0) where
  -- a target's call fits, where the volume is published there
  abbrev pub FitsTarget : List ℕ → ℕ → List ℕ → TargetEntry → Type 0
  FitsTarget name id node t = (t.published ≡ No) ⊎ ((t.published ≡ Yes) × ((capability : Capability) × ((readonly : Bool) × Fits name (Node node) (calls.NodePublishVolume id t.target capability readonly) None)))

  -- the calls of an entry fit
  pub record FitsEntry (name : List ℕ) (id : ℕ) (entry : NodeEntryShown) : Type 0 where
    pub attached : entry.attached ≡ Yes
    pub attaches : Fits name Controller (calls.ControllerPublishVolume id entry.node entry.capability entry.readonly) None
    pub stages : (entry.staged ≡ No) ⊎ ((capability : Capability) × Fits name (Node entry.node) (calls.NodeStageVolume id capability) None)
    pub targets : AllByRecursion (FitsTarget name id entry.node) entry.target_entries

  -- nothing is wanted, or a stop where the volume may be staged, which was tried once
  abbrev pub FitsGoal : List ℕ → ℕ → RowShown → Option Goal → ℕ → Type 0
  FitsGoal name id row None tries = tries ≡ 0
  FitsGoal name id row (Some (Stop node target)) tries =
      (tries ≡ 1) × (mark_of (Staged name node) row ≡ Maybe) × ((capability : Capability) × Fits name (Node node) (calls.NodeStageVolume id capability) None)
  FitsGoal name id row goal tries = ⊥

  -- all calls of a row fit
  pub record FitsRow (row : RowShown) : Type 0 where
    pub made : row.exists ≡ Yes
    pub id : ℕ
    pub has_id : row.id ≡ Some id
    pub creates : Fits row.name Controller (calls.CreateVolume row.name row.arguments.required row.arguments.limit row.arguments.capabilities) (Some id)
    pub entries : AllByRecursion (FitsEntry row.name id) row.node_entries
    pub goal : FitsGoal row.name id row row.goal row.tries

  -- a call that fits, for a name with this id
  abbrev FitsWith : Option ℕ → List ℕ → Party → Call → Option ℕ → Type 0
  FitsWith id name party call brought = Fits name party call brought × ((history : History) → id_of history name ≡ id → IsIdRight history name call)

  -- so they do beside their name's id
  row-fits : (row : RowShown) → FitsRow row → RowFits FitsWith row
  row-fits row fits =
      record {
        creates = (subst (Fits row.name Controller (calls.CreateVolume row.name row.arguments.required row.arguments.limit row.arguments.capabilities)) (sym fits.has_id) fits.creates, λ history none. none);
        deletes = λ gone. absurd (gone fits.made);
        entries = each-weaker (FitsEntry row.name fits.id) (EntryFits FitsWith row.name row.id) row.node_entries entry-fits fits.entries;
        tried = λ n e. tried row.goal n e (subst (FitsGoal row.name fits.id row row.goal) e fits.goal);
      }
    where
      right : (history : History) → id_of history row.name ≡ row.id → (heard : ℕ) × (id_of history row.name ≡ Some heard)
      right history is = (fits.id, is ∙ fits.has_id)

      entry-fits : (entry : NodeEntryShown) → FitsEntry row.name fits.id entry → EntryFits FitsWith row.name row.id entry
      entry-fits entry own =
          record {
            attaches = λ some. (fits.id, (own.attaches, right));
            stages = λ some. ⊎_elim (λ no. absurd (some no)) (λ yes. (fits.id, (yes.0, (yes.1, right)))) own.stages;
            targets =
                each-weaker (FitsTarget row.name fits.id entry.node) (TargetFits FitsWith row.name row.id entry) entry.target_entries
                (λ t fit some. ⊎_elim (λ no. absurd (some no)) (λ yes. (fits.id, (yes.1.0, (yes.1.1.0, (yes.1.1.1, right))))) fit) own.targets;
          }

      bare : RowShown
      bare = still row.name row.arguments row.id row.exists row.node_entries

      tried : (goal : Option Goal) (n : ℕ) → row.tries ≡ suc n → FitsGoal row.name fits.id row goal (suc n) → IsTried FitsWith row.name row.id (still row.name row.arguments row.id row.exists row.node_entries)
      tried None n e none = absurd (omega (arith, none))
      tried (Some (Stop node target)) n e own =
          record {
            party = Node node;
            call = calls.NodeStageVolume fits.id own.2.0;
            named = tt;
            detaches = λ there touched undoing. false≢true touched;
            holds = λ there. refl;
            marks = marked;
            fits = (own.2.1, right);
          }
        where
          marked : (thing : Thing) → is_thing thing (thing_at row.name (Node node) (calls.NodeStageVolume fits.id own.2.0)) ≡ true → mark_of thing (still row.name row.arguments row.id row.exists row.node_entries) ≡ Maybe
          marked (Staged other there) touched =
              let parts = and_parts (same_text other row.name) (same_text there node) touched in
              ap (λ n. mark_of (Staged row.name n) bare) ((same_text-tells there node).0 parts.1) ∙ mark-same (Staged row.name node) bare row refl refl ∙ own.1
          marked thing touched = absurd (false≢true touched)
      tried goal n e own = absurd own

  -- a history of which this is kept tells these rows
  pub all-fitted : Grows P Fits → (nodes : List (List ℕ)) (start : Number) (rows : List RowShown) → P (history_after nodes start) → EachTwo (λ (a b : RowShown). same_text a.name b.name ≡ false) rows → AllByRecursion (IsRestorable nodes) rows
      → AllByRecursion FitsRow rows → AreTold P nodes start rows
  all-fitted grows nodes start rows kept apart each fits = all-told P FitsWith keeps nodes start rows kept apart each (each-weaker FitsRow (RowFits FitsWith) rows row-fits fits)
    where
      keeps : Keeps P FitsWith
      keeps =
          record {
            noted = grows.noted;
            closed = grows.closed;
            sent = λ history issued id brought fits is next kept. grows.sent history issued brought fits.0 next (fits.1 history is) kept;
            accepted = λ history issued id brought fits among kept. grows.accepted history issued brought fits.0 among kept;
          }
