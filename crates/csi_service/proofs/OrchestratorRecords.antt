-- The parts of an orchestrator that is served, or opened, are a record.
use Rattle.std.proofs.Common.{◌≡◌, ◌∙◌, sym, ap, refl, subst, inl, inr, ℕ, suc, ◌<◌, ◌≤◌, ◌+◌, ◌-◌, ◌^◌, Bool, true, false, cond, nat_lt, not, List, [], ◌∷◌, map, length, arith}
use Rattle.std.specs.Prelude.{Some, None, is_none}
use Rattle.std.specs.List.{AllByRecursion}
use Rattle.std.proofs.lemmas.Bool.{true≢false, lt-ltb}
use Rattle.std.proofs.lemmas.Bool.Decides.{nat_tests}
use Rattle.csi_types.proofs.Each.{each-filter}
use Rattle.csi_types.proofs.Options.{some_is_not_none}
use Rattle.csi_types.specs.Public.Text.{IsNodeId}
use Rattle.csi_orchestrator.specs.declared.fault.OrchFault.{OrchFault}
use Rattle.csi_orchestrator.specs.declared.fault.OrchFault.TheVariants as refusals
use Rattle.csi_orchestrator.specs.Model.Shown.{RowShown, OrchestratorParts}
use Rattle.csi_orchestrator.specs.Public.Beginning.{is_row_forgotten, remembered}
use Rattle.csi_orchestrator.specs.Public.Laws.{opened_parts}
use Rattle.csi_orchestrator.specs.Public.Raised.{raised_session}
use Rattle.csi_orchestrator.specs.Public.Record.{RecordParts, AreNodesFit}
use Rattle.csi_orchestrator.specs.Public.Restored.{AreRestorable}
use Rattle.csi_orchestrator.specs.Public.Shown.{closed}
use Rattle.csi_stores.specs.Public.Part.{StoredPart, StoredChange}
use Rattle.csi_stores.specs.Public.Content.{all_changed}
use Rattle.csi_stores.specs.Public.Stores.{Store}
use Rattle.csi_records.specs.declared.version.RecordVersion.{RecordVersion}
use Rattle.csi_records.specs.declared.version.RecordVersion.TheVariants.{One, Two, Three}
use Rattle.csi_records.specs.Public.OrchestratorRecords.{keyed_from, orchestrator_layout, IsKeyedRow, IsOrchestratorOf}
use Rattle.csi_records.specs.Public.OrchestratorRows.{IsOrchestratorRow}
use Rattle.csi_records.specs.Public.Records.{IsRecordOf}
use Rattle.csi_records.specs.Public.Spelling.{present}
use Rattle.csi_service.specs.declared.orchestrator_opening.OrchestratorMade.{OrchestratorMade}
use Rattle.csi_service.specs.declared.orchestrator_opening.OrchestratorMade.TheVariants.{Opened, BadNodes, NumbersSpent, NodeInUse}
use Rattle.csi_service.specs.Public.OrchestratorOpening.{new_record, raised_before, opening_refusal, IsOpenedFrom, IsOrchestratorOpened, HasOrchestrator}
use Rattle.csi_service.specs.Public.StoreOpening.{HasOpened}
use Rattle.csi_service.specs.Public.OrchestratorServices.{ServedOrchestrator, kept_of, parts_of_orchestrator, session_changes, AreFitOrchestratorRows}
use Rattle.csi_service.specs.Private.OrchestratorOpening.{orchestrator_opening, IsBegun, IsNewlyMade}
use Rattle.csi_service.specs.Private.Opening.{IsMade}
use Rattle.csi_service.proofs.WholeChanges.{session-told}

-- ---- rows

-- rows within their limits, under keys that are words, are so without their open calls
keyed-fit : (key : ℕ) (rows : List RowShown) → key + length rows ≤ 4097 → AreFitOrchestratorRows rows → AllByRecursion (IsKeyedRow present) (keyed_from key (map closed rows))
keyed-fit key [] few each = tt
keyed-fit key (row ∷ rows) few each =
    let fits = each.0 in (
      record {
        key = omega (arith, few);
        row = record {
          fits = record { name = fits.name; arguments = fits.arguments; id = fits.id; goal = fits.goal; tries = fits.tries; count = fits.count; entries = fits.entries };
          closed = refl;
        };
      },
      keyed-fit (suc key) rows (omega (arith, few)) each.1,
    )

-- rows that were read are within their limits
read-fit : (key : ℕ) (rows : List RowShown) → AllByRecursion (IsKeyedRow present) (keyed_from key rows) → AreFitOrchestratorRows rows
read-fit key [] each = tt
read-fit key (row ∷ rows) each = (each.0.row.fits, read-fit (suc key) rows each.1)

-- ---- a record

-- nodes, session and rows within their limits, which keep the rules of rows, are a record once open calls are given up
pub is-its-record : (orchestrator : OrchestratorParts) → orchestrator.last.session < 2 ^ 64 → AreNodesFit orchestrator.nodes → AllByRecursion IsNodeId orchestrator.nodes
    → AreRestorable orchestrator.nodes (map closed orchestrator.rows) → length orchestrator.rows ≤ 4096 → AreFitOrchestratorRows orchestrator.rows
    → IsOrchestratorOf present (parts_of_orchestrator orchestrator) (kept_of orchestrator)
is-its-record orchestrator session nodes texts rules few fit = record {
  head_fits = record { fits = record { later = refl; session = session; count = nodes.few; nodes = texts }; nodes = nodes };
  rows_fit = keyed-fit 1 orchestrator.rows (omega (arith, few)) fit;
  rules = record { rows = map closed orchestrator.rows; places = refl; rules = rules };
  are = refl;
}

-- those of a record are one
its-record : (orchestrator : OrchestratorParts) → IsOrchestratorOf present (parts_of_orchestrator orchestrator) (kept_of orchestrator) → IsRecordOf (orchestrator_layout present) (parts_of_orchestrator orchestrator)
its-record orchestrator its = record {
  first = record { session = orchestrator.last.session; nodes = orchestrator.nodes };
  rows = keyed_from 1 (map closed orchestrator.rows);
  spelled = its;
}

-- the rows that aren't forgotten are within their limits
remembered-fit : (rows : List RowShown) → AreFitOrchestratorRows rows → AreFitOrchestratorRows (remembered rows)
remembered-fit rows fit = each-filter (IsOrchestratorRow present) (λ row. not (is_row_forgotten row)) rows fit

-- the version of a record is the present one
is-present : (version : RecordVersion) (parts : List StoredPart) (kept : RecordParts) → IsOrchestratorOf version parts kept → version ≡ present
is-present One parts kept is = absurd (true≢false (sym is.head_fits.fits.later))
is-present Two parts kept is = absurd (true≢false (sym is.head_fits.fits.later))
is-present Three parts kept is = refl

-- ---- what is opened

-- what begins of a record that the parts are opened from, and to which what is told leads, is what opening is to make
module _ (least : ℕ) (nodes : List (List ℕ)) (found : List StoredPart) (kept : RecordParts) (from : IsOpenedFrom found kept) (rows_fit : AreFitOrchestratorRows kept.rows)
    (leads : all_changed (session_changes (length kept.rows) (opened_parts (raised_before least kept) nodes)) found ≡ parts_of_orchestrator (opened_parts (raised_before least kept) nodes)) where
  begun-made : (made : OrchestratorMade) (changes : List StoredChange) → IsBegun (raised_before least kept) nodes made changes
      → ((fault : OrchFault) → opening_refusal (raised_before least kept) nodes ≡ Some fault → IsOrchestratorOf present found kept)
      → IsMade (orchestrator_opening least nodes) found made changes
  begun-made (Opened service) changes begun read =
      let its = begun.3 (remembered-fit kept.rows rows_fit) in
      let is : IsRecordOf (orchestrator_layout present) (parts_of_orchestrator (opened_parts (raised_before least kept) nodes)) = its-record (opened_parts (raised_before least kept) nodes) its in
      let opened : IsOrchestratorOpened least nodes found (opened_parts (raised_before least kept) nodes) = record { kept = kept; from = from; unrefused = begun.1; is = refl } in
      subst (λ (s : ServedOrchestrator). IsMade (orchestrator_opening least nodes) found (Opened s) changes) (sym begun.0) (record {
        makes = opened;
        is = is;
        leads = ap (λ (cs : List StoredChange). all_changed cs found) begun.2 ∙ leads;
        becomes = inr (record { orchestrator = opened_parts (raised_before least kept) nodes; opened = opened; are = refl }, is);
      })
  begun-made BadNodes changes begun read = absurd begun
  begun-made NumbersSpent changes begun read = record {
    makes = record { kept = kept; was = read refusals.NumbersSpent begun.0; refused = begun.0 };
    is = tt;
    leads = ap (λ (cs : List StoredChange). all_changed cs found) begun.1;
    becomes = inl begun.1;
  }
  begun-made NodeInUse changes begun read = record {
    makes = record { kept = kept; was = read refusals.NodeInUse begun.0; refused = begun.0 };
    is = tt;
    leads = ap (λ (cs : List StoredChange). all_changed cs found) begun.1;
    becomes = inl begun.1;
  }

-- from a record that was read
pub read-made : (least : ℕ) (nodes : List (List ℕ)) (found : List StoredPart) (version : RecordVersion) (kept : RecordParts) (made : OrchestratorMade) (changes : List StoredChange)
    → IsOrchestratorOf version found kept → AreRestorable kept.nodes kept.rows → IsBegun (raised_before least kept) nodes made changes → IsMade (orchestrator_opening least nodes) found made changes
read-made least nodes found version kept made changes was rules begun =
    let here : IsOrchestratorOf present found kept = subst (λ (v : RecordVersion). IsOrchestratorOf v found kept) (is-present version found kept was) was in
    begun-made least nodes found kept (inr here) (read-fit 1 kept.rows here.rows_fit)
    (ap (all_changed (session_changes (length kept.rows) (opened_parts (raised_before least kept) nodes))) here.are ∙ session-told (least - 1) kept nodes rules.each) made changes begun (λ fault refused. here)

-- the session before the first one, raised
pub first-record : (least : ℕ) → least - 1 ≡ raised_session (least - 1) 0
first-record least = by (nat_lt 0 (least - 1)) refl
  where
    by : (b : Bool) → nat_lt 0 (least - 1) ≡ b → least - 1 ≡ cond b (least - 1) 0
    by true later = refl
    by false none = grind (arith, nat_tests)

-- from no parts: a word is no last session
none-refused : (least : ℕ) (nodes : List (List ℕ)) → least < 2 ^ 64 → opening_refusal (raised_before least new_record) nodes ≡ None
none-refused least nodes word =
    let early : raised_session (least - 1) 0 + 1 < 2 ^ 64 = by (nat_lt 0 (least - 1)) in
    let some : nat_lt (raised_session (least - 1) 0 + 1) (2 ^ 64) ≡ true = lt-ltb (raised_session (least - 1) 0 + 1) (2 ^ 64) early in
    ap (λ (b : Bool). cond (is_none (cond b (Some (raised_session (least - 1) 0 + 1)) None)) (Some refusals.NumbersSpent) None) some
  where
    by : (b : Bool) → cond b (least - 1) 0 + 1 < 2 ^ 64
    by true = omega (arith, word)
    by false = omega arith

pub none-made : (least : ℕ) (nodes : List (List ℕ)) (found : List StoredPart) (kept : RecordParts) (made : OrchestratorMade) (changes : List StoredChange) → least < 2 ^ 64
    → found ≡ [] → kept ≡ raised_before least new_record → IsBegun kept nodes made changes → IsMade (orchestrator_opening least nodes) found made changes
none-made least nodes found kept made changes word none is begun =
    begun-made least nodes found new_record (inl (none, refl)) tt
    (ap (all_changed (session_changes 0 (opened_parts (raised_before least new_record) nodes))) none)
    made changes (subst (λ (k : RecordParts). IsBegun k nodes made changes) is begun)
    (λ fault refused. absurd (some_is_not_none fault (sym refused ∙ none-refused least nodes word)))

-- what begins is as it was asked for
pub newly-made : (nodes : List (List ℕ)) (kept : RecordParts) (made : OrchestratorMade) (changes : List StoredChange) → AreFitOrchestratorRows kept.rows → IsBegun kept nodes made changes
    → IsNewlyMade nodes made
newly-made nodes kept (Opened service) changes fit begun =
    subst (λ (s : ServedOrchestrator). IsNewlyMade nodes (Opened s)) (sym begun.0) (refl, refl, remembered-fit kept.rows fit)
newly-made nodes kept BadNodes changes fit begun = absurd begun
newly-made nodes kept NumbersSpent changes fit begun = tt
newly-made nodes kept NodeInUse changes fit begun = tt

-- the same of no parts
pub newly-made-none : (least : ℕ) (nodes : List (List ℕ)) (kept : RecordParts) (made : OrchestratorMade) (changes : List StoredChange) → kept ≡ raised_before least new_record → IsBegun kept nodes made changes → IsNewlyMade nodes made
newly-made-none least nodes kept made changes is begun = newly-made nodes kept made changes (subst (λ (k : RecordParts). AreFitOrchestratorRows k.rows) (sym is) tt) begun

-- where an orchestrator was made, the store has its record alone
pub opened-so : (least : ℕ) (nodes : List (List ℕ)) (before after : Store) (made : OrchestratorMade) (service : ServedOrchestrator) → made ≡ Opened service → HasOpened (orchestrator_opening least nodes) before after made
    → HasOrchestrator least nodes before after service
opened-so least nodes before after made service is has = subst (HasOpened (orchestrator_opening least nodes) before after) is has

-- the rows of what was read
pub rows-read : (version : RecordVersion) (found : List StoredPart) (kept : RecordParts) → IsOrchestratorOf version found kept → AreFitOrchestratorRows kept.rows
rows-read version found kept was =
    let here : IsOrchestratorOf present found kept = subst (λ (v : RecordVersion). IsOrchestratorOf v found kept) (is-present version found kept was) was in
    read-fit 1 kept.rows here.rows_fit
