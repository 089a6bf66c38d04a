-- The parts of a record, in whichever version they are, rise by key; and a node's record is that of the node that its head tells.
use Rattle.std.proofs.Common.{◌≡◌, ◌∙◌, sym, ap, subst, ℕ, zero, suc, ◌<◌, List, [], ◌∷◌, ◌++◌, map, length, get_or, take, drop, None, Some, arith}
use Rattle.std.specs.Prelude.{Option}
use Rattle.std.specs.List.{AllByRecursion}
use Rattle.std.proofs.Math.Seq.{take-append_seam}
use Rattle.csi_frames.specs.Public.Spelling.{text}
use Rattle.csi_controller.specs.declared.row.ControllerRow.{ControllerRow}
use Rattle.csi_controller.specs.Public.Core.{AreRisingRows}
use Rattle.csi_node.specs.Model.OneRow.{NodeRowShown}
use Rattle.csi_node.specs.Public.Judging.{KeepRules}
use Rattle.csi_node.specs.Public.Record.{row_id_at}
use Rattle.csi_stores.specs.Public.Part.{StoredPart}
use Rattle.csi_stores.specs.Public.Content.{AreRisingParts}
use Rattle.csi_stores.proofs.RisingChanges.{AreAbove}
use Rattle.csi_records.specs.declared.version.RecordVersion.{RecordVersion}
use Rattle.csi_records.specs.Public.Spelling.{present, VolumeRow, volume_part, session_bytes, answered_part, node_parts}
use Rattle.csi_records.specs.Public.Records.{controller_layout, node_layout, AreControllerRows, IsRecordOf, IsVolumeRow, IsAnsweredRow}
use Rattle.csi_service.proofs.ControllerRows.{rising-in}

-- a node's rows stand by rising id
abbrev pub IsRisingById : List NodeRowShown → Type 0
IsRisingById rows = (i j : ℕ) → i < j → j < length rows → row_id_at rows i < row_id_at rows j

-- ---- a controller's

-- keys of rows are above that of a head
volumes-above : (version : RecordVersion) (rows : List VolumeRow) → AllByRecursion (IsVolumeRow version) rows → AreAbove 0 (map (volume_part version) rows)
volumes-above version [] fit = tt
volumes-above version (row ∷ rows) fit = (fit.0.id.from_one, volumes-above version rows fit.1)

-- rows that keep a controller's rules rise by id
rows-rising : (next_id : ℕ) (session : Option ℕ) (rows : List ControllerRow) → AreControllerRows next_id session rows → AreRisingRows rows
rows-rising next_id None rows rules = rules.rising
rows-rising next_id (Some session) rows rules = rules.0.rising

-- the parts of a controller's record rise by key
pub controller-rising : (version : RecordVersion) (parts : List StoredPart) → IsRecordOf (controller_layout version) parts → AreRisingParts parts
controller-rising version parts is =
    let rules = is.spelled.rules in
    subst AreRisingParts (sym is.spelled.are) (
      volumes-above version is.rows is.spelled.rows_fit,
      subst (λ (rows : List VolumeRow). AreRisingParts (map (volume_part version) rows)) rules.1 (rising-in version rules.0 (rows-rising is.first.own is.first.session rules.0 rules.2)),
    )

-- ---- a node's

-- rows whose ids are above a number are parts whose keys are
answered-above : (version : RecordVersion) (low : ℕ) (rows : List NodeRowShown) → ((place : ℕ) → place < length rows → low < row_id_at rows place) → AreAbove low (map (answered_part version) rows)
answered-above version low [] above = tt
answered-above version low (row ∷ rows) above = (above zero (omega arith), answered-above version low rows (λ place within. above (suc place) (omega arith)))

-- a node's rows by rising id are parts by rising key
pub answered-rising : (version : RecordVersion) (rows : List NodeRowShown) → IsRisingById rows → AreRisingParts (map (answered_part version) rows)
answered-rising version [] rising = tt
answered-rising version (row ∷ rows) rising = (
  answered-above version row.id rows (λ place within. rising zero (suc place) (omega arith) (omega arith)),
  answered-rising version rows (λ i j less within. rising (suc i) (suc j) (omega arith) (omega arith)),
)

-- the keys of a node's rows are above 0
rows-above : (version : RecordVersion) (rows : List NodeRowShown) → AllByRecursion (IsAnsweredRow version) rows → AreAbove 0 (map (answered_part version) rows)
rows-above version [] fit = tt
rows-above version (row ∷ rows) fit = (fit.0.id.from_one, rows-above version rows fit.1)

-- rows that keep a node's rules rise by id
kept-rising : (session : Option ℕ) (rows : List NodeRowShown) → KeepRules session rows → IsRisingById rows
kept-rising None rows rules = rules.rising
kept-rising (Some session) rows rules = rules.0.rising

-- the parts of a node's record rise by key
pub node-rising : (version : RecordVersion) (wanted : Option (List ℕ)) (parts : List StoredPart) → IsRecordOf (node_layout version wanted) parts → AreRisingParts parts
node-rising version wanted parts is =
    subst AreRisingParts (sym is.spelled.are) (
      rows-above version is.rows is.spelled.rows_fit,
      answered-rising version is.rows (kept-rising is.first.session is.rows is.spelled.rules),
    )

-- ---- the node of a head

-- a text is told by the bytes that begin with it
text-told : (a b s t : List ℕ) → text a ++ s ≡ text b ++ t → a ≡ b
text-told a b s t same =
    let lengths : length a ≡ length b = cc in
    let rest : a ++ s ≡ b ++ t = cc in
    sym (take-append_seam a s) ∙ ap (take (length a)) rest ∙ ap (λ (n : ℕ). take n (b ++ t)) lengths ∙ take-append_seam b t

-- a node's record in the present version is the record of that node
pub node-wanted : (node : List ℕ) (session : Option ℕ) (rows : List NodeRowShown) → IsRecordOf (node_layout present None) (node_parts present node session rows)
    → IsRecordOf (node_layout present (Some node)) (node_parts present node session rows)
node-wanted node session rows is = record {
  first = is.first;
  rows = is.rows;
  spelled = record {
    head_fits = record { own = (is.spelled.head_fits.own.0, own); session = is.spelled.head_fits.session };
    rows_fit = is.spelled.rows_fit;
    rules = is.spelled.rules;
    are = is.spelled.are;
  };
}
  where
    own : is.first.own ≡ node
    own = text-told is.first.own node (session_bytes is.first.session) (session_bytes session)
        (sym (ap (λ (parts : List StoredPart). drop 2 (get_or parts 0 (record { key = 0; value = [] })).value) is.spelled.are))
