-- Records of any version and kind: the head tells which one, so that what is refused in it is refused in every other.
use Rattle.std.proofs.Common.{◌≡◌, ℕ, List, [], ◌∷◌, ◌++◌, map, Some, None, Err, refl, sym, ap, subst, ◌∙◌, inl, inr}
use Rattle.std.proofs.lemmas.Option.{same_Some}
use Rattle.csi_types.proofs.Options.{some_is_not_none}
use Rattle.csi_records.specs.declared.version.RecordVersion.{RecordVersion}
use Rattle.csi_stores.specs.Public.Part.{StoredPart}
use Rattle.csi_records.specs.declared.fault.RecordStop.{RecordStop}
use Rattle.csi_records.specs.declared.fault.RecordStop.TheVariants.{BadRecord, NoMemory}
use Rattle.csi_records.specs.Private.Reading.{version_in_value, version_in_parts}
use Rattle.csi_records.specs.Public.Records.{Layout, AreParts, IsRecordOf, IsInSome, Begins, IsRefusedAt}
use Rattle.csi_records.specs.Public.Places.{ReadsParts, ReadsStored}
use Rattle.csi_records.specs.Public.Laws.{PartsTell, LawsOf, IsRefusedBy, AreKindsApart}
use Rattle.csi_records.proofs.Layouts.{IsOneToOne, parts-same}
use Rattle.csi_records.proofs.LayoutLaws.{ArePlain, one-reading, one-refusal}

-- the second byte of a value, 0 where there is none
abbrev kind_in_value : List ℕ → ℕ
kind_in_value [] = 0
kind_in_value (a ∷ []) = 0
kind_in_value (a ∷ b ∷ bytes) = b

-- that of the first part
abbrev kind_in_parts : List StoredPart → ℕ
kind_in_parts [] = 0
kind_in_parts (part ∷ parts) = kind_in_value part.value

-- how a head begins: with the byte of its version, and then with one that all records of the kind have
pub record AreOfKind {H R : Type 0} (layouts : RecordVersion → Layout H R) (kind : ℕ) : Type 0 where
  pub versions : (version : RecordVersion) (first : H) → version_in_value ((layouts version).head first).value ≡ Some version
  pub kinds : (version : RecordVersion) (first : H) → kind_in_value ((layouts version).head first).value ≡ kind

-- the parts of a record tell its version
parts-version : {H R : Type 0} {kind : ℕ} (layouts : RecordVersion → Layout H R) → AreOfKind layouts kind → (version : RecordVersion) (first : H) (rows : List R) (parts : List StoredPart) → AreParts (layouts version) first rows parts → version_in_parts parts ≡ Some version
parts-version layouts versioned version first rows parts s = ap version_in_parts s.are ∙ versioned.versions version first

-- equal parts are of one version and one record
pub parts-tell : {H R : Type 0} {kind : ℕ} (layouts : RecordVersion → Layout H R) → ((version : RecordVersion) → IsOneToOne (layouts version)) → AreOfKind layouts kind → PartsTell layouts
parts-tell {H} {R} layouts one versioned version another first other rows others parts p q =
    let same : version ≡ another = same_Some version another (sym (parts-version layouts versioned version first rows parts p) ∙ parts-version layouts versioned another other others parts q) in
    let both = parts-same (layouts version) (one version) first other rows others parts p (subst (λ (v : RecordVersion). AreParts (layouts v) other others parts) (sym same) q) in
    (same, both.0, both.1)

-- the laws of the records of a plugin
pub laws-of : {H R : Type 0} {kind : ℕ} (layouts : RecordVersion → Layout H R) → ((version : RecordVersion) → IsOneToOne (layouts version)) → ((version : RecordVersion) → ArePlain (layouts version)) → AreOfKind layouts kind → LawsOf layouts
laws-of layouts one plain versioned = record { parts = parts-tell layouts one versioned; refusals = one-refusal layouts one; bytes = one-reading layouts one plain }

-- ---- what is refused in the version that the head tells

-- the first part tells the version, whatever stands behind it
same-head : (before : List StoredPart) (part : StoredPart) (more after : List StoredPart) → version_in_parts (before ++ part ∷ more) ≡ version_in_parts (before ++ part ∷ after)
same-head [] part more after = refl
same-head (b ∷ bs) part more after = refl

-- where no version is told, the first part is refused, if there is one
pub no-version : {X H R : Type 0} {kind : ℕ} (layouts : RecordVersion → Layout H R) → AreOfKind layouts kind → (AreOf : RecordVersion → List StoredPart → X → Type 0) (parts : List StoredPart) → version_in_parts parts ≡ None
    → ReadsStored (λ v. IsRecordOf (layouts v)) AreOf parts (Err (BadRecord 0))
no-version layouts versioned AreOf [] none = inl (refl, refl)
no-version {X} {H} {R} layouts versioned AreOf (part ∷ parts) none =
    inr (record {
      before = [];
      part = part;
      after = parts;
      are = refl;
      here = refl;
      begins = inl refl;
      refused = λ is. let s = is.there.spelled in some_is_not_none is.version (sym (parts-version layouts versioned is.version is.there.first is.there.rows (part ∷ []) s) ∙ none);
    })

-- what is refused in the version that the parts tell is refused in a record of any version
refused-some : {H R : Type 0} {kind : ℕ} (layouts : RecordVersion → Layout H R) → AreOfKind layouts kind → (version : RecordVersion) (parts : List StoredPart) (place : ℕ) → version_in_parts parts ≡ Some version → IsRefusedAt (IsRecordOf (layouts version)) parts place
    → IsRefusedAt (IsInSome (λ version. IsRecordOf (layouts version))) parts place
refused-some {H} {R} layouts versioned version parts place told at =
    record {
      before = at.before;
      part = at.part;
      after = at.after;
      are = at.are;
      here = at.here;
      begins = begins at.begins;
      refused = λ is. at.refused (subst (λ (v : RecordVersion). IsRecordOf (layouts v) (at.before ++ at.part ∷ [])) (same is) is.there);
    }
  where
    begins : Begins (IsRecordOf (layouts version)) at.before → Begins (IsInSome (λ v. IsRecordOf (layouts v))) at.before
    begins (inl none) = inl none
    begins (inr is) = inr (record { version = version; there = is })

    same : (is : IsInSome (λ v. IsRecordOf (layouts v)) (at.before ++ at.part ∷ [])) → is.version ≡ version
    same is =
        let s = is.there.spelled in
        same_Some is.version version
        (sym (parts-version layouts versioned is.version is.there.first is.there.rows (at.before ++ at.part ∷ []) s) ∙ same-head at.before at.part [] at.after ∙ ap version_in_parts (sym at.are) ∙ told)

-- where reading parts in the version that they tell stopped, no version has them as a record
pub stopped-in : {X H R : Type 0} {kind : ℕ} (layouts : RecordVersion → Layout H R) → AreOfKind layouts kind → (AreOf : RecordVersion → List StoredPart → X → Type 0) (version : RecordVersion) (parts : List StoredPart) (stop : RecordStop) → version_in_parts parts ≡ Some version
    → ReadsParts (IsRecordOf (layouts version)) (AreOf version) parts (Err stop) → ReadsStored (λ v. IsRecordOf (layouts v)) AreOf parts (Err stop)
stopped-in layouts versioned AreOf version parts (BadRecord place) told (inl none) = inl none
stopped-in layouts versioned AreOf version parts (BadRecord place) told (inr at) = inr (refused-some layouts versioned version parts place told at)
stopped-in layouts versioned AreOf version parts NoMemory told read = tt

-- ---- records of different kinds

-- the parts of a record have this byte there
kind-of : {H R : Type 0} (layouts : RecordVersion → Layout H R) (kind : ℕ) → AreOfKind layouts kind → (parts : List StoredPart) → IsInSome (λ version. IsRecordOf (layouts version)) parts → kind_in_parts parts ≡ kind
kind-of layouts kind kinds parts is = ap kind_in_parts is.there.spelled.are ∙ kinds.kinds is.version is.there.first

-- the record of another kind is refused at its head
refused-by : {H R G S : Type 0} (others : RecordVersion → Layout G S) (layouts : RecordVersion → Layout H R) (other kind : ℕ) → AreOfKind others other → AreOfKind layouts kind → (other ≡ kind → ⊥)
    → IsRefusedBy others layouts
refused-by others layouts other kind too kinds apart = λ parts more is.
    let s = is.there.spelled in
    let head = (layouts is.version).head is.there.first in
    record {
      before = [];
      part = head;
      after = map (layouts is.version).row is.there.rows ++ more;
      are = ap (λ (ps : List StoredPart). ps ++ more) s.are;
      here = refl;
      begins = inl refl;
      refused = λ there. apart (sym (kind-of others other too (head ∷ []) there) ∙ kinds.kinds is.version is.there.first);
    }

-- and the other way round
pub kinds-apart : {H R G S : Type 0} (layouts : RecordVersion → Layout H R) (others : RecordVersion → Layout G S) (kind other : ℕ) → AreOfKind layouts kind → AreOfKind others other → (kind ≡ other → ⊥)
    → AreKindsApart layouts others
kinds-apart layouts others kind other kinds too apart = (refused-by others layouts other kind too kinds (λ e. apart (sym e)), refused-by layouts others kind other kinds too apart)
