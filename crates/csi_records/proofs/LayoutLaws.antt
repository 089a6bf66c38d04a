-- The laws of records by any layouts, one for each version: bytes are read in one way, and one part at most is the first that is refused.
use Rattle.std.proofs.Common.{◌≡◌, ◌⊎◌, ℕ, ◌≤◌, ◌<◌, ◌^◌, List, [], ◌∷◌, ◌++◌, length, take, map, refl, sym, ap, subst, ◌∙◌, inl, inr, append_assoc, arith}
use Rattle.std.specs.List.{flat_map, AllByRecursion}
use Rattle.std.proofs.lemmas.Bool.{cases_order}
use Rattle.std.proofs.lemmas.List.{append-nil, length-append, length-map, take-map, take_at}
use Rattle.csi_types.proofs.Each.{each-map}
use Rattle.csi_records.specs.declared.version.RecordVersion.{RecordVersion}
use Rattle.csi_stores.specs.Public.Part.{StoredPart, IsPart}
use Rattle.csi_records.specs.Public.Spelling.{part_bytes, record_head, record_bytes}
use Rattle.csi_records.specs.Public.Records.{Layout, IsRecordOf, IsInSome, Begins, IsRefusedAt}
use Rattle.csi_records.specs.Public.Places.{IsBadAt, no_head, bad_part, more_bytes}
use Rattle.csi_records.specs.Public.Laws.{HasOneReading, HasOneRefusal}
use Rattle.csi_records.specs.Private.Stopping.{HasNoHead}
use Rattle.csi_records.proofs.Readers.{spelled-same}
use Rattle.csi_records.proofs.Layouts.{IsOneToOne, each-take}
use Rattle.csi_records.proofs.SplittingBytes.{part_reads, record_head_reads, make_head, part-inside}

-- what parts are, whatever they spell
pub record ArePlain {H R : Type 0} (layout : Layout H R) : Type 0 where
  pub heads : (first : H) → layout.is_head first → IsPart (layout.head first)
  pub rows : (row : R) → layout.is_row row → IsPart (layout.row row)
  pub few : (first : H) (rs : List R) → layout.are_rows first rs → length rs ≤ 4096

-- the parts of a record fit, and are some, and few
pub record FitParts (parts : List StoredPart) : Type 0 where
  pub fit : AllByRecursion IsPart parts
  pub some : 1 ≤ length parts
  pub few : length parts < 2 ^ 32

-- the parts of a record are within their limits, and there are some, and fewer than 2^32
pub fit-parts : {H R : Type 0} (layout : Layout H R) → ArePlain layout → (parts : List StoredPart) → IsRecordOf layout parts → FitParts parts
fit-parts layout plain parts is =
    let s = is.spelled in
    let few : length is.rows ≤ 4096 = plain.few is.first is.rows s.rules in
    subst FitParts (sym s.are)
    (record {
      fit = (plain.heads is.first s.head_fits, each-map layout.is_row IsPart layout.row is.rows plain.rows s.rows_fit);
      some = omega arith;
      few = omega (arith, few, length-map is.rows layout.row);
    })

-- a front of a record is one, or nothing
front-of : {H R : Type 0} (layout : Layout H R) → IsOneToOne layout → (before more : List StoredPart) → IsRecordOf layout (before ++ more) → Begins (IsRecordOf layout) before
front-of layout one [] more is = inl refl
front-of {H} {R} layout one (p ∷ ps) more is =
    let s = is.spelled in
    let head : p ≡ layout.head is.first = cc in
    let rest : ps ++ more ≡ map layout.row is.rows = cc in
    let k = length ps in
    let front : ps ≡ map layout.row (take k is.rows) = sym (take_at ps more k refl) ∙ ap (take k) rest ∙ take-map layout.row k is.rows in
    inr (record {
      first = is.first;
      rows = take k is.rows;
      spelled = record {
        head_fits = s.head_fits;
        rows_fit = each-take layout.is_row is.rows k s.rows_fit;
        rules = one.fronts is.first is.rows k s.rules;
        are = ap (λ (q : StoredPart). q ∷ ps) head ∙ ap (λ (qs : List StoredPart). layout.head is.first ∷ qs) front;
      };
    })

-- a front with one part more is a record where the whole begins one
begun-front : {H R : Type 0} (layout : Layout H R) → IsOneToOne layout → (front : List StoredPart) (p : StoredPart) (more whole : List StoredPart) → whole ≡ front ++ p ∷ more → Begins (IsRecordOf layout) whole → IsRecordOf layout (front ++ p ∷ [])
begun-front layout one front p more whole are (inl none) = absurd (omega (arith, ap length (sym none ∙ are), length-append front (p ∷ more)))
begun-front layout one front p more whole are (inr is) =
    by (front-of layout one (front ++ p ∷ []) more (subst (IsRecordOf layout) (are ∙ sym (append_assoc front (p ∷ []) more)) is))
  where
    by : Begins (IsRecordOf layout) (front ++ p ∷ []) → IsRecordOf layout (front ++ p ∷ [])
    by (inl none) = absurd (omega (arith, length-append front (p ∷ []), ap length none))
    by (inr here) = here

-- the bytes of parts, one after another
abbrev flat : List StoredPart → List ℕ
flat parts = flat_map part_bytes parts

-- of parts whose bytes, with a rest, are the same, the fewer are a front of the more
goes : (few many : List StoredPart) (left right : List ℕ) → AllByRecursion IsPart few → AllByRecursion IsPart many → flat few ++ left ≡ flat many ++ right → length few ≤ length many
    → (more : List StoredPart) × (many ≡ few ++ more) × (left ≡ flat more ++ right)
goes [] many left right fit fits e le = (many, refl, e)
goes (p ∷ ps) [] left right fit fits e le = absurd (omega arith)
goes (p ∷ ps) (q ∷ qs) left right fit fits e le =
    let same = spelled-same part_reads p q (flat ps ++ left) (flat qs ++ right) fit.0 fits.0 (sym (append_assoc (part_bytes p) (flat ps) left) ∙ e ∙ append_assoc (part_bytes q) (flat qs) right) in
    let rest = goes ps qs left right fit.1 fits.1 same.1 (omega arith) in
    (rest.0, ap (λ (r : StoredPart). r ∷ qs) (sym same.0) ∙ ap (λ (rs : List StoredPart). p ∷ rs) rest.1, rest.2)

-- the same of as many parts: they are the same, and so are the rests
goes-all : (parts others : List StoredPart) (left right : List ℕ) → AllByRecursion IsPart parts → AllByRecursion IsPart others → flat parts ++ left ≡ flat others ++ right → length parts ≡ length others → (parts ≡ others) × (left ≡ right)
goes-all parts others left right fit fits e count = let g = goes parts others left right fit fits e (omega (arith, count)) in none g.0 g.1 g.2
  where
    none : (more : List StoredPart) → others ≡ parts ++ more → left ≡ flat more ++ right → (parts ≡ others) × (left ≡ right)
    none [] are rest = (sym (are ∙ append-nil parts), rest)
    none (p ∷ ps) are rest = absurd (omega (arith, count, ap length are ∙ length-append parts (p ∷ ps)))

-- with no part that comes next are the parts before it a record
abbrev Refuses : (List StoredPart → Type 0) → List StoredPart → List ℕ → Type 0
Refuses Is before rest = (part : StoredPart) (more : List ℕ) → IsPart part → rest ≡ part_bytes part ++ more → Is (before ++ part ∷ []) → ⊥

-- the parts of a record, or of nothing yet, are within their limits
begun-fit : {H R : Type 0} (layout : Layout H R) → ArePlain layout → (before : List StoredPart) → Begins (IsRecordOf layout) before → AllByRecursion IsPart before
begun-fit layout plain before (inl none) = subst (AllByRecursion IsPart) (sym none) tt
begun-fit layout plain before (inr is) = (fit-parts layout plain before is).fit

-- what is refused behind a front is no part of a record that goes on
not-further : {H R : Type 0} (layout : Layout H R) → IsOneToOne layout → ArePlain layout → (before many : List StoredPart) (left right : List ℕ) → Begins (IsRecordOf layout) before → Refuses (IsRecordOf layout) before left
    → Begins (IsRecordOf layout) many → flat before ++ left ≡ flat many ++ right → length before < length many → ⊥
not-further {H} {R} layout one plain before many left right begins refuses begun e less =
    let g = goes before many left right (begun-fit layout plain before begins) (begun-fit layout plain many begun) e (omega (arith, less)) in
    with g.0 g.1 g.2
  where
    with : (more : List StoredPart) → many ≡ before ++ more → left ≡ flat more ++ right → ⊥
    with [] are here = omega (arith, less, ap length are ∙ ap length (append-nil before))
    with (p ∷ ps) are here =
        let fits : AllByRecursion IsPart (before ++ p ∷ ps) = subst (AllByRecursion IsPart) are (begun-fit layout plain many begun) in
        refuses p (flat ps ++ right) (part-inside before p ps fits) (here ∙ append_assoc (part_bytes p) (flat ps) right) (begun-front layout one before p ps many are begun)

-- one version and number of parts stand in front of bytes
heads-same : (v w : RecordVersion) (a b : ℕ) (first second : List ℕ) → a < 2 ^ 32 → b < 2 ^ 32 → record_head v a ++ first ≡ record_head w b ++ second → (v ≡ w) × (a ≡ b) × (first ≡ second)
heads-same v w a b first second fits fit e =
    let same = spelled-same record_head_reads (make_head v a) (make_head w b) first second (record { fits = fits }) (record { fits = fit }) e in
    (ap (λ head. head.0) same.0, ap (λ head. head.1) same.0, same.1)

-- a version and a number of parts, a front of them that is a record, if there are any, and a rest; the front is all of them, or what comes next is no
-- part of a record that goes on
record Front {H R : Type 0} (layouts : RecordVersion → Layout H R) (bytes : List ℕ) : Type 0 where
  version : RecordVersion
  count : ℕ
  before : List StoredPart
  rest : List ℕ
  from : 1 ≤ count
  to : count < 2 ^ 32
  within : length before ≤ count
  are : bytes ≡ record_head version count ++ (flat before ++ rest)
  begins : Begins (IsRecordOf (layouts version)) before
  ends : (length before ≡ count) ⊎ Refuses (IsRecordOf (layouts version)) before rest

module _ {H R : Type 0} (layouts : RecordVersion → Layout H R) (one : (version : RecordVersion) → IsOneToOne (layouts version)) (plain : (version : RecordVersion) → ArePlain (layouts version)) (bytes : List ℕ) where
  -- no front is shorter than another one
  shorter : (p q : Front layouts bytes) → p.version ≡ q.version → p.count ≡ q.count → flat p.before ++ p.rest ≡ flat q.before ++ q.rest → length p.before < length q.before → ⊥
  shorter p q version count e less = by p.ends
    where
      by : (length p.before ≡ p.count) ⊎ Refuses (IsRecordOf (layouts p.version)) p.before p.rest → ⊥
      by (inl all) = omega (arith, all, count, less, q.within)
      by (inr refuses) =
          not-further (layouts p.version) (one p.version) (plain p.version) p.before q.before p.rest q.rest p.begins refuses (subst (λ (v : RecordVersion). Begins (IsRecordOf (layouts v)) q.before) (sym version) q.begins) e less

  -- so bytes have one front
  same-front : (p q : Front layouts bytes) → (p.version ≡ q.version) × (p.count ≡ q.count) × (p.before ≡ q.before) × (p.rest ≡ q.rest)
  same-front p q =
      let heads = heads-same p.version q.version p.count q.count (flat p.before ++ p.rest) (flat q.before ++ q.rest) p.to q.to (sym p.are ∙ q.are) in
      let both = by heads.0 heads.1 heads.2 (cases_order (length p.before) (length q.before)) in
      (heads.0, heads.1, both.0, both.1)
    where
      by : p.version ≡ q.version → p.count ≡ q.count → flat p.before ++ p.rest ≡ flat q.before ++ q.rest → (length p.before ≡ length q.before) ⊎ ((length p.before < length q.before) ⊎ (length q.before < length p.before))
          → (p.before ≡ q.before) × (p.rest ≡ q.rest)
      by version count e (inl same) =
          goes-all p.before q.before p.rest q.rest (begun-fit (layouts p.version) (plain p.version) p.before p.begins) (begun-fit (layouts q.version) (plain q.version) q.before q.begins) e same
      by version count e (inr (inl less)) = absurd (shorter p q version count e less)
      by version count e (inr (inr more)) = absurd (shorter q p (sym version) (sym count) (sym e) more)

  -- a record, and what stands behind it
  abbrev whole : (version : RecordVersion) (parts : List StoredPart) (rest : List ℕ) → IsRecordOf (layouts version) parts → bytes ≡ record_bytes version parts ++ rest → Front layouts bytes
  whole version parts rest is are =
      let fits = fit-parts (layouts version) (plain version) parts is in
      record {
        version = version;
        count = length parts;
        before = parts;
        rest = rest;
        from = fits.some;
        to = fits.few;
        within = omega arith;
        are = are ∙ append_assoc (record_head version (length parts)) (flat parts) rest;
        begins = inr is;
        ends = inl refl;
      }

  -- nothing stands behind it
  abbrev alone : (version : RecordVersion) (parts : List StoredPart) → IsRecordOf (layouts version) parts → bytes ≡ record_bytes version parts → Front layouts bytes
  alone version parts is are = whole version parts [] is (are ∙ sym (append-nil (record_bytes version parts)))

  -- bytes with a refused part have no number of parts and are refused at 0, or have a front that isn't all of them
  abbrev Seen : ℕ → Type 0
  Seen place = ((place ≡ 0) × HasNoHead bytes) ⊎ ((f : Front layouts bytes) × (length f.before ≡ place) × (length f.before ≡ f.count → f.rest ≡ [] → ⊥))

  -- so they are seen
  seen : (place : ℕ) → IsBadAt (λ version. IsRecordOf (layouts version)) bytes place → Seen place
  seen _ (no_head none) = inl (refl, none)
  seen _ (bad_part version count before rest to below are begins refuses) =
      let front : Front layouts bytes = record {
        version = version;
        count = count;
        before = before;
        rest = rest;
        from = omega (arith, below);
        to = to;
        within = omega (arith, below);
        are = are ∙ append_assoc (record_head version count) (flat before) rest;
        begins = begins;
        ends = inr refuses;
      } in
      inr (front, refl, λ all none. omega (arith, all, below))
  seen _ (more_bytes version parts rest is some are) = inr (whole version parts rest is are, refl, λ all none. some none)

  -- bytes are a record's in one way, or are refused at one place at most, and not both
  pub one-reading : HasOneReading (λ version. IsRecordOf (layouts version)) bytes
  one-reading = record {
    spelled = λ version parts place is are bad. clash version parts place is are (seen place bad);
    one_record = λ version another parts others is other are too. let same = same-front (alone version parts is are) (alone another others other too) in (same.0, same.2);
    one_place = λ a b first second. places a b (seen a first) (seen b second);
  }
    where
      clash : (version : RecordVersion) (parts : List StoredPart) (place : ℕ) → IsRecordOf (layouts version) parts → bytes ≡ record_bytes version parts → Seen place → ⊥
      clash version parts place is are (inl none) = let f = alone version parts is are in none.1 f.version f.count (flat f.before ++ f.rest) f.from f.to f.are
      clash version parts place is are (inr bad) = let same = same-front bad.0 (alone version parts is are) in bad.2 (ap length same.2 ∙ sym same.1) same.3

      places : (a b : ℕ) → Seen a → Seen b → a ≡ b
      places a b (inl p) (inl q) = p.0 ∙ sym q.0
      places a b (inl p) (inr q) = absurd (p.1 q.0.version q.0.count (flat q.0.before ++ q.0.rest) q.0.from q.0.to q.0.are)
      places a b (inr p) (inl q) = absurd (q.1 p.0.version p.0.count (flat p.0.before ++ p.0.rest) p.0.from p.0.to p.0.are)
      places a b (inr p) (inr q) = sym p.1 ∙ ap length (same-front p.0 q.0).2 ∙ q.1

-- ---- the first part that is refused, among parts

-- of two fronts of a list, each with the part behind it, the longer begins with the shorter and its part
goes-on : (front longer : List StoredPart) (p q : StoredPart) (x y : List StoredPart) → front ++ p ∷ x ≡ longer ++ q ∷ y → length front < length longer → (more : List StoredPart) × (longer ≡ front ++ p ∷ more)
goes-on front [] p q x y e less = absurd (omega arith)
goes-on [] (b ∷ bs) p q x y e less = let same : b ≡ p = cc in (bs, ap (λ (r : StoredPart). r ∷ bs) same)
goes-on (a ∷ front) (b ∷ bs) p q x y e less =
    let same : b ≡ a = cc in
    let rest : front ++ p ∷ x ≡ bs ++ q ∷ y = cc in
    let on = goes-on front bs p q x y rest (omega arith) in
    (on.0, ap (λ (r : StoredPart). r ∷ bs) same ∙ ap (λ (rs : List StoredPart). a ∷ rs) on.1)

-- these parts are a record of some version
abbrev AreSome : {H R : Type 0} → (RecordVersion → Layout H R) → List StoredPart → Type 0
AreSome layouts = IsInSome (λ version. IsRecordOf (layouts version))

-- a front with one part more is a record of some version where the whole begins one
some-front : {H R : Type 0} (layouts : RecordVersion → Layout H R) → ((version : RecordVersion) → IsOneToOne (layouts version)) → (front : List StoredPart) (p : StoredPart) (more whole : List StoredPart) → whole ≡ front ++ p ∷ more → Begins (AreSome layouts) whole
    → AreSome layouts (front ++ p ∷ [])
some-front layouts one front p more whole are (inl none) = absurd (omega (arith, ap length (sym none ∙ are), length-append front (p ∷ more)))
some-front layouts one front p more whole are (inr is) = record { version = is.version; there = begun-front (layouts is.version) (one is.version) front p more whole are (inr is.there) }

-- parts that are refused at one place aren't refused at a later one
refused-clash : {H R : Type 0} (layouts : RecordVersion → Layout H R) → ((version : RecordVersion) → IsOneToOne (layouts version)) → (parts : List StoredPart) (a b : ℕ) → IsRefusedAt (AreSome layouts) parts a → IsRefusedAt (AreSome layouts) parts b → a < b → ⊥
refused-clash layouts one parts a b first second less =
    let on = goes-on first.before second.before first.part second.part first.after second.after (sym first.are ∙ second.are) (omega (arith, first.here, second.here, less)) in
    first.refused (some-front layouts one first.before first.part on.0 second.before on.1 second.begins)

-- parts are a record's, or have one first part that is refused at most, and not both
pub one-refusal : {H R : Type 0} (layouts : RecordVersion → Layout H R) → ((version : RecordVersion) → IsOneToOne (layouts version)) → (parts : List StoredPart) → HasOneRefusal (IsInSome (λ version. IsRecordOf (layouts version))) parts
one-refusal {H} {R} layouts one parts = record {
  none = λ place is at. at.refused (some-front layouts one at.before at.part at.after parts at.are (inr is));
  one_place = λ a b first second. by a b first second (cases_order a b);
}
  where
    by : (a b : ℕ) → IsRefusedAt (AreSome layouts) parts a → IsRefusedAt (AreSome layouts) parts b → (a ≡ b) ⊎ ((a < b) ⊎ (b < a)) → a ≡ b
    by a b first second (inl same) = same
    by a b first second (inr (inl less)) = absurd (refused-clash layouts one parts a b first second less)
    by a b first second (inr (inr more)) = absurd (refused-clash layouts one parts b a second first more)
