-- Parts in the bytes of a whole record: they are read as they are spelled, and the first that is refused has its place there.
use Rattle.std.proofs.Common.{◌≡◌, ℕ, suc, ◌+◌, ◌≤◌, ◌<◌, ◌^◌, Bool, true, false, cond, ltb, eqb, List, [], ◌∷◌, ◌++◌, length, take, drop, Some, None, Err, refl, sym, ap, subst, ◌∙◌, inl, inr, append_assoc, arith}
use Rattle.std.specs.Prelude.{◌⊎◌}
use Rattle.std.specs.List.{flat_map, AllByRecursion}
use Rattle.std.proofs.lemmas.Bool.{ltb-false, le-ltb, eqb-true}
use Rattle.std.proofs.lemmas.List.{append-nil, length-append, length-take, take_at, drop_at, take-append-drop}
use Rattle.std.proofs.lemmas.List.Concat.{flat_map-append}
use Rattle.byteorder.specs.Endian.{big_bytes, big_number}
use Rattle.byteorder.specs.Numbers.{big_from-lt}
use Rattle.csi_records.specs.declared.version.RecordVersion.{RecordVersion}
use Rattle.csi_frames.specs.Public.Bytes.{AreBytes}
use Rattle.csi_frames.specs.Public.Spelling as spelling
use Rattle.csi_frames.proofs.Bytes.{AreBytes-take, AreBytes-back, four-back, four-again}
use Rattle.csi_types.proofs.Each.{each-append_one}
use Rattle.csi_stores.specs.Public.Part.{StoredPart, IsPart}
use Rattle.csi_records.specs.Public.Spelling.{part_bytes, record_head}
use Rattle.csi_records.specs.Public.Records.{Begins, IsRefusedAt}
use Rattle.csi_records.specs.declared.fault.RecordStop.{RecordStop}
use Rattle.csi_records.specs.declared.fault.RecordStop.TheVariants.{BadRecord, NoMemory}
use Rattle.csi_records.specs.Public.Places.{IsBadAt, bad_part, more_bytes, ReadsParts, ReadsBytes}
use Rattle.csi_records.specs.Private.Stopping.{AreSplit, SplitStops, HasNoHead}
use Rattle.csi_records.specs.Private.Reading.{◌>>=◌, give, read_long, read_bytes, read_part, read_record_head}
use Rattle.csi_records.proofs.Readers.{Took, Reads, in_words, done, some_is, Spelled, spelled-same, spelled-none, Made, after, makes, also, fields}
use Rattle.csi_records.proofs.FieldReaders.{word_reads, version_reads}
use Rattle.csi_records.proofs.WritingPieces.{flat_map-push}

-- ---- so many bytes

-- the bytes are so many
pub record IsOfLength (n : ℕ) (value : List ℕ) : Type 0 where
  pub counted : length value ≡ n

-- bytes are spelled as they are
abbrev pub itself : List ℕ → List ℕ
itself value = value

-- so many bytes that are read stand first; the test is a flag here
piece-takes : (n : ℕ) (bytes : List ℕ) (short : Bool) (x : List ℕ × List ℕ) → ltb (length bytes) n ≡ short → cond short None (done (take n bytes) (drop n bytes)) ≡ Some x → Took (Spelled (IsOfLength n) itself) bytes x
piece-takes n bytes true x is e = absurd cc
piece-takes n bytes false x is e =
    let enough : n ≤ length bytes = ltb-false _ _ is in
    let counted : length (take n bytes) ≡ n = omega (arith, length-take n bytes) in
    subst (λ (y : List ℕ × List ℕ). Took (Spelled (IsOfLength n) itself) bytes y) (some_is (take n bytes) (drop n bytes) x e)
    (record { front = take n bytes; parts = sym (take-append-drop n bytes); says = record { fits = record { counted = counted }; are = refl } })

-- so many bytes that are read stand first
bytes_in-takes : (n : ℕ) (bytes : List ℕ) (x : List ℕ × List ℕ) → read_bytes n bytes ≡ Some x → Took (Spelled (IsOfLength n) itself) bytes x
unfolding read_bytes
bytes_in-takes n bytes x e = piece-takes n bytes (ltb (length bytes) n) x refl e

-- so many bytes that stand first are read
bytes_in-again : (n : ℕ) (value rest : List ℕ) → length value ≡ n → read_bytes n (value ++ rest) ≡ Some (value, rest)
unfolding read_bytes
bytes_in-again n value rest counted =
    let enough : ltb (length (value ++ rest)) n ≡ false = le-ltb _ _ (omega (arith, length-append value rest, counted)) in
    rw (enough, take_at value rest n counted, drop_at value rest n counted) refl

-- the reader of so many bytes takes them as they are
bytes_read : (n : ℕ) → Reads (read_bytes n) (Spelled (IsOfLength n) itself)
bytes_read n = record {
  takes = λ bytes fits x e. bytes_in-takes n bytes x e;
  again = λ value front rest s. ap (λ (t : List ℕ). read_bytes n (t ++ rest)) s.are ∙ bytes_in-again n value rest s.fits.counted;
}

-- ---- a number of 32 bits

-- the four bytes of a number
abbrev pub long : ℕ → List ℕ
long n = big_bytes 4 n

-- it fits 32 bits
pub record IsLong (n : ℕ) : Type 0 where
  pub fits : n < 2 ^ 32

-- the reader of a number of 32 bits reads what spells one
long_reads : Reads read_long (Spelled IsLong long)
unfolding read_long
long_reads =
    record {
      takes = λ bytes fits x e.
          let t = four.takes bytes fits x e in
          let count : length t.front ≡ 4 = ap length t.says.are ∙ t.says.fits.counted in
          let only : AreBytes t.front = subst AreBytes (take_at t.front x.1 4 count) (AreBytes-take 4 (t.front ++ x.1) (subst AreBytes t.parts fits)) in
          let same : big_number 4 t.front ≡ x.0 = ap (big_number 4) t.says.are ∙ sym t.says.same in
          record { front = t.front; parts = t.parts; says = record { fits = record { fits = subst (λ (n : ℕ). n < 2 ^ 32) same (big_from-lt 0 4 t.front only) }; are = sym (four-back t.front count only) ∙ ap (big_bytes 4) same } };
      again = λ n front rest s.
          four.again n front rest (record { before = long n; fits = record { counted = refl }; same = sym (four-again n [] s.fits.fits) ∙ ap (big_number 4) (append-nil (long n)); are = s.are });
    }
  where
    four : Reads (read_bytes 4 >>= λ bytes. give (big_number 4 bytes)) (Made (IsOfLength 4) itself (big_number 4))
    four = makes (big_number 4) (bytes_read 4)

-- ---- a part

-- a part, from its key and its value
abbrev make_part : ℕ → List ℕ → StoredPart
make_part key value = record { key = key; value = value }

-- the reader of a part reads what spells one: a key, a length and as many bytes
pub part_reads : Reads read_part (Spelled IsPart part_bytes)
unfolding read_part
part_reads = fields (also word_reads (λ key. value_behind key)) (λ p f. ((p.key, p.value), (f.key, f.value), refl)) (λ y f. record { key = f.0; value = f.1 }) (λ y. sym (append_assoc (spelling.word y.0) (long (length y.1)) y.1))
  where
    value_behind : (key : ℕ) → Reads (read_long >>= λ n. read_bytes n >>= λ value. give (make_part key value)) (Made (λ value. length value < 2 ^ 32) (λ value. long (length value) ++ value) (make_part key))
    value_behind key =
        in_words (Made (λ value. length value < 2 ^ 32) (λ value. long (length value) ++ value) (make_part key))
        (λ part bytes s. record {
          before = s.second.before;
          fits = subst (λ (n : ℕ). n < 2 ^ 32) (sym s.second.fits.counted) s.fits.fits;
          same = s.second.same;
          are = s.parts ∙ ap (λ (t : List ℕ). long s.before ++ t) s.second.are ∙ ap (λ (n : ℕ). long n ++ s.second.before) (sym s.second.fits.counted);
        })
        (λ part bytes s. record { before = length s.before; fits = record { fits = s.fits }; back = s.before; parts = s.are; second = record { before = s.before; fits = record { counted = refl }; same = s.same; are = refl } })
        (after long_reads (λ n. makes (make_part key) (bytes_read n)))

-- ---- the number of parts

-- what stands in front of a record's parts: a version and their number
abbrev pub Head : Type 0
Head = RecordVersion × ℕ

-- the number of parts fits 32 bits
abbrev pub IsHead : Head → Type 0
IsHead head = IsLong head.1

-- that front, as it is spelled
abbrev pub head_bytes : Head → List ℕ
head_bytes head = record_head head.0 head.1

-- a front, from its fields
abbrev pub make_head : RecordVersion → ℕ → Head
make_head version count = (version, count)

-- the reader of a record's version and number of parts reads what spells them
pub record_head_reads : Reads read_record_head (Spelled IsHead head_bytes)
unfolding read_record_head
record_head_reads = fields (also version_reads (λ version. makes (λ count. make_head version count) long_reads)) (λ h f. ((h.0, h.1), (tt, f), refl)) (λ y f. f.1) (λ y. refl)

-- where no version and number of parts are read, none stand in front
pub no-head : (bytes : List ℕ) → read_record_head bytes ≡ None → HasNoHead bytes
no-head bytes none = λ version count rest from to are. spelled-none record_head_reads bytes none (make_head version count) rest (record { fits = to }) are

-- where the number of parts that is read is 0, no number from 1 on stands in front
pub zero-head : (bytes rest : List ℕ) (head : Head) → head.1 ≡ 0 → read_record_head bytes ≡ Some (head, rest) → HasNoHead bytes
zero-head bytes rest head is read = λ version other more from to are.
    let e = sym (record_head_reads.again (make_head version other) (record_head version other) more (record { fits = record { fits = to }; are = refl })) ∙ ap read_record_head (sym are) ∙ read in
    let same : other ≡ head.1 = ap (λ p. p.0.1) (some_is (make_head version other) more (head, rest) e) in
    absurd (omega (arith, same, is, from))

-- ---- parts one after another

-- so many parts were read, and these bytes are left
pub record IsSoFar (bytes : List ℕ) (parts : List StoredPart) (rest : List ℕ) : Type 0 where
  pub fit : AllByRecursion IsPart parts
  pub are : bytes ≡ flat_map part_bytes parts ++ rest

-- where parts were read and one more is, the parts with it were read
pub one-more : (bytes : List ℕ) (parts : List StoredPart) (rest after : List ℕ) (part : StoredPart) → AreBytes bytes → IsSoFar bytes parts rest → read_part rest ≡ Some (part, after) → IsSoFar bytes (parts ++ part ∷ []) after
one-more bytes parts rest after part fits so_far read =
    let took = part_reads.takes rest (AreBytes-back (flat_map part_bytes parts) rest (subst AreBytes so_far.are fits)) (part, after) read in
    record {
      fit = each-append_one IsPart parts part so_far.fit took.says.fits;
      are = so_far.are ∙ ap (λ (t : List ℕ). flat_map part_bytes parts ++ t) (took.parts ∙ ap (λ (t : List ℕ). t ++ after) took.says.are)
          ∙ sym (append_assoc (flat_map part_bytes parts) (part_bytes part) after) ∙ ap (λ (t : List ℕ). t ++ after) (sym (flat_map-push part_bytes parts part));
    }

-- ---- the first part that is refused, in the bytes

-- of parts within their limits, each one is
pub part-inside : (before : List StoredPart) (p : StoredPart) (after : List StoredPart) → AllByRecursion IsPart (before ++ p ∷ after) → IsPart p
part-inside [] p after each = each.0
part-inside (b ∷ bs) p after each = part-inside bs p after each.1

-- a part that is refused among the parts is refused in the bytes
pub bad-among : (Is : RecordVersion → List StoredPart → Type 0) (version : RecordVersion) (bytes : List ℕ) (parts : List StoredPart) (all : Bool) (place : ℕ) → AreSplit version bytes parts all → IsRefusedAt (Is version) parts place → IsBadAt Is bytes place
bad-among Is version bytes parts all place split at =
    subst (λ (n : ℕ). IsBadAt Is bytes n) at.here
    (bad_part version split.count at.before (part_bytes at.part ++ (flat_map part_bytes at.after ++ split.rest)) split.to below are at.begins
    (λ part more fits same.
    let one = spelled-same part_reads at.part part (flat_map part_bytes at.after ++ split.rest) more (part-inside at.before at.part at.after (subst (AllByRecursion IsPart) at.are split.fit)) fits same in
    λ is. at.refused (subst (λ (p : StoredPart). Is version (at.before ++ p ∷ [])) (sym one.0) is)))
  where
    counted : (stops : Bool) → SplitStops split.count parts split.rest stops → length parts ≤ split.count
    counted true h = omega (arith, h.0)
    counted false (inl h) = omega (arith, h.0)
    counted false (inr h) = omega (arith, h.0)

    below : length at.before < split.count
    below =
        let long : length parts ≡ length at.before + suc (length at.after) = ap length at.are ∙ length-append at.before (at.part ∷ at.after) in
        let most = counted all split.stops in
        omega (arith, long, most)

    are : bytes ≡ record_head version split.count ++ flat_map part_bytes at.before ++ (part_bytes at.part ++ (flat_map part_bytes at.after ++ split.rest))
    are =
        split.are ∙ ap (λ (ps : List StoredPart). record_head version split.count ++ (flat_map part_bytes ps ++ split.rest)) at.are
        ∙ ap (λ (t : List ℕ). record_head version split.count ++ (t ++ split.rest)) (flat_map-append part_bytes at.before (at.part ∷ at.after))
        ∙ simp append_assoc

-- all parts that are there are a record's, and more is to come, or to go
pub bad-end : (Is : RecordVersion → List StoredPart → Type 0) (version : RecordVersion) (bytes : List ℕ) (parts : List StoredPart) → AreSplit version bytes parts false → Begins (Is version) parts → IsBadAt Is bytes (length parts)
bad-end Is version bytes parts split begins = by split.stops begins
  where
    whole : bytes ≡ record_head version split.count ++ flat_map part_bytes parts ++ split.rest
    whole = split.are ∙ sym (append_assoc (record_head version split.count) (flat_map part_bytes parts) split.rest)

    by : SplitStops split.count parts split.rest false → Begins (Is version) parts → IsBadAt Is bytes (length parts)
    by (inl h) (inl none) = absurd (omega (arith, h.0, ap length none, split.from))
    by (inl h) (inr is) = more_bytes version parts split.rest is h.1 (whole ∙ ap (λ (n : ℕ). record_head version n ++ flat_map part_bytes parts ++ split.rest) (sym h.0))
    by (inr h) here = bad_part version split.count parts split.rest split.to h.0 whole here (λ part more fits same is. h.1 part more fits same)

-- ---- how splitting ends

-- a number of parts that is read is of 32 bits, and stands in front behind the version
head-found : (bytes rest : List ℕ) (head : Head) → AreBytes bytes → read_record_head bytes ≡ Some (head, rest) → (head.1 < 2 ^ 32) × (bytes ≡ head_bytes head ++ rest)
head-found bytes rest head fits read =
    let took = record_head_reads.takes bytes fits (head, rest) read in
    (took.says.fits.fits, took.parts ∙ ap (λ (t : List ℕ). t ++ rest) took.says.are)

-- bytes of which the head and parts were read are split so far, where the splitting may stop there
split-here : (bytes rest after : List ℕ) (head : Head) (parts : List StoredPart) (all : Bool) → AreBytes bytes → read_record_head bytes ≡ Some (head, rest) → 1 ≤ head.1 → IsSoFar rest parts after → SplitStops head.1 parts after all
    → AreSplit head.0 bytes parts all
split-here bytes rest after head parts all fits read from so_far stops =
    let found = head-found bytes rest head fits read in
    record { count = head.1; rest = after; from = from; to = found.0; fit = so_far.fit; are = found.1 ∙ ap (λ (t : List ℕ). head_bytes head ++ t) so_far.are; stops = stops }

-- where no part is read and fewer were than the head says, splitting stops there
pub split-stopped : (bytes rest after : List ℕ) (head : Head) (parts : List StoredPart) → AreBytes bytes → read_record_head bytes ≡ Some (head, rest) → 1 ≤ head.1 → IsSoFar rest parts after → length parts < head.1 → read_part after ≡ None
    → AreSplit head.0 bytes parts false
split-stopped bytes rest after head parts fits read from so_far fewer none = split-here bytes rest after head parts false fits read from so_far (inr (fewer, spelled-none part_reads after none))

-- where as many parts were read as the head says, splitting took all if no byte is left, and else not all
pub split-ended : (bytes rest after : List ℕ) (head : Head) (parts : List StoredPart) (empty : Bool) → AreBytes bytes → read_record_head bytes ≡ Some (head, rest) → 1 ≤ head.1 → IsSoFar rest parts after → length parts ≡ head.1 → empty ≡ eqb (length after) 0
    → AreSplit head.0 bytes parts empty
split-ended bytes rest [] head parts true fits read from so_far all is = split-here bytes rest [] head parts true fits read from so_far (all, refl)
split-ended bytes rest [] head parts false fits read from so_far all is = absurd cc
split-ended bytes rest (b ∷ after) head parts true fits read from so_far all is = absurd (omega (arith, eqb-true (length (b ∷ after)) 0 (sym is)))
split-ended bytes rest (b ∷ after) head parts false fits read from so_far all is = split-here bytes rest (b ∷ after) head parts false fits read from so_far (inl (all, λ e. cc))

-- what stands behind a record's head are bytes
pub bytes-after : (bytes rest : List ℕ) (head : Head) → AreBytes bytes → read_record_head bytes ≡ Some (head, rest) → AreBytes rest
bytes-after bytes rest head fits read = AreBytes-back (head_bytes head) rest (subst AreBytes (head-found bytes rest head fits read).1 fits)

-- ---- what reading bytes answers

-- the parts that are there are none of a record
err-by : (Is : RecordVersion → List StoredPart → Type 0) (version : RecordVersion) (bytes : List ℕ) (parts : List StoredPart) (all : Bool) (place : ℕ) → AreSplit version bytes parts all
    → ((parts ≡ []) × (place ≡ 0)) ⊎ IsRefusedAt (Is version) parts place → IsBadAt Is bytes place
err-by Is version bytes parts true place split (inl none) = absurd (omega (arith, split.stops.0, ap length none.0, split.from))
err-by Is version bytes parts false place split (inl none) =
    subst (λ (n : ℕ). IsBadAt Is bytes n) (ap length none.0 ∙ sym none.1) (bad-end Is version bytes parts split (inl none.0))
err-by Is version bytes parts all place split (inr at) = bad-among Is version bytes parts all place split at

-- a part that is refused among the parts of bytes is refused in the bytes
pub err-bytes : {X : Type 0} (Is : RecordVersion → List StoredPart → Type 0) (AreOf : RecordVersion → List StoredPart → X → Type 0) (version : RecordVersion) (bytes : List ℕ) (parts : List StoredPart) (all : Bool) (stop : RecordStop)
    → AreSplit version bytes parts all → ReadsParts (Is version) (AreOf version) parts (Err stop) → ReadsBytes Is AreOf bytes (Err stop)
err-bytes Is AreOf version bytes parts all (BadRecord place) split read = err-by Is version bytes parts all place split read
err-bytes Is AreOf version bytes parts all NoMemory split read = tt
