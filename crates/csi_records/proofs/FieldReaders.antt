-- The readers of single fields read what is spelled: those of frames since they agree with a grammar.
use Rattle.std.proofs.Common.{◌≡◌, ℕ, zero, suc, ◌+◌, ◌-◌, ◌≤◌, Bool, true, false, cond, ltb, leb, eqb, List, [], ◌∷◌, ◌++◌, Some, None, Result, Ok, Err, refl, sym, ap, subst, ◌∙◌, arith}
use Rattle.std.specs.Prelude.{Option}
use Rattle.std.proofs.lemmas.Bool.{ltb-false, leb-true, le-leb, eqb-true, eq-eqb}
use Rattle.std.proofs.lemmas.List.{append-nil}
use Rattle.std.proofs.lemmas.Option.{same_Some}
use Rattle.csi_types.specs.declared.call.Kind.{Kind}
use Rattle.csi_types.specs.declared.call.Kind.TheVariants as kinds
use Rattle.csi_types.specs.declared.number.Number.{Number}
use Rattle.csi_types.specs.Public.Status.{status_code}
use Rattle.csi_types.specs.Model.Same.{kind_number}
use Rattle.csi_types.specs.Public.Text.{IsText}
use Rattle.csi_types.specs.Public.Limits.{IsWord, IsNumber}
use Rattle.csi_records.specs.declared.version.RecordVersion.{RecordVersion}
use Rattle.csi_records.specs.declared.version.RecordVersion.TheVariants.{One, Two, Three}
use Rattle.csi_records.specs.Public.Version.{record_version_number, modes_of}
use Rattle.csi_records.specs.Private.Version.{record_version_from_number}
use Rattle.csi_frames.specs.declared.fault.FaultKind.TheVariants.{LengthDiffers, BadCount}
use Rattle.csi_frames.specs.declared.fields.FieldStop.{FieldStop}
use Rattle.csi_frames.specs.Public.Grammar.{Grammar, End, any, at_most}
use Rattle.csi_frames.specs.Public.Kinds.{kind_from_number, reply_kind_from}
use Rattle.csi_frames.specs.Public.Reading as frames
use Rattle.csi_frames.specs.Public.Reading.{byte_at}
use Rattle.csi_frames.specs.Public.Spelling as spelling
use Rattle.csi_frames.proofs.Readers.{Agrees, done, ok_is}
use Rattle.csi_frames.proofs.FieldReaders.{byte_agrees}
use Rattle.csi_frames.proofs.Codes.{kind-back}
use Rattle.csi_frames.proofs.CapabilityReaders.{any_word_agrees, any_text_agrees, flag_agrees, capability_agrees}
use Rattle.csi_frames.proofs.ReplyReaders.{status_agrees}
use Rattle.csi_frames.proofs.BodyReaders.{number_agrees}
use Rattle.csi_records.specs.Private.Reading.{taken, as_in_frames, read_byte, read_code, read_count, read_word, read_text, read_flag, read_capability, read_status, read_number, read_tag, live_from, or_none}
use Rattle.csi_records.specs.Public.Spelling.{state_byte}
use Rattle.csi_records.specs.Public.Records.{IsCapabilityIn}
use Rattle.csi_records.proofs.Readers.{Reads, some_is, Spelled, Always, in_words, then}

-- ---- fields, as in frames

-- what is taken was read
taken-some : {A : Type 0} (read : Result (A × List ℕ) FieldStop) (x : A × List ℕ) → taken read ≡ Some x → read ≡ Ok x
taken-some (Ok y) x e = ap Ok (same_Some y x e)
taken-some (Err stop) x e = absurd cc

-- a reader that agrees with a grammar reads what it says
reads_of : {A : Type 0} {read : frames.Reader A} {Says : A → List ℕ → Type 0} {g : Grammar} {next : A → Grammar} → Agrees read Says g next → Reads (as_in_frames read) Says
reads_of {read = read} one = record {
  takes = λ bytes fits x e. let a = one.takes bytes fits x (taken-some (read bytes) x e) in record { front = a.front; parts = a.parts; says = a.says };
  again = λ value front rest s. ap taken (one.again value front rest s);
}

-- a byte, as it is spelled
abbrev pub one_byte : ℕ → List ℕ
one_byte b = b ∷ []

-- the reader of each field reads what spells one: any byte, and down to the number of a call
pub byte_reads : Reads read_byte (Spelled Always one_byte)
unfolding read_byte
byte_reads =
    in_words (Spelled Always one_byte) (λ n bytes s. record { fits = tt; are = s.one }) (λ n bytes s. record { is_allowed = refl; one = s.are }) (reads_of (byte_agrees any LengthDiffers (λ _. End)))

-- a count is at most so much
pub record IsCount (most n : ℕ) : Type 0 where
  pub within : n ≤ most

-- the reader of a count reads what spells one
pub count_reads : (most : ℕ) → Reads (read_count most) (Spelled (IsCount most) one_byte)
unfolding read_count
count_reads most =
    in_words (Spelled (IsCount most) one_byte)
    (λ n bytes s. record { fits = record { within = leb-true n most s.is_allowed }; are = s.one })
    (λ n bytes s. record { is_allowed = le-leb n most s.fits.within; one = s.are })
    (reads_of (byte_agrees (at_most most) BadCount (λ _. End)))

-- a count that was read is at most so much; by whether the byte is
within-by : (most b n : ℕ) (bytes left : List ℕ) (t : Bool) → leb b most ≡ t → cond t (done b bytes) (frames.stopped_at_field BadCount (b ∷ bytes)) ≡ Ok (n, left) → n ≤ most
within-by most b n bytes left true is e = subst (λ (k : ℕ). k ≤ most) (ap (λ (x : ℕ × List ℕ). x.0) (ok_is b bytes (n, left) e)) (leb-true b most is)
within-by most b n bytes left false is e = absurd cc

-- a count that was read is at most so much
pub count-within : (most n : ℕ) (bytes left : List ℕ) → byte_at (at_most most) BadCount bytes ≡ Ok (n, left) → n ≤ most
unfolding byte_at
count-within most n [] left e = absurd cc
count-within most n (b ∷ bytes) left e = within-by most b n bytes left (leb b most) refl e

-- the reader of a number reads what spells one
pub word_reads : Reads read_word (Spelled IsWord spelling.word)
unfolding read_word
word_reads = reads_of (any_word_agrees (λ _. End))

-- the reader of a text reads what spells one
pub text_reads : (least most : ℕ) → Reads (read_text least most) (Spelled (IsText least most) spelling.text)
unfolding read_text
text_reads least most = reads_of (any_text_agrees least most (λ _. End))

-- the reader of a flag reads what spells one
pub flag_reads : Reads read_flag (Spelled Always spelling.flag)
unfolding read_flag
flag_reads = reads_of (flag_agrees (λ _. End))

-- the reader of a status reads what spells one
pub status_reads : Reads read_status (Spelled Always (λ status. status_code status ∷ []))
unfolding read_status
status_reads = reads_of (status_agrees (λ _. End))

-- the reader of a capability of a version reads what spells one
pub capability_reads : (version : RecordVersion) → Reads (read_capability version) (Spelled (IsCapabilityIn version) spelling.capability)
unfolding read_capability
capability_reads version =
    in_words (Spelled (IsCapabilityIn version) spelling.capability)
    (λ c bytes s. record { fits = record { fits = s.fits.fits; in_mode = s.fits.in_mode }; are = s.are })
    (λ c bytes s. record { fits = record { fits = s.fits.fits; in_mode = s.fits.in_mode }; are = s.are })
    (reads_of (capability_agrees (modes_of version) End))

-- a call's number, as it is spelled
abbrev pub number_bytes : Number → List ℕ
number_bytes number = spelling.word number.session ++ spelling.word number.call

-- the reader of a call's number reads what spells one
pub number_reads : Reads read_number (Spelled IsNumber number_bytes)
unfolding read_number
number_reads = reads_of (number_agrees End)

-- ---- a byte that stands for a value

-- a byte that stands for a value is the one that spells it, and each value's byte stands for it
pub record IsCode {A : Type 0} (value_of : ℕ → Option A) (number : A → ℕ) : Type 0 where
  pub back : (b : ℕ) (a : A) → value_of b ≡ Some a → number a ≡ b
  pub again : (a : A) → value_of (number a) ≡ Some a

-- the value of a byte
pub record WasCode {A : Type 0} (value_of : ℕ → Option A) (b : ℕ) (value : A) (bytes : List ℕ) : Type 0 where
  pub is : value_of b ≡ Some value
  pub none : bytes ≡ []

-- an option that is given as a value has it, and takes no bytes
or_none-some : {A : Type 0} (found : Option A) (bytes : List ℕ) (x : A × List ℕ) → or_none found bytes ≡ Some x → (found ≡ Some x.0) × (bytes ≡ x.1)
or_none-some (Some a) bytes x e = let same = some_is a bytes x e in (ap (λ y. Some y.0) same, ap (λ y. y.1) same)
or_none-some None bytes x e = absurd cc

-- the last step of reading a code takes no bytes, and gives what the byte stands for
code-last : {A : Type 0} (value_of : ℕ → Option A) (b : ℕ) → Reads (or_none (value_of b)) (WasCode value_of b)
code-last value_of b = record {
  takes = λ bytes fits x e. let p = or_none-some (value_of b) bytes x e in record { front = []; parts = p.1; says = record { is = p.0; none = refl } };
  again = λ value front rest s. rw (s.none, s.is) refl;
}

-- where values and bytes stand for one another, the reader of a code reads a value's byte and no other
pub code_reads : {A : Type 0} (value_of : ℕ → Option A) (number : A → ℕ) → IsCode value_of number → Reads (read_code value_of) (Spelled Always (λ a. number a ∷ []))
unfolding read_code
code_reads {A} value_of number code =
    in_words (Spelled Always (λ (a : A). number a ∷ []))
    (λ value bytes s. record {
      fits = tt;
      are = s.parts ∙ ap (λ (t : List ℕ). s.front ++ t) s.second.none ∙ append-nil s.front ∙ s.first.are ∙ ap (λ (n : ℕ). n ∷ []) (sym (code.back s.before value s.second.is));
    })
    (λ value bytes s. record { before = number value; front = bytes; back = []; parts = sym (append-nil bytes); first = record { fits = tt; are = s.are }; second = record { is = code.again value; none = refl } })
    (then byte_reads (λ b. code-last value_of b))

-- a byte that stands for live or deleted is the one that spells it
live-back : (b : ℕ) (a : Bool) → live_from b ≡ Some a → state_byte a ≡ b
live-back zero a e = absurd cc
live-back (suc zero) a e = ap state_byte (sym (same_Some true a e))
live-back (suc (suc zero)) a e = ap state_byte (sym (same_Some false a e))
live-back (suc (suc (suc n))) a e = absurd cc

-- the byte that spells live or deleted stands for it
live-again : (a : Bool) → live_from (state_byte a) ≡ Some a
live-again true = refl
live-again false = refl

-- the reader of whether a volume is live reads what spells it
pub live_reads : Reads (read_code live_from) (Spelled Always (λ a. state_byte a ∷ []))
live_reads = code_reads live_from state_byte (record { back = live-back; again = live-again })

-- a byte that stands for a reply's kind is that kind's number and 128
kind-back-by : (n : ℕ) (low : Bool) (kind : Kind) → ltb n 128 ≡ low → cond low None (kind_from_number (n - 128)) ≡ Some kind → 128 + kind_number kind ≡ n
kind-back-by n true kind is e = absurd cc
kind-back-by n false kind is e = let high : 128 ≤ n = ltb-false _ _ is in let same = kind-back (n - 128) kind e in omega (arith, same, high)

-- the kind byte of a reply stands for its kind
kind-again : (kind : Kind) → reply_kind_from (128 + kind_number kind) ≡ Some kind
kind-again kinds.CreateVolume = refl
kind-again kinds.DeleteVolume = refl
kind-again kinds.ControllerPublishVolume = refl
kind-again kinds.ControllerUnpublishVolume = refl
kind-again kinds.NodeStageVolume = refl
kind-again kinds.NodeUnstageVolume = refl
kind-again kinds.NodePublishVolume = refl
kind-again kinds.NodeUnpublishVolume = refl

-- the reader of a reply's kind byte reads what spells one
pub kind_reads : Reads (read_code reply_kind_from) (Spelled Always (λ kind. (128 + kind_number kind) ∷ []))
kind_reads = code_reads reply_kind_from (λ kind. 128 + kind_number kind) (record { back = λ b a e. kind-back-by b (ltb b 128) a refl e; again = kind-again })

-- a byte that stands for a version is its number, and each version is found at its number
version-back : (b : ℕ) (version : RecordVersion) → record_version_from_number b ≡ Some version → record_version_number version ≡ b
version-back zero version e = absurd cc
version-back (suc zero) version e = ap record_version_number (sym (same_Some One version e))
version-back (suc (suc zero)) version e = ap record_version_number (sym (same_Some Two version e))
version-back (suc (suc (suc zero))) version e = ap record_version_number (sym (same_Some Three version e))
version-back (suc (suc (suc (suc n)))) version e = absurd cc

-- each version is found at its number
pub version-found : (version : RecordVersion) → record_version_from_number (record_version_number version) ≡ Some version
version-found One = refl
version-found Two = refl
version-found Three = refl

-- the reader of a version reads the byte that spells one
pub version_reads : Reads (read_code record_version_from_number) (Spelled Always (λ version. record_version_number version ∷ []))
version_reads = code_reads record_version_from_number record_version_number (record { back = version-back; again = version-found })

-- ---- a byte of this number

-- a byte that stands for nothing but that it was there is this one; the test is a flag here
tag-back : (n b : ℕ) (t : Bool) (u : Unit {0}) → eqb b n ≡ t → cond t (Some tt) None ≡ Some u → n ≡ b
tag-back n b true u is e = sym (eqb-true _ _ is)
tag-back n b false u is e = absurd cc

-- the reader of a given byte takes that byte and no other
pub tag_reads : (n : ℕ) → Reads (read_tag n) (Spelled Always (λ u. n ∷ []))
unfolding read_tag
tag_reads n = code_reads (λ b. cond (eqb b n) (Some tt) None) (λ u. n) (record { back = λ b u e. tag-back n b (eqb b n) u refl e; again = λ u. let same : eqb n n ≡ true = eq-eqb n n refl in rw same refl })
