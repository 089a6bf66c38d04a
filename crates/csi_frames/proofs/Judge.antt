-- A grammar judges bytes in one way: what leads through it isn't stuck, and what is stuck is so at one place.
use Rattle.std.proofs.Common.{◌≡◌, ℕ, ◌+◌, ◌-◌, ◌≤◌, Bool, true, false, cond, not, ◌&&◌, ltb, leb, List, [], ◌∷◌, ◌++◌, length, take, drop, Some, None, Result, Ok, Err, refl, sym, ap, ◌∙◌, append_assoc, arith}
use Rattle.std.specs.Str.{is_utf8}
use Rattle.std.proofs.lemmas.Bool.{le-ltb, leb-true}
use Rattle.std.proofs.lemmas.List.{length-append, drop_at, append-nil}
use Rattle.std.proofs.lemmas.Str.{IsUtf8-from_is_utf8}
use Rattle.byteorder.specs.Endian.{big_number}
use Rattle.csi_frames.specs.declared.fault.FaultKind.{FaultKind}
use Rattle.csi_frames.specs.declared.fault.FaultKind.TheVariants.{LengthDiffers, BadId, BadText}
use Rattle.csi_frames.specs.declared.fields.FieldStop.{FieldStop}
use Rattle.csi_frames.specs.Public.Grammar.{Grammar, End, Byte, Word, Text, Leads, nothing, byte, word, text, refusal}
use Rattle.csi_frames.specs.Public.Fault.{IsStuck}
use Rattle.csi_frames.specs.Public.Reading.{stopped_at_field, byte_at, word_at, text_at}
use Rattle.csi_frames.proofs.Bytes.{word-eight}
use Rattle.csi_frames.proofs.FieldReaders.{byte_agrees, text_agrees}
use Rattle.csi_frames.proofs.Readers.{done}

-- a field that was read, and then how what comes after it fares
abbrev pub judged : {A : Type 0} → Result (A × List ℕ) FieldStop → (A → List ℕ → Result (Unit {0}) FieldStop) → Result (Unit {0}) FieldStop
judged (Ok x) next = next x.0 x.1
judged (Err stop) next = Err stop

-- how the bytes fare, all of them
pub judge : Grammar → List ℕ → Result (Unit {0}) FieldStop
judge End [] = Ok tt
judge End (b ∷ bytes) = stopped_at_field LengthDiffers (b ∷ bytes)
judge (Byte allowed fault next) bytes = judged (byte_at allowed fault bytes) (λ b rest. judge (next b) rest)
judge (Word allowed next) bytes = judged (word_at allowed bytes) (λ n rest. judge (next n) rest)
judge (Text least most next) bytes = judged (text_at least most bytes) (λ t rest. judge (next t) rest)

-- ---- what leads through a grammar leaves the rest to be judged

-- eight bytes that are an allowed number are read as that number, whatever comes after them
word_at-led : (allowed : ℕ → Bool) (eight rest : List ℕ) → length eight ≡ 8 → allowed (big_number 8 eight) ≡ true → word_at allowed (eight ++ rest) ≡ Ok (big_number 8 eight, rest)
unfolding word_at
word_at-led allowed eight rest long is_so =
    let enough : ltb (length (eight ++ rest)) 8 ≡ false = le-ltb _ _ (omega (arith, length-append eight rest)) in
    rw (enough, word-eight eight rest long, is_so, drop_at eight rest 8 long) refl

-- bytes that begin with allowed values of the first fields fare as the rest of them fares in the rest of the grammar
pub judge-Leads : (g : Grammar) (front : List ℕ) (h : Grammar) (bytes : List ℕ) → Leads g front h → judge g (front ++ bytes) ≡ judge h bytes
unfolding judge
judge-Leads g front h bytes (nothing _) = refl
judge-Leads g front h bytes (byte allowed fault next b more _ is_allowed rest) =
    ap (λ (r : Result (ℕ × List ℕ) FieldStop). judged r (λ n rest. judge (next n) rest)) ((byte_agrees allowed fault next).again b (b ∷ []) (more ++ bytes) (record { is_allowed = is_allowed; one = refl }))
    ∙ judge-Leads (next b) more h bytes rest
judge-Leads g front h bytes (word allowed next eight more _ long is_allowed rest) =
    ap (λ (t : List ℕ). judged (word_at allowed t) (λ n rest. judge (next n) rest)) (append_assoc eight more bytes)
    ∙ ap (λ (r : Result (ℕ × List ℕ) FieldStop). judged r (λ n rest. judge (next n) rest)) (word_at-led allowed eight (more ++ bytes) long is_allowed)
    ∙ judge-Leads (next (big_number 8 eight)) more h bytes rest
judge-Leads g front h bytes (text least most next value more _ low high utf8 rest) =
    ap (λ (t : List ℕ). judged (text_at least most (length value ∷ t)) (λ t rest. judge (next t) rest)) (append_assoc value more bytes)
    ∙ ap (λ (r : Result (List ℕ × List ℕ) FieldStop). judged r (λ t rest. judge (next t) rest))
    ((text_agrees least most next).again value (length value ∷ value) (more ++ bytes) (record { fits = record { utf8 = IsUtf8-from_is_utf8 value utf8; no_shorter = leb-true _ _ low; no_longer = leb-true _ _ high }; counted = refl }))
    ∙ judge-Leads (next value) more h bytes rest

-- ---- what a grammar refuses is judged so

-- stopping with either of two equal kinds is the same
kind_is : {A : Type 0} (kind fault : FaultKind) (bytes : List ℕ) → Some fault ≡ Some kind → stopped_at_field {A = A} fault bytes ≡ stopped_at_field kind bytes
kind_is kind fault bytes e = let same : fault ≡ kind = cc in ap (λ (k : FaultKind). stopped_at_field k bytes) same

-- a byte that is refused with this fault is judged so; then the same of a word, and of a text
refused-byte : (allowed : ℕ → Bool) (fault : FaultKind) (next : ℕ → Grammar) (b : ℕ) (bytes : List ℕ) (kind : FaultKind) (t : Bool) → allowed b ≡ t → cond t None (Some fault) ≡ Some kind
    → cond t (done b bytes) (stopped_at_field fault (b ∷ bytes)) ≡ stopped_at_field kind (b ∷ bytes)
refused-byte allowed fault next b bytes kind true is_so e = absurd cc
refused-byte allowed fault next b bytes kind false is_so e = kind_is kind fault (b ∷ bytes) e

-- a number that is refused with this fault is judged so
refused-word : (n : ℕ) (rest bytes : List ℕ) (kind : FaultKind) (short t : Bool) → cond short (Some LengthDiffers) (cond t None (Some BadId)) ≡ Some kind
    → cond short (stopped_at_field LengthDiffers bytes) (cond t (done n rest) (stopped_at_field BadId bytes)) ≡ stopped_at_field kind bytes
refused-word n rest bytes kind true t e = kind_is kind LengthDiffers bytes e
refused-word n rest bytes kind false true e = absurd cc
refused-word n rest bytes kind false false e = kind_is kind BadId bytes e

-- a text that is refused with this fault is judged so
refused-text : (value rest bytes : List ℕ) (kind : FaultKind) (out short utf8 : Bool) → cond out (Some BadText) (cond short (Some LengthDiffers) (cond utf8 None (Some BadText))) ≡ Some kind
    → cond out (stopped_at_field BadText bytes) (cond short (stopped_at_field LengthDiffers bytes) (cond utf8 (done value rest) (stopped_at_field BadText bytes))) ≡ stopped_at_field kind bytes
refused-text value rest bytes kind true short utf8 e = kind_is kind BadText bytes e
refused-text value rest bytes kind false true utf8 e = kind_is kind LengthDiffers bytes e
refused-text value rest bytes kind false false true e = absurd cc
refused-text value rest bytes kind false false false e = kind_is kind BadText bytes e

-- what the grammar refuses at the front of bytes is judged to stop there, with the same kind of fault
pub judge-refusal : (g : Grammar) (bytes : List ℕ) (kind : FaultKind) → refusal g bytes ≡ Some kind → judge g bytes ≡ stopped_at_field kind bytes
unfolding judge byte_at word_at text_at
judge-refusal End [] kind e = absurd cc
judge-refusal End (b ∷ bytes) kind e = kind_is kind LengthDiffers (b ∷ bytes) e
judge-refusal (Byte allowed fault next) [] kind e = kind_is kind LengthDiffers [] e
judge-refusal (Byte allowed fault next) (b ∷ bytes) kind e =
    ap (λ (r : Result (ℕ × List ℕ) FieldStop). judged r (λ n rest. judge (next n) rest)) (refused-byte allowed fault next b bytes kind (allowed b) refl e)
judge-refusal (Word allowed next) bytes kind e =
    ap (λ (r : Result (ℕ × List ℕ) FieldStop). judged r (λ n rest. judge (next n) rest)) (refused-word (big_number 8 bytes) (drop 8 bytes) bytes kind (ltb (length bytes) 8) (allowed (big_number 8 bytes)) e)
judge-refusal (Text least most next) [] kind e = kind_is kind LengthDiffers [] e
judge-refusal (Text least most next) (n ∷ bytes) kind e =
    ap (λ (r : Result (List ℕ × List ℕ) FieldStop). judged r (λ t rest. judge (next t) rest)) (refused-text (take n bytes) (drop n bytes) (n ∷ bytes) kind (not (leb least n && leb n most)) (ltb (length bytes) n) (is_utf8 (take n bytes)) e)

-- ---- so each list of bytes has one verdict

-- bytes that are stuck at a place are judged to stop there, with that fault, and the place is within them
pub judge-IsStuck : (g : Grammar) (bytes : List ℕ) (kind : FaultKind) (place : ℕ) → IsStuck g bytes kind place → (judge g bytes ≡ Err (record { kind = kind; left = length bytes - place })) × (place ≤ length bytes)
judge-IsStuck g bytes kind place s =
    let total : length bytes ≡ place + length s.back = ap length s.parts ∙ length-append s.front s.back ∙ ap (λ (n : ℕ). n + length s.back) s.here in
    let left : length s.back ≡ length bytes - place = omega arith in
    (ap (judge g) s.parts ∙ judge-Leads g s.front s.next s.back s.leads ∙ judge-refusal s.next s.back kind s.refused ∙ ap (λ (n : ℕ). Err (record { kind = kind; left = n })) left, omega arith)

-- bytes that are allowed values of a grammar's fields, up to its end, are judged good
pub judge-end : (g : Grammar) (bytes : List ℕ) → Leads g bytes End → judge g bytes ≡ Ok tt
unfolding judge
judge-end g bytes led = ap (judge g) (sym (append-nil bytes)) ∙ judge-Leads g bytes End [] led
