-- The readers of single fields agree with the grammar.
use Rattle.std.proofs.Common.{◌≡◌, ℕ, ◌≤◌, Bool, true, false, cond, not, ◌&&◌, ltb, leb, List, [], ◌∷◌, ◌++◌, length, take, drop, Ok, Err, refl, sym, ap, subst, ◌∙◌, arith}
use Rattle.std.specs.Str.{is_utf8}
use Rattle.std.proofs.lemmas.Bool.{ltb-false, le-ltb, leb-true, le-leb}
use Rattle.std.proofs.lemmas.List.{append-nil, length-append, length-take, take_at, drop_at, take-append-drop}
use Rattle.std.proofs.lemmas.Str.{IsUtf8-from_is_utf8, is_utf8-from_IsUtf8}
use Rattle.byteorder.specs.Endian.{big_bytes, big_number}
use Rattle.csi_types.specs.Public.Text.{IsText}
use Rattle.csi_types.specs.Public.Limits.{IsWord}
use Rattle.csi_frames.specs.declared.fault.FaultKind.{FaultKind}
use Rattle.csi_frames.specs.declared.fault.FaultKind.TheVariants.{LengthDiffers, BadId, BadText}
use Rattle.csi_frames.specs.declared.fields.FieldStop.{FieldStop}
use Rattle.csi_frames.specs.Public.Grammar.{Grammar, Byte, Word, Text, Leads, nothing, byte, word, text}
use Rattle.csi_frames.specs.Public.Reading.{stopped_at_field, byte_at, word_at, text_at}
use Rattle.csi_frames.specs.Public.Bytes.{AreBytes}
use Rattle.csi_frames.proofs.Bytes.{AreBytes-take, word-back, word-again, word-fits, word-front}
use Rattle.csi_frames.proofs.Readers.{Took, Refuses, Agrees, done, ok_is, refuses_here}

-- ---- a byte

-- the bytes are this one byte, an allowed one
pub record IsByte (allowed : ℕ → Bool) (n : ℕ) (bytes : List ℕ) : Type 0 where
  pub is_allowed : allowed n ≡ true
  pub one : bytes ≡ n ∷ []

-- a byte that is read is an allowed one, and leads to what follows it; by whether it is allowed
byte-takes : (allowed : ℕ → Bool) (fault : FaultKind) (next : ℕ → Grammar) (b : ℕ) (bytes : List ℕ) (t : Bool) (x : ℕ × List ℕ) → allowed b ≡ t → cond t (done b bytes) (stopped_at_field fault (b ∷ bytes)) ≡ Ok x
    → Took (IsByte allowed) (Byte allowed fault next) next (b ∷ bytes) x
byte-takes allowed fault next b bytes true x is_so e =
    subst (λ (y : ℕ × List ℕ). Took (IsByte allowed) (Byte allowed fault next) next (b ∷ bytes) y) (ok_is b bytes x e)
    (record { front = b ∷ []; parts = refl; says = record { is_allowed = is_so; one = refl }; leads = byte allowed fault next b [] (next b) is_so (nothing (next b)) })
byte-takes allowed fault next b bytes false x is_so e = absurd cc

-- where the reader stops at a byte, the grammar refuses it; by whether it is allowed
byte-stops : (allowed : ℕ → Bool) (fault : FaultKind) (next : ℕ → Grammar) (b : ℕ) (bytes : List ℕ) (t : Bool) (stop : FieldStop) → allowed b ≡ t → cond t (done b bytes) (stopped_at_field fault (b ∷ bytes)) ≡ Err stop
    → Refuses (Byte allowed fault next) (b ∷ bytes) stop
byte-stops allowed fault next b bytes true stop is_so e = absurd cc
byte-stops allowed fault next b bytes false stop is_so e = refuses_here {A = ℕ × List ℕ} (Byte allowed fault next) (b ∷ bytes) fault stop (rw is_so refl) e

-- this and the next two: what the reader of a byte takes, where it stops, and that it reads an allowed byte again
byte_at-takes : (allowed : ℕ → Bool) (fault : FaultKind) (next : ℕ → Grammar) (bytes : List ℕ) (x : ℕ × List ℕ) → byte_at allowed fault bytes ≡ Ok x → Took (IsByte allowed) (Byte allowed fault next) next bytes x
unfolding byte_at
byte_at-takes allowed fault next [] x e = absurd cc
byte_at-takes allowed fault next (b ∷ bytes) x e = byte-takes allowed fault next b bytes (allowed b) x refl e

-- where the reader of a byte stops, the grammar refuses with the same fault
byte_at-stops : (allowed : ℕ → Bool) (fault : FaultKind) (next : ℕ → Grammar) (bytes : List ℕ) (stop : FieldStop) → byte_at allowed fault bytes ≡ Err stop → Refuses (Byte allowed fault next) bytes stop
unfolding byte_at
byte_at-stops allowed fault next [] stop e = refuses_here {A = ℕ × List ℕ} (Byte allowed fault next) [] LengthDiffers stop refl e
byte_at-stops allowed fault next (b ∷ bytes) stop e = byte-stops allowed fault next b bytes (allowed b) stop refl e

-- an allowed byte is read again, whatever comes behind it
byte_at-again : (allowed : ℕ → Bool) (fault : FaultKind) (n : ℕ) (front rest : List ℕ) → IsByte allowed n front → byte_at allowed fault (front ++ rest) ≡ Ok (n, rest)
unfolding byte_at
byte_at-again allowed fault n front rest s = ap (λ (t : List ℕ). byte_at allowed fault (t ++ rest)) s.one ∙ rw (s.is_allowed) refl

-- the reader of a byte agrees with the grammar's byte
pub byte_agrees : (allowed : ℕ → Bool) (fault : FaultKind) (next : ℕ → Grammar) → Agrees (byte_at allowed fault) (IsByte allowed) (Byte allowed fault next) next
byte_agrees allowed fault next = record {
  takes = λ bytes fits x e. byte_at-takes allowed fault next bytes x e;
  stops = λ bytes fits stop e. byte_at-stops allowed fault next bytes stop e;
  again = λ n front rest s. byte_at-again allowed fault n front rest s;
}

-- ---- a number of 64 bits

-- the eight bytes of this number, an allowed one
pub record IsWordOf (allowed : ℕ → Bool) (n : ℕ) (bytes : List ℕ) : Type 0 where
  pub fits : IsWord n
  pub is_allowed : allowed n ≡ true
  pub eight : bytes ≡ big_bytes 8 n

-- a number that is read is an allowed one, spelled by these eight bytes; by how many bytes there are and whether it is allowed
word-takes : (allowed : ℕ → Bool) (next : ℕ → Grammar) (bytes : List ℕ) (short t : Bool) (x : ℕ × List ℕ) → AreBytes bytes → ltb (length bytes) 8 ≡ short → allowed (big_number 8 bytes) ≡ t
    → cond short (stopped_at_field LengthDiffers bytes) (cond t (done (big_number 8 bytes) (drop 8 bytes)) (stopped_at_field BadId bytes)) ≡ Ok x → Took (IsWordOf allowed) (Word allowed next) next bytes x
word-takes allowed next bytes true t x fits is_short is_so e = absurd cc
word-takes allowed next bytes false false x fits is_short is_so e = absurd cc
word-takes allowed next bytes false true x fits is_short is_so e =
    let long : 8 ≤ length bytes = ltb-false _ _ is_short in
    let n = big_number 8 bytes in
    let eight : length (take 8 bytes) ≡ 8 = omega (arith, length-take 8 bytes) in
    let same : big_number 8 (take 8 bytes) ≡ n = word-front bytes long in
    let back : take 8 bytes ≡ big_bytes 8 n = sym (word-back (take 8 bytes) eight (AreBytes-take 8 bytes fits)) ∙ ap (big_bytes 8) same in
    let led : Leads (Word allowed next) (take 8 bytes ++ []) (next n) = word allowed next (take 8 bytes) [] (next n) eight (ap allowed same ∙ is_so) (subst (λ (m : ℕ). Leads (next m) [] (next n)) (sym same) (nothing (next n))) in
    subst (λ (y : ℕ × List ℕ). Took (IsWordOf allowed) (Word allowed next) next bytes y) (ok_is n (drop 8 bytes) x e)
    (record {
      front = take 8 bytes;
      parts = sym (take-append-drop 8 bytes);
      says = record { fits = word-fits bytes fits; is_allowed = is_so; eight = back };
      leads = subst (λ (t : List ℕ). Leads (Word allowed next) t (next n)) (append-nil (take 8 bytes)) led;
    })

-- where the reader of a number stops, the grammar refuses; by how many bytes there are and whether the number is allowed
word-stops : (allowed : ℕ → Bool) (next : ℕ → Grammar) (bytes : List ℕ) (short t : Bool) (stop : FieldStop) → ltb (length bytes) 8 ≡ short → allowed (big_number 8 bytes) ≡ t
    → cond short (stopped_at_field LengthDiffers bytes) (cond t (done (big_number 8 bytes) (drop 8 bytes)) (stopped_at_field BadId bytes)) ≡ Err stop → Refuses (Word allowed next) bytes stop
word-stops allowed next bytes true t stop is_short is_so e = refuses_here {A = ℕ × List ℕ} (Word allowed next) bytes LengthDiffers stop (rw is_short refl) e
word-stops allowed next bytes false true stop is_short is_so e = absurd cc
word-stops allowed next bytes false false stop is_short is_so e = refuses_here {A = ℕ × List ℕ} (Word allowed next) bytes BadId stop (rw (is_short, is_so) refl) e

-- this and the next two: what the reader of a number takes, where it stops, and that it reads an allowed number again
word_at-takes : (allowed : ℕ → Bool) (next : ℕ → Grammar) (bytes : List ℕ) (x : ℕ × List ℕ) → AreBytes bytes → word_at allowed bytes ≡ Ok x → Took (IsWordOf allowed) (Word allowed next) next bytes x
unfolding word_at
word_at-takes allowed next bytes x fits e = word-takes allowed next bytes (ltb (length bytes) 8) (allowed (big_number 8 bytes)) x fits refl refl e

-- where the reader of a number stops, the grammar refuses with the same fault
word_at-stops : (allowed : ℕ → Bool) (next : ℕ → Grammar) (bytes : List ℕ) (stop : FieldStop) → word_at allowed bytes ≡ Err stop → Refuses (Word allowed next) bytes stop
unfolding word_at
word_at-stops allowed next bytes stop e = word-stops allowed next bytes (ltb (length bytes) 8) (allowed (big_number 8 bytes)) stop refl refl e

-- an allowed number in eight bytes is read again, whatever comes behind it
word_at-eight : (allowed : ℕ → Bool) (n : ℕ) (rest : List ℕ) → IsWord n → allowed n ≡ true → word_at allowed (big_bytes 8 n ++ rest) ≡ Ok (n, rest)
unfolding word_at
word_at-eight allowed n rest fits is_so =
    let long : ltb (length (big_bytes 8 n ++ rest)) 8 ≡ false = le-ltb _ _ (omega (arith, length-append (big_bytes 8 n) rest)) in
    rw (long, word-again n rest fits, is_so, drop_at (big_bytes 8 n) rest 8 refl) refl

-- the reader of a number of 64 bits agrees with the grammar's word
pub word_agrees : (allowed : ℕ → Bool) (next : ℕ → Grammar) → Agrees (word_at allowed) (IsWordOf allowed) (Word allowed next) next
word_agrees allowed next = record {
  takes = λ bytes fits x e. word_at-takes allowed next bytes x fits e;
  stops = λ bytes fits stop e. word_at-stops allowed next bytes stop e;
  again = λ n front rest s. ap (λ (t : List ℕ). word_at allowed (t ++ rest)) s.eight ∙ word_at-eight allowed n rest s.fits s.is_allowed;
}

-- ---- a text

-- a length byte and then this text, which is within its limits
pub record IsTextOf (least most : ℕ) (value bytes : List ℕ) : Type 0 where
  pub fits : IsText least most value
  pub counted : bytes ≡ length value ∷ value

-- where two tests hold together, each of them holds
and_both : (a b : Bool) → (a && b) ≡ true → (a ≡ true) × (b ≡ true)
and_both true true e = (refl, refl)
and_both true false e = absurd cc
and_both false b e = absurd cc

-- a test whose opposite doesn't hold does
not_true : (b : Bool) → not b ≡ false → b ≡ true
not_true true e = refl
not_true false e = absurd cc

-- a text that is read is within its limits and has its length before it; by the three tests of the reader
text-takes : (least most : ℕ) (next : List ℕ → Grammar) (n : ℕ) (bytes : List ℕ) (out short utf8 : Bool) (x : List ℕ × List ℕ)
    → not (leb least n && leb n most) ≡ out → ltb (length bytes) n ≡ short → is_utf8 (take n bytes) ≡ utf8
    → cond out (stopped_at_field BadText (n ∷ bytes)) (cond short (stopped_at_field LengthDiffers (n ∷ bytes)) (cond utf8 (done (take n bytes) (drop n bytes)) (stopped_at_field BadText (n ∷ bytes)))) ≡ Ok x
    → Took (IsTextOf least most) (Text least most next) next (n ∷ bytes) x
text-takes least most next n bytes true short utf8 x is_out is_short is_utf e = absurd cc
text-takes least most next n bytes false true utf8 x is_out is_short is_utf e = absurd cc
text-takes least most next n bytes false false false x is_out is_short is_utf e = absurd cc
text-takes least most next n bytes false false true x is_out is_short is_utf e =
    let inside = and_both (leb least n) (leb n most) (not_true _ is_out) in
    let long : n ≤ length bytes = ltb-false _ _ is_short in
    let count : length (take n bytes) ≡ n = omega (arith, length-take n bytes) in
    let low : leb least (length (take n bytes)) ≡ true = ap (leb least) count ∙ inside.0 in
    let high : leb (length (take n bytes)) most ≡ true = ap (λ (k : ℕ). leb k most) count ∙ inside.1 in
    let led : Leads (Text least most next) (length (take n bytes) ∷ take n bytes ++ []) (next (take n bytes)) = text least most next (take n bytes) [] (next (take n bytes)) low high is_utf (nothing (next (take n bytes))) in
    subst (λ (y : List ℕ × List ℕ). Took (IsTextOf least most) (Text least most next) next (n ∷ bytes) y) (ok_is (take n bytes) (drop n bytes) x e)
    (record {
      front = n ∷ take n bytes;
      parts = ap (λ (t : List ℕ). n ∷ t) (sym (take-append-drop n bytes));
      says = record {
        fits = record { utf8 = IsUtf8-from_is_utf8 (take n bytes) is_utf; no_shorter = leb-true _ _ low; no_longer = leb-true _ _ high };
        counted = ap (λ (k : ℕ). k ∷ take n bytes) (sym count);
      };
      leads = subst (λ (t : List ℕ). Leads (Text least most next) t (next (take n bytes))) (ap (λ (k : ℕ). k ∷ take n bytes ++ []) count ∙ ap (λ (t : List ℕ). n ∷ t) (append-nil (take n bytes))) led;
    })

-- where the reader of a text stops, the grammar refuses; by the three tests of the reader
text-stops : (least most : ℕ) (next : List ℕ → Grammar) (n : ℕ) (bytes : List ℕ) (out short utf8 : Bool) (stop : FieldStop)
    → not (leb least n && leb n most) ≡ out → ltb (length bytes) n ≡ short → is_utf8 (take n bytes) ≡ utf8
    → cond out (stopped_at_field BadText (n ∷ bytes)) (cond short (stopped_at_field LengthDiffers (n ∷ bytes)) (cond utf8 (done (take n bytes) (drop n bytes)) (stopped_at_field BadText (n ∷ bytes)))) ≡ Err stop
    → Refuses (Text least most next) (n ∷ bytes) stop
text-stops least most next n bytes true short utf8 stop is_out is_short is_utf e = refuses_here {A = List ℕ × List ℕ} (Text least most next) (n ∷ bytes) BadText stop (rw is_out refl) e
text-stops least most next n bytes false true utf8 stop is_out is_short is_utf e = refuses_here {A = List ℕ × List ℕ} (Text least most next) (n ∷ bytes) LengthDiffers stop (rw (is_out, is_short) refl) e
text-stops least most next n bytes false false true stop is_out is_short is_utf e = absurd cc
text-stops least most next n bytes false false false stop is_out is_short is_utf e = refuses_here {A = List ℕ × List ℕ} (Text least most next) (n ∷ bytes) BadText stop (rw (is_out, is_short, is_utf) refl) e

-- this and the next two: what the reader of a text takes, where it stops, and that it reads a text within its limits again
text_at-takes : (least most : ℕ) (next : List ℕ → Grammar) (bytes : List ℕ) (x : List ℕ × List ℕ) → text_at least most bytes ≡ Ok x → Took (IsTextOf least most) (Text least most next) next bytes x
unfolding text_at
text_at-takes least most next [] x e = absurd cc
text_at-takes least most next (n ∷ bytes) x e = text-takes least most next n bytes _ _ _ x refl refl refl e

-- where the reader of a text stops, the grammar refuses with the same fault
text_at-stops : (least most : ℕ) (next : List ℕ → Grammar) (bytes : List ℕ) (stop : FieldStop) → text_at least most bytes ≡ Err stop → Refuses (Text least most next) bytes stop
unfolding text_at
text_at-stops least most next [] stop e = refuses_here {A = List ℕ × List ℕ} (Text least most next) [] LengthDiffers stop refl e
text_at-stops least most next (n ∷ bytes) stop e = text-stops least most next n bytes _ _ _ stop refl refl refl e

-- a text within its limits is read again, whatever comes behind it
text_at-again : (least most : ℕ) (value rest : List ℕ) → IsText least most value → text_at least most (length value ∷ value ++ rest) ≡ Ok (value, rest)
unfolding text_at
text_at-again least most value rest fits =
    let low : leb least (length value) ≡ true = le-leb _ _ fits.no_shorter in
    let high : leb (length value) most ≡ true = le-leb _ _ fits.no_longer in
    let long : ltb (length (value ++ rest)) (length value) ≡ false = le-ltb _ _ (omega (arith, length-append value rest)) in
    rw (low, high, long, take_at value rest (length value) refl, is_utf8-from_IsUtf8 value fits.utf8, drop_at value rest (length value) refl) refl

-- the reader of a text agrees with the grammar's text
pub text_agrees : (least most : ℕ) (next : List ℕ → Grammar) → Agrees (text_at least most) (IsTextOf least most) (Text least most next) next
text_agrees least most next = record {
  takes = λ bytes fits x e. text_at-takes least most next bytes x e;
  stops = λ bytes fits stop e. text_at-stops least most next bytes stop e;
  again = λ value front rest s. ap (λ (t : List ℕ). text_at least most (t ++ rest)) s.counted ∙ text_at-again least most value rest s.fits;
}
