-- Readers whose values have one spelling each.
use Rattle.std.proofs.Common.{◌≡◌, ℕ, Bool, true, List, [], ◌∷◌, ◌++◌, refl, sym, ap, subst, ◌∙◌}
use Rattle.std.proofs.lemmas.List.{append-nil}
use Rattle.csi_frames.specs.declared.fault.FaultKind.{FaultKind}
use Rattle.csi_frames.specs.Public.Grammar.{Grammar, Byte}
use Rattle.csi_frames.specs.Public.Reading.{Reader, give, byte_at}
use Rattle.csi_frames.specs.Public.Reading.{◌>>=◌}
use Rattle.csi_frames.proofs.Readers.{Agrees, then, gives, in_words}
use Rattle.csi_frames.proofs.FieldReaders.{byte_agrees}

-- the value is within its limits, and this is its spelling
pub record Spelled {A : Type 0} (Fits : A → Type 0) (spell : A → List ℕ) (value : A) (bytes : List ℕ) : Type 0 where
  pub fits : Fits value
  pub are : bytes ≡ spell value

-- a field with one spelling, and then what a second reader made
pub record After {A B : Type 0} (Fits : A → Type 0) (spell : A → List ℕ) (Second : A → B → List ℕ → Type 0) (value : B) (bytes : List ℕ) : Type 0 where
  pub before : A
  pub fits : Fits before
  pub back : List ℕ
  pub parts : bytes ≡ spell before ++ back
  pub second : Second before value back

-- made of a field with one spelling, the last one
pub record Made {A B : Type 0} (Fits : A → Type 0) (spell : A → List ℕ) (make : A → B) (value : B) (bytes : List ℕ) : Type 0 where
  pub before : A
  pub fits : Fits before
  pub same : value ≡ make before
  pub are : bytes ≡ spell before

-- a field with one spelling, and then a reader of what follows it, agree with the grammar one after the other
pub after : {A B : Type 0} {r : Reader A} {k : A → Reader B} {Fits : A → Type 0} {spell : A → List ℕ} {Second : A → B → List ℕ → Type 0} {g : Grammar} {mid : A → Grammar} {next : B → Grammar}
    → Agrees r (Spelled Fits spell) g mid → ((a : A) → Agrees (k a) (Second a) (mid a) next) → Agrees (r >>= k) (After Fits spell Second) g next
after {A} {B} {r} {k} {Fits} {spell} {Second} one two =
    in_words (After Fits spell Second)
    (λ value bytes s. record { before = s.before; fits = s.first.fits; back = s.back; parts = s.parts ∙ ap (λ (t : List ℕ). t ++ s.back) s.first.are; second = s.second })
    (λ value bytes s. record { before = s.before; front = spell s.before; back = s.back; parts = s.parts; first = record { fits = s.fits; are = refl }; second = s.second })
    (then one two)

-- a reader that makes its value of one field agrees with the grammar where the field's reader does
pub makes : {A B : Type 0} {r : Reader A} {Fits : A → Type 0} {spell : A → List ℕ} {g : Grammar} (make : A → B) (next : B → Grammar)
    → Agrees r (Spelled Fits spell) g (λ a. next (make a)) → Agrees (r >>= λ a. give (make a)) (Made Fits spell make) g next
makes {A} {B} {r} {Fits} {spell} make next one =
    in_words (Made Fits spell make)
    (λ value bytes s. record { before = s.before; fits = s.first.fits; same = s.second.same; are = s.parts ∙ ap (λ (t : List ℕ). s.front ++ t) s.second.none ∙ append-nil s.front ∙ s.first.are })
    (λ value bytes s. record { before = s.before; front = bytes; back = []; parts = sym (append-nil bytes); first = record { fits = s.fits; are = s.are }; second = record { same = s.same; none = refl } })
    (then one (λ a. gives {next = next} (make a)))

-- a byte that stands for a value
abbrev pub Always : {A : Type 0} → A → Type 0
Always a = Unit {0}

-- each allowed byte is the number of the value that it stands for, which fits; each value has one byte, which is allowed where the value fits
pub record IsCode {A : Type 0} (Fits : A → Type 0) (allowed : ℕ → Bool) (value_of : ℕ → A) (number : A → ℕ) : Type 0 where
  pub back : (b : ℕ) → allowed b ≡ true → number (value_of b) ≡ b
  pub fits : (b : ℕ) → allowed b ≡ true → Fits (value_of b)
  pub is_allowed : (a : A) → Fits a → allowed (number a) ≡ true
  pub again : (a : A) → value_of (number a) ≡ a

-- a reader of a byte that stands for a value agrees with the grammar, and each value is spelled as its byte
pub code_agrees : {A : Type 0} (Fits : A → Type 0) (allowed : ℕ → Bool) (fault : FaultKind) (value_of : ℕ → A) (number : A → ℕ) (next : A → Grammar) → IsCode Fits allowed value_of number
    → Agrees (byte_at allowed fault >>= λ b. give (value_of b)) (Spelled Fits (λ a. number a ∷ [])) (Byte allowed fault (λ b. next (value_of b))) next
code_agrees {A} Fits allowed fault value_of number next code =
    in_words (Spelled Fits (λ (a : A). number a ∷ []))
    (λ value bytes s. record {
      fits = subst Fits (sym s.second.same) (code.fits s.before s.first.is_allowed);
      are = s.parts ∙ ap (λ (t : List ℕ). s.front ++ t) s.second.none ∙ append-nil s.front ∙ s.first.one
          ∙ ap (λ (n : ℕ). n ∷ []) (sym (code.back s.before s.first.is_allowed)) ∙ ap (λ (a : A). number a ∷ []) (sym s.second.same);
    })
    (λ value bytes s. record {
      before = number value;
      front = bytes;
      back = [];
      parts = sym (append-nil bytes);
      first = record { is_allowed = code.is_allowed value s.fits; one = s.are };
      second = record { same = sym (code.again value); none = refl };
    })
    (then (byte_agrees allowed fault (λ b. next (value_of b))) (λ b. gives {next = next} (value_of b)))
