-- A reader reads what is spelled: what it takes from the front of bytes is spelled there, and what is spelled there is read again.
use Rattle.std.proofs.Common.{◌≡◌, ℕ, Bool, true, false, cond, List, [], ◌++◌, Some, None, refl, sym, ap, subst, ◌∙◌, append_assoc}
use Rattle.std.specs.Prelude.{Option}
use Rattle.std.proofs.lemmas.List.{append-nil}
use Rattle.csi_types.proofs.Options.{some_is_not_none}
use Rattle.csi_frames.specs.Public.Bytes.{AreBytes}
use Rattle.csi_frames.proofs.Bytes.{AreBytes-back}
pub use Rattle.csi_frames.proofs.Readers.{Then, Given, Either}
pub use Rattle.csi_frames.proofs.Says.{Spelled, After, Made, Always}
use Rattle.csi_records.specs.Private.Reading.{Reader, go_on, ◌>>=◌, give}

-- a value, with what spells it
pub record Took {A : Type 0} (Says : A → List ℕ → Type 0) (bytes : List ℕ) (x : A × List ℕ) : Type 0 where
  pub front : List ℕ
  pub parts : bytes ≡ front ++ x.1
  pub says : Says x.0 front

-- what is taken from the front of bytes is spelled there, and what is spelled in front is read again
pub record Reads {A : Type 0} (read : Reader A) (Says : A → List ℕ → Type 0) : Type 0 where
  pub takes : (bytes : List ℕ) → AreBytes bytes → (x : A × List ℕ) → read bytes ≡ Some x → Took Says bytes x
  pub again : (value : A) (front rest : List ℕ) → Says value front → read (front ++ rest) ≡ Some (value, rest)

-- ---- one reader after another

-- where two readers in turn give a value, the first gave one, and the second gave it behind that
pub go_on-some : {A B : Type 0} (r : Option (A × List ℕ)) (k : A → Reader B) (y : B × List ℕ) → go_on r k ≡ Some y → (x : A × List ℕ) × (r ≡ Some x) × (k x.0 x.1 ≡ Some y)
go_on-some (Some x) k y e = (x, refl, e)
go_on-some None k y e = absurd cc

-- two readers one after another read what the first and then the second reads
pub then : {A B : Type 0} {r : Reader A} {k : A → Reader B} {First : A → List ℕ → Type 0} {Second : A → B → List ℕ → Type 0}
    → Reads r First → ((a : A) → Reads (k a) (Second a)) → Reads (r >>= k) (Then First Second)
then {A} {B} {r} {k} {First} {Second} one two = record {
  takes = λ bytes fits y e.
      let p = go_on-some (r bytes) k y e in
      let a = one.takes bytes fits p.0 p.1 in
      let b = (two p.0.0).takes p.0.1 (AreBytes-back a.front p.0.1 (subst AreBytes a.parts fits)) y p.2 in
      record {
        front = a.front ++ b.front;
        parts = a.parts ∙ ap (λ (t : List ℕ). a.front ++ t) b.parts ∙ sym (append_assoc a.front b.front y.1);
        says = record { before = p.0.0; front = a.front; back = b.front; parts = refl; first = a.says; second = b.says };
      };
  again = λ value bytes rest s.
      let all : bytes ++ rest ≡ s.front ++ (s.back ++ rest) = ap (λ (t : List ℕ). t ++ rest) s.parts ∙ append_assoc s.front s.back rest in
      let first : r (s.front ++ (s.back ++ rest)) ≡ Some (s.before, s.back ++ rest) = one.again s.before s.front (s.back ++ rest) s.first in
      ap (λ (t : List ℕ). go_on (r t) k) all ∙ (ap (λ (x : Option (A × List ℕ)). go_on x k) first ∙ (two s.before).again value s.back rest s.second);
}

-- a value that is read, and the bytes behind it
abbrev pub done : {A : Type 0} → A → List ℕ → Option (A × List ℕ)
done x bytes = Some (x, bytes)

-- equal answers have the same value and the same rest
pub some_is : {A : Type 0} (x : A) (bytes : List ℕ) (y : A × List ℕ) → done x bytes ≡ Some y → (x, bytes) ≡ y
some_is x bytes y e = cc

-- a value that is given takes no bytes
pub gives : {A : Type 0} (made : A) → Reads (give made) (Given made)
gives {A} made = record {
  takes = λ bytes fits x e. subst (λ (y : A × List ℕ). Took (Given made) bytes y) (some_is made bytes x e) (record { front = []; parts = refl; says = record { same = refl; none = refl } });
  again = λ value front rest s. ap (λ (t : List ℕ). done made (t ++ rest)) s.none ∙ ap (λ (v : A). done v rest) (sym s.same);
}

-- ---- the same in other words, and a choice

-- a reader that reads what one relation says reads what an equivalent one says
pub in_words : {A : Type 0} {r : Reader A} {Says : A → List ℕ → Type 0} (Other : A → List ℕ → Type 0)
    → ((value : A) (bytes : List ℕ) → Says value bytes → Other value bytes) → ((value : A) (bytes : List ℕ) → Other value bytes → Says value bytes) → Reads r Says → Reads r Other
in_words Other there back one = record {
  takes = λ bytes fits x e. let a = one.takes bytes fits x e in record { front = a.front; parts = a.parts; says = there x.0 a.front a.says };
  again = λ value front rest s. one.again value front rest (back value front s);
}

-- a choice of two readers by a test reads what the chosen one reads
pub either : {A : Type 0} {r k : Reader A} {First Second : A → List ℕ → Type 0} (b : Bool) → Reads r First → Reads k Second → Reads (cond b r k) (Either b First Second)
either true one two = one
either false one two = two

-- ---- values with one spelling each

-- equal answers have equal values and equal rests
same_answer : {A : Type 0} (x y : A) (xs ys : List ℕ) → done x xs ≡ done y ys → (x ≡ y) × (xs ≡ ys)
same_answer x y xs ys e = let same = some_is x xs (y, ys) e in (ap (λ p. p.0) same, ap (λ p. p.1) same)

-- one value stands in front of bytes
pub spelled-same : {A : Type 0} {read : Reader A} {Fits : A → Type 0} {spell : A → List ℕ} → Reads read (Spelled Fits spell) → (a b : A) (first second : List ℕ) → Fits a → Fits b
    → spell a ++ first ≡ spell b ++ second → (a ≡ b) × (first ≡ second)
spelled-same {read = read} {spell = spell} reads a b first second fits fit e =
    same_answer a b first second (sym (reads.again a (spell a) first (record { fits = fits; are = refl })) ∙ ap read e ∙ reads.again b (spell b) second (record { fits = fit; are = refl }))

-- where no value is read, none stands in front
pub spelled-none : {A : Type 0} {read : Reader A} {Fits : A → Type 0} {spell : A → List ℕ} → Reads read (Spelled Fits spell) → (bytes : List ℕ) → read bytes ≡ None
    → (a : A) (rest : List ℕ) → Fits a → bytes ≡ spell a ++ rest → ⊥
spelled-none {read = read} {spell = spell} reads bytes none a rest fits are =
    some_is_not_none (a, rest) (sym (reads.again a (spell a) rest (record { fits = fits; are = refl })) ∙ ap read (sym are) ∙ none)

-- a reader of a field with one spelling, and one behind it, read that spelling and then what the second reads
pub after : {A B : Type 0} {r : Reader A} {k : A → Reader B} {Fits : A → Type 0} {spell : A → List ℕ} {Second : A → B → List ℕ → Type 0}
    → Reads r (Spelled Fits spell) → ((a : A) → Reads (k a) (Second a)) → Reads (r >>= k) (After Fits spell Second)
after {A} {B} {r} {k} {Fits} {spell} {Second} one two =
    in_words (After Fits spell Second)
    (λ value bytes s. record { before = s.before; fits = s.first.fits; back = s.back; parts = s.parts ∙ ap (λ (t : List ℕ). t ++ s.back) s.first.are; second = s.second })
    (λ value bytes s. record { before = s.before; front = spell s.before; back = s.back; parts = s.parts; first = record { fits = s.fits; are = refl }; second = s.second })
    (then one two)

-- what is made of a value with one spelling is read from that spelling
pub makes : {A B : Type 0} {r : Reader A} {Fits : A → Type 0} {spell : A → List ℕ} (make : A → B) → Reads r (Spelled Fits spell) → Reads (r >>= λ a. give (make a)) (Made Fits spell make)
makes {A} {B} {r} {Fits} {spell} make one =
    in_words (Made Fits spell make)
    (λ value bytes s. record { before = s.before; fits = s.first.fits; same = s.second.same; are = s.parts ∙ ap (λ (t : List ℕ). s.front ++ t) s.second.none ∙ append-nil s.front ∙ s.first.are })
    (λ value bytes s. record { before = s.before; front = bytes; back = []; parts = sym (append-nil bytes); first = record { fits = s.fits; are = s.are }; second = record { same = s.same; none = refl } })
    (then one (λ a. gives (make a)))

-- a reader of a field with one spelling, and one behind it of what is made of other fields, read these fields one after another
pub also : {A Y B : Type 0} {r : Reader A} {k : A → Reader B} {Fits : A → Type 0} {spell : A → List ℕ} {Others : Y → Type 0} {others : Y → List ℕ} {make : A → Y → B}
    → Reads r (Spelled Fits spell) → ((a : A) → Reads (k a) (Made Others others (make a))) → Reads (r >>= k) (Made (λ (y : A × Y). Fits y.0 × Others y.1) (λ y. spell y.0 ++ others y.1) (λ y. make y.0 y.1))
also {A} {Y} {B} {r} {k} {Fits} {spell} {Others} {others} {make} one two =
    in_words (Made (λ (y : A × Y). Fits y.0 × Others y.1) (λ y. spell y.0 ++ others y.1) (λ y. make y.0 y.1))
    (λ value bytes s. record { before = (s.before, s.second.before); fits = (s.fits, s.second.fits); same = s.second.same; are = s.parts ∙ ap (λ (t : List ℕ). spell s.before ++ t) s.second.are })
    (λ value bytes s. record { before = s.before.0; fits = s.fits.0; back = others s.before.1; parts = s.are; second = record { before = s.before.1; fits = s.fits.1; same = s.same; are = refl } })
    (after one two)

-- where a value is within its limits as its fields are, and is spelled as they are, the reader of the fields reads it
pub fields : {Y B : Type 0} {read : Reader B} {Parts : Y → Type 0} {spell_parts : Y → List ℕ} {make : Y → B} {Fits : B → Type 0} {spell : B → List ℕ} → Reads read (Made Parts spell_parts make)
    → ((b : B) → Fits b → (y : Y) × Parts y × (b ≡ make y)) → ((y : Y) → Parts y → Fits (make y)) → ((y : Y) → spell_parts y ≡ spell (make y)) → Reads read (Spelled Fits spell)
fields {Y} {B} {read} {Parts} {spell_parts} {make} {Fits} {spell} one apart whole same =
    in_words (Spelled Fits spell)
    (λ value bytes s. subst (λ (v : B). Spelled Fits spell v bytes) (sym s.same) (record { fits = whole s.before s.fits; are = s.are ∙ same s.before }))
    (λ value bytes s. let p = apart value s.fits in record { before = p.0; fits = p.1; same = p.2; are = s.are ∙ ap spell p.2 ∙ sym (same p.0) })
    one

-- what is given without a byte is read of no byte, where it is the one value within the limits
pub gives_only : {B : Type 0} {Fits : B → Type 0} {spell : B → List ℕ} (made : B) → Fits made → spell made ≡ [] → ((b : B) → Fits b → b ≡ made) → Reads (give made) (Spelled Fits spell)
gives_only {B} {Fits} {spell} made fits none only =
    in_words (Spelled Fits spell) (λ value bytes s. record { fits = subst Fits (sym s.same) fits; are = s.none ∙ sym none ∙ ap spell (sym s.same) })
    (λ value bytes s. record { same = only value s.fits; none = s.are ∙ ap spell (only value s.fits) ∙ none }) (gives made)

-- six pieces, one behind another
pub pieces6 : (a b c d e f : List ℕ) → a ++ (b ++ (c ++ (d ++ (e ++ f)))) ≡ a ++ b ++ c ++ d ++ e ++ f
pieces6 a b c d e f = simp append_assoc
