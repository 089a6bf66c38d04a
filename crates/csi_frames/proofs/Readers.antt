-- A reader and a grammar say the same. What a reader takes from the front of bytes is spelled there and leads
-- through the grammar; where it stops, the grammar refuses; and what is spelled is read again.
use Rattle.std.proofs.Common.{◌≡◌, ℕ, Bool, true, false, cond, List, [], ◌∷◌, ◌++◌, length, Some, Result, Ok, Err, ◌⊎◌, inl, inr, refl, sym, ap, subst, ◌∙◌, append_assoc}
use Rattle.std.specs.Prelude.{MatchBool}
use Rattle.byteorder.specs.Endian.{big_number}
use Rattle.csi_frames.specs.declared.fault.FaultKind.{FaultKind}
use Rattle.csi_frames.specs.declared.fields.FieldStop.{FieldStop}
use Rattle.csi_frames.specs.Public.Grammar.{Grammar, Word, Text, Leads, nothing, byte, word, text, refusal}
use Rattle.csi_frames.specs.Public.Reading.{Reader, give, stopped_at_field}
use Rattle.csi_frames.specs.Public.Reading.{go_on, ◌>>=◌}
use Rattle.csi_frames.specs.Public.Bytes.{AreBytes}
use Rattle.csi_frames.proofs.Bytes.{AreBytes-back}

-- ---- leading through a grammar goes on

-- allowed values of the first fields, and then of those after them, are allowed values of all of these
pub Leads-append : (g : Grammar) (a : List ℕ) (h : Grammar) (b : List ℕ) (k : Grammar) → Leads g a h → Leads h b k → Leads g (a ++ b) k
Leads-append g a h b k (nothing _) after = after
Leads-append g a h b k (byte allowed fault next n more _ is_allowed rest) after =
    byte allowed fault next n (more ++ b) k is_allowed (Leads-append (next n) more h b k rest after)
Leads-append g a h b k (word allowed next eight more _ long is_allowed rest) after =
    subst (λ (t : List ℕ). Leads (Word allowed next) t k) (sym (append_assoc eight more b)) (word allowed next eight (more ++ b) k long is_allowed (Leads-append (next (big_number 8 eight)) more h b k rest after))
Leads-append g a h b k (text least most next bytes more _ low high utf8 rest) after =
    subst (λ (t : List ℕ). Leads (Text least most next) (length bytes ∷ t) k) (sym (append_assoc bytes more b)) (text least most next bytes (more ++ b) k low high utf8 (Leads-append (next bytes) more h b k rest after))

-- ---- what a reader may answer

-- a value, with what spells it, and where it leads
pub record Took {A : Type 0} (Says : A → List ℕ → Type 0) (g : Grammar) (next : A → Grammar) (bytes : List ℕ) (x : A × List ℕ) : Type 0 where
  pub front : List ℕ
  pub parts : bytes ≡ front ++ x.1
  pub says : Says x.0 front
  pub leads : Leads g front (next x.0)

-- where it stopped, and that the grammar refuses there
pub record Refuses (g : Grammar) (bytes : List ℕ) (stop : FieldStop) : Type 0 where
  pub front : List ℕ
  pub back : List ℕ
  pub next : Grammar
  pub parts : bytes ≡ front ++ back
  pub here : length back ≡ stop.left
  pub leads : Leads g front next
  pub refused : refusal next back ≡ Some stop.kind

-- A reader whose values these bytes spell agrees with a grammar, after which next may come.
pub record Agrees {A : Type 0} (read : Reader A) (Says : A → List ℕ → Type 0) (g : Grammar) (next : A → Grammar) : Type 0 where
  pub takes : (bytes : List ℕ) → AreBytes bytes → (x : A × List ℕ) → read bytes ≡ Ok x → Took Says g next bytes x
  pub stops : (bytes : List ℕ) → AreBytes bytes → (stop : FieldStop) → read bytes ≡ Err stop → Refuses g bytes stop
  pub again : (value : A) (front rest : List ℕ) → Says value front → read (front ++ rest) ≡ Ok (value, rest)

-- ---- one reader after another

-- where going on gave a value, the first reader gave one, and what came after it gave that value
go_on_ok : {A B : Type 0} (r : Result (A × List ℕ) FieldStop) (k : A → Reader B) (y : B × List ℕ) → go_on r k ≡ Ok y → (x : A × List ℕ) × (r ≡ Ok x) × (k x.0 x.1 ≡ Ok y)
go_on_ok (Ok x) k y e = (x, refl, e)
go_on_ok (Err stop) k y e = absurd cc

-- went on and stopped later
record Later {A B : Type 0} (r : Result (A × List ℕ) FieldStop) (k : A → Reader B) (stop : FieldStop) : Type 0 where
  read : A × List ℕ
  was : r ≡ Ok read
  stopped : k read.0 read.1 ≡ Err stop

-- where going on stopped, the first reader stopped there, or it gave a value and what came after it stopped
go_on_err : {A B : Type 0} (r : Result (A × List ℕ) FieldStop) (k : A → Reader B) (stop : FieldStop) → go_on r k ≡ Err stop → (r ≡ Err stop) ⊎ Later r k stop
go_on_err (Ok x) k stop e = inr (record { read = x; was = refl; stopped = e })
go_on_err (Err d) k stop e = inl cc

-- what spells a value that a second reader made after a first
pub record Then {A B : Type 0} (First : A → List ℕ → Type 0) (Second : A → B → List ℕ → Type 0) (value : B) (bytes : List ℕ) : Type 0 where
  pub before : A
  pub front : List ℕ
  pub back : List ℕ
  pub parts : bytes ≡ front ++ back
  pub first : First before front
  pub second : Second before value back

-- a reader that agrees with a grammar, and then one that agrees with what follows each value, agree one after another
pub then : {A B : Type 0} {r : Reader A} {k : A → Reader B} {First : A → List ℕ → Type 0} {Second : A → B → List ℕ → Type 0} {g : Grammar} {mid : A → Grammar} {next : B → Grammar}
    → Agrees r First g mid → ((a : A) → Agrees (k a) (Second a) (mid a) next) → Agrees (r >>= k) (Then First Second) g next
then {A} {B} {r} {k} {First} {Second} {g} {mid} {next} one two = record {
  takes = λ bytes fits y e.
      let p = go_on_ok (r bytes) k y e in
      let a = one.takes bytes fits p.0 p.1 in
      let b = (two p.0.0).takes p.0.1 (AreBytes-back a.front p.0.1 (subst AreBytes a.parts fits)) y p.2 in
      record {
        front = a.front ++ b.front;
        parts = a.parts ∙ ap (λ (t : List ℕ). a.front ++ t) b.parts ∙ sym (append_assoc a.front b.front y.1);
        says = record { before = p.0.0; front = a.front; back = b.front; parts = refl; first = a.says; second = b.says };
        leads = Leads-append g a.front (mid p.0.0) b.front (next y.0) a.leads b.leads;
      };
  stops = λ bytes fits stop e.
      elim (go_on_err (r bytes) k stop e) [
        | inl here ↦ one.stops bytes fits stop here
        | inr later ↦
            (let a = one.takes bytes fits later.read later.was in
            let b = (two later.read.0).stops later.read.1 (AreBytes-back a.front later.read.1 (subst AreBytes a.parts fits)) stop later.stopped in
            record {
              front = a.front ++ b.front;
              back = b.back;
              next = b.next;
              parts = a.parts ∙ ap (λ (t : List ℕ). a.front ++ t) b.parts ∙ sym (append_assoc a.front b.front b.back);
              here = b.here;
              leads = Leads-append g a.front (mid later.read.0) b.front b.next a.leads b.leads;
              refused = b.refused;
            })
      ];
  again = λ value bytes rest s.
      let whole : bytes ++ rest ≡ s.front ++ (s.back ++ rest) = ap (λ (t : List ℕ). t ++ rest) s.parts ∙ append_assoc s.front s.back rest in
      let first : r (s.front ++ (s.back ++ rest)) ≡ Ok (s.before, s.back ++ rest) = one.again s.before s.front (s.back ++ rest) s.first in
      ap (λ (t : List ℕ). go_on (r t) k) whole ∙ (ap (λ (x : Result (A × List ℕ) FieldStop). go_on x k) first ∙ (two s.before).again value s.back rest s.second);
}

-- a value with no bytes of its own
pub record Given {A : Type 0} (made value : A) (bytes : List ℕ) : Type 0 where
  pub same : value ≡ made
  pub none : bytes ≡ []

-- a value was read, and these bytes come after it
abbrev pub done : {A : Type 0} → A → List ℕ → Result (A × List ℕ) FieldStop
done x bytes = Ok (x, bytes)

-- of two answers that are the same, the values and the bytes behind them are the same
pub ok_is : {A : Type 0} (x : A) (bytes : List ℕ) (y : A × List ℕ) → done x bytes ≡ Ok y → (x, bytes) ≡ y
ok_is x bytes y e = cc

-- of two stops that are the same, the kind and what is left are the same
pub err_is : {A : Type 0} (kind : FaultKind) (bytes : List ℕ) (stop : FieldStop) → stopped_at_field {A = A} kind bytes ≡ Err stop → (record { kind = kind; left = length bytes }) ≡ stop
err_is kind bytes stop e = cc

-- a field that isn't there, or isn't allowed
pub refuses_here : {A : Type 0} (g : Grammar) (bytes : List ℕ) (kind : FaultKind) (stop : FieldStop) → refusal g bytes ≡ Some kind → stopped_at_field {A = A} kind bytes ≡ Err stop → Refuses g bytes stop
refuses_here {A} g bytes kind stop refused e =
    let same = err_is {A = A} kind bytes stop e in
    record {
      front = [];
      back = bytes;
      next = g;
      parts = refl;
      here = ap (λ (s : FieldStop). s.left) same;
      leads = nothing g;
      refused = refused ∙ ap (λ (s : FieldStop). Some s.kind) same;
    }

-- a value that is given without reading agrees with the grammar that follows it
pub gives : {A : Type 0} {next : A → Grammar} (made : A) → Agrees (give made) (Given made) (next made) next
gives {A} {next} made = record {
  takes = λ bytes fits x e. subst (λ (y : A × List ℕ). Took (Given made) (next made) next bytes y) (ok_is made bytes x e)
      (record { front = []; parts = refl; says = record { same = refl; none = refl }; leads = nothing (next made) });
  stops = λ bytes fits stop e. absurd cc;
  again = λ value front rest s. ap (λ (t : List ℕ). done made (t ++ rest)) s.none ∙ ap (λ (v : A). done v rest) (sym s.same);
}

-- ---- the same in other words, and a choice

-- what spells a reader's values may be put in other words that say the same
pub in_words : {A : Type 0} {r : Reader A} {Says : A → List ℕ → Type 0} {g : Grammar} {next : A → Grammar} (Other : A → List ℕ → Type 0)
    → ((value : A) (bytes : List ℕ) → Says value bytes → Other value bytes) → ((value : A) (bytes : List ℕ) → Other value bytes → Says value bytes) → Agrees r Says g next → Agrees r Other g next
in_words Other there back one = record {
  takes = λ bytes fits x e. let a = one.takes bytes fits x e in record { front = a.front; parts = a.parts; says = there x.0 a.front a.says; leads = a.leads };
  stops = one.stops;
  again = λ value front rest s. one.again value front rest (back value front s);
}

-- what spells a value, as a test says
abbrev pub Either : {A : Type 0} → Bool → (A → List ℕ → Type 0) → (A → List ℕ → Type 0) → A → List ℕ → Type 0
Either b First Second value bytes = MatchBool b (First value bytes) (Second value bytes)

-- of two readers that agree with a grammar each, the one that a test chooses agrees with the grammar that it chooses
pub either : {A : Type 0} {r k : Reader A} {First Second : A → List ℕ → Type 0} {g h : Grammar} {next : A → Grammar} (b : Bool)
    → Agrees r First g next → Agrees k Second h next → Agrees (cond b r k) (Either b First Second) (cond b g h) next
either true one two = one
either false one two = two
