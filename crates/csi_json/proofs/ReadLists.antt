-- A list that is read item by item, from the front.
use Rattle.std.proofs.Common.{◌≡◌, ℕ, zero, suc, ◌<◌, ◌+◌, List, [], ◌∷◌, ◌++◌, length, map, take, drop, get_or, refl, sym, ◌∙◌, ap, arith}
use Rattle.std.specs.Prelude.{Option, Some, None, option_map, Result, Ok, Err}
use Rattle.std.proofs.lemmas.List.{map_more}
use Rattle.serde_json.specs.Data.{Data}
use Rattle.serde_json.specs.View.{view}
use Rattle.serde_json.specs.declared.value.Value.{Value}
use Rattle.csi_json.specs.declared.values.Flaw.{Flaw}
use Rattle.csi_json.specs.declared.values.Flaw.TheVariants.{Bad, NoMemory}
use Rattle.csi_json.specs.Public.Json.{read_all, read_first, unless_bad}
use Rattle.csi_json.specs.Private.Json.{Reads, WantsOnly, HasItems}

-- one more item is read behind an item, where it is read behind those after it
more_after : {A : Type 0} (r : Option A) (a b : Result (List A) ℕ) (place : ℕ) (old : List A) (x : A) → ((ys : List A) → a ≡ Ok ys → b ≡ Ok (ys ++ x ∷ []))
    → read_first place r a ≡ Ok old → read_first place r b ≡ Ok (old ++ x ∷ [])
more_after None a b place old x f h = cc
more_after (Some y) (Err bad) b place old x f h = cc
more_after (Some y) (Ok ys) b place old x f h = let all : b ≡ Ok (ys ++ x ∷ []) = f ys refl in let same : y ∷ ys ≡ old = cc in rw (all, ← same) refl

-- one more item is read
more : {A : Type 0} (read : Data → Option A) (place : ℕ) (done : List Data) (d : Data) (old : List A) (x : A) → read d ≡ Some x → read_all read place done ≡ Ok old
    → read_all read place (done ++ d ∷ []) ≡ Ok (old ++ x ∷ [])
more read place [] d old x is h = let same : [] ≡ old = cc in rw (is, ← same) refl
more read place (e ∷ es) d old x is h = more_after (read e) (read_all read (suc place) es) (read_all read (suc place) (es ++ d ∷ [])) place old x (λ ys. more read (suc place) es d ys x is) h

-- where reading on stops at a place, it stops there with an item before it that was read, too
stop_after : {A : Type 0} (r : Option A) (a b : Result (List A) ℕ) (place bad : ℕ) (old : List A) → ((ys : List A) → a ≡ Ok ys → b ≡ Err bad)
    → read_first place r a ≡ Ok old → read_first place r b ≡ Err bad
stop_after None a b place bad old f h = cc
stop_after (Some y) (Err other) b place bad old f h = cc
stop_after (Some y) (Ok ys) b place bad old f h = let all : b ≡ Err bad = f ys refl in rw all refl

-- the first item that is not read
stop : {A : Type 0} (read : Data → Option A) (place bad : ℕ) (done : List Data) (d : Data) (rest : List Data) (old : List A) → read d ≡ None → bad ≡ place + length done
    → read_all read place done ≡ Ok old → read_all read place (done ++ d ∷ rest) ≡ Err bad
stop read place bad [] d rest old is at h = let e : place ≡ bad = omega arith in rw is (ap Err e)
stop read place bad (e ∷ es) d rest old is at h =
    stop_after (read e) (read_all read (suc place) es) (read_all read (suc place) (es ++ d ∷ rest)) place bad old (λ ys. stop read (suc place) bad es d rest ys is (omega arith)) h

-- a list that is seen item by item is what is before a place, the item there, and what is behind it
halves : {X Y : Type 0} (f : X → Y) (xs : List X) (i : ℕ) (x : X) → i < length xs → x ≡ get_or xs i x → map f xs ≡ map f (take i xs) ++ f x ∷ map f (drop (suc i) xs)
halves f [] i x h e = absurd (omega arith)
halves f (y ∷ ys) zero x h e = let same : x ≡ y = e in rw same refl
halves f (y ∷ ys) (suc i) x h e = ap (λ (zs : List _). f y ∷ zs) (halves f ys i x (omega arith) e)

-- one item more is taken, as it is seen
taken : {X Y : Type 0} (f : X → Y) (xs : List X) (i : ℕ) (x : X) → i < length xs → x ≡ get_or xs i x → map f (take (i + 1) xs) ≡ map f (take i xs) ++ f x ∷ []
taken f xs i x h e = let last : get_or xs i x ≡ x = sym e in map_more f xs i x h ∙ ap (λ z. map f (take i xs) ++ f z ∷ []) last

-- as many are taken as the place tells
taken_len : {X Y : Type 0} (f : X → Y) (xs : List X) (i : ℕ) → i < length xs → length (map f (take i xs)) ≡ i
taken_len f [] i h = absurd (omega arith)
taken_len f (y ∷ ys) zero h = refl
taken_len f (y ∷ ys) (suc i) h = ap suc (taken_len f ys i (omega arith))

-- where all before an item were read, and it is read and added, all up to it are read
pushed : {A : Type 0} (read : Data → Option A) (done : List Data) (d : Data) (old new : List A) (r : Option A) → read d ≡ r → option_map (λ x. old ++ x ∷ []) r ≡ Some new
    → read_all read 1 done ≡ Ok old → read_all read 1 (done ++ d ∷ []) ≡ Ok new
pushed read done d old new None is one h = cc
pushed read done d old new (Some x) is one h = let last : old ++ x ∷ [] ≡ new = cc in rw (← last) (more read 1 done d old x is h)

-- nothing was added, so the item wasn't read
unread : {A : Type 0} (old : List A) (r : Option A) → option_map (λ x. old ++ x ∷ []) r ≡ None → r ≡ None
unread old None h = refl
unread old (Some x) h = cc

-- the items before this one were read, and so is it
pub goes_on : {A : Type 0} (read : Data → Option A) (xs : List Value) (i : ℕ) (x : Value) (old new : List A) → i < length xs → x ≡ get_or xs i x
    → option_map (λ y. old ++ y ∷ []) (read (view x)) ≡ Some new → read_all read 1 (map view (take i xs)) ≡ Ok old → read_all read 1 (map view (take (i + 1) xs)) ≡ Ok new
goes_on read xs i x old new h e one was = rw (taken view xs i x h e) (pushed read (map view (take i xs)) (view x) old new (read (view x)) refl one was)

-- the items before this one were read, and it isn't
pub stops : {A : Type 0} (read : Data → Option A) (xs : List Value) (i : ℕ) (x : Value) (old : List A) → i < length xs → x ≡ get_or xs i x
    → option_map (λ y. old ++ y ∷ []) (read (view x)) ≡ None → read_all read 1 (map view (take i xs)) ≡ Ok old → read_all read 1 (map view xs) ≡ Err (i + 1)
stops read xs i x old h e one was =
    rw (halves view xs i x h e)
    (stop read 1 (i + 1) (map view (take i xs)) (view x) (map view (drop (suc i) xs)) old (unread old (read (view x)) one) (omega (arith, taken_len view xs i h)) was)

-- the same, as functions that read lists answer
pub refuses : {A B : Type 0} (shown : B → List A) (read : Data → Option A) (xs : List Value) (i : ℕ) (x : Value) (old new : List A) (flaw : Flaw) → i < length xs → x ≡ get_or xs i x
    → Reads {A = Unit {0}} {B = List A} (λ _. new) (Err flaw) (option_map (λ y. old ++ y ∷ []) (read (view x))) → read_all read 1 (map view (take i xs)) ≡ Ok old
    → Reads {A = B} {B = List A} shown (Err flaw) (unless_bad (read_all read 1 (map view xs)))
refuses shown read xs i x old new Bad h e one was = ap unless_bad (stops read xs i x old h e one was)
refuses shown read xs i x old new NoMemory h e one was = tt

-- a list that has an item may want memory, whatever is answered
pub wants : {A : Type 0} (answer : Result A Flaw) (xs : List Value) (i : ℕ) → i < length xs → WantsOnly answer (HasItems (Some (map view xs)))
wants (Ok value) xs i h = tt
wants (Err Bad) xs i h = tt
wants (Err NoMemory) [] i h = absurd (omega arith)
wants (Err NoMemory) (x ∷ xs) i h = tt
