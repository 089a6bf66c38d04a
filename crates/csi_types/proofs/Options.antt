-- Values that may be missing.
use Rattle.std.proofs.Common.{◌≡◌, false, true, refl, ap}
use Rattle.std.specs.Prelude.{Option, Some, None, is_some, option_map}
use Rattle.std.specs.Option.{option_or}
use Rattle.std.proofs.lemmas.Bool.{false≢true}
use Rattle.std.proofs.lemmas.Option.{none-some, same_Some}

-- a value that is there isn't missing
pub some_is_not_none : {X : Type 0} (x : X) → Some x ≡ None → ⊥
some_is_not_none x h = cc

-- ---- the first of two, if there is one (the kit's `option_or`)

-- where the first is there, it is the one
pub option_or-some : {X : Type 0} (o other : Option X) (x : X) → o ≡ Some x → option_or o other ≡ Some x
option_or-some o other x h = ap (λ p. option_or p other) h

-- where the first isn't there, the other is the one
pub option_or-none : {X : Type 0} (o other : Option X) → o ≡ None → option_or o other ≡ other
option_or-none o other h = ap (λ p. option_or p other) h

-- nothing after it
pub option_or-left : {X : Type 0} (o : Option X) → option_or o None ≡ o
option_or-left None = refl
option_or-left (Some x) = refl

-- what is read of the first is read of the two
pub option_or-read : {X Y : Type 0} (f : X → Y) (o other : Option X) (y : Y) → option_map f o ≡ Some y → option_map f (option_or o other) ≡ Some y
option_or-read f None other y h = absurd (none-some y h)
option_or-read f (Some x) other y h = h

-- where the first is there, one of the two is
pub option_or-is_some : {X : Type 0} (o other : Option X) → is_some o ≡ true → is_some (option_or o other) ≡ true
option_or-is_some None other h = absurd (false≢true h)
option_or-is_some (Some x) other h = refl

-- ---- what is read of it

-- something is read exactly where something is there
pub is_some-map : {X Y : Type 0} (f : X → Y) (o : Option X) → is_some (option_map f o) ≡ is_some o
is_some-map f None = refl
is_some-map f (Some x) = refl

-- where nothing is read nothing is there
pub none-from_map : {X Y : Type 0} (f : X → Y) (o : Option X) → option_map f o ≡ None → o ≡ None
none-from_map f None h = refl
none-from_map f (Some x) h = absurd (some_is_not_none (f x) h)

-- what was read was read of something
pub some-from_map : {X Y : Type 0} (f : X → Y) (o : Option X) (y : Y) → option_map f o ≡ Some y → (x : X) × (o ≡ Some x) × (f x ≡ y)
some-from_map f None y h = absurd (none-some y h)
some-from_map f (Some x) y h = (x, refl, same_Some (f x) y h)

-- what isn't there by the test is nothing
pub none-from_is_some : {X : Type 0} (o : Option X) → is_some o ≡ false → o ≡ None
none-from_is_some None h = refl
none-from_is_some (Some x) h = cc

-- nothing is there where no value can be
pub none-where : {X : Type 0} (o : Option X) → ((x : X) → o ≡ Some x → ⊥) → o ≡ None
none-where None f = refl
none-where (Some x) f = absurd (f x refl)

-- a change that the reader doesn't see
pub option_map-map : {X Y : Type 0} (f : X → Y) (g : X → X) (o : Option X) → ((x : X) → f (g x) ≡ f x) → option_map f (option_map g o) ≡ option_map f o
option_map-map f g None same = refl
option_map-map f g (Some x) same = ap Some (same x)
