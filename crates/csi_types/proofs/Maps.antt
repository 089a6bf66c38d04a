-- Lists of which each element is changed.
use Rattle.std.proofs.Common.{◌≡◌, List, [], ◌∷◌, map, Bool, false, cond, refl, ap, inl, inr}
use Rattle.std.specs.Prelude.{None, find}
use Rattle.csi_types.specs.Model.Members.{IsAmong}
use Rattle.csi_types.proofs.Searches.{find-missed}

-- one change after another is a third
pub map-twice : {X Y Z : Type 0} (f : Y → Z) (g : X → Y) (h : X → Z) (xs : List X) → ((x : X) → f (g x) ≡ h x) → map f (map g xs) ≡ map h xs
map-twice f g h [] same = refl
map-twice f g h (x ∷ xs) same = let first = same x in let rest = map-twice f g h xs same in λ i. first i ∷ rest i

-- mapped twice, where the first time makes no difference
pub map-map : {X Y : Type 0} (f : X → Y) (g : X → X) (xs : List X) → ((x : X) → f (g x) ≡ f x) → map f (map g xs) ≡ map f xs
map-map f g xs same = map-twice f g f xs same

-- what is there isn't changed
pub map-same : {X : Type 0} (f : X → X) (xs : List X) → ((x : X) → IsAmong x xs → f x ≡ x) → map f xs ≡ xs
map-same f [] same = refl
map-same f (x ∷ xs) same = let first = same x (inl refl) in let rest = map-same f xs (λ y among. same y (inr among)) in λ i. first i ∷ rest i

-- a change of those that pass changes nothing where none does
pub map-none : {X : Type 0} (p : X → Bool) (f : X → X) (xs : List X) → ((x : X) → p x ≡ false → f x ≡ x) → find p xs ≡ None → map f xs ≡ xs
map-none p f [] same h = refl
map-none p f (x ∷ xs) same h =
    let parts = find-missed (p x) x (find p xs) h in
    let first = same x parts.0 in
    let rest = map-none p f xs same parts.1 in
    λ i. first i ∷ rest i

-- the same of a list that is seen through a function
pub map-none_shown : {R X : Type 0} (view : R → X) (p : X → Bool) (f : X → X) (rs : List R) → find (λ r. p (view r)) rs ≡ None → map (λ x. cond (p x) (f x) x) (map view rs) ≡ map view rs
map-none_shown view p f [] none = refl
map-none_shown view p f (r ∷ rs) none =
    let parts = find-missed (p (view r)) r (find (λ r. p (view r)) rs) none in
    let first = ap (λ b. cond b (f (view r)) (view r)) parts.0 in
    let rest = map-none_shown view p f rs parts.1 in
    λ i. first i ∷ rest i
