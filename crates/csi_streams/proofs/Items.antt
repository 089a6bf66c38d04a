-- Lists of items, frames or lines, that were handled.
use Rattle.std.proofs.Common.{◌≡◌, ◌∙◌, sym, ap, subst, refl, ℕ, ◌-◌, ◌<◌, ◌≤◌, ◌^◌, min, zero, suc, List, [], ◌∷◌, ◌++◌, length, take, drop, arith, length-append}
use Rattle.std.specs.Prelude.{◌≢◌, slice_get}
use Rattle.std.specs.List.{AllByRecursion}
use Rattle.std.proofs.Math.Seq.{take-append_seam}
use Rattle.csi_streams.specs.Public.Handled.{AllHandled, FirstHandled}
use Rattle.csi_streams.specs.Public.State.{State}

-- what holds of each item, and of one more, holds of each of them
pub each-push : {X : Type 0} (P : X → Type 0) (items : List X) (item : X) → AllByRecursion P items → P item → AllByRecursion P (items ++ item ∷ [])
each-push P [] item each fits = (fits, tt)
each-push P (i ∷ items) item each fits = (each.0, each-push P items item each.1 fits)

-- behind the items that were handled stands the next one
pub get-seam : {X : Type 0} (done later : List X) → slice_get (done ++ later) (length done) ≡ slice_get later 0
get-seam [] later = refl
get-seam (d ∷ ds) later = get-seam ds later

-- the items at the front
pub front-taken : {X : Type 0} (items done later : List X) (k : ℕ) → items ≡ done ++ later → k ≡ length done → take k items ≡ done
front-taken items done later k are is = ap (λ n. take n items) is ∙ ap (take (length done)) are ∙ take-append_seam done later

-- they are no more than all
pub first-within : {X : Type 0} (items done later : List X) (count : ℕ) → items ≡ done ++ later → count ≡ length done → count ≤ length items
first-within items done later count are is = omega (arith, is, ap length are, length-append done later)

-- what holds of the items that were handled holds of as many at the front
pub first-ran : {X : Type 0} (P : List X → Type 0) (items done later : List X) (count : ℕ) → items ≡ done ++ later → count ≡ length done → P done → P (take count items)
first-ran P items done later count are is ran = subst P (sym (front-taken items done later count are is)) ran

-- a list is its first items, and the others
pub in-two : {X : Type 0} (xs : List X) (n : ℕ) → xs ≡ take n xs ++ drop n xs
in-two [] zero = refl
in-two [] (suc n) = refl
in-two (x ∷ xs) zero = refl
in-two {X} (x ∷ xs) (suc n) = ap (λ (ys : List X). x ∷ ys) (in-two xs n)

-- of more than nothing something is there
pub something : {X : Type 0} (xs : List X) → 0 < min (length xs) (2 ^ 64 - 1) → xs ≢ []
something [] some is = absurd (omega (arith, some))
something (x ∷ xs) some is = absurd cc

module _ {H S O X : Type 0} (leads : List X → State H S O → Type 0) (is_flushed : H → Type 0) (now : State H S O) where
  -- the items that were handled are all
  pub all-handled : (items done : List X) (count : ℕ) → done ≡ items → count ≡ length done → leads done now → is_flushed now.own → AllHandled leads is_flushed now items count
  all-handled items done count same is ran none = record { runs = subst (λ (some : List X). leads some now) same ran; flushed = none; counted = is ∙ ap length same }

  -- they are the first
  pub first-handled : (items done later : List X) (count : ℕ) → items ≡ done ++ later → count ≡ length done → leads done now → is_flushed now.own → FirstHandled leads is_flushed now items count
  first-handled items done later count are is ran none = record {
    within = first-within items done later count are is;
    runs = first-ran (λ (some : List X). leads some now) items done later count are is ran;
    flushed = none;
  }
