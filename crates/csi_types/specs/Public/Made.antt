-- What is made within limits and when it isn't, and what is shown of it. This profile's own.
use Rattle.std.specs.Prelude.{◌≡◌, ◌<◌, ◌↔◌, ℕ, List, [], length, Option, Result, IfSome, IsSome, IfOk, IsOk, IsErrOf}
use Rattle.csi_types.specs.declared.text.TextFault.{TextFault}
use Rattle.csi_types.specs.declared.text.TextFault.TheVariants.{Empty, TooLong, NoMemory}
use Rattle.csi_types.specs.Public.Text.{IsText}

-- the text, which has 1 to so many bytes, or the first fault that holds
pub record IsTextOf (most : ℕ) (text : List ℕ) (result : Result (List ℕ) TextFault) : Type 0 where
  pub ok : IfOk result (λ made. made ≡ text)
  pub empty : IsErrOf result Empty ↔ (text ≡ [])
  pub too_long : IsErrOf result TooLong ↔ (most < length text)
  pub memory : IsErrOf result NoMemory → IsText 1 most text

-- the value, whose text may be empty, or that its text is too long; memory is refused to none that is too long, and to none that takes none
pub record IsCopyOf {A : Type 0} (value : A) (IsLong IsFit IsFree : Type 0) (result : Result A TextFault) : Type 0 where
  pub ok : IfOk result (λ made. made ≡ value)
  pub never_empty : IsErrOf result Empty → ⊥
  pub too_long : IsErrOf result TooLong ↔ IsLong
  pub memory : IsErrOf result NoMemory → IsFit
  pub free : IsFree → IsOk result

-- the value, exactly where it fits
pub record IsGivenIf {A : Type 0} (IsFit : Type 0) (given : A) (result : Option A) : Type 0 where
  pub some : IsSome result ↔ IsFit
  pub value : IfSome result (λ made. made ≡ given)

-- the value itself, which lies within its limits
pub record Shows {A : Type 0} (IsFit : A → Type 0) (own shown : A) : Type 0 where
  pub value : shown ≡ own
  pub limits : IsFit own
