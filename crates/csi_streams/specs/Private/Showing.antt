-- What has shown frames.
use Rattle.std.specs.Prelude.{ℕ, List, ◌∷◌}
use Rattle.std.specs.List.{flat_map}
use Rattle.csi_types.specs.Model.Frame.{Frame}
use Rattle.csi_streams.specs.declared.showing.Lines.{Lines}

-- lines are made of any frames
abbrev pub HasShown : Lines → List Frame → Type 0
HasShown lines frames = Unit {0}

-- words, with a blank before each
abbrev pub after_blanks : List (List ℕ) → List ℕ
after_blanks words = flat_map (λ word. 32 ∷ word) words
