-- Capabilities that stand in bytes, one after another, as frames and records have them. This profile's own.
use Rattle.std.specs.Prelude.{ℕ, zero, suc, ◌&&◌, if◌then◌else◌, nat_le, List, [], ◌∷◌, length, take, drop, Option, Some, None, option_map}
use Rattle.std.specs.Option.{option_and_then}
use Rattle.std.specs.Str.{is_utf8}
use Rattle.csi_types.specs.declared.mode.Mode.{Mode}
use Rattle.csi_types.specs.declared.capability.Access.{Access}
use Rattle.csi_types.specs.declared.capability.Access.TheVariants.{Block, Mount}
use Rattle.csi_types.specs.declared.capability.Capability.{Capability}
use Rattle.csi_types.specs.Public.Mode.{mode_from_number}

-- a type of a file system behind its length in one byte, and what follows it; none where there is none
abbrev pub split_text : List ℕ → Option (List ℕ × List ℕ)
split_text [] = None
split_text (n ∷ bytes) =
    if nat_le n 128 && (nat_le n (length bytes) && is_utf8 (take n bytes)) then Some (take n bytes, drop n bytes) else None

-- a byte for the access, and the file system where it is mounted
abbrev pub split_access : List ℕ → Option (Access × List ℕ)
split_access [] = None
split_access (zero ∷ bytes) = Some (Block, bytes)
split_access (suc n ∷ bytes) = option_map (λ text. (Mount text.0, text.1)) (split_text bytes)

-- a mode's number
abbrev pub split_mode : List ℕ → Option (Mode × List ℕ)
split_mode [] = None
split_mode (n ∷ bytes) = option_map (λ mode. (mode, bytes)) (mode_from_number n)

-- an access and a mode
abbrev pub split_capability : List ℕ → Option (Capability × List ℕ)
split_capability bytes =
    option_and_then (λ access. option_map (λ mode. (record { access = access.0; mode = mode.0 }, mode.1)) (split_mode access.1)) (split_access bytes)

-- so many capabilities
abbrev pub split_capabilities : ℕ → List ℕ → Option (List Capability)
split_capabilities zero bytes = Some []
split_capabilities (suc n) bytes =
    option_and_then (λ first. option_map (λ others. first.0 ∷ others) (split_capabilities n first.1)) (split_capability bytes)

-- a list that is there
abbrev pub list_in : Option (List Capability) → List Capability
list_in (Some list) = list
list_in None = []
