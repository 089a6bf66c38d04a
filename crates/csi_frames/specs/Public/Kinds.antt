-- The bytes of the kinds of bodies. This profile's own.
use Rattle.std.specs.Prelude.{ℕ, zero, suc, ◌-◌, nat_lt, if◌then◌else◌, Option, Some, None, option_map}
use Rattle.csi_types.specs.declared.call.Kind.{Kind}
use Rattle.csi_types.specs.declared.call.Kind.TheVariants as kinds
use Rattle.csi_frames.specs.declared.body_kind.BodyKind.{BodyKind}
use Rattle.csi_frames.specs.declared.body_kind.BodyKind.TheVariants.{Call, Reply}

-- the kinds from 1 on
abbrev pub kind_from_number : ℕ → Option Kind
kind_from_number zero = None
kind_from_number (suc zero) = Some kinds.CreateVolume
kind_from_number (suc (suc zero)) = Some kinds.DeleteVolume
kind_from_number (suc (suc (suc zero))) = Some kinds.ControllerPublishVolume
kind_from_number (suc (suc (suc (suc zero)))) = Some kinds.ControllerUnpublishVolume
kind_from_number (suc (suc (suc (suc (suc zero))))) = Some kinds.NodeStageVolume
kind_from_number (suc (suc (suc (suc (suc (suc zero)))))) = Some kinds.NodeUnstageVolume
kind_from_number (suc (suc (suc (suc (suc (suc (suc zero))))))) = Some kinds.NodePublishVolume
kind_from_number (suc (suc (suc (suc (suc (suc (suc (suc zero)))))))) = Some kinds.NodeUnpublishVolume
kind_from_number (suc (suc (suc (suc (suc (suc (suc (suc (suc n))))))))) = None

-- a reply has its call's number and 128
abbrev pub body_kind_from_number : ℕ → Option BodyKind
body_kind_from_number n = if nat_lt n 128 then option_map Call (kind_from_number n) else option_map Reply (kind_from_number (n - 128))

-- the kind of the call that a reply of this kind byte answers
abbrev pub reply_kind_from : ℕ → Option Kind
reply_kind_from n = if nat_lt n 128 then None else kind_from_number (n - 128)
