-- The bytes that stand for a value, and back.
use Rattle.std.proofs.Common.{◌≡◌, ℕ, zero, suc, ◌+◌, ◌-◌, ◌≤◌, Bool, true, false, cond, ltb, Option, Some, None, refl, ap, arith}
use Rattle.std.specs.Prelude.{◌==◌, if◌then◌else◌, is_some, option_map, unwrap_or}
use Rattle.std.proofs.lemmas.Bool.{ltb-false, leb-true}
use Rattle.csi_types.specs.declared.mode.Mode.{Mode}
use Rattle.csi_types.specs.declared.mode.Mode.TheVariants.{SingleNodeWriter, SingleNodeReaderOnly, MultiNodeReaderOnly, MultiNodeSingleWriter, MultiNodeMultiWriter, SingleNodeSingleWriter, SingleNodeMultiWriter}
use Rattle.csi_types.specs.declared.status.Status.{Status}
use Rattle.csi_types.specs.declared.status.Status.TheVariants as statuses
use Rattle.csi_types.specs.declared.call.Kind.{Kind}
use Rattle.csi_types.specs.declared.call.Kind.TheVariants as kinds
use Rattle.csi_types.specs.Model.Mode.{mode_number}
use Rattle.csi_types.specs.Public.Mode.{mode_from_number}
use Rattle.csi_types.specs.Public.Status.{status_code}
use Rattle.csi_frames.specs.declared.body_kind.BodyKind.{BodyKind}
use Rattle.csi_frames.specs.declared.body_kind.BodyKind.TheVariants.{Call, Reply}
use Rattle.csi_frames.specs.declared.version.Version.{Version}
use Rattle.csi_frames.specs.declared.version.Version.TheVariants.{One, Two}
use Rattle.csi_frames.specs.Public.Codes.{is_version, version_of, is_mode, mode_of, is_status, status_of, is_body_kind, body_kind_of}
use Rattle.csi_frames.specs.Public.Kinds.{kind_from_number, body_kind_from_number}
use Rattle.csi_frames.specs.Public.Version.{version_number, has_mode, takes_mode, has_kind, only}
use Rattle.csi_frames.specs.Public.Grammar.{at_most}
use Rattle.csi_types.specs.Model.Same.{kind_number}
use Rattle.csi_frames.proofs.Says.{IsCode, Always}

-- ---- what passes a test

-- where a value is left by a test, it was there and passes the test; and the other way round
kept-passes : {A : Type 0} (t : Bool) (x : A) → is_some (cond t (Some x) None) ≡ true → t ≡ true
kept-passes true x e = refl
kept-passes false x e = absurd cc

-- a value that a test left was there, and passes the test
only-passes : {A : Type 0} (test : A → Bool) (o : Option A) (other : A) → is_some (only test o) ≡ true → (is_some o ≡ true) × (test (unwrap_or o other) ≡ true)
only-passes test None other e = absurd cc
only-passes test (Some x) other e = (refl, kept-passes (test x) x e)

-- a value that is there and passes a test is left by it
passes-only : {A : Type 0} (test : A → Bool) (o : Option A) (x : A) → o ≡ Some x → test x ≡ true → is_some (only test o) ≡ true
passes-only test o x there passes = rw (there, passes) refl

-- ---- versions

-- an allowed byte is the number of its version
version-back : (b : ℕ) → is_version b ≡ true → version_number (version_of b) ≡ b
version-back zero e = absurd cc
version-back (suc zero) e = refl
version-back (suc (suc zero)) e = refl
version-back (suc (suc (suc n))) e = absurd cc

-- a version's number is allowed
version-allowed : (version : Version) → Always version → is_version (version_number version) ≡ true
version-allowed One fits = refl
version-allowed Two fits = refl

-- a version's number stands for the version
version-again : (version : Version) → version_of (version_number version) ≡ version
version-again One = refl
version-again Two = refl

-- each allowed byte stands for one version, and each version has one; below the same of modes, statuses, the kinds of bodies, and flags
pub version_code : IsCode Always is_version version_of version_number
version_code = record { back = version-back; fits = λ b e. tt; is_allowed = version-allowed; again = version-again }

-- ---- modes

-- the version has the mode
abbrev pub HasMode : Version → Mode → Type 0
HasMode version mode = has_mode version mode ≡ true

-- and it is a new one where one is owed
abbrev pub TakesMode : Version → Bool → Mode → Type 0
TakesMode version owed mode = takes_mode version owed mode ≡ true

-- a byte at which a mode is found is the mode's number; each mode is found at its number, and that number stands for the mode
mode-back : (b : ℕ) → is_some (mode_from_number b) ≡ true → mode_number (mode_of b) ≡ b
mode-back zero e = absurd cc
mode-back (suc zero) e = refl
mode-back (suc (suc zero)) e = refl
mode-back (suc (suc (suc zero))) e = refl
mode-back (suc (suc (suc (suc zero)))) e = refl
mode-back (suc (suc (suc (suc (suc zero))))) e = refl
mode-back (suc (suc (suc (suc (suc (suc zero)))))) e = refl
mode-back (suc (suc (suc (suc (suc (suc (suc zero))))))) e = refl
mode-back (suc (suc (suc (suc (suc (suc (suc (suc n)))))))) e = absurd cc

-- a mode is found at its number
pub mode-found : (mode : Mode) → mode_from_number (mode_number mode) ≡ Some mode
mode-found SingleNodeWriter = refl
mode-found SingleNodeReaderOnly = refl
mode-found MultiNodeReaderOnly = refl
mode-found MultiNodeSingleWriter = refl
mode-found MultiNodeMultiWriter = refl
mode-found SingleNodeSingleWriter = refl
mode-found SingleNodeMultiWriter = refl

-- a mode's number stands for the mode
mode-again : (mode : Mode) → mode_of (mode_number mode) ≡ mode
mode-again mode = ap (λ (o : Option Mode). unwrap_or o SingleNodeWriter) (mode-found mode)

-- the modes that a version takes have such bytes
pub mode_code : (version : Version) (owed : Bool) → IsCode (TakesMode version owed) (is_mode version owed) mode_of mode_number
mode_code version owed = record {
  back = λ b e. mode-back b (only-passes (takes_mode version owed) (mode_from_number b) SingleNodeWriter e).0;
  fits = λ b e. (only-passes (takes_mode version owed) (mode_from_number b) SingleNodeWriter e).1;
  is_allowed = λ mode fits. passes-only (takes_mode version owed) (mode_from_number (mode_number mode)) mode (mode-found mode) fits;
  again = mode-again;
}

-- ---- statuses

-- an allowed byte is the code of its status; each status's code is allowed; and that code stands for the status
status-back : (b : ℕ) → is_status b ≡ true → status_code (status_of b) ≡ b
status-back zero e = refl
status-back (suc zero) e = refl
status-back (suc (suc zero)) e = refl
status-back (suc (suc (suc zero))) e = refl
status-back (suc (suc (suc (suc zero)))) e = refl
status-back (suc (suc (suc (suc (suc zero))))) e = refl
status-back (suc (suc (suc (suc (suc (suc zero)))))) e = refl
status-back (suc (suc (suc (suc (suc (suc (suc zero))))))) e = refl
status-back (suc (suc (suc (suc (suc (suc (suc (suc zero)))))))) e = refl
status-back (suc (suc (suc (suc (suc (suc (suc (suc (suc zero))))))))) e = refl
status-back (suc (suc (suc (suc (suc (suc (suc (suc (suc (suc zero)))))))))) e = refl
status-back (suc (suc (suc (suc (suc (suc (suc (suc (suc (suc (suc zero))))))))))) e = refl
status-back (suc (suc (suc (suc (suc (suc (suc (suc (suc (suc (suc (suc zero)))))))))))) e = refl
status-back (suc (suc (suc (suc (suc (suc (suc (suc (suc (suc (suc (suc (suc zero))))))))))))) e = refl
status-back (suc (suc (suc (suc (suc (suc (suc (suc (suc (suc (suc (suc (suc (suc zero)))))))))))))) e = refl
status-back (suc (suc (suc (suc (suc (suc (suc (suc (suc (suc (suc (suc (suc (suc (suc zero))))))))))))))) e = refl
status-back (suc (suc (suc (suc (suc (suc (suc (suc (suc (suc (suc (suc (suc (suc (suc (suc zero)))))))))))))))) e = refl
status-back (suc (suc (suc (suc (suc (suc (suc (suc (suc (suc (suc (suc (suc (suc (suc (suc (suc n))))))))))))))))) e = absurd cc

-- a status's code is allowed
status-allowed : (status : Status) → Always status → is_status (status_code status) ≡ true
status-allowed statuses.Ok fits = refl
status-allowed statuses.Cancelled fits = refl
status-allowed statuses.Unknown fits = refl
status-allowed statuses.InvalidArgument fits = refl
status-allowed statuses.DeadlineExceeded fits = refl
status-allowed statuses.NotFound fits = refl
status-allowed statuses.AlreadyExists fits = refl
status-allowed statuses.PermissionDenied fits = refl
status-allowed statuses.ResourceExhausted fits = refl
status-allowed statuses.FailedPrecondition fits = refl
status-allowed statuses.Aborted fits = refl
status-allowed statuses.OutOfRange fits = refl
status-allowed statuses.Unimplemented fits = refl
status-allowed statuses.Internal fits = refl
status-allowed statuses.Unavailable fits = refl
status-allowed statuses.DataLoss fits = refl
status-allowed statuses.Unauthenticated fits = refl

-- a status's code stands for the status
status-again : (status : Status) → status_of (status_code status) ≡ status
status-again statuses.Ok = refl
status-again statuses.Cancelled = refl
status-again statuses.Unknown = refl
status-again statuses.InvalidArgument = refl
status-again statuses.DeadlineExceeded = refl
status-again statuses.NotFound = refl
status-again statuses.AlreadyExists = refl
status-again statuses.PermissionDenied = refl
status-again statuses.ResourceExhausted = refl
status-again statuses.FailedPrecondition = refl
status-again statuses.Aborted = refl
status-again statuses.OutOfRange = refl
status-again statuses.Unimplemented = refl
status-again statuses.Internal = refl
status-again statuses.Unavailable = refl
status-again statuses.DataLoss = refl
status-again statuses.Unauthenticated = refl

-- statuses have such bytes
pub status_codes : IsCode Always is_status status_of status_code
status_codes = record { back = status-back; fits = λ b e. tt; is_allowed = status-allowed; again = status-again }

-- ---- kinds

-- two kinds that are both there are equal where what is there is
some_is : (a b : Kind) → Some b ≡ Some a → a ≡ b
some_is a b e = cc

-- a number at which a kind is found is that kind's
pub kind-back : (n : ℕ) (kind : Kind) → kind_from_number n ≡ Some kind → kind_number kind ≡ n
kind-back zero kind e = absurd cc
kind-back (suc zero) kind e = ap kind_number (some_is kind kinds.CreateVolume e)
kind-back (suc (suc zero)) kind e = ap kind_number (some_is kind kinds.DeleteVolume e)
kind-back (suc (suc (suc zero))) kind e = ap kind_number (some_is kind kinds.ControllerPublishVolume e)
kind-back (suc (suc (suc (suc zero)))) kind e = ap kind_number (some_is kind kinds.ControllerUnpublishVolume e)
kind-back (suc (suc (suc (suc (suc zero))))) kind e = ap kind_number (some_is kind kinds.NodeStageVolume e)
kind-back (suc (suc (suc (suc (suc (suc zero)))))) kind e = ap kind_number (some_is kind kinds.NodeUnstageVolume e)
kind-back (suc (suc (suc (suc (suc (suc (suc zero))))))) kind e = ap kind_number (some_is kind kinds.NodePublishVolume e)
kind-back (suc (suc (suc (suc (suc (suc (suc (suc zero)))))))) kind e = ap kind_number (some_is kind kinds.NodeUnpublishVolume e)
kind-back (suc (suc (suc (suc (suc (suc (suc (suc (suc n))))))))) kind e = absurd cc

-- a call has its kind's number, and a reply that number and 128
abbrev pub body_kind_number : BodyKind → ℕ
body_kind_number (Call kind) = kind_number kind
body_kind_number (Reply kind) = 128 + kind_number kind

-- a number at which a kind is found is that of its calls
call-back : (n : ℕ) (found : Option Kind) → kind_from_number n ≡ found → is_some (option_map Call found) ≡ true → body_kind_number (unwrap_or (option_map Call found) (Call kinds.CreateVolume)) ≡ n
call-back n None e yes_it = absurd cc
call-back n (Some kind) e yes_it = kind-back n kind e

-- a number from 128 on, at which a kind is found once 128 is taken off, is that of its replies
reply-back : (n : ℕ) (found : Option Kind) → 128 ≤ n → kind_from_number (n - 128) ≡ found → is_some (option_map Reply found) ≡ true → body_kind_number (unwrap_or (option_map Reply found) (Call kinds.CreateVolume)) ≡ n
reply-back n None le e yes_it = absurd cc
reply-back n (Some kind) le e yes_it = omega (arith, kind-back (n - 128) kind e)

-- the same two, by whether the number is below 128
either-back : (n : ℕ) (b : Bool) → ltb n 128 ≡ b → is_some (cond b (option_map Call (kind_from_number n)) (option_map Reply (kind_from_number (n - 128)))) ≡ true
    → body_kind_number (unwrap_or (cond b (option_map Call (kind_from_number n)) (option_map Reply (kind_from_number (n - 128)))) (Call kinds.CreateVolume)) ≡ n
either-back n true low yes_it = call-back n (kind_from_number n) refl yes_it
either-back n false high yes_it = reply-back n (kind_from_number (n - 128)) (ltb-false _ _ high) refl yes_it

-- a byte at which a kind of body is found is its number; each is found at its number, which stands for it
body_kind-back : (n : ℕ) → is_some (body_kind_from_number n) ≡ true → body_kind_number (body_kind_of n) ≡ n
body_kind-back n yes_it = either-back n (ltb n 128) refl yes_it

-- a kind of body is found at its number
body_kind-found : (kind : BodyKind) → body_kind_from_number (body_kind_number kind) ≡ Some kind
body_kind-found (Call kinds.CreateVolume) = refl
body_kind-found (Call kinds.DeleteVolume) = refl
body_kind-found (Call kinds.ControllerPublishVolume) = refl
body_kind-found (Call kinds.ControllerUnpublishVolume) = refl
body_kind-found (Call kinds.NodeStageVolume) = refl
body_kind-found (Call kinds.NodeUnstageVolume) = refl
body_kind-found (Call kinds.NodePublishVolume) = refl
body_kind-found (Call kinds.NodeUnpublishVolume) = refl
body_kind-found (Reply kinds.CreateVolume) = refl
body_kind-found (Reply kinds.DeleteVolume) = refl
body_kind-found (Reply kinds.ControllerPublishVolume) = refl
body_kind-found (Reply kinds.ControllerUnpublishVolume) = refl
body_kind-found (Reply kinds.NodeStageVolume) = refl
body_kind-found (Reply kinds.NodeUnstageVolume) = refl
body_kind-found (Reply kinds.NodePublishVolume) = refl
body_kind-found (Reply kinds.NodeUnpublishVolume) = refl

-- a kind of body's number stands for it
body_kind-again : (kind : BodyKind) → body_kind_of (body_kind_number kind) ≡ kind
body_kind-again kind = ap (λ (o : Option BodyKind). unwrap_or o (Call kinds.CreateVolume)) (body_kind-found kind)

-- the version has bodies of this kind
abbrev pub HasKind : Version → BodyKind → Type 0
HasKind version kind = has_kind version kind ≡ true

-- the kinds of bodies that a version has have such bytes
pub body_kind_code : (version : Version) → IsCode (HasKind version) (is_body_kind version) body_kind_of body_kind_number
body_kind_code version = record {
  back = λ b e. body_kind-back b (only-passes (has_kind version) (body_kind_from_number b) (Call kinds.CreateVolume) e).0;
  fits = λ b e. (only-passes (has_kind version) (body_kind_from_number b) (Call kinds.CreateVolume) e).1;
  is_allowed = λ kind fits. passes-only (has_kind version) (body_kind_from_number (body_kind_number kind)) kind (body_kind-found kind) fits;
  again = body_kind-again;
}

-- ---- flags

-- an allowed byte is the number of its flag; each flag's number is allowed; and that number stands for the flag
flag-back : (b : ℕ) → at_most 1 b ≡ true → (if (b == 1) then 1 else 0) ≡ b
flag-back zero e = refl
flag-back (suc zero) e = refl
flag-back (suc (suc n)) e = absurd (omega (arith, leb-true (suc (suc n)) 1 e))

-- 1 where the flag is set
abbrev pub flag_number : Bool → ℕ
flag_number b = if b then 1 else 0

-- a flag's number is allowed
flag-allowed : (b : Bool) → Always b → at_most 1 (flag_number b) ≡ true
flag-allowed true fits = refl
flag-allowed false fits = refl

-- a flag's number stands for the flag
flag-again : (b : Bool) → (flag_number b == 1) ≡ b
flag-again true = refl
flag-again false = refl

-- flags have such bytes
pub flag_code : IsCode Always (at_most 1) (λ b. b == 1) flag_number
flag_code = record { back = flag-back; fits = λ b e. tt; is_allowed = flag-allowed; again = flag-again }
