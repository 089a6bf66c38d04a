-- The readers of calls agree with the grammar, and what they read is spelled so.
use Rattle.std.proofs.Common.{◌≡◌, ℕ, ◌≤◌, Bool, true, false, List, [], ◌∷◌, ◌++◌, length, refl, sym, ap, subst, ◌∙◌, append_assoc, arith}
use Rattle.std.specs.Prelude.{nat_le, ◌&&◌}
use Rattle.std.specs.List.{flat_map}
use Rattle.std.proofs.lemmas.Bool.{leb-true, le-leb}
use Rattle.csi_types.specs.declared.capability.Capability.{Capability}
use Rattle.csi_types.specs.declared.call.Kind.{Kind}
use Rattle.csi_types.specs.declared.call.Kind.TheVariants as kinds
use Rattle.csi_types.specs.declared.call.Call.{Call}
use Rattle.csi_types.specs.declared.call.Call.TheVariants as calls
use Rattle.csi_types.specs.Public.Text.{IsText, IsName}
use Rattle.csi_types.specs.Public.VolumeId.{IsVolumeId}
use Rattle.csi_types.specs.Model.Call.{kind_of}
use Rattle.csi_types.specs.Public.Limits.{IsWord, IsCall}
use Rattle.csi_frames.specs.declared.fault.FaultKind.TheVariants.{BadCount}
use Rattle.csi_frames.specs.Public.Spelling as spelling
use Rattle.csi_frames.specs.declared.version.Version.{Version}
use Rattle.csi_frames.specs.Public.Version.{least_count, owes_new_mode}
use Rattle.csi_frames.specs.Public.Grammar.{End, Byte, Word, Text, any, is_count, capability_grammar, capabilities_grammar, flag_grammar, call_grammar}
use Rattle.csi_frames.specs.Public.Reading.{create_at, id_alone_at, id_and_text_at, stage_at, publish_at, call_at}
use Rattle.csi_frames.proofs.Readers.{Agrees, Then, then, in_words}
use Rattle.csi_frames.proofs.FieldReaders.{IsByte, byte_agrees}
use Rattle.csi_frames.proofs.Says.{After, Made, after, makes, Always}
use Rattle.csi_frames.proofs.Codes.{TakesMode}
use Rattle.csi_frames.proofs.CapabilityReaders.{any_word_agrees, id_agrees, any_text_agrees, flag_agrees, IsCapabilityIn, owed_capability_agrees, AreInModes, AreCapabilities, capabilities_agree}

-- ---- two tests

-- where two tests hold together, each of them holds; and the other way round
both : (a b : Bool) → (a && b) ≡ true → (a ≡ true) × (b ≡ true)
both true true e = (refl, refl)
both true false e = absurd cc
both false b e = absurd cc

-- two tests that hold hold together
both_true : {a b : Bool} → a ≡ true → b ≡ true → (a && b) ≡ true
both_true first second = rw (first, second) refl

-- ---- parts put together

-- a list that is cut after one part, and again after the next, is these parts one after another; down to four of them
pub join2 : (x a b r : List ℕ) → x ≡ a ++ r → r ≡ b → x ≡ a ++ b
join2 x a b r e f = e ∙ ap (λ (t : List ℕ). a ++ t) f

-- the same of three parts
pub join3 : (x a b c r q : List ℕ) → x ≡ a ++ r → r ≡ b ++ q → q ≡ c → x ≡ a ++ b ++ c
join3 x a b c r q e f g = e ∙ ap (λ (t : List ℕ). a ++ t) (join2 r b c q f g) ∙ sym (append_assoc a b c)

-- the same of four parts
pub join4 : (x a b c d r q p : List ℕ) → x ≡ a ++ r → r ≡ b ++ q → q ≡ c ++ p → p ≡ d → x ≡ a ++ b ++ c ++ d
join4 x a b c d r q p e f g h =
    join3 x a b (c ++ d) r q e f (join2 q c d p g h) ∙ sym (append_assoc (a ++ b) c d)

-- the parts of a list, joined from the left, are the same joined from the right
pub cut3 : (x a b c : List ℕ) → x ≡ a ++ b ++ c → x ≡ a ++ (b ++ c)
cut3 x a b c e = e ∙ append_assoc a b c

-- the same of four parts
pub cut4 : (x a b c d : List ℕ) → x ≡ a ++ b ++ c ++ d → x ≡ a ++ (b ++ (c ++ d))
cut4 x a b c d e = e ∙ append_assoc (a ++ b) c d ∙ append_assoc a b (c ++ d)

-- ---- calls

-- its capabilities are in modes that the version has, one of them in a new mode where the version owes it, and no fewer than it asks for
abbrev pub IsCallOf : Version → Call → Type 0
IsCallOf version (calls.CreateVolume name required limit capabilities) = (least_count version ≤ length capabilities) × AreInModes version (owes_new_mode version) capabilities
IsCallOf version (calls.DeleteVolume id) = Unit {0}
IsCallOf version (calls.ControllerPublishVolume id node c readonly) = TakesMode version (owes_new_mode version) c.mode
IsCallOf version (calls.ControllerUnpublishVolume id node) = Unit {0}
IsCallOf version (calls.NodeStageVolume id c) = TakesMode version (owes_new_mode version) c.mode
IsCallOf version (calls.NodeUnstageVolume id) = Unit {0}
IsCallOf version (calls.NodePublishVolume id target c readonly) = TakesMode version (owes_new_mode version) c.mode
IsCallOf version (calls.NodeUnpublishVolume id target) = Unit {0}

-- a call of this kind and of this version, within its limits, and its fields
pub record SaysCall (version : Version) (kind : Kind) (value : Call) (bytes : List ℕ) : Type 0 where
  pub of_kind : kind_of value ≡ kind
  pub fits : IsCall value
  pub of_version : IsCallOf version value
  pub are : bytes ≡ spelling.call_fields value

-- CreateVolume

-- the bytes were read as a count and so many capabilities
abbrev WasCounted : Version → List ℕ → ℕ → ℕ → Call → List ℕ → Type 0
WasCounted version name required limit = Then (IsByte (is_count version)) (λ count. Made (AreCapabilities version (owes_new_mode version) count) (flat_map spelling.capability) (λ capabilities. calls.CreateVolume name required limit capabilities))

-- the bytes were read as the fields of a CreateVolume
abbrev SaysCreate : Version → Call → List ℕ → Type 0
SaysCreate version = After IsName spelling.text (λ name. After IsWord spelling.word (λ required. After IsWord spelling.word (λ limit. WasCounted version name required limit)))

-- a count and the capabilities that it counts are spelled as their length and then each of them
counted : (bytes front back : List ℕ) (count : ℕ) (capabilities : List Capability) → bytes ≡ front ++ back → front ≡ count ∷ [] → back ≡ flat_map spelling.capability capabilities → length capabilities ≡ count
    → bytes ≡ length capabilities ∷ flat_map spelling.capability capabilities
counted bytes front back count capabilities e f g h =
    e ∙ ap (λ (t : List ℕ). t ++ back) f ∙ ap (λ (t : List ℕ). count ∷ t) g ∙ ap (λ (n : ℕ). n ∷ flat_map spelling.capability capabilities) (sym h)

-- the fields that were read are those of a CreateVolume within its limits
create-there : (version : Version) (value : Call) (bytes : List ℕ) → SaysCreate version value bytes → SaysCall version kinds.CreateVolume value bytes
create-there version value bytes s =
    let name = s.before in let s1 = s.second in let required = s1.before in let s2 = s1.second in let limit = s2.before in let s3 = s2.second in
    let made = s3.second in let capabilities = made.before in
    let within = both (nat_le (least_count version) s3.before) (nat_le s3.before 8) s3.first.is_allowed in
    let enough : least_count version ≤ length capabilities = omega (arith, made.fits.counted, leb-true (least_count version) s3.before within.0) in
    let few : length capabilities ≤ 8 = omega (arith, made.fits.counted, leb-true s3.before 8 within.1) in
    let last : s2.back ≡ length capabilities ∷ flat_map spelling.capability capabilities = counted s2.back s3.front s3.back s3.before capabilities s3.parts s3.first.one made.are made.fits.counted in
    subst (λ (v : Call). SaysCall version kinds.CreateVolume v bytes) (sym made.same)
    (record {
      of_kind = refl;
      fits = (s.fits, s1.fits, s2.fits, (few, made.fits.each));
      of_version = (enough, made.fits.in_modes);
      are = join4 bytes (spelling.text name) (spelling.word required) (spelling.word limit) (length capabilities ∷ flat_map spelling.capability capabilities) s.back s1.back s2.back s.parts s1.parts s2.parts last;
    })

-- the spelling of a CreateVolume's fields is a name, two numbers, a count and the capabilities
create-back : (version : Version) (value : Call) (bytes : List ℕ) → SaysCall version kinds.CreateVolume value bytes → SaysCreate version value bytes
create-back version (calls.CreateVolume name required limit capabilities) bytes s =
    let last : List ℕ = length capabilities ∷ flat_map spelling.capability capabilities in
    record {
      before = name;
      fits = s.fits.0;
      back = spelling.word required ++ (spelling.word limit ++ last);
      parts = cut4 bytes (spelling.text name) (spelling.word required) (spelling.word limit) last s.are;
      second = record {
        before = required;
        fits = s.fits.1;
        back = spelling.word limit ++ last;
        parts = refl;
        second = record {
          before = limit;
          fits = s.fits.2;
          back = last;
          parts = refl;
          second = record {
            before = length capabilities;
            front = length capabilities ∷ [];
            back = flat_map spelling.capability capabilities;
            parts = refl;
            first = record { is_allowed = both_true (le-leb _ _ s.of_version.0) (le-leb _ _ s.fits.3.0); one = refl };
            second = record { before = capabilities; fits = record { counted = refl; each = s.fits.3.1; in_modes = s.of_version.1 }; same = refl; are = refl };
          };
        };
      };
    }
create-back version _ bytes s = absurd (cc s.of_kind)

-- the reader of a CreateVolume agrees with the grammar
create_agrees : (version : Version) → Agrees (create_at version) (SaysCall version kinds.CreateVolume) (call_grammar version kinds.CreateVolume) (λ _. End)
unfolding create_at call_grammar
create_agrees version =
    in_words (SaysCall version kinds.CreateVolume) (create-there version) (create-back version)
    (after (any_text_agrees 1 128 (λ _. Word any (λ _. Word any (λ _. Byte (is_count version) BadCount (capabilities_grammar version (owes_new_mode version))))))
    (λ name. after (any_word_agrees (λ _. Word any (λ _. Byte (is_count version) BadCount (capabilities_grammar version (owes_new_mode version)))))
    (λ required. after (any_word_agrees (λ _. Byte (is_count version) BadCount (capabilities_grammar version (owes_new_mode version))))
    (λ limit. then (byte_agrees (is_count version) BadCount (capabilities_grammar version (owes_new_mode version)))
    (λ count. makes (λ capabilities. calls.CreateVolume name required limit capabilities) (λ _. End) (capabilities_agree version (owes_new_mode version) count))))))

-- calls with an id alone

-- what was read is such a call within its limits and is spelled so, and back: of each call below
delete-there : (version : Version) (value : Call) (bytes : List ℕ) → Made IsVolumeId spelling.word (λ id. calls.DeleteVolume id) value bytes → SaysCall version kinds.DeleteVolume value bytes
delete-there version value bytes s = subst (λ (v : Call). SaysCall version kinds.DeleteVolume v bytes) (sym s.same) (record { of_kind = refl; fits = s.fits; of_version = tt; are = s.are })

-- and back
delete-back : (version : Version) (value : Call) (bytes : List ℕ) → SaysCall version kinds.DeleteVolume value bytes → Made IsVolumeId spelling.word (λ id. calls.DeleteVolume id) value bytes
delete-back version (calls.DeleteVolume id) bytes s = record { before = id; fits = s.fits; same = refl; are = s.are }
delete-back version _ bytes s = absurd (cc s.of_kind)

-- what was read as a NodeUnstageVolume is such a call, and is spelled so
unstage-there : (version : Version) (value : Call) (bytes : List ℕ) → Made IsVolumeId spelling.word (λ id. calls.NodeUnstageVolume id) value bytes → SaysCall version kinds.NodeUnstageVolume value bytes
unstage-there version value bytes s = subst (λ (v : Call). SaysCall version kinds.NodeUnstageVolume v bytes) (sym s.same) (record { of_kind = refl; fits = s.fits; of_version = tt; are = s.are })

-- and back
unstage-back : (version : Version) (value : Call) (bytes : List ℕ) → SaysCall version kinds.NodeUnstageVolume value bytes → Made IsVolumeId spelling.word (λ id. calls.NodeUnstageVolume id) value bytes
unstage-back version (calls.NodeUnstageVolume id) bytes s = record { before = id; fits = s.fits; same = refl; are = s.are }
unstage-back version _ bytes s = absurd (cc s.of_kind)

-- calls with an id and a text

-- the bytes were read as an id and a text
abbrev SaysIdText : (ℕ → List ℕ → Call) → Call → List ℕ → Type 0
SaysIdText make = After IsVolumeId spelling.word (λ id. Made (IsText 1 255) spelling.text (make id))

-- what was read as a ControllerUnpublishVolume is such a call, and is spelled so
unpublish-there : (version : Version) (value : Call) (bytes : List ℕ) → SaysIdText (λ id node. calls.ControllerUnpublishVolume id node) value bytes → SaysCall version kinds.ControllerUnpublishVolume value bytes
unpublish-there version value bytes s =
    subst (λ (v : Call). SaysCall version kinds.ControllerUnpublishVolume v bytes) (sym s.second.same)
    (record { of_kind = refl; fits = (s.fits, s.second.fits); of_version = tt; are = join2 bytes (spelling.word s.before) (spelling.text s.second.before) s.back s.parts s.second.are })

-- and back
unpublish-back : (version : Version) (value : Call) (bytes : List ℕ) → SaysCall version kinds.ControllerUnpublishVolume value bytes → SaysIdText (λ id node. calls.ControllerUnpublishVolume id node) value bytes
unpublish-back version (calls.ControllerUnpublishVolume id node) bytes s =
    record { before = id; fits = s.fits.0; back = spelling.text node; parts = s.are; second = record { before = node; fits = s.fits.1; same = refl; are = refl } }
unpublish-back version _ bytes s = absurd (cc s.of_kind)

-- what was read as a NodeUnpublishVolume is such a call, and is spelled so
node_unpublish-there : (version : Version) (value : Call) (bytes : List ℕ) → SaysIdText (λ id target. calls.NodeUnpublishVolume id target) value bytes → SaysCall version kinds.NodeUnpublishVolume value bytes
node_unpublish-there version value bytes s =
    subst (λ (v : Call). SaysCall version kinds.NodeUnpublishVolume v bytes) (sym s.second.same)
    (record { of_kind = refl; fits = (s.fits, s.second.fits); of_version = tt; are = join2 bytes (spelling.word s.before) (spelling.text s.second.before) s.back s.parts s.second.are })

-- and back
node_unpublish-back : (version : Version) (value : Call) (bytes : List ℕ) → SaysCall version kinds.NodeUnpublishVolume value bytes → SaysIdText (λ id target. calls.NodeUnpublishVolume id target) value bytes
node_unpublish-back version (calls.NodeUnpublishVolume id target) bytes s =
    record { before = id; fits = s.fits.0; back = spelling.text target; parts = s.are; second = record { before = target; fits = s.fits.1; same = refl; are = refl } }
node_unpublish-back version _ bytes s = absurd (cc s.of_kind)

-- NodeStageVolume

-- the bytes were read as an id and a capability
abbrev SaysStage : Version → Call → List ℕ → Type 0
SaysStage version = After IsVolumeId spelling.word (λ id. Made (IsCapabilityIn version (owes_new_mode version)) spelling.capability (λ c. calls.NodeStageVolume id c))

-- what was read as a NodeStageVolume is such a call, and is spelled so
stage-there : (version : Version) (value : Call) (bytes : List ℕ) → SaysStage version value bytes → SaysCall version kinds.NodeStageVolume value bytes
stage-there version value bytes s =
    subst (λ (v : Call). SaysCall version kinds.NodeStageVolume v bytes) (sym s.second.same)
    (record { of_kind = refl; fits = (s.fits, s.second.fits.fits); of_version = s.second.fits.in_mode; are = join2 bytes (spelling.word s.before) (spelling.capability s.second.before) s.back s.parts s.second.are })

-- and back
stage-back : (version : Version) (value : Call) (bytes : List ℕ) → SaysCall version kinds.NodeStageVolume value bytes → SaysStage version value bytes
stage-back version (calls.NodeStageVolume id c) bytes s =
    record { before = id; fits = s.fits.0; back = spelling.capability c; parts = s.are; second = record { before = c; fits = record { fits = s.fits.1; in_mode = s.of_version }; same = refl; are = refl } }
stage-back version _ bytes s = absurd (cc s.of_kind)

-- calls with an id, a text, a capability and a flag

-- the bytes were read as an id, a text, a capability and a flag
abbrev SaysPublish : Version → (ℕ → List ℕ → Capability → Bool → Call) → Call → List ℕ → Type 0
SaysPublish version make = After IsVolumeId spelling.word (λ id. After (IsText 1 255) spelling.text (λ place. After (IsCapabilityIn version (owes_new_mode version)) spelling.capability (λ c. Made Always spelling.flag (make id place c))))

-- what was read as a ControllerPublishVolume is such a call, and is spelled so
publish-there : (version : Version) (value : Call) (bytes : List ℕ) → SaysPublish version (λ id node c readonly. calls.ControllerPublishVolume id node c readonly) value bytes → SaysCall version kinds.ControllerPublishVolume value bytes
publish-there version value bytes s =
    let s1 = s.second in let s2 = s1.second in let s3 = s2.second in
    subst (λ (v : Call). SaysCall version kinds.ControllerPublishVolume v bytes) (sym s3.same)
    (record { of_kind = refl; fits = (s.fits, s1.fits, s2.fits.fits); of_version = s2.fits.in_mode; are = join4 bytes (spelling.word s.before) (spelling.text s1.before) (spelling.capability s2.before) (spelling.flag s3.before) s.back s1.back s2.back s.parts s1.parts s2.parts s3.are })

-- and back
publish-back : (version : Version) (value : Call) (bytes : List ℕ) → SaysCall version kinds.ControllerPublishVolume value bytes → SaysPublish version (λ id node c readonly. calls.ControllerPublishVolume id node c readonly) value bytes
publish-back version (calls.ControllerPublishVolume id node c readonly) bytes s =
    record {
      before = id;
      fits = s.fits.0;
      back = spelling.text node ++ (spelling.capability c ++ spelling.flag readonly);
      parts = cut4 bytes (spelling.word id) (spelling.text node) (spelling.capability c) (spelling.flag readonly) s.are;
      second = record {
        before = node;
        fits = s.fits.1;
        back = spelling.capability c ++ spelling.flag readonly;
        parts = refl;
        second = record { before = c; fits = record { fits = s.fits.2; in_mode = s.of_version }; back = spelling.flag readonly; parts = refl; second = record { before = readonly; fits = tt; same = refl; are = refl } };
      };
    }
publish-back version _ bytes s = absurd (cc s.of_kind)

-- what was read as a NodePublishVolume is such a call, and is spelled so
node_publish-there : (version : Version) (value : Call) (bytes : List ℕ) → SaysPublish version (λ id target c readonly. calls.NodePublishVolume id target c readonly) value bytes → SaysCall version kinds.NodePublishVolume value bytes
node_publish-there version value bytes s =
    let s1 = s.second in let s2 = s1.second in let s3 = s2.second in
    subst (λ (v : Call). SaysCall version kinds.NodePublishVolume v bytes) (sym s3.same)
    (record { of_kind = refl; fits = (s.fits, s1.fits, s2.fits.fits); of_version = s2.fits.in_mode; are = join4 bytes (spelling.word s.before) (spelling.text s1.before) (spelling.capability s2.before) (spelling.flag s3.before) s.back s1.back s2.back s.parts s1.parts s2.parts s3.are })

-- and back
node_publish-back : (version : Version) (value : Call) (bytes : List ℕ) → SaysCall version kinds.NodePublishVolume value bytes → SaysPublish version (λ id target c readonly. calls.NodePublishVolume id target c readonly) value bytes
node_publish-back version (calls.NodePublishVolume id target c readonly) bytes s =
    record {
      before = id;
      fits = s.fits.0;
      back = spelling.text target ++ (spelling.capability c ++ spelling.flag readonly);
      parts = cut4 bytes (spelling.word id) (spelling.text target) (spelling.capability c) (spelling.flag readonly) s.are;
      second = record {
        before = target;
        fits = s.fits.1;
        back = spelling.capability c ++ spelling.flag readonly;
        parts = refl;
        second = record { before = c; fits = record { fits = s.fits.2; in_mode = s.of_version }; back = spelling.flag readonly; parts = refl; second = record { before = readonly; fits = tt; same = refl; are = refl } };
      };
    }
node_publish-back version _ bytes s = absurd (cc s.of_kind)

-- each kind

-- the reader of a call agrees with the grammar of its kind
pub call_agrees : (version : Version) (kind : Kind) → Agrees (call_at version kind) (SaysCall version kind) (call_grammar version kind) (λ _. End)
unfolding call_at id_alone_at id_and_text_at stage_at publish_at call_grammar
call_agrees version kinds.CreateVolume = create_agrees version
call_agrees version kinds.DeleteVolume =
    in_words (SaysCall version kinds.DeleteVolume) (delete-there version) (delete-back version) (makes (λ id. calls.DeleteVolume id) (λ _. End) (id_agrees (λ _. End)))
call_agrees version kinds.ControllerPublishVolume =
    in_words (SaysCall version kinds.ControllerPublishVolume) (publish-there version) (publish-back version)
    (after (id_agrees (λ _. Text 1 255 (λ _. capability_grammar version (owes_new_mode version) (λ _. flag_grammar))))
    (λ id. after (any_text_agrees 1 255 (λ _. capability_grammar version (owes_new_mode version) (λ _. flag_grammar)))
    (λ node. after (owed_capability_agrees version (owes_new_mode version) (λ _. flag_grammar))
    (λ c. makes (λ readonly. calls.ControllerPublishVolume id node c readonly) (λ _. End) (flag_agrees (λ _. End))))))
call_agrees version kinds.ControllerUnpublishVolume =
    in_words (SaysCall version kinds.ControllerUnpublishVolume) (unpublish-there version) (unpublish-back version)
    (after (id_agrees (λ _. Text 1 255 (λ _. End))) (λ id. makes (λ node. calls.ControllerUnpublishVolume id node) (λ _. End) (any_text_agrees 1 255 (λ _. End))))
call_agrees version kinds.NodeStageVolume =
    in_words (SaysCall version kinds.NodeStageVolume) (stage-there version) (stage-back version)
    (after (id_agrees (λ _. capability_grammar version (owes_new_mode version) (λ _. End))) (λ id. makes (λ c. calls.NodeStageVolume id c) (λ _. End) (owed_capability_agrees version (owes_new_mode version) (λ _. End))))
call_agrees version kinds.NodeUnstageVolume =
    in_words (SaysCall version kinds.NodeUnstageVolume) (unstage-there version) (unstage-back version) (makes (λ id. calls.NodeUnstageVolume id) (λ _. End) (id_agrees (λ _. End)))
call_agrees version kinds.NodePublishVolume =
    in_words (SaysCall version kinds.NodePublishVolume) (node_publish-there version) (node_publish-back version)
    (after (id_agrees (λ _. Text 1 255 (λ _. capability_grammar version (owes_new_mode version) (λ _. flag_grammar))))
    (λ id. after (any_text_agrees 1 255 (λ _. capability_grammar version (owes_new_mode version) (λ _. flag_grammar)))
    (λ target. after (owed_capability_agrees version (owes_new_mode version) (λ _. flag_grammar))
    (λ c. makes (λ readonly. calls.NodePublishVolume id target c readonly) (λ _. End) (flag_agrees (λ _. End))))))
call_agrees version kinds.NodeUnpublishVolume =
    in_words (SaysCall version kinds.NodeUnpublishVolume) (node_unpublish-there version) (node_unpublish-back version)
    (after (id_agrees (λ _. Text 1 255 (λ _. End))) (λ id. makes (λ target. calls.NodeUnpublishVolume id target) (λ _. End) (any_text_agrees 1 255 (λ _. End))))
