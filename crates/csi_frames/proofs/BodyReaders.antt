-- The reader of a body agrees with the grammar, and what it reads is spelled so.
use Rattle.std.proofs.Common.{◌≡◌, ℕ, ◌+◌, ◌^◌, ◌<◌, Bool, true, false, cond, List, [], ◌∷◌, ◌++◌, refl, sym, ap, subst, ◌∙◌}
use Rattle.std.specs.Prelude.{◌==◌, not}
use Rattle.std.proofs.lemmas.Bool.{eqb-true}
use Rattle.std.proofs.lemmas.List.{append-nil}
use Rattle.csi_types.specs.declared.number.Number.{Number}
use Rattle.csi_types.specs.declared.call.Kind.{Kind}
use Rattle.csi_types.specs.declared.call.Party.{Party}
use Rattle.csi_types.specs.declared.call.Party.TheVariants.{Controller, Node}
use Rattle.csi_types.specs.declared.frame.Body.{Body}
use Rattle.csi_types.specs.declared.frame.Body.TheVariants as bodies
use Rattle.csi_types.specs.Model.Call.{kind_of}
use Rattle.csi_types.specs.Public.Call.{is_node_kind, is_party_of}
use Rattle.csi_types.specs.Public.Reply.{has_id_by_rule}
use Rattle.csi_types.specs.Public.Text.{IsText}
use Rattle.csi_types.specs.Model.Frame.{Frame}
use Rattle.csi_types.specs.Public.Frame.{IsAllowed}
use Rattle.csi_types.specs.Public.Limits.{IsNumber, IsParty, IsBody, IsFrame}
use Rattle.csi_frames.specs.declared.body_kind.BodyKind.{BodyKind}
use Rattle.csi_frames.specs.declared.body_kind.BodyKind.TheVariants as body_kinds
use Rattle.csi_frames.specs.declared.fault.FaultKind.TheVariants.{BadVersion, BadKind, BadParty}
use Rattle.csi_frames.specs.declared.version.Version.{Version}
use Rattle.csi_frames.specs.declared.version.Version.TheVariants.{One, Two}
use Rattle.csi_frames.specs.Public.Version.{version_number}
use Rattle.csi_frames.specs.Public.Codes.{is_version, version_of, kind_in, is_body_kind, body_kind_of}
use Rattle.csi_frames.specs.Public.Spelling as spelling
use Rattle.csi_frames.specs.Public.Grammar.{Grammar, End, Byte, Word, Text, any, is_party_number, party_number, fields_grammar, party_grammar, numbered_grammar, kind_grammar, body_grammar}
use Rattle.csi_frames.specs.Public.Reading.{version_at, kind_at, number_at, party_at, fields_at, frame_at}
use Rattle.csi_frames.proofs.Readers.{Agrees, Then, then, Given, gives, in_words, Either, either}
use Rattle.csi_frames.proofs.FieldReaders.{IsByte, byte_agrees}
use Rattle.csi_frames.proofs.Says.{Spelled, After, Made, after, makes, Always, code_agrees}
use Rattle.csi_types.specs.Model.Same.{kind_number}
use Rattle.csi_frames.proofs.Codes.{version_code, HasKind, body_kind_number, body_kind_code}
use Rattle.csi_frames.proofs.CapabilityReaders.{any_word_agrees, any_text_agrees}
use Rattle.csi_frames.proofs.CallReaders.{SaysCall, IsCallOf, call_agrees, join2}
use Rattle.csi_frames.proofs.ReplyReaders.{SaysReply, reply_agrees}
use Rattle.csi_frames.proofs.Versions.{in_first, in_second, has_its_kind, in_its_version}
pub use Rattle.csi_frames.proofs.Versions.{has_every_mode}

-- ---- version and kind

-- the version, and below the kind, as a byte
abbrev version_byte : Version → List ℕ
version_byte version = version_number version ∷ []

-- the kind as a byte
abbrev kind_byte : BodyKind → List ℕ
kind_byte kind = body_kind_number kind ∷ []

-- the reader of the version agrees with the grammar, and so does that of the kind
version_agrees : (next : Version → Grammar) → Agrees version_at (Spelled Always version_byte) (Byte is_version BadVersion (λ b. next (version_of b))) next
unfolding version_at
version_agrees next = code_agrees Always is_version BadVersion version_of version_number next version_code

-- the reader of the kind agrees with the grammar
kind_agrees : (version : Version) (next : BodyKind → Grammar) → Agrees (kind_at version) (Spelled (HasKind version) kind_byte) (Byte (is_body_kind version) BadKind (λ b. next (body_kind_of b))) next
unfolding kind_at
kind_agrees version next = code_agrees (HasKind version) (is_body_kind version) BadKind body_kind_of body_kind_number next (body_kind_code version)

-- ---- the number

-- the session and the call, as bytes
abbrev pub number : Number → List ℕ
number n = spelling.word n.session ++ spelling.word n.call

-- the bytes were read as a session and then a call
abbrev WasNumber : Number → List ℕ → Type 0
WasNumber = After (λ session. session < 2 ^ 64) spelling.word (λ session. Made (λ call. call < 2 ^ 64) spelling.word (λ call. record { session = session; call = call }))

-- a session and a call that were read are a number within its limits, and are spelled so
number-there : (value : Number) (bytes : List ℕ) → WasNumber value bytes → Spelled IsNumber number value bytes
number-there value bytes s =
    subst (λ (v : Number). Spelled IsNumber number v bytes) (sym s.second.same)
    (record { fits = record { session_fits = s.fits; call_fits = s.second.fits }; are = join2 bytes (spelling.word s.before) (spelling.word s.second.before) s.back s.parts s.second.are })

-- the spelling of a number is a session and then a call
number-back : (value : Number) (bytes : List ℕ) → Spelled IsNumber number value bytes → WasNumber value bytes
number-back value bytes s =
    record { before = value.session; fits = s.fits.session_fits; back = spelling.word value.call; parts = s.are; second = record { before = value.call; fits = s.fits.call_fits; same = refl; are = refl } }

-- the reader of a number agrees with the grammar
pub number_agrees : (next : Grammar) → Agrees number_at (Spelled IsNumber number) (Word any (λ _. Word any (λ _. next))) (λ _. next)
unfolding number_at
number_agrees next =
    in_words (Spelled IsNumber number) number-there number-back
    (after (any_word_agrees (λ _. Word any (λ _. next))) (λ session. makes (λ call. record { session = session; call = call }) (λ _. next) (any_word_agrees (λ _. next))))

-- ---- the party

-- the party is within its limits, and is one to which such calls go
pub record IsPartyOf (kind : BodyKind) (party : Party) : Type 0 where
  pub fits : IsParty party
  pub of_kind : is_party_of (kind_in kind) party ≡ true

-- the bytes were read as the byte of the party, and then a node's id where it says so
abbrev WasParty : BodyKind → Party → List ℕ → Type 0
WasParty kind = Then (IsByte (is_party_number kind)) (λ b. Either (b == 0) (Given Controller) (Made (IsText 1 255) spelling.text Node))

-- the party is a node where one is asked for, and else the controller
abbrev party_on : Bool → Party → Bool
party_on node Controller = not node
party_on node (Node id) = node

-- what the party byte says of the kind
record Fitting (node : Bool) (value : Party) (b : ℕ) (back : List ℕ) : Type 0 where
  fits : IsParty value
  of_kind : party_on node value ≡ true
  are : b ∷ back ≡ spelling.party value

-- the party that was read by its byte is within its limits, is the one that the byte says, and is spelled so
fitting : (node : Bool) (value : Party) (back : List ℕ) → Either ((cond node 1 0) == 0) (Given Controller) (Made (IsText 1 255) spelling.text Node) value back → Fitting node value (cond node 1 0) back
fitting true value back s =
    subst (λ (v : Party). Fitting true v 1 back) (sym s.same) (record { fits = s.fits; of_kind = refl; are = ap (λ (t : List ℕ). 1 ∷ t) s.are })
fitting false value back s =
    subst (λ (v : Party). Fitting false v 0 back) (sym s.same) (record { fits = tt; of_kind = refl; are = ap (λ (t : List ℕ). 0 ∷ t) s.none })

-- whether a kind's calls go to this party is whether they go to a node and it is one, or neither
on_is : (kind : Kind) (party : Party) → party_on (is_node_kind kind) party ≡ is_party_of kind party
on_is kind Controller = refl
on_is kind (Node id) = refl

-- a party that was read is within its limits, is one to which such calls go, and is spelled so
party-there : (kind : BodyKind) (value : Party) (bytes : List ℕ) → WasParty kind value bytes → Spelled (IsPartyOf kind) spelling.party value bytes
party-there kind value bytes s =
    let node = is_node_kind (kind_in kind) in
    let b-is : s.before ≡ cond node 1 0 = eqb-true _ _ s.first.is_allowed in
    let f = fitting node value s.back (subst (λ (b : ℕ). Either (b == 0) (Given Controller) (Made (IsText 1 255) spelling.text Node) value s.back) b-is s.second) in
    record {
      fits = record { fits = f.fits; of_kind = sym (on_is (kind_in kind) value) ∙ f.of_kind };
      are = s.parts ∙ ap (λ (t : List ℕ). t ++ s.back) s.first.one ∙ ap (λ (b : ℕ). b ∷ s.back) b-is ∙ f.are;
    }

-- 1 where a kind's calls go to a node, and else 0, is the party's byte for that kind
party-number : (kind : Kind) (node : Bool) → is_node_kind kind ≡ node → (cond node 1 0 == party_number kind) ≡ true
party-number kind true e = rw e refl
party-number kind false e = rw e refl

-- a test whose opposite holds fails
is_false : (b : Bool) → not b ≡ true → b ≡ false
is_false true e = absurd cc
is_false false e = refl

-- the spelling of a party to which such calls go is the kind's byte and then its id where it is a node
party-back : (kind : BodyKind) (value : Party) (bytes : List ℕ) → Spelled (IsPartyOf kind) spelling.party value bytes → WasParty kind value bytes
party-back kind Controller bytes s =
    record {
      before = 0;
      front = 0 ∷ [];
      back = [];
      parts = s.are;
      first = record { is_allowed = party-number (kind_in kind) false (is_false _ s.fits.of_kind); one = refl };
      second = record { same = refl; none = refl };
    }
party-back kind (Node id) bytes s =
    record {
      before = 1;
      front = 1 ∷ [];
      back = spelling.text id;
      parts = s.are;
      first = record { is_allowed = party-number (kind_in kind) true s.fits.of_kind; one = refl };
      second = record { before = id; fits = s.fits.fits; same = refl; are = refl };
    }

-- the reader of the party agrees with the grammar
party_agrees : (version : Version) (kind : BodyKind) → Agrees (party_at kind) (Spelled (IsPartyOf kind) spelling.party) (party_grammar version kind) (λ _. fields_grammar version kind)
unfolding party_at
party_agrees version kind =
    let next : Grammar = fields_grammar version kind in
    in_words (Spelled (IsPartyOf kind) spelling.party) (party-there kind) (party-back kind)
    (then (byte_agrees (is_party_number kind) BadParty (λ b. cond (b == 0) next (Text 1 255 (λ _. next))))
    (λ b. either (b == 0) (gives {next = λ _. next} Controller) (makes Node (λ _. next) (any_text_agrees 1 255 (λ _. next)))))

-- ---- the kind's fields

-- the body is a call of this kind, or a reply to one, whose id is there exactly where it must be
abbrev pub IsBodyOf : BodyKind → Body → Type 0
IsBodyOf (body_kinds.Call kind) (bodies.Call call) = kind_of call ≡ kind
IsBodyOf (body_kinds.Call kind) (bodies.Reply k reply) = ⊥
IsBodyOf (body_kinds.Reply kind) (bodies.Call call) = ⊥
IsBodyOf (body_kinds.Reply kind) (bodies.Reply k reply) = (k ≡ kind) × (has_id_by_rule kind reply ≡ true)

-- the body is of this version
abbrev pub IsBodyIn : Version → Body → Type 0
IsBodyIn version (bodies.Call call) = IsCallOf version call
IsBodyIn version (bodies.Reply kind reply) = Unit {0}

-- the body is of this version and kind, and within its limits
pub record FitsKind (version : Version) (kind : BodyKind) (body : Body) : Type 0 where
  pub of_kind : IsBodyOf kind body
  pub fits : IsBody body
  pub of_version : IsBodyIn version body

-- a body of this kind, and its fields
abbrev SaysFields : Version → BodyKind → Body → List ℕ → Type 0
SaysFields version kind = Spelled (FitsKind version kind) spelling.body_fields

-- the call, or below the reply, that was read is a body of its kind, and is spelled so; and back
call-there : (version : Version) (kind : Kind) (value : Body) (bytes : List ℕ) → Then (SaysCall version kind) (λ call. Given (bodies.Call call)) value bytes → SaysFields version (body_kinds.Call kind) value bytes
call-there version kind value bytes s =
    subst (λ (v : Body). SaysFields version (body_kinds.Call kind) v bytes) (sym s.second.same)
    (record { fits = record { of_kind = s.first.of_kind; fits = s.first.fits; of_version = s.first.of_version }; are = s.parts ∙ ap (λ (t : List ℕ). s.front ++ t) s.second.none ∙ append-nil s.front ∙ s.first.are })

-- a body of a call's kind that is spelled so is that call, spelled so
call-back : (version : Version) (kind : Kind) (value : Body) (bytes : List ℕ) → SaysFields version (body_kinds.Call kind) value bytes → Then (SaysCall version kind) (λ call. Given (bodies.Call call)) value bytes
call-back version kind (bodies.Call call) bytes s =
    record { before = call; front = bytes; back = []; parts = sym (append-nil bytes); first = record { of_kind = s.fits.of_kind; fits = s.fits.fits; of_version = s.fits.of_version; are = s.are }; second = record { same = refl; none = refl } }
call-back version kind (bodies.Reply k reply) bytes s = absurd s.fits.of_kind

-- the reply that was read is a body of its kind, and is spelled so
reply-there : (version : Version) (kind : Kind) (value : Body) (bytes : List ℕ) → Then (SaysReply kind) (λ reply. Given (bodies.Reply kind reply)) value bytes → SaysFields version (body_kinds.Reply kind) value bytes
reply-there version kind value bytes s =
    subst (λ (v : Body). SaysFields version (body_kinds.Reply kind) v bytes) (sym s.second.same)
    (record { fits = record { of_kind = (refl, s.first.rule); fits = s.first.fits; of_version = tt }; are = s.parts ∙ ap (λ (t : List ℕ). s.front ++ t) s.second.none ∙ append-nil s.front ∙ s.first.are })

-- a body of a reply's kind that is spelled so is that reply, spelled so
reply-back : (version : Version) (kind : Kind) (value : Body) (bytes : List ℕ) → SaysFields version (body_kinds.Reply kind) value bytes → Then (SaysReply kind) (λ reply. Given (bodies.Reply kind reply)) value bytes
reply-back version kind (bodies.Reply k reply) bytes s =
    record {
      before = reply;
      front = bytes;
      back = [];
      parts = sym (append-nil bytes);
      first = record { fits = s.fits.fits; rule = s.fits.of_kind.1; are = s.are };
      second = record { same = ap (λ (k : Kind). bodies.Reply k reply) s.fits.of_kind.0; none = refl };
    }
reply-back version kind (bodies.Call call) bytes s = absurd s.fits.of_kind

-- the reader of the kind's fields agrees with the grammar
fields_agree : (version : Version) (kind : BodyKind) → Agrees (fields_at version kind) (SaysFields version kind) (fields_grammar version kind) (λ _. End)
unfolding fields_at
fields_agree version (body_kinds.Call kind) =
    in_words (SaysFields version (body_kinds.Call kind)) (call-there version kind) (call-back version kind) (then (call_agrees version kind) (λ call. gives {next = λ _. End} (bodies.Call call)))
fields_agree version (body_kinds.Reply kind) =
    in_words (SaysFields version (body_kinds.Reply kind)) (reply-there version kind) (reply-back version kind) (then (reply_agrees kind) (λ reply. gives {next = λ _. End} (bodies.Reply kind reply)))

-- ---- the whole body

-- the bytes were read as a version, a kind, a number, a party and the kind's fields
abbrev WasFrame : Frame → List ℕ → Type 0
WasFrame =
    After Always version_byte (λ version. After (HasKind version) kind_byte (λ kind. After IsNumber number (λ n. After (IsPartyOf kind) spelling.party (λ party.
    Made (FitsKind version kind) spelling.body_fields (λ body. record { number = n; party = party; body = body })))))

-- a body that was read in a version is spelled in that one
version-there : (version : Version) (kind : BodyKind) (body : Body) → HasKind version kind → IsBodyOf kind body → IsBodyIn version body → version ≡ spelling.body_version body
version-there One kind (bodies.Call call) has of_kind of_version = in_first call of_version
version-there One kind (bodies.Reply k reply) has of_kind of_version = refl
version-there Two (body_kinds.Call kind) (bodies.Call call) has of_kind of_version = in_second call (subst (λ (k : Kind). HasKind Two (body_kinds.Call k)) (sym of_kind) has) of_version
version-there Two (body_kinds.Call kind) (bodies.Reply k reply) has of_kind of_version = absurd of_kind
version-there Two (body_kinds.Reply kind) body has of_kind of_version = absurd (cc has)

-- each body is of the version that it is spelled in
body_in_its_version : (body : Body) → IsBodyIn (spelling.body_version body) body
body_in_its_version (bodies.Call call) = in_its_version call
body_in_its_version (bodies.Reply kind reply) = tt

-- a party to which such calls go, and a body of this kind, may stand together in a frame
allowed-there : (kind : BodyKind) (party : Party) (body : Body) → is_party_of (kind_in kind) party ≡ true → IsBodyOf kind body → IsAllowed party body
allowed-there (body_kinds.Call kind) party (bodies.Call call) p e = rw e p
allowed-there (body_kinds.Call kind) party (bodies.Reply k reply) p e = absurd e
allowed-there (body_kinds.Reply kind) party (bodies.Call call) p e = absurd e
allowed-there (body_kinds.Reply kind) party (bodies.Reply k reply) p e = rw e.0 (p, e.1)

-- the number of a body kind is the one with which each body of it is spelled
number-there-of : (kind : BodyKind) (body : Body) → IsBodyOf kind body → body_kind_number kind ≡ spelling.body_kind body
number-there-of (body_kinds.Call kind) (bodies.Call call) e = ap kind_number (sym e)
number-there-of (body_kinds.Call kind) (bodies.Reply k reply) e = absurd e
number-there-of (body_kinds.Reply kind) (bodies.Call call) e = absurd e
number-there-of (body_kinds.Reply kind) (bodies.Reply k reply) e = ap (λ (k : Kind). 128 + kind_number k) (sym e.0)

-- the parts that were read are a frame within its limits, and are spelled as its body
frame-there : (value : Frame) (bytes : List ℕ) → WasFrame value bytes → Spelled IsFrame spelling.frame_body value bytes
unfolding spelling.frame_body
frame-there value bytes s =
    let s0 = s.second in let s1 = s0.second in let s2 = s1.second in let s3 = s2.second in
    let version = s.before in let kind = s0.before in let n = s1.before in let party = s2.before in let body = s3.before in
    subst (λ (v : Frame). Spelled IsFrame spelling.frame_body v bytes) (sym s3.same)
    (record {
      fits = record { number_fits = s1.fits; party_fits = s2.fits.fits; body_fits = s3.fits.fits; allowed = allowed-there kind party body s2.fits.of_kind s3.fits.of_kind };
      are = s.parts ∙ ap (λ (t : List ℕ). version_byte version ++ t) (s0.parts ∙ ap (λ (t : List ℕ). kind_byte kind ++ t) (s1.parts ∙ ap (λ (t : List ℕ). number n ++ t) (s2.parts ∙ ap (λ (t : List ℕ). spelling.party party ++ t) s3.are)))
          ∙ ap (λ (v : Version). version_number v ∷ body_kind_number kind ∷ number n ++ (spelling.party party ++ spelling.body_fields body)) (version-there version kind body s0.fits s3.fits.of_kind s3.fits.of_version)
          ∙ ap (λ (k : ℕ). version_number (spelling.body_version body) ∷ k ∷ number n ++ (spelling.party party ++ spelling.body_fields body)) (number-there-of kind body s3.fits.of_kind);
    })

-- a body is of its own kind, which its version has
record OfItself (party : Party) (body : Body) : Type 0 where
  kind : BodyKind
  numbered : spelling.body_kind body ≡ body_kind_number kind
  of_party : is_party_of (kind_in kind) party ≡ true
  of_body : IsBodyOf kind body
  of_version : HasKind (spelling.body_version body) kind

-- where a party and a body may stand together, the body has a kind, whose calls go to this party
of_itself : (party : Party) (body : Body) → IsAllowed party body → OfItself party body
of_itself party (bodies.Call call) a = record { kind = body_kinds.Call (kind_of call); numbered = refl; of_party = a; of_body = refl; of_version = has_its_kind call }
of_itself party (bodies.Reply kind reply) a = record { kind = body_kinds.Reply kind; numbered = refl; of_party = a.0; of_body = (refl, a.1); of_version = refl }

-- the spelling of a frame's body is its head, its number, its party and its kind's fields
frame-back : (value : Frame) (bytes : List ℕ) → Spelled IsFrame spelling.frame_body value bytes → WasFrame value bytes
unfolding spelling.frame_body
frame-back value bytes s =
    let o = of_itself value.party value.body s.fits.allowed in
    let rest : List ℕ = number value.number ++ (spelling.party value.party ++ spelling.body_fields value.body) in
    record {
      before = spelling.body_version value.body;
      fits = tt;
      back = spelling.body_kind value.body ∷ rest;
      parts = s.are;
      second = record {
        before = o.kind;
        fits = o.of_version;
        back = rest;
        parts = ap (λ (k : ℕ). k ∷ rest) o.numbered;
        second = record {
          before = value.number;
          fits = s.fits.number_fits;
          back = spelling.party value.party ++ spelling.body_fields value.body;
          parts = refl;
          second = record {
            before = value.party;
            fits = record { fits = s.fits.party_fits; of_kind = o.of_party };
            back = spelling.body_fields value.body;
            parts = refl;
            second = record { before = value.body; fits = record { of_kind = o.of_body; fits = s.fits.body_fits; of_version = body_in_its_version value.body }; same = refl; are = refl };
          };
        };
      };
    }

-- the reader of a body agrees with the grammar
pub frame_agrees : Agrees frame_at (Spelled IsFrame spelling.frame_body) body_grammar (λ _. End)
unfolding frame_at body_grammar
frame_agrees =
    in_words (Spelled IsFrame spelling.frame_body) frame-there frame-back
    (after (version_agrees kind_grammar)
    (λ version. after (kind_agrees version (numbered_grammar version))
    (λ kind. after (number_agrees (party_grammar version kind))
    (λ n. after (party_agrees version kind)
    (λ party. makes (λ body. record { number = n; party = party; body = body }) (λ _. End) (fields_agree version kind))))))
