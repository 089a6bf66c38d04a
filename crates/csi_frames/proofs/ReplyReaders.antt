-- The readers of replies agree with the grammar, and what they read is spelled so.
use Rattle.std.proofs.Common.{◌≡◌, ℕ, zero, suc, ◌^◌, ◌<◌, Bool, true, false, cond, ltb, eqb, List, [], ◌∷◌, ◌++◌, Option, Some, None, refl, sym, ap, subst, ◌∙◌, arith}
use Rattle.std.specs.Prelude.{◌&&◌, not, is_some, IfSome}
use Rattle.std.proofs.Math.Dec.{eqb-suc-zero}
use Rattle.std.proofs.lemmas.Bool.{lt-ltb}
use Rattle.std.proofs.lemmas.List.{append-nil}
use Rattle.csi_types.specs.declared.status.Status.{Status}
use Rattle.csi_types.specs.declared.call.Kind.{Kind}
use Rattle.csi_types.specs.declared.reply.Reply.{Reply}
use Rattle.csi_types.specs.Public.Status.{status_code}
use Rattle.csi_types.specs.Public.Text.{IsText}
use Rattle.csi_types.specs.Public.VolumeId.{IsVolumeId}
use Rattle.csi_types.specs.Public.Reply.{is_create, has_id_by_rule}
use Rattle.csi_types.specs.Model.Reply.{is_ok_status}
use Rattle.csi_types.specs.Public.Limits.{IsReply}
use Rattle.csi_frames.specs.declared.fault.FaultKind.TheVariants.{BadStatus}
use Rattle.csi_frames.specs.Public.Codes.{is_status, status_of}
use Rattle.csi_frames.specs.Public.Spelling as spelling
use Rattle.csi_frames.specs.Public.Grammar.{Grammar, End, Byte, Word, Text, is_reply_id, reply_grammar}
use Rattle.csi_frames.specs.Public.Reading.{status_at, reply_id_of, reply_id_at, reply_at}
use Rattle.csi_frames.proofs.Readers.{Agrees, Then, then, Given, gives, in_words}
use Rattle.csi_frames.proofs.FieldReaders.{IsWordOf, word_agrees}
use Rattle.csi_frames.proofs.Says.{Spelled, After, Made, after, makes, Always, code_agrees}
use Rattle.csi_frames.proofs.Codes.{status_codes}
use Rattle.csi_frames.proofs.CapabilityReaders.{any_text_agrees}
use Rattle.csi_frames.proofs.CallReaders.{join3}

-- the reader of a status agrees with the grammar
pub status_agrees : (next : Status → Grammar) → Agrees status_at (Spelled Always (λ status. status_code status ∷ [])) (Byte is_status BadStatus (λ b. next (status_of b))) next
unfolding status_at
status_agrees next = code_agrees Always is_status BadStatus status_of status_code next status_codes

-- ---- the id

-- an id is there exactly where it must be
pub record IsReplyId (kind : Kind) (status : Status) (id : Option ℕ) : Type 0 where
  pub fits : IfSome id IsVolumeId
  pub rule : cond (is_create kind && is_ok_status status) (is_some id) (not (is_some id)) ≡ true

-- the bytes were read as a number that a reply to such a call may have for its id
abbrev SaysId : Kind → Status → Option ℕ → List ℕ → Type 0
SaysId kind status = Then (IsWordOf (is_reply_id kind status)) (λ n. Given (reply_id_of n))

-- an id is there where it must be, and only there
abbrev rule_on : Bool → Option ℕ → Bool
rule_on must id = cond must (is_some id) (not (is_some id))

-- a number stands for an id where there must be one, and is 0 elsewhere
abbrev number_on : Bool → ℕ → Bool
number_on must n = cond must (ltb 0 n) (eqb n 0)

-- a number other than 0 stands for itself as an id
reply_id_of-suc : (n : ℕ) → reply_id_of (suc n) ≡ Some (suc n)
reply_id_of-suc n = rw (eqb-suc-zero n) refl

-- what the number says is what the rule says
id-there : (must : Bool) (n : ℕ) → number_on must n ≡ true → n < 2 ^ 64 → (rule_on must (reply_id_of n) ≡ true) × (spelling.word n ≡ spelling.reply_id (reply_id_of n)) × IfSome (reply_id_of n) IsVolumeId
id-there true zero e fits = absurd cc
id-there true (suc n) e fits = rw (reply_id_of-suc n) (refl, refl, record { from_one = omega arith; in_range = fits })
id-there false zero e fits = (refl, refl, tt)
id-there false (suc n) e fits = absurd (cc (eqb-suc-zero n))

-- an id that is there exactly where it must be is spelled as a number that says so, and that stands for it
id-back : (must : Bool) (id : Option ℕ) → rule_on must id ≡ true → IfSome id IsVolumeId → (n : ℕ) × (number_on must n ≡ true) × (n < 2 ^ 64) × (spelling.reply_id id ≡ spelling.word n) × (id ≡ reply_id_of n)
id-back true None e fits = absurd cc
id-back true (Some zero) e fits = absurd (omega (arith, fits.from_one))
id-back true (Some (suc n)) e fits = (suc n, lt-ltb _ _ fits.from_one, fits.in_range, refl, sym (reply_id_of-suc n))
id-back false None e fits = (0, refl, omega arith, refl, refl)
id-back false (Some n) e fits = absurd cc

-- the reader of a reply's id agrees with the grammar
pub reply_id_agrees : (kind : Kind) (status : Status) (next : Grammar) → Agrees (reply_id_at kind status) (Spelled (IsReplyId kind status) spelling.reply_id) (Word (is_reply_id kind status) (λ _. next)) (λ _. next)
unfolding reply_id_at
reply_id_agrees kind status next =
    in_words (Spelled (IsReplyId kind status) spelling.reply_id)
    (λ value bytes s.
    let p = id-there (is_create kind && is_ok_status status) s.before s.first.is_allowed s.first.fits in
    subst (λ (v : Option ℕ). Spelled (IsReplyId kind status) spelling.reply_id v bytes) (sym s.second.same)
    (record { fits = record { fits = p.2; rule = p.0 }; are = s.parts ∙ ap (λ (t : List ℕ). s.front ++ t) s.second.none ∙ append-nil s.front ∙ s.first.eight ∙ p.1 }))
    (λ value bytes s.
    let p = id-back (is_create kind && is_ok_status status) value s.fits.rule s.fits.fits in
    record { before = p.0; front = bytes; back = []; parts = sym (append-nil bytes); first = record { fits = p.2; is_allowed = p.1; eight = s.are ∙ p.3 }; second = record { same = p.4; none = refl } })
    (then (word_agrees (is_reply_id kind status) (λ _. next)) (λ n. gives {next = λ _. next} (reply_id_of n)))

-- ---- a reply

-- a reply to a call of this kind, within its limits, and its fields
pub record SaysReply (kind : Kind) (value : Reply) (bytes : List ℕ) : Type 0 where
  pub fits : IsReply value
  pub rule : has_id_by_rule kind value ≡ true
  pub are : bytes ≡ spelling.reply_fields value

-- the bytes were read as a status, an id and a detail
abbrev WasReply : Kind → Reply → List ℕ → Type 0
WasReply kind =
    After Always (λ status. status_code status ∷ []) (λ status. After (IsReplyId kind status) spelling.reply_id (λ id. Made (IsText 0 255) spelling.text (λ detail. record { status = status; id = id; detail = detail })))

-- a status, an id and a detail that were read are a reply by the rule within its limits, and are spelled so
reply-there : (kind : Kind) (value : Reply) (bytes : List ℕ) → WasReply kind value bytes → SaysReply kind value bytes
reply-there kind value bytes s =
    let s1 = s.second in let s2 = s1.second in
    subst (λ (v : Reply). SaysReply kind v bytes) (sym s2.same)
    (record {
      fits = record { id_fits = s1.fits.fits; detail_fits = s2.fits };
      rule = s1.fits.rule;
      are = join3 bytes (status_code s.before ∷ []) (spelling.reply_id s1.before) (spelling.text s2.before) s.back s1.back s.parts s1.parts s2.are;
    })

-- the spelling of a reply is a status, an id and a detail
reply-back : (kind : Kind) (value : Reply) (bytes : List ℕ) → SaysReply kind value bytes → WasReply kind value bytes
reply-back kind value bytes s =
    record {
      before = value.status;
      fits = tt;
      back = spelling.reply_id value.id ++ spelling.text value.detail;
      parts = s.are;
      second = record {
        before = value.id;
        fits = record { fits = s.fits.id_fits; rule = s.rule };
        back = spelling.text value.detail;
        parts = refl;
        second = record { before = value.detail; fits = s.fits.detail_fits; same = refl; are = refl };
      };
    }

-- the reader of a reply agrees with the grammar of its call's kind
pub reply_agrees : (kind : Kind) → Agrees (reply_at kind) (SaysReply kind) (reply_grammar kind) (λ _. End)
unfolding reply_at reply_grammar
reply_agrees kind =
    in_words (SaysReply kind) (reply-there kind) (reply-back kind)
    (after (status_agrees (λ status. Word (is_reply_id kind status) (λ _. Text 0 255 (λ _. End))))
    (λ status. after (reply_id_agrees kind status (Text 0 255 (λ _. End)))
    (λ id. makes (λ detail. record { status = status; id = id; detail = detail }) (λ _. End) (any_text_agrees 0 255 (λ _. End)))))
