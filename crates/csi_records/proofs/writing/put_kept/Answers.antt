use Rattle.std.proofs.Common.{◌≡◌, ◌+◌, ◌++◌, [], ◌∷◌, ℕ, ap, ◌∙◌, rules}
use Rattle.std.proofs.lemmas.Result.{on_ok_weaker}
use Rattle.csi_types.specs.Model.Same.{kind_number}
use Rattle.csi_frames.specs.Public.Spelling.{word, reply_fields}
use Rattle.csi_records.proofs.WritingPieces.{written4}
use Rattle.csi_records.proofs.writing.put_kept.Goals as goal

pub returns : goal.returns
returns c =
    let kind : c.append_byte.new.out.items ≡ c.append_word-2.new.out.items ++ (128 + kind_number c.args.kind) ∷ [] = c.in_ok-append_byte.ensures.appends ∙ ap (λ (n : ℕ). c.append_word-2.new.out.items ++ n ∷ []) c.reply_kind_number.ensures in
    record {
      written =
          on_ok_weaker c.append_reply.result
          (written4 c.args.out.now.items c.append_word.new.out.items c.append_word-2.new.out.items c.append_byte.new.out.items c.append_reply.new.out.items (word c.args.last.session) (word c.args.last.call) ((128 + kind_number c.args.kind) ∷ []) (reply_fields c.args.reply.now)
          c.in_ok-append_word.ensures.appends c.in_ok-append_word-2.ensures.appends kind)
          c.append_reply.ensures.appends;
      fits = search rules;
    }
