use Rattle.std.proofs.Common.{◌≡◌, ◌++◌, List, subst, rules}
use Rattle.std.specs.Prelude.{OnOk}
use Rattle.std.proofs.lemmas.Result.{on_ok_weaker}
use Rattle.csi_types.specs.declared.capability.Capability.{Capability}
use Rattle.csi_frames.specs.Public.Spelling.{word, capability}
use Rattle.csi_records.specs.Public.Spelling.{list_spelling}
use Rattle.csi_records.proofs.WritingPieces.{written3}
use Rattle.csi_records.proofs.known.put_arguments.Goals as goal

pub returns : goal.returns
returns c =
    let required = word c.args.arguments.now.required in
    let limit = word c.args.arguments.now.limit in
    record {
      written =
          subst (λ (cs : List Capability). OnOk c.put_list.result (c.put_list.new.out.items ≡ c.args.out.now.items ++ (required ++ limit ++ list_spelling capability cs))) c.as_slice.ensures.value
          (on_ok_weaker c.put_list.result
          (written3 c.args.out.now.items c.append_word.new.out.items c.append_word-2.new.out.items c.put_list.new.out.items required limit (list_spelling capability c.as_slice.result.now) c.in_ok-append_word.ensures.appends c.in_ok-append_word-2.ensures.appends)
          c.put_list.ensures.written);
      fits = search rules;
    }
