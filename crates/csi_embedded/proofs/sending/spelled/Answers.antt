use Rattle.std.proofs.Common.{◌≡◌, ◌++◌, ◌∙◌, ℕ, List, length, ap, arith, rules}
use Rattle.csi_frames.specs.Public.Spelling.{spelling}
use Rattle.csi_frames.proofs.Lengths.{short-spelling}
use Rattle.csi_embedded.proofs.sending.spelled.Goals as goal

pub unwrap-requires : goal.unwrap-requires
unwrap-requires c = c.encode.ensures.spare (omega (arith, short-spelling c.args.sent.now c.frame_law.ensures, c.requires.spare))

pub returns-clause-few : goal.returns-clause-few
returns-clause-few c =
    let is : c.encode.new.out.items ≡ c.args.bytes.items ++ spelling c.args.sent.now = search rules in
    let own : c.encode.new.out.items ≡ spelling c.args.sent.now = is ∙ ap (λ (t : List ℕ). t ++ spelling c.args.sent.now) c.requires.empty in
    omega (arith, ap length own, short-spelling c.args.sent.now c.frame_law.ensures)
