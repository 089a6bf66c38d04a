use Rattle.std.proofs.Common.{◌≡◌, ◌+◌, ◌++◌, ◌≤◌, [], ◌∷◌, ℕ, List, length, vec_len, vec_capacity, ap, subst, rules, arith}
use Rattle.std.specs.Global.{Vec}
use Rattle.csi_types.specs.Public.Limits.{IsNumber, IsParty}
use Rattle.csi_types.specs.Public.Text.{IsText}
use Rattle.csi_frames.specs.Private.Puts.{Puts}
use Rattle.csi_frames.specs.Private.Spelling.{head}
use Rattle.csi_frames.specs.Public.Spelling.{party, text}
use Rattle.csi_frames.proofs.Written.{Puts-then, put-in-room}
use Rattle.csi_frames.proofs.encoding.put_head.Goals as goal
use Rattle.csi_frames.proofs.encoding.put_head.Goals.{After-put}

-- the bytes in front of the party were put
headed : (c : After-put) → Puts c.args.out.now c.put.new.out (head c.args.size c.args.version c.args.kind c.args.number) (Unit {0})
headed c = subst (λ (x : List ℕ). Puts c.args.out.now c.put.new.out x (Unit {0})) c.head_bytes.ensures c.put.ensures

pub returns-in-Controller : goal.returns-in-Controller
returns-in-Controller c = rw c.in-Controller.is
    (Puts-then c.args.out.now c.put.new.out c.append_byte.new.out (head c.args.size c.args.version c.args.kind c.args.number) (0 ∷ []) (Unit {0}) (Unit {0}) _ (search rules, search rules)
    (headed (goal.at.returns-in-Controller c).After-put)
    (put-in-room c.put.new.out c.append_byte.new.out (0 ∷ []) (Unit {0}) c.append_byte.result (search rules) c.append_byte.ensures))

pub returns-in-Node : goal.returns-in-Node
returns-in-Node c =
    let id = c.in-Node.id in
    let front = headed (goal.at.returns-in-Node c).After-put in
    let room : vec_len c.args.out.now + (22 + length (party c.args.from.now)) ≤ vec_capacity c.args.out.now = c.requires in
    let whole : vec_len c.args.out.now + (24 + length id) ≤ vec_capacity c.args.out.now = omega (arith, rw c.in-Node.is at room) in
    let byte = put-in-room c.put.new.out c.append_byte-in-Node.new.out (1 ∷ []) (Unit {0}) c.append_byte-in-Node.result (omega (arith, whole, front.len, front.capacity)) c.append_byte-in-Node.ensures in
    let named = put-in-room c.append_byte-in-Node.new.out c.append_text.new.out (text id) (IsText 1 255 id) c.append_text.result
    (omega (arith, whole, front.len, front.capacity, byte.len, byte.capacity)) c.append_text.ensures in
    rw c.in-Node.is
    (Puts-then c.args.out.now c.put.new.out c.append_text.new.out (head c.args.size c.args.version c.args.kind c.args.number) (1 ∷ text id) (Unit {0}) (Unit {0}) _ (search rules, search rules) front
    (Puts-then c.put.new.out c.append_byte-in-Node.new.out c.append_text.new.out (1 ∷ []) (text id) (Unit {0}) (IsText 1 255 id) (Unit {0}) tt byte named))
