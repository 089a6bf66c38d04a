use Rattle.std.proofs.Common.{◌≡◌, ◌<◌, ◌+◌, ◌^◌, ◌∙◌, sym, ap, ℕ, List, ◌++◌, length, take, drop, append_assoc, arith, length-append}
use Rattle.std.proofs.lemmas.List.{take-append-drop}
use Rattle.std.proofs.lemmas.Result.{err_from_is_err_and}
use Rattle.csi_streams.proofs.driver.drive_slice.Goals as goal

-- an input of what was fed and a rest is, once a piece of the rest was fed, what was fed, the piece and what is behind it
parted : (input fed rest piece behind : List ℕ) (n : ℕ) → input ≡ fed ++ rest → piece ≡ take n rest → behind ≡ drop n rest → input ≡ (fed ++ piece) ++ behind
parted input fed rest piece behind n is front back =
    is ∙ ap (λ (bytes : List ℕ). fed ++ bytes) (sym (take-append-drop n rest)) ∙ sym (append_assoc fed (take n rest) (drop n rest))
    ∙ ap (λ (bytes : List ℕ). (fed ++ bytes) ++ drop n rest) (sym front) ∙ ap (λ (bytes : List ℕ). (fed ++ piece) ++ bytes) (sym back)

-- what was fed and a piece are no more than the input
few : (input fed piece behind : List ℕ) → input ≡ (fed ++ piece) ++ behind → length input < 2 ^ 64 → length fed + length piece < 2 ^ 64
few input fed piece behind is small = omega (arith, ap length is, length-append (fed ++ piece) behind, length-append fed piece)

pub returns-in_err-take : goal.returns-in_err-take
returns-in_err-take g c = λ begun.
    let i = c.loop-rest.invariant begun in
    let piece = c.split_at.result.0.now in
    let behind = c.split_at.result.1.now in
    let e = err_from_is_err_and c.from_residual.result c.from_residual.ensures.1 in
    let is : c.args.input.now ≡ (i.0 ++ piece) ++ behind = parted c.args.input.now i.0 c.loop-rest.rest.now piece behind c.min.result i.1 c.split_at.ensures.front c.split_at.ensures.back in
    rw (e.1, e.2)
    (i.0 ++ piece, behind, is, c.in_err-take.ensures.takes (record { own = c.args.consumer.now; store = c.args.store.now; out = c.args.out.now }) i.0 i.2 (few c.args.input.now i.0 piece behind is (omega arith)))
