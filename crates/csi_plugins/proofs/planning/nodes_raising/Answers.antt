-- One record more, with what renews its store.
use Rattle.std.proofs.Common.{◌≡◌, ◌∙◌, ◌∷◌, [], ap, subst, sym, List, length, map, arith, rules, refl}
use Rattle.std.proofs.lemmas.List.{length-map, map_push, nil_from_length}
use Rattle.csi_node.specs.Model.Record.{NodeParts}
use Rattle.csi_stores.specs.Public.Part.{StoredChange}
use Rattle.csi_plugins.specs.Private.Recovering.{changes_of}
use Rattle.csi_plugins.proofs.MadePlans.{AreMadeSome, made-next, made-all, left-many}
use Rattle.csi_plugins.proofs.planning.nodes_raising.Goals as goal

pub loop-record-init : goal.loop-record-init
loop-record-init c = search rules

pub loop-record-preserved-in-Continue-branch-3 : goal.loop-record-preserved-in-Continue-branch-3
loop-record-preserved-in-Continue-branch-3 c =
    let at = c.loop-record in
    let kepts = c.args.given.kept.items in
    let renewals = map changes_of c.args.given.renewals.items in
    let left = c.next.new.self.rest.items in
    let left_renewals = map changes_of c.next-in-loop-record.new.self.rest.items in
    let made = map changes_of at.changes.items in
    let some = subst (λ (rs : List (List StoredChange)). AreMadeSome c.args.session kepts renewals (c.in-Some.record ∷ left) rs made) (ap (map changes_of) c.in-Some-next.ensures.items)
    (subst (λ (ks : List NodeParts). AreMadeSome c.args.session kepts renewals ks (map changes_of at.left.rest.items) made) c.in-Some.ensures.steps.0 at.invariant.0) in
    let a = at.invariant.1 in
    let b = c.in-Some.ensures.steps.1 in
    let d = ap length c.in-Some.ensures.steps.0 in
    let p = at.invariant.2 in
    let q = c.in-Some-next.ensures.cases.1 in
    let r = ap length c.in-Some-next.ensures.items in (
      made-next c.args.session kepts renewals c.in-Some.record (changes_of c.in-Some-next.renewal) (changes_of c.in_ok-parts.parts) left left_renewals made (map changes_of c.push.new.self.items) some c.in_ok-parts.ensures
          (ap (map changes_of) c.in_ok-push.ensures.items ∙ map_push changes_of at.changes.items c.in_ok-parts.parts),
      omega (arith, a, b, d),
      omega (arith, p, q, r),
    )

pub loop-record-preserved : goal.loop-record-preserved
loop-record-preserved c =
    let at = c.loop-record in
    let kepts = c.args.given.kept.items in
    let renewals = map changes_of c.args.given.renewals.items in
    let many : length renewals ≡ length kepts = length-map c.args.given.renewals.items changes_of ∙ c.requires in
    let none : at.left.rest.items ≡ [] = nil_from_length at.left.rest.items (sym at.invariant.2 ∙ c.in_default.ensures.cases.0) in
    let left = left-many c.args.session kepts renewals many at.record-iterator.rest.items (map changes_of at.left.rest.items) (map changes_of at.changes.items) at.invariant.0 in
    let long = length-map at.left.rest.items changes_of in
    let short = ap length none in
    let some = ap length c.in-Some.ensures.steps.0 in
    absurd (omega (arith, left, long, short, some))

pub returns : goal.returns
returns c =
    let at = c.loop-record in
    let kepts = c.args.given.kept.items in
    let renewals = map changes_of c.args.given.renewals.items in
    let many : length renewals ≡ length kepts = length-map c.args.given.renewals.items changes_of ∙ c.requires in
    let made = map changes_of at.changes.items in
    let empty : at.record-iterator.rest.items ≡ [] = nil_from_length at.record-iterator.rest.items (sym at.invariant.1 ∙ c.in-None.ensures.steps.0) in
    made-all c.args.session kepts renewals many (map changes_of at.left.rest.items) made (subst (λ (ks : List NodeParts). AreMadeSome c.args.session kepts renewals ks (map changes_of at.left.rest.items) made) empty at.invariant.0)
