-- A world has one report.
use Rattle.std.proofs.Common.{◌≡◌, ℕ, List, [], ◌∷◌, map, get_or, Bool, true, false, refl, sym, ap, ◌∙◌, Less, Equal, is_lt, is_eq, true≢false}
use Rattle.std.specs.Prelude.{Option, Some, None, is_some, nat_eq}
use Rattle.std.specs.Cmp.{unsigned_ties}
use Rattle.std.specs.Cmp.Lexicographic.{slice_cmp, lists_ties, pointwise, pointwise_decides, bytes_decides}
use Rattle.std.specs.Ordering.{nat_cmp, eq_by_cmp}
use Rattle.std.specs.List.{AllByRecursion, flat_map}
use Rattle.std.proofs.lemmas.Cmp.{tied_itself}
use Rattle.serde_json.specs.Written.{compact_text}
use Rattle.csi_types.specs.declared.holding.Holding.{Holding}
use Rattle.csi_controller.specs.Model.Core.{Shows}
use Rattle.csi_controller.specs.Model.State.{ControllerState}
use Rattle.csi_controller.specs.Public.Views.{attached_holdings}
use Rattle.csi_node.specs.Model.Record.{NodeParts}
use Rattle.csi_orchestrator.specs.declared.thing.Thing.{Thing}
use Rattle.csi_orchestrator.specs.declared.thing.Known.{Known}
use Rattle.csi_orchestrator.specs.Model.History.{new_history}
use Rattle.csi_orchestrator.specs.Public.Listing.{ListsKnown, IsInOrder, thing_order}
use Rattle.csi_orchestrator.specs.Model.Shown.{orchestrator_view}
use Rattle.csi_orchestrator.proofs.ThingOrder.{order-total as things-total}
use Rattle.csi_world.specs.declared.violation.Violation.{Violation}
use Rattle.csi_world.specs.declared.violation.Violation.TheVariants as violations
use Rattle.csi_world.specs.Model.World.{NodeAt, World}
use Rattle.csi_world.specs.Model.Simulated.{WorldParts, AreNodesShown}
use Rattle.csi_world.specs.Public.Audited.{ArePlugins, Finds}
use Rattle.csi_reports.specs.declared.entries.StagedAt.{StagedAt}
use Rattle.csi_reports.specs.declared.entries.PublishedAt.{PublishedAt}
use Rattle.csi_reports.specs.Public.Entries.{attached_entry, staged_entry, published_entry}
use Rattle.csi_reports.specs.Public.Order.{flag_number, attached_place, staged_place, published_place, place_order}
use Rattle.csi_reports.specs.Public.Listed.{staged_on, published_on}
use Rattle.csi_reports.specs.Public.Report.{report_of, HasOneReport}
use Rattle.csi_reports.specs.Private.Laws.{ShowsAState}
use Rattle.csi_reports.proofs.Places.{order-total}
use Rattle.csi_reports.proofs.OneOrder.{one-order, same-members}

-- ---- what a place tells

-- the test of two texts, byte by byte, holds exactly where neither comes before the other; then the same of places
text-ties : (a b : List ℕ) → pointwise nat_eq a b ≡ eq_by_cmp (slice_cmp nat_cmp) a b
text-ties = lists_ties nat_cmp unsigned_ties

-- the test of two places holds exactly where neither comes before the other
places-ties : (a b : List (List ℕ)) → pointwise (pointwise nat_eq) a b ≡ eq_by_cmp place_order a b
places-ties = lists_ties (slice_cmp nat_cmp) text-ties

-- places that tie in the order are equal
pub one-place : (a b : List (List ℕ)) → place_order a b ≡ Equal → a ≡ b
one-place a b e = (pointwise_decides bytes_decides a b).0 (places-ties a b ∙ ap is_eq e)

-- flags that have the same number are equal
one-flag : (a b : Bool) → flag_number a ≡ flag_number b → a ≡ b
one-flag true true e = refl
one-flag true false e = cc
one-flag false true e = cc
one-flag false false e = refl

-- two attached things at one place have the same entry; below the same of staged and of published ones
attached-told : (a b : Holding) → attached_place a ≡ attached_place b → attached_entry a ≡ attached_entry b
attached-told a b e =
    let id : a.volume ≡ b.volume = ap (λ p. get_or (get_or p 0 []) 0 0) e in
    let node : a.node ≡ b.node = ap (λ p. get_or p 1 []) e in
    let mode = ap (λ p. get_or (get_or p 2 []) 0 0) e in
    let flag = one-flag a.readonly b.readonly (ap (λ p. get_or (get_or p 2 []) 1 0) e) in
    rw (id, node, mode, flag) refl

-- two staged volumes at one place have the same entry
staged-told : (a b : StagedAt) → staged_place a ≡ staged_place b → staged_entry a ≡ staged_entry b
staged-told a b e =
    let id : a.id ≡ b.id = ap (λ p. get_or (get_or p 0 []) 0 0) e in
    let node : a.node ≡ b.node = ap (λ p. get_or p 1 []) e in
    let mode = ap (λ p. get_or (get_or p 2 []) 0 0) e in
    rw (id, node, mode) refl

-- two published volumes at one place have the same entry
published-told : (a b : PublishedAt) → published_place a ≡ published_place b → published_entry a ≡ published_entry b
published-told a b e =
    let id : a.id ≡ b.id = ap (λ p. get_or (get_or p 0 []) 0 0) e in
    let node : a.node ≡ b.node = ap (λ p. get_or p 1 []) e in
    let target : a.target ≡ b.target = ap (λ p. get_or p 2 []) e in
    let flag = one-flag a.readonly b.readonly (ap (λ p. get_or (get_or p 3 []) 0 0) e) in
    rw (id, node, target, flag) refl

-- ---- what is known

-- the thing of the first is before that of the second, by the order of things
abbrev ComesBefore : Thing × Known → Thing × Known → Type 0
ComesBefore a b = thing_order a.0 b.0 ≡ Less

-- nothing known comes before itself
not-before-itself : (x : Thing × Known) → ComesBefore x x → ⊥
not-before-itself x e = true≢false (sym (ap is_lt e) ∙ ap is_lt (tied_itself things-total x.0))

-- of two that are known, not each comes before the other
not-back : (x y : Thing × Known) → ComesBefore x y → ComesBefore y x → ⊥
not-back x y e f = true≢false (sym (ap is_lt e) ∙ ap is_lt (things-total.antisymm x.0 y.0) ∙ ap (λ o. is_lt (Rattle.std.specs.Ordering.ordering_reverse o)) f)

-- what is known of all things is listed in one way that is in order
one-list : (known : Thing → Known) (xs ys : List (Thing × Known)) → ListsKnown known xs → ListsKnown known ys → IsInOrder xs → IsInOrder ys → xs ≡ ys
one-list known xs ys first second up also =
    same-members ComesBefore not-before-itself not-back xs ys up also
    (λ e among. (second e.0 e.1).1 ((first e.0 e.1).0 among))
    (λ e among. (first e.0 e.1).1 ((second e.0 e.1).0 among))

-- ---- what an audit finds

-- of two answers that an audit of a world may give, both find something, or neither does
one-finding : (marks : Thing → Known) (world : World) (a b : Option Violation) → Finds marks world a → Finds marks world b → is_some a ≡ is_some b
one-finding marks world None None p q = refl
one-finding marks world None (Some violations.TwoNodes) p q = absurd (q p.0)
one-finding marks world None (Some violations.StagedUnattached) p q = absurd (q.1 p.1)
one-finding marks world None (Some violations.PublishedUnstaged) p q = absurd (q.2 p.2)
one-finding marks world None (Some violations.DeletedAttached) p q = absurd (q.3 p.3)
one-finding marks world None (Some violations.RecordedWrong) p q = absurd (q.4 p.4)
one-finding marks world (Some violations.TwoNodes) None p q = absurd (p q.0)
one-finding marks world (Some violations.StagedUnattached) None p q = absurd (p.1 q.1)
one-finding marks world (Some violations.PublishedUnstaged) None p q = absurd (p.2 q.2)
one-finding marks world (Some violations.DeletedAttached) None p q = absurd (p.3 q.3)
one-finding marks world (Some violations.RecordedWrong) None p q = absurd (p.4 q.4)
one-finding marks world (Some v) (Some w) p q = refl

-- a world that the plugins show

-- where the rows of each node show a state, the nodes have these states
states-of : (nodes : List NodeParts) → AllByRecursion ShowsAState nodes → (states : List NodeAt) × AreNodesShown nodes states
states-of [] all = ([], tt)
states-of (node ∷ nodes) all =
    let later = states-of nodes all.1 in
    ((record { id = node.id; state = all.0.0 }) ∷ later.0, (refl, all.0.1, later.1))

-- ---- the whole

-- a world whose plugins show a state each has one report
pub one-report : (world : WorldParts) → (state : ControllerState) × Shows world.controller state → AllByRecursion ShowsAState world.nodes → HasOneReport world
one-report world controller nodes a b first second =
    let states = states-of world.nodes nodes in
    let shown : World = record { config = world.config; frames = []; controller = controller.0; nodes = states.0; history = new_history [] } in
    let plugins : ArePlugins world.controller world.nodes shown = record { controller = controller.1; nodes = states.1 } in
    let g = first.gathered in
    let h = second.gathered in
    let p = first.of in
    let q = second.of in
    let are_attached : map attached_entry g.attached ≡ map attached_entry h.attached =
    one-order place_order order-total one-place attached_place attached_entry attached-told (attached_holdings (world.controller).rows) g.attached h.attached p.attached.moved p.attached.rising q.attached.moved q.attached.rising in
    let are_known : g.known ≡ h.known = one-list (orchestrator_view world.orchestrator).marks g.known h.known p.known q.known p.known_order q.known_order in
    let are_published : map published_entry g.published ≡ map published_entry h.published =
    one-order place_order order-total one-place published_place published_entry published-told (flat_map published_on world.nodes) g.published h.published p.published.moved p.published.rising q.published.moved q.published.rising in
    let are_staged : map staged_entry g.staged ≡ map staged_entry h.staged =
    one-order place_order order-total one-place staged_place staged_entry staged-told (flat_map staged_on world.nodes) g.staged h.staged p.staged.moved p.staged.rising q.staged.moved q.staged.rising in
    let are_found : is_some g.found ≡ is_some h.found = one-finding (orchestrator_view world.orchestrator).marks shown g.found h.found (p.found shown plugins) (q.found shown plugins) in
    let same : report_of world g ≡ report_of world h = rw (are_attached, are_known, are_published, are_staged, are_found) refl in
    first.written ∙ ap compact_text same ∙ sym second.written
