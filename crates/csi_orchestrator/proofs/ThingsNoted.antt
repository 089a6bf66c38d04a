-- What the rows note is what they know, each thing once.
use Rattle.csi_orchestrator.proofs.Words.{◌≡◌, ◌⊎◌, ℕ, List, [], ◌∷◌, ◌++◌, false, refl, sym, ◌∙◌, ap, subst, inl, inr}
use Rattle.csi_orchestrator.proofs.Words.{Option, Some, find, flat_map, IsAmong, EachTwo, same_text, TargetEntry}
use Rattle.csi_orchestrator.proofs.Words.{Thing, Exists, Attached, Staged, Published, Known, No, name_in}
use Rattle.csi_orchestrator.proofs.Words.{NodeEntryShown, RowShown, OrchestratorParts, row_of, node_entry_of, mark_in}
use Rattle.csi_orchestrator.proofs.Words.{mark_of, publication_known, Shows, AreTargetsApart, IsSoundRow, AreSoundRows}
use Rattle.csi_orchestrator.proofs.Words.{History, known, known_by_rows, noted, noted_of_target, noted_of_node}
use Rattle.csi_orchestrator.proofs.Words.{noted_of_row, noted_in, ListsKnown, node_of_thing, target_of_thing, arith}
use Rattle.csi_orchestrator.proofs.Lemmas.{false≢true, same_Some, each_of, all_of, among-append, among-find}
use Rattle.csi_orchestrator.proofs.Lemmas.{among-right, among-joined, among-flat, in-flat, find-passes, two-joined}
use Rattle.csi_orchestrator.proofs.Lemmas.{two-flat, same_text-tells}
use Rattle.csi_orchestrator.proofs.JoinedLists.{own-entry}

-- the entries are of two things
abbrev pub AreTwoThings : Thing × Known → Thing × Known → Type 0
AreTwoThings a b = a.0 ≡ b.0 → ⊥

-- of its own things, the entries have those that aren't read as No, with what is read of them, each once, and nothing else
pub record Lists (own : Thing → Type 0) (read : Thing → Known) (entries : List (Thing × Known)) : Type 0 where
  pub told : (entry : Thing × Known) → IsAmong entry entries → own entry.0 × (read entry.0 ≡ entry.1) × (entry.1 ≡ No → ⊥)
  pub lists : (thing : Thing) (mark : Known) → own thing → read thing ≡ mark → (mark ≡ No → ⊥) → IsAmong (thing, mark) entries
  pub once : EachTwo AreTwoThings entries

-- what is noted of one thing
one : (read : Thing → Known) (thing : Thing) (mark : Known) → read thing ≡ mark → Lists (λ t. t ≡ thing) read (noted thing mark)
one read thing mark is = grind arith

-- lists of different things, joined
joined : (own other : Thing → Type 0) (read : Thing → Known) (xs ys : List (Thing × Known)) → Lists own read xs → Lists other read ys → ((t : Thing) → own t → other t → ⊥)
    → Lists (λ t. own t ⊎ other t) read (xs ++ ys)
joined own other read xs ys left right apart =
    record {
      told = λ entry among. there entry (among-joined xs ys entry among);
      lists = λ t m owns e f. here t m owns e f;
      once = two-joined AreTwoThings xs ys left.once right.once (λ x y in_left in_right same. apart x.0 (left.told x in_left).0 (subst other (sym same) (right.told y in_right).0));
    }
  where
    there : (entry : Thing × Known) → IsAmong entry xs ⊎ IsAmong entry ys → (own entry.0 ⊎ other entry.0) × (read entry.0 ≡ entry.1) × (entry.1 ≡ No → ⊥)
    there entry (inl among) = let is = left.told entry among in (inl is.0, is.1, is.2)
    there entry (inr among) = let is = right.told entry among in (inr is.0, is.1, is.2)

    here : (t : Thing) (m : Known) → own t ⊎ other t → read t ≡ m → (m ≡ No → ⊥) → IsAmong (t, m) (xs ++ ys)
    here t m (inl owns) e f = among-append xs ys (t, m) (left.lists t m owns e f)
    here t m (inr owns) e f = among-right xs ys (t, m) (right.lists t m owns e f)

-- what is so of any two is so of any two of a list
two-among : {X : Type 0} (R S : X → X → Type 0) (xs : List X) → ((a b : X) → IsAmong a xs → IsAmong b xs → R a b → S a b) → EachTwo R xs → EachTwo S xs
two-among R S [] f two = tt
two-among R S (x ∷ xs) f two = (
  all_of (S x) xs (λ y among. f x y (inl refl) (inr among) (each_of (R x) xs y two.0 among)),
  two-among R S xs (λ a b in_a in_b. f a b (inr in_a) (inr in_b)) two.1,
)

-- a list for each entry of others that a text tells apart: the name, the node or the target of its things
each : {X : Type 0} (text : Thing → Option (List ℕ)) (key : X → List ℕ) (own : X → Thing → Type 0) (read : Thing → Known) (f : X → List (Thing × Known)) (xs : List X)
    → EachTwo (λ a b. same_text (key a) (key b) ≡ false) xs → ((x : X) (t : Thing) → own x t → text t ≡ Some (key x)) → ((x : X) → IsAmong x xs → Lists (own x) read (f x))
    → Lists (λ t. (x : X) × IsAmong x xs × own x t) read (flat_map f xs)
each text key own read f xs apart of all =
    record {
      told = λ entry among.
          let found = among-flat f xs entry among in
          let is = (all found.0 found.1).told entry found.2 in
          ((found.0, found.1, is.0), is.1, is.2);
      lists = λ t m owns e g. in-flat f xs owns.0 (t, m) owns.1 ((all owns.0 owns.1).lists t m owns.2 e g);
      once =
          two-flat AreTwoThings f xs (all_of (λ x. EachTwo AreTwoThings (f x)) xs (λ x among. (all x among).once))
          (two-among (λ a b. same_text (key a) (key b) ≡ false) (λ a b. (x y : Thing × Known) → IsAmong x (f a) → IsAmong y (f b) → AreTwoThings x y) xs
          (λ a b in_a in_b differ x y here there same.
          let left = of a x.0 ((all a in_a).told x here).0 in
          let right = of b y.0 ((all b in_b).told y there).0 in
          false≢true (sym differ ∙ (same_text-tells (key a) (key b)).1 (same_Some (key a) (key b) (sym left ∙ ap text same ∙ right)))) apart);
    }

-- ---- a node's targets, its entry, a row and all rows

-- the thing is a publication at a target of the node's entry
abbrev OfTargets : RowShown → NodeEntryShown → Thing → Type 0
OfTargets row node_entry thing = (target_entry : TargetEntry) × IsAmong target_entry node_entry.target_entries × (thing ≡ Published row.name node_entry.node target_entry.target)

-- the thing is the attachment, the staging or a publication at the entry's node
abbrev OfNode : RowShown → NodeEntryShown → Thing → Type 0
OfNode row node_entry thing = ((thing ≡ Attached row.name node_entry.node) ⊎ (thing ≡ Staged row.name node_entry.node)) ⊎ OfTargets row node_entry thing

-- the thing is the existence of the row's volume, or is one of a node's entry of the row
abbrev OfRow : RowShown → Thing → Type 0
OfRow row thing = (thing ≡ Exists row.name) ⊎ ((node_entry : NodeEntryShown) × IsAmong node_entry row.node_entries × OfNode row node_entry thing)

-- the thing is one of some row
abbrev pub OfRows : List RowShown → Thing → Type 0
OfRows rows thing = (row : RowShown) × IsAmong row rows × OfRow row thing

-- a thing of a node's entry is at that node
node-of : (row : RowShown) (node_entry : NodeEntryShown) (thing : Thing) → OfNode row node_entry thing → node_of_thing thing ≡ Some node_entry.node
node-of row node_entry thing h = grind arith

-- a thing of a row is of its name
name-of : (row : RowShown) (thing : Thing) → OfRow row thing → Some (name_in thing) ≡ Some row.name
name-of row thing h = grind arith

-- what a node's entry notes is what the rows know of its things, each thing once
node-lists : (rows : List RowShown) (row : RowShown) (node_entry : NodeEntryShown) → row_of rows row.name ≡ Some row → node_entry_of row node_entry.node ≡ Some node_entry → AreTargetsApart node_entry
    → Lists (OfNode row node_entry) (known_by_rows rows) (noted_of_node row.name node_entry)
node-lists rows row node_entry in_rows in_row apart =
    joined _ (OfTargets row node_entry) (known_by_rows rows) (attached ++ staged) (flat_map (noted_of_target row.name node_entry.node) node_entry.target_entries)
    (joined (λ t. t ≡ Attached row.name node_entry.node) (λ t. t ≡ Staged row.name node_entry.node) (known_by_rows rows) attached staged
    (one (known_by_rows rows) (Attached row.name node_entry.node) node_entry.attached (here (Attached row.name node_entry.node) refl ∙ ap (mark_in (λ (p : NodeEntryShown). p.attached)) in_row))
    (one (known_by_rows rows) (Staged row.name node_entry.node) node_entry.staged (here (Staged row.name node_entry.node) refl ∙ ap (mark_in (λ (p : NodeEntryShown). p.staged)) in_row)) (λ t is other. cc))
    (each target_of_thing (λ (a : TargetEntry). a.target) (λ (a : TargetEntry) t. t ≡ Published row.name node_entry.node a.target) (known_by_rows rows) (noted_of_target row.name node_entry.node) node_entry.target_entries apart (λ a t is. ap target_of_thing is)
    (λ a among.
    one (known_by_rows rows) (Published row.name node_entry.node a.target) a.published
    (here (Published row.name node_entry.node a.target) refl ∙ ap (mark_in (publication_known a.target)) in_row ∙ ap (mark_in (λ (a : TargetEntry). a.published)) (own-entry (λ (a : TargetEntry). a.target) node_entry.target_entries a apart among))))
    disjoint
  where
    attached : List (Thing × Known)
    attached = noted (Attached row.name node_entry.node) node_entry.attached

    staged : List (Thing × Known)
    staged = noted (Staged row.name node_entry.node) node_entry.staged

    here : (thing : Thing) → name_in thing ≡ row.name → known_by_rows rows thing ≡ mark_of thing row
    here thing own = ap (mark_in (mark_of thing)) (ap (row_of rows) own ∙ in_rows)

    disjoint : (t : Thing) → (t ≡ Attached row.name node_entry.node) ⊎ (t ≡ Staged row.name node_entry.node) → OfTargets row node_entry t → ⊥
    disjoint t (inl is) target_entry = let same = sym is ∙ target_entry.2 in cc
    disjoint t (inr is) target_entry = let same = sym is ∙ target_entry.2 in cc

-- what a row notes is what the rows know of its things, each thing once
row-lists : (rows : List RowShown) (row : RowShown) → row_of rows row.name ≡ Some row → IsSoundRow row → Lists (OfRow row) (known_by_rows rows) (noted_of_row row)
row-lists rows row in_rows kept =
    joined (λ t. t ≡ Exists row.name) _ (known_by_rows rows) (noted (Exists row.name) row.exists) (flat_map (noted_of_node row.name) row.node_entries)
    (one (known_by_rows rows) (Exists row.name) row.exists (ap (mark_in (mark_of (Exists row.name))) in_rows))
    (each node_of_thing (λ (p : NodeEntryShown). p.node) (OfNode row) (known_by_rows rows) (noted_of_node row.name) row.node_entries kept.nodes (node-of row)
    (λ node_entry among. node-lists rows row node_entry in_rows (own-entry (λ (p : NodeEntryShown). p.node) row.node_entries node_entry kept.nodes among) (each_of AreTargetsApart row.node_entries node_entry kept.targets among)))
    (λ t is other. let node = sym (ap node_of_thing is) ∙ node-of row other.0 t other.2 in cc)

-- what kept rows note is what they know, each thing once
pub rows-list : (rows : List RowShown) → AreSoundRows rows → Lists (OfRows rows) (known_by_rows rows) (noted_in rows)
rows-list rows kept =
    each (λ t. Some (name_in t)) (λ (r : RowShown). r.name) OfRow (known_by_rows rows) noted_of_row rows kept.names name-of
    (λ row among. row-lists rows row (own-entry (λ (r : RowShown). r.name) rows row kept.names among) (each_of IsSoundRow rows row kept.each among))

-- ---- a thing that isn't known as No is of some row

-- the entry of a text, where what is read of it isn't No
entry-of : {X : Type 0} (key : X → List ℕ) (read : X → Known) (text : List ℕ) (xs : List X) → (mark_in read (find (λ x. same_text (key x) text) xs) ≡ No → ⊥)
    → (x : X) × IsAmong x xs × (text ≡ key x) × (read x ≡ No → ⊥)
entry-of key read text xs other = grind (arith, among-find, same_text-tells, find-passes)

-- a thing that the rows don't know as No is of one of them
pub known-of : (rows : List RowShown) (thing : Thing) → (known_by_rows rows thing ≡ No → ⊥) → OfRows rows thing
known-of rows thing other = let row = entry-of (λ (r : RowShown). r.name) (mark_of thing) (name_in thing) rows other in (row.0, row.1, by row.0 thing row.2 row.3)
  where
    by : (row : RowShown) (thing : Thing) → name_in thing ≡ row.name → (mark_of thing row ≡ No → ⊥) → OfRow row thing
    by row (Exists name) same f = inl (ap Exists same)
    by row (Attached name node) same f =
        let node_entry = entry-of (λ (p : NodeEntryShown). p.node) (λ p. p.attached) node row.node_entries f in
        inr (node_entry.0, node_entry.1, inl (inl (λ i. Attached (same i) (node_entry.2 i))))
    by row (Staged name node) same f =
        let node_entry = entry-of (λ (p : NodeEntryShown). p.node) (λ p. p.staged) node row.node_entries f in
        inr (node_entry.0, node_entry.1, inl (inr (λ i. Staged (same i) (node_entry.2 i))))
    by row (Published name node target) same f =
        let node_entry = entry-of (λ (p : NodeEntryShown). p.node) (publication_known target) node row.node_entries f in
        let target_entry = entry-of (λ (a : TargetEntry). a.target) (λ a. a.published) target node_entry.0.target_entries node_entry.3 in
        inr (node_entry.0, node_entry.1, inr (target_entry.0, target_entry.1, λ i. Published (same i) (node_entry.2 i) (target_entry.2 i)))

-- a list of what rows know, by a history that they agree with
pub lists-told : (parts : OrchestratorParts) (history : History) (things : List (Thing × Known)) → Shows parts history → ListsKnown (known_by_rows parts.rows) things → ListsKnown (known history) things
lists-told parts history things agrees lists thing mark = (
  λ among. let is = (lists thing mark).0 among in (sym (agrees.same_marks thing) ∙ is.0, is.1),
  λ is. (lists thing mark).1 (agrees.same_marks thing ∙ is.0, is.1),
)
