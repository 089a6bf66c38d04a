-- How far items were answered: which are committed and their answers written, and which wait.
use Rattle.std.proofs.Common.{◌≡◌, ◌∙◌, sym, ap, subst, refl, inl, inr, ℕ, ◌+◌, ◌-◌, ◌^◌, min, cond, List, [], ◌∷◌, ◌++◌, length, map, arith, length-append, append_assoc}
use Rattle.std.specs.Prelude.{Option, Bool, count_by}
use Rattle.std.specs.List.{flat_map}
use Rattle.std.specs.Io.KnownBytes.{Appends}
use Rattle.std.proofs.KnownBytes.{Appends-nil, Appends-trans}
use Rattle.std.proofs.lemmas.List.{append-nil}
use Rattle.std.proofs.lemmas.List.Concat.{flat_map-append}
use Rattle.csi_stores.specs.declared.counted.Counted.{Counted}
use Rattle.csi_stores.specs.declared.part.Part.{Part}
use Rattle.csi_stores.specs.Public.Content.{all_changed}
use Rattle.csi_stores.specs.Public.Part.{StoredPart, StoredChange, part_change}
use Rattle.csi_stores.specs.declared.keep.KeepFault.{KeepFault}
use Rattle.csi_stores.specs.Public.Stores.{Store, FollowsStore, LeavesOnly, LeavesEither, IsContentRefusal}
use Rattle.csi_streams.specs.declared.waiting.AnswerFault.{AnswerFault}
use Rattle.csi_streams.specs.declared.waiting.Waiting.{Waiting}
use Rattle.csi_streams.specs.Public.Waiting.{Settling, changes_of, Settled, Settles, Refused, Unwritten, WaitsSame, EndsWaiting, StopsAt}
use Rattle.csi_streams.specs.Public.Answering.{AnswersEach, Adds, IsAnswered}
use Rattle.csi_streams.proofs.StoreCalls.{follows-same, follows-more, only-same, only-more, left-more, refusal-more, all-append}
use Rattle.csi_streams.proofs.GrowingAnswers.{answers-append, answers-push, count-push}

-- counts up to the greatest add up
capped-more : (a b c : ℕ) → a ≡ min b (2 ^ 64 - 1) → min (a + c) (2 ^ 64 - 1) ≡ min (b + c) (2 ^ 64 - 1)
capped-more a b c is = omega (arith, is)

-- what a group of changes makes is told by its parts
same-changes : (one other : List Part) (content : List StoredPart) → other ≡ one → all_changed (map part_change one) content ≡ all_changed (map part_change other) content
same-changes one other content same = ap (λ (ps : List Part). all_changed (map part_change ps) content) (sym same)

-- no item was answered yet
pub record IsFresh (waiting : Waiting) : Type 0 where
  pub out : waiting.out.items ≡ []
  pub parts : waiting.parts.items ≡ []
  pub items : waiting.items ≡ 0
  pub committed : waiting.committed ≡ 0
  pub answers : waiting.answers ≡ 0

module _ {C X Y K W : Type 0} (answers : C → X → Y → C → Type 0) (parts_of : C → List StoredPart) (bytes_of : Y → List ℕ) (is_there : Y → Bool) (store : K → Store) (contents : W → Option (List ℕ)) (begun : C) (first : Settling K W) where
  -- These items were answered, which led to this core: the first of them were committed and their answers written, and the others wait.
  pub record Came (items : List X) (core : C) (now : Settling K W) : Type 0 where
    pub earlier : List X
    pub group : List X
    pub are : items ≡ earlier ++ group
    pub given : List Y
    pub more : List Y
    pub mid : C
    pub runs : AnswersEach answers begun earlier given mid
    pub waits : AnswersEach answers mid group more core
    pub counted : now.own.answers ≡ min (count_by is_there (given ++ more)) (2 ^ 64 - 1)
    pub out : now.own.out.items ≡ flat_map bytes_of more
    pub changed : parts_of core ≡ all_changed (changes_of now.own) (parts_of mid)
    pub waiting : now.own.items ≡ min (length group) (2 ^ 64 - 1)
    pub committed : now.own.committed ≡ min (length earlier) (2 ^ 64 - 1)
    pub kept : LeavesOnly (store first.store) (store now.store) (parts_of begun) (parts_of mid)
    pub written : Appends (contents first.out.inner) (contents now.out.inner) (flat_map bytes_of given)
    pub follows : FollowsStore (store first.store) (store now.store)
    pub quiet : now.out.faults ≡ first.out.faults

  -- none were yet
  pub came-begun : IsFresh first.own → Came [] begun first
  came-begun fresh = record {
    earlier = [];
    group = [];
    are = refl;
    given = [];
    more = [];
    mid = begun;
    runs = refl;
    waits = refl;
    counted = fresh.answers;
    out = fresh.out;
    changed = same-changes [] first.own.parts.items (parts_of begun) fresh.parts;
    waiting = fresh.items;
    committed = fresh.committed;
    kept = only-same (store first.store) (parts_of begun);
    written = Appends-nil (contents first.out.inner);
    follows = follows-same (store first.store);
    quiet = refl;
  }

  -- what was written, and more of it
  written-more : (a b c : Option (List ℕ)) (earlier later : List Y) → Appends a b (flat_map bytes_of earlier) → Appends b c (flat_map bytes_of later) → Appends a c (flat_map bytes_of (earlier ++ later))
  written-more a b c earlier later one other = subst (Appends a c) (sym (flat_map-append bytes_of earlier later)) (Appends-trans a b c (flat_map bytes_of earlier) (flat_map bytes_of later) one other)

  -- all that waited was settled
  came-settled : (items : List X) (core : C) (now next : Settling K W) → Came items core now → Settled store contents now next → Came items core next
  came-settled items core now next p s = record {
    earlier = p.earlier ++ p.group;
    group = [];
    are = p.are ∙ sym (append-nil (p.earlier ++ p.group));
    given = p.given ++ p.more;
    more = [];
    mid = core;
    runs = answers-append answers begun p.earlier p.given p.mid p.group p.more core p.runs p.waits;
    waits = refl;
    counted = s.answers ∙ p.counted ∙ ap (λ (ys : List Y). min (count_by is_there ys) (2 ^ 64 - 1)) (sym (append-nil (p.given ++ p.more)));
    out = s.out;
    changed = same-changes [] next.own.parts.items (parts_of core) s.parts;
    waiting = s.none;
    committed = omega (arith, s.committed, p.committed, p.waiting, length-append p.earlier p.group);
    kept =
        only-more (store first.store) (store now.store) (store next.store) (parts_of begun) (parts_of p.mid) (parts_of core) s.follows p.kept
        (subst (LeavesOnly (store now.store) (store next.store) (parts_of p.mid)) (sym p.changed) (s.kept (parts_of p.mid)));
    written = written-more (contents first.out.inner) (contents now.out.inner) (contents next.out.inner) p.given p.more p.written (subst (Appends (contents now.out.inner) (contents next.out.inner)) p.out s.written);
    follows = follows-more (store first.store) (store now.store) (store next.store) p.follows s.follows;
    quiet = s.quiet ∙ p.quiet;
  }

  -- or nothing was
  pub came-settles : (items : List X) (core : C) (now next : Settling K W) → Came items core now → Settles store contents now next → Came items core next
  came-settles items core now next p (inl same) = subst (Came items core) (sym same) p
  came-settles items core now next p (inr s) = came-settled items core now next p s

  -- the same waits, over the same store and writer
  pub came-same : (items : List X) (core : C) (now next : Settling K W) → Came items core now → WaitsSame now.own next.own → next.store ≡ now.store → next.out ≡ now.out → Came items core next
  came-same items core now next p w kept written = record {
    earlier = p.earlier;
    group = p.group;
    are = p.are;
    given = p.given;
    more = p.more;
    mid = p.mid;
    runs = p.runs;
    waits = p.waits;
    counted = w.answers ∙ p.counted;
    out = w.out ∙ p.out;
    changed = p.changed ∙ same-changes now.own.parts.items next.own.parts.items (parts_of p.mid) w.parts;
    waiting = w.items ∙ p.waiting;
    committed = w.committed ∙ p.committed;
    kept = subst (λ (k : K). LeavesOnly (store first.store) (store k) (parts_of begun) (parts_of p.mid)) (sym kept) p.kept;
    written = subst (λ (o : Counted W). Appends (contents first.out.inner) (contents o.inner) (flat_map bytes_of p.given)) (sym written) p.written;
    follows = subst (λ (k : K). FollowsStore (store first.store) (store k)) (sym kept) p.follows;
    quiet = ap (λ (o : Counted W). o.faults) written ∙ p.quiet;
  }

  -- one item more was answered
  came-adds : (items : List X) (core : C) (now : Settling K W) (item : X) (core' : C) (next : Settling K W) → Came items core now
      → Adds answers parts_of bytes_of is_there core now.own item core' next.own → next.store ≡ now.store → next.out ≡ now.out → Came (items ++ item ∷ []) core' next
  came-adds items core now item core' next p a kept written = record {
    earlier = p.earlier;
    group = p.group ++ item ∷ [];
    are = ap (λ (xs : List X). xs ++ item ∷ []) p.are ∙ append_assoc p.earlier p.group (item ∷ []);
    given = p.given;
    more = p.more ++ a.answer ∷ [];
    mid = p.mid;
    runs = p.runs;
    waits = answers-push answers p.mid p.group p.more core item a.answer core' p.waits a.answered;
    counted =
        a.counted
        ∙ capped-more now.own.answers (count_by is_there (p.given ++ p.more)) (cond (is_there a.answer) 1 0) p.counted
        ∙ ap (λ (k : ℕ). min k (2 ^ 64 - 1)) (sym (count-push is_there (p.given ++ p.more) a.answer))
        ∙ ap (λ (ys : List Y). min (count_by is_there ys) (2 ^ 64 - 1)) (append_assoc p.given p.more (a.answer ∷ []));
    out =
        a.out
        ∙ ap (λ (bytes : List ℕ). bytes ++ bytes_of a.answer) p.out
        ∙ ap (λ (bytes : List ℕ). flat_map bytes_of p.more ++ bytes) (sym (append-nil (bytes_of a.answer)))
        ∙ sym (flat_map-append bytes_of p.more (a.answer ∷ []));
    changed =
        a.parts
        ∙ ap (all_changed a.changes) p.changed
        ∙ sym (all-append (changes_of now.own) a.changes (parts_of p.mid))
        ∙ ap (λ (changes : List StoredChange). all_changed changes (parts_of p.mid)) (sym a.changed);
    waiting = omega (arith, a.items, p.waiting, length-append p.group (item ∷ []));
    committed = a.committed ∙ p.committed;
    kept = subst (λ (k : K). LeavesOnly (store first.store) (store k) (parts_of begun) (parts_of p.mid)) (sym kept) p.kept;
    written = subst (λ (o : Counted W). Appends (contents first.out.inner) (contents o.inner) (flat_map bytes_of p.given)) (sym written) p.written;
    follows = subst (λ (k : K). FollowsStore (store first.store) (store k)) (sym kept) p.follows;
    quiet = ap (λ (o : Counted W). o.faults) written ∙ p.quiet;
  }

  pub came-answered : (items : List X) (core : C) (now : Settling K W) (item : X) (core' : C) (next : Settling K W) → Came items core now → IsAnswered answers parts_of bytes_of is_there store contents core now item core' next
      → Came (items ++ item ∷ []) core' next
  came-answered items core now item core' next p did = came-adds items core did.0 item core' next (came-settles items core now did.0 p did.1) did.2 did.3 did.4

  -- ---- where nothing waits

  -- these items were answered, committed and their answers written
  pub record Finished (items : List X) (core : C) (now : Settling K W) : Type 0 where
    pub given : List Y
    pub runs : AnswersEach answers begun items given core
    pub counted : now.own.answers ≡ min (count_by is_there given) (2 ^ 64 - 1)
    pub committed : now.own.committed ≡ min (length items) (2 ^ 64 - 1)
    pub kept : LeavesOnly (store first.store) (store now.store) (parts_of begun) (parts_of core)
    pub written : Appends (contents first.out.inner) (contents now.out.inner) (flat_map bytes_of given)
    pub follows : FollowsStore (store first.store) (store now.store)
    pub quiet : now.out.faults ≡ first.out.faults

  -- then there is no item, no answer, and no other core
  none-wait : (mid : C) (group : List X) (more : List Y) (core : C) → AnswersEach answers mid group more core → 0 ≡ min (length group) (2 ^ 64 - 1) → (group ≡ []) × (more ≡ []) × (core ≡ mid)
  none-wait mid [] [] core waits none = (refl, refl, waits)
  none-wait mid [] (y ∷ ys) core waits none = absurd waits
  none-wait mid (x ∷ xs) more core waits none = absurd (omega (arith, none))

  pub finished : (items : List X) (core : C) (now : Settling K W) → Came items core now → now.own.items ≡ 0 → Finished items core now
  finished items core now p none =
      let all = none-wait p.mid p.group p.more core p.waits (sym none ∙ p.waiting) in
      let are : items ≡ p.earlier = p.are ∙ ap (λ (xs : List X). p.earlier ++ xs) all.0 ∙ append-nil p.earlier in
      record {
        given = p.given;
        runs = subst (λ (c : C). AnswersEach answers begun items p.given c) (sym all.2) (subst (λ (xs : List X). AnswersEach answers begun xs p.given p.mid) (sym are) p.runs);
        counted = p.counted ∙ ap (λ (ys : List Y). min (count_by is_there ys) (2 ^ 64 - 1)) (ap (λ (ys : List Y). p.given ++ ys) all.1 ∙ append-nil p.given);
        committed = p.committed ∙ ap (λ (xs : List X). min (length xs) (2 ^ 64 - 1)) (sym are);
        kept = subst (λ (c : C). LeavesOnly (store first.store) (store now.store) (parts_of begun) (parts_of c)) (sym all.2) p.kept;
        written = p.written;
        follows = p.follows;
        quiet = p.quiet;
      }

  -- ---- where it stops

  -- so far it had come then
  pub came-stops : (items : List X) (core : C) (before now : Settling K W) (fault : AnswerFault) → Came items core before → StopsAt store contents before now fault
      → (two : Settling K W) × Came items core two × EndsWaiting store contents two now fault
  came-stops items core before now fault p s = (s.1, came-same items core s.0 s.1 (came-settles items core before s.0 p s.2) s.3 s.4 s.5, s.6)

  -- where what waited was refused, the store has the parts before it or after it
  pub refused-left : (items : List X) (core : C) (two now : Settling K W) (fault : KeepFault) (p : Came items core two) → Refused store two now fault
      → LeavesEither (store first.store) (store now.store) (parts_of begun) (parts_of p.mid) (parts_of core)
  refused-left items core two now fault p w =
      left-more (store first.store) (store two.store) (store now.store) (parts_of begun) (parts_of p.mid) (parts_of p.mid) (parts_of core) w.follows p.kept
      (subst (LeavesEither (store two.store) (store now.store) (parts_of p.mid) (parts_of p.mid)) (sym p.changed) (w.left (parts_of p.mid)))

  -- for a cause
  pub refused-cause : (items : List X) (core : C) (two now : Settling K W) (fault : KeepFault) (p : Came items core two) → Refused store two now fault
      → IsContentRefusal (store first.store) (store now.store) (parts_of begun) (parts_of core) fault
  refused-cause items core two now fault p w =
      refusal-more (store first.store) (store two.store) (store now.store) (parts_of begun) (parts_of p.mid) (parts_of core) fault p.follows w.follows p.kept
      (subst (λ (content : List StoredPart). IsContentRefusal (store two.store) (store now.store) (parts_of p.mid) content fault) (sym p.changed) (w.cause (parts_of p.mid)))

  -- and no answer to it is written
  pub refused-written : (items : List X) (core : C) (two now : Settling K W) (fault : KeepFault) (p : Came items core two) → Refused store two now fault → Appends (contents first.out.inner) (contents now.out.inner) (flat_map bytes_of p.given)
  refused-written items core two now fault p w = subst (λ (o : Counted W). Appends (contents first.out.inner) (contents o.inner) (flat_map bytes_of p.given)) (sym w.unwritten) p.written

  -- where its answers weren't written, it was committed
  pub unwritten-kept : (items : List X) (core : C) (two now : Settling K W) (p : Came items core two) → Unwritten store contents two now → LeavesOnly (store first.store) (store now.store) (parts_of begun) (parts_of core)
  unwritten-kept items core two now p w =
      only-more (store first.store) (store two.store) (store now.store) (parts_of begun) (parts_of p.mid) (parts_of core) w.follows p.kept
      (subst (LeavesOnly (store two.store) (store now.store) (parts_of p.mid)) (sym p.changed) (w.kept (parts_of p.mid)))

  -- all of them answer it
  pub unwritten-runs : (items : List X) (core : C) (two : Settling K W) (p : Came items core two) → AnswersEach answers begun items (p.given ++ p.more) core
  unwritten-runs items core two p =
      subst (λ (xs : List X). AnswersEach answers begun xs (p.given ++ p.more) core) (sym p.are) (answers-append answers begun p.earlier p.given p.mid p.group p.more core p.runs p.waits)

  -- those of earlier groups are written, and a front of its own
  pub unwritten-written : (items : List X) (core : C) (two now : Settling K W) (p : Came items core two) (w : Unwritten store contents two now)
      → Appends (contents first.out.inner) (contents now.out.inner) (flat_map bytes_of p.given ++ w.written.front)
  unwritten-written items core two now p w =
      Appends-trans (contents first.out.inner) (contents two.out.inner) (contents now.out.inner) (flat_map bytes_of p.given) w.written.front p.written w.written.appended
