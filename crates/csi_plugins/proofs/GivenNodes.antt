-- The nodes' stores are read, one after another.
use Rattle.std.proofs.Common.{◌≡◌, ◌∙◌, ◌<◌, ◌≤◌, ◌+◌, refl, sym, ap, subst, ℕ, zero, suc, List, [], ◌∷◌, ◌++◌, length, map, set, get_or, arith}
use Rattle.std.specs.Prelude.{slice_get, Some}
use Rattle.std.specs.List.{AllZip}
use Rattle.std.proofs.lemmas.List.{map_push}
use Rattle.std.proofs.lemmas.Option.{slice_get-get_or}
use Rattle.csi_node.specs.Model.Record.{NodeParts}
use Rattle.csi_stores.specs.Public.Part.{StoredChange}
use Rattle.csi_stores.specs.Public.Stores.{Store}
use Rattle.csi_service.specs.Public.Renewed.{any_node_records}
use Rattle.csi_streams.specs.declared.ending.Ending.{Ending}
use Rattle.csi_plugins.specs.Public.Recovering.{IsUnchanged}
use Rattle.csi_plugins.specs.Private.Recovering.{ReadStore, HasRead, HaveRead, IsNotRead, IsOneNotRead}
use Rattle.csi_plugins.proofs.GivenStores.{unchanged-same}
use Rattle.csi_plugins.proofs.Walked.{Walked, walked-none, walked-here, walked-next, walked-olds, walked-news, walked-zipped}

module _ {K : Type 0} (seen : K → Store) where
  -- what was read of an entry
  abbrev pub Read : ReadStore K → Type 0
  Read s = HasRead any_node_records (seen s.before) (seen s.after) s.kept s.renewal

  -- the first ones were read
  pub record HaveReadSome (olds news : List K) (count : ℕ) (kepts : List NodeParts) (renewals : List (List StoredChange)) : Type 0 where
    pub stores : List (ReadStore K)
    pub walked : Walked (λ (s : ReadStore K). s.before) (λ (s : ReadStore K). s.after) Read olds news count stores
    pub kepts_are : map (λ (s : ReadStore K). s.kept) stores ≡ kepts
    pub renewals_are : map (λ (s : ReadStore K). s.renewal) stores ≡ renewals

  -- none yet
  pub read-none : (olds : List K) → HaveReadSome olds olds 0 [] []
  read-none olds = record { stores = []; walked = walked-none (λ (s : ReadStore K). s.before) (λ (s : ReadStore K). s.after) Read olds; kepts_are = refl; renewals_are = refl }

  -- one more
  pub read-next : (olds news : List K) (count : ℕ) (kepts : List NodeParts) (renewals : List (List StoredChange)) → HaveReadSome olds news count kepts renewals → (d now : K) (kept : NodeParts) (renewal : List StoredChange) (more : List NodeParts)
      (more_renewals : List (List StoredChange)) → count < length olds → d ≡ get_or news count d → HasRead any_node_records (seen d) (seen now) kept renewal → more ≡ kepts ++ kept ∷ [] → more_renewals ≡ renewals ++ renewal ∷ []
      → HaveReadSome olds (set news count now) (count + 1) more more_renewals
  read-next olds news count kepts renewals some d now kept renewal more more_renewals inside here read is also =
      let entry : ReadStore K = record { before = d; after = now; kept = kept; renewal = renewal } in
      record {
        stores = some.stores ++ entry ∷ [];
        walked = walked-next (λ (s : ReadStore K). s.before) (λ (s : ReadStore K). s.after) Read olds news count some.stores some.walked d entry inside
            (here ∙ walked-here (λ (s : ReadStore K). s.before) (λ (s : ReadStore K). s.after) Read olds news count some.stores some.walked d inside) read;
        kepts_are = map_push (λ (s : ReadStore K). s.kept) some.stores entry ∙ ap (λ (ks : List NodeParts). ks ++ kept ∷ []) some.kepts_are ∙ sym is;
        renewals_are = map_push (λ (s : ReadStore K). s.renewal) some.stores entry ∙ ap (λ (rs : List (List StoredChange)). rs ++ renewal ∷ []) some.renewals_are ∙ sym also;
      }

  -- all of them
  pub read-all : (olds news : List K) (count : ℕ) (kepts : List NodeParts) (renewals : List (List StoredChange)) → HaveReadSome olds news count kepts renewals → length olds ≤ count → HaveRead seen olds news kepts renewals
  read-all olds news count kepts renewals some end = record {
    stores = some.stores;
    olds_are = walked-olds (λ (s : ReadStore K). s.before) (λ (s : ReadStore K). s.after) Read olds news count some.stores some.walked end;
    news_are = walked-news (λ (s : ReadStore K). s.before) (λ (s : ReadStore K). s.after) Read olds news count some.stores some.walked end;
    kepts_are = some.kepts_are;
    renewals_are = some.renewals_are;
    each = some.walked.each;
  }

  -- none was changed
  pub read-unchanged : (olds news : List K) (count : ℕ) (kepts : List NodeParts) (renewals : List (List StoredChange)) → HaveReadSome olds news count kepts renewals → AllZip (λ (old now : K). IsUnchanged (seen old) (seen now)) olds news
  read-unchanged olds news count kepts renewals some =
      walked-zipped (λ (s : ReadStore K). s.before) (λ (s : ReadStore K). s.after) Read olds (λ (old now : K). IsUnchanged (seen old) (seen now)) (λ k. unchanged-same (seen k)) (λ s read. read.unchanged) news count some.stores some.walked

  -- nor where one is refused
  pub zip-set : (R : K → K → Type 0) → (olds news : List K) (i : ℕ) (d now : K) → AllZip R olds news → i < length olds → R (get_or olds i d) now → AllZip R olds (set news i now)
  zip-set R [] news i d now zip inside here = absurd (omega (arith, inside))
  zip-set R (o ∷ olds) [] i d now zip inside here = absurd zip
  zip-set R (o ∷ olds) (n ∷ news) zero d now zip inside here = (here, zip.1)
  zip-set R (o ∷ olds) (n ∷ news) (suc i) d now zip inside here = (zip.0, zip-set R olds news i d now zip.1 (omega (arith, inside)) here)

  pub stopped-unchanged : (olds news : List K) (count : ℕ) (kepts : List NodeParts) (renewals : List (List StoredChange)) → HaveReadSome olds news count kepts renewals → (d now : K) → count < length olds → d ≡ get_or news count d
      → IsUnchanged (seen d) (seen now) → AllZip (λ (old now : K). IsUnchanged (seen old) (seen now)) olds (set news count now)
  stopped-unchanged olds news count kepts renewals some d now inside here same =
      zip-set (λ (old now : K). IsUnchanged (seen old) (seen now)) olds news count d now (read-unchanged olds news count kepts renewals some) inside
      (subst (λ (k : K). IsUnchanged (seen k) (seen now)) (here ∙ walked-here (λ (s : ReadStore K). s.before) (λ (s : ReadStore K). s.after) Read olds news count some.stores some.walked d inside) same)

  -- the one that is refused
  get-set : (ks : List K) (i : ℕ) (now : K) → i < length ks → slice_get (set ks i now) i ≡ Some now
  get-set [] i now inside = absurd (omega (arith, inside))
  get-set (k ∷ ks) zero now inside = refl
  get-set (k ∷ ks) (suc i) now inside = get-set ks i now (omega (arith, inside))

  pub stopped-at : (olds news : List K) (count : ℕ) (kepts : List NodeParts) (renewals : List (List StoredChange)) → HaveReadSome olds news count kepts renewals → (d now : K) (ending : Ending) → count < length olds → count < length news
      → d ≡ get_or news count d → IsNotRead any_node_records (seen d) (seen now) (count + 2) ending → IsOneNotRead seen olds (set news count now) ending
  stopped-at olds news count kepts renewals some d now ending inside inside_too here why = record {
    index = count;
    old = d;
    now = now;
    there = slice_get-get_or olds count d inside ∙ ap Some (sym (here ∙ walked-here (λ (s : ReadStore K). s.before) (λ (s : ReadStore K). s.after) Read olds news count some.stores some.walked d inside));
    now_there = get-set news count now inside_too;
    why = why;
  }
