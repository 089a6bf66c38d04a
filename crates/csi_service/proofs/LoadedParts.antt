-- Parts that were loaded are those that a store has.
use Rattle.std.proofs.Common.{◌≡◌, ℕ, List, [], ◌∷◌, map, Some, None, refl, ap}
use Rattle.std.specs.Prelude.{Option, option_map}
use Rattle.std.specs.Global.{Vec}
use Rattle.csi_stores.specs.declared.part.Part.{Part}
use Rattle.csi_stores.specs.Public.Part.{stored_in, all_stored_in, value_in, StoredPart, StoredChange, put_all, value_bytes, part_change}

-- a value that is there has the bytes that a part has of it
value-is : (value : Option (Vec ℕ)) (bytes : List ℕ) → option_map value_bytes value ≡ Some bytes → value_in value ≡ bytes
value-is (Some v) bytes e = cc
value-is None bytes e = absurd cc

-- parts whose changes put a content in are that content
pub all-put : (parts : List Part) (content : List StoredPart) → map part_change parts ≡ put_all content → all_stored_in parts ≡ content
all-put [] [] e = refl
all-put [] (c ∷ cs) e = absurd cc
all-put (p ∷ ps) [] e = absurd cc
all-put (p ∷ ps) (c ∷ cs) e =
    let one : part_change p ≡ record { key = c.key; value = Some c.value } = cc in
    let rest : map part_change ps ≡ put_all cs = cc in
    let keys : p.key ≡ c.key = ap (λ (x : StoredChange). x.key) one in
    let values : value_in p.value ≡ c.value = value-is p.value c.value (ap (λ (x : StoredChange). x.value) one) in
    let first : stored_in p ≡ c = both p c keys values in
    let others = all-put ps cs rest in
    λ i. first i ∷ others i
  where
    both : (x : Part) (y : StoredPart) → x.key ≡ y.key → value_in x.value ≡ y.value → stored_in x ≡ y
    both x y keys values = λ i. record { key = keys i; value = values i }
