-- Parts that are put in, and then those that they lack taken out, are all that is there.
use Rattle.std.proofs.Common.{◌≡◌, ◌∙◌, ap, refl, ℕ, List, [], ◌∷◌, ◌++◌, arith}
use Rattle.std.specs.Prelude.{not, is_some, ◌==◌, ◌&&◌}
use Rattle.std.specs.List.{list_any}
use Rattle.std.specs.Option.{option_or}
use Rattle.std.proofs.lemmas.Bool.Decides.{nat_tests}
use Rattle.csi_stores.specs.Public.Part.{StoredPart, put_all, take_all}
use Rattle.csi_stores.specs.Public.Content.{put_in, all_changed, AreRisingParts}
use Rattle.csi_stores.proofs.RisingChanges.{rising-all}
use Rattle.csi_service.specs.Private.Opening.{has_key, left_out}
use Rattle.csi_service.proofs.RisingParts.{part_at, none-below, same-parts, at-put, take-at}
use Rattle.csi_service.proofs.StayingRows.{all-append}

-- what is found under a key, once parts are put in
put-all : (key : ℕ) (news olds : List StoredPart) → AreRisingParts news → part_at key (all_changed (put_all news) olds) ≡ option_or (part_at key news) (part_at key olds)
put-all key [] olds rising = refl
put-all key (new ∷ news) olds rising = grind (arith, nat_tests, put-all key news (put_in new olds) rising.1, at-put key new olds, none-below new.key news rising.0)

-- a key is there where something is found under it
has-found : (key : ℕ) (parts : List StoredPart) → has_key key parts ≡ is_some (part_at key parts)
has-found key [] = refl
has-found key (part ∷ parts) = grind (arith, nat_tests, has-found key parts)

-- it is left out where something was there, and the new parts lack it
left-found : (key : ℕ) (olds news : List StoredPart) → list_any (λ (k : ℕ). k == key) (left_out olds news) ≡ (is_some (part_at key olds) && not (has_key key news))
left-found key [] news = refl
left-found key (old ∷ olds) news = grind (arith, nat_tests, left-found key olds news)

-- where keys rise, the new parts, put in, are all that is there, once those that they lack are taken out
pub all-renewed : (olds news : List StoredPart) → AreRisingParts olds → AreRisingParts news → all_changed (put_all news ++ take_all (left_out olds news)) olds ≡ news
all-renewed olds news rising rising_too =
    same-parts (all_changed (put_all news ++ take_all (left_out olds news)) olds) news (rising-all (put_all news ++ take_all (left_out olds news)) olds rising) rising_too
    (λ key. ap (part_at key) (all-append (put_all news) (take_all (left_out olds news)) olds)
    ∙ grind (arith, take-at key (left_out olds news) (all_changed (put_all news) olds), put-all key news olds rising_too, has-found key news, left-found key olds news))
