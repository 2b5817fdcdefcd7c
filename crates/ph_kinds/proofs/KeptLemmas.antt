-- The texts of the metadata that a new object keeps are UTF-8 where those of its call are.
use Rattle.std.proofs.Common.{◌≡◌, ℕ, Bool, true, false, ◌&&◌, List, [], ◌∷◌, Option, None, Some, refl}
use Rattle.std.proofs.lemmas.Bool.{false≢true}
use Rattle.std.specs.List.{list_all}
use Rattle.std.specs.Str.{is_utf8}
use Rattle.std.specs.declared.cmp.Ordering.{Ordering}
use Rattle.std.specs.declared.cmp.Ordering.TheVariants.{Less, Equal, Greater}
use Rattle.ph_kinds.specs.declared.metadata.Meta.{Meta}
use Rattle.ph_kinds.specs.declared.metadata.Meta.TheVariants as meta
use Rattle.ph_kinds.specs.Kept.{with_key, with_keys, first_metadata, named_texts, pair_texts}
use Rattle.ph_items.specs.declared.metadata_pairs.MetadataPair.{MetadataPair}
use Rattle.ph_items.specs.Metadata.{name_cmp, placed_pair, with_pair}
use Rattle.ph_items.specs.Weights.{metadata_texts}

-- the texts are UTF-8
abbrev AreUtf8 : List (List ℕ) → Type 0
AreUtf8 texts = list_all is_utf8 texts ≡ true

both : (a b : Bool) → (a && b) ≡ true → (a ≡ true) × (b ≡ true)
both true b h = (refl, h)
both false b h = absurd (false≢true h)

pub and : {a b : Bool} → a ≡ true → b ≡ true → (a && b) ≡ true
and p q = rw (p, q) refl

-- the first text, and the others
pub first_text : (text : List ℕ) (texts : List (List ℕ)) → AreUtf8 (text ∷ texts) → (is_utf8 text ≡ true) × AreUtf8 texts
first_text text texts h = both (is_utf8 text) (list_all is_utf8 texts) h

-- the texts of metadata with a pair put in
pub pair_put : (new : MetadataPair) (pairs : List MetadataPair) → is_utf8 new.key ≡ true → is_utf8 new.value ≡ true
    → AreUtf8 (metadata_texts pairs) → AreUtf8 (metadata_texts (with_pair new pairs))
pair_put new [] key value h = and key (and value refl)
pair_put new (pair ∷ pairs) key value h =
    let front = first_text pair.key (pair.value ∷ metadata_texts pairs) h in
    let back = first_text pair.value (metadata_texts pairs) front.1 in
    placed (name_cmp new.key pair.key) front.0 back.0 back.1 (pair_put new pairs key value back.1)
  where
    placed : (how : Ordering) → is_utf8 pair.key ≡ true → is_utf8 pair.value ≡ true → AreUtf8 (metadata_texts pairs)
        → AreUtf8 (metadata_texts (with_pair new pairs))
        → AreUtf8 (metadata_texts (placed_pair how new pair pairs (with_pair new pairs)))
    placed Less k v rest further = and key (and value (and k (and v rest)))
    placed Equal k v rest further = and key (and value rest)
    placed Greater k v rest further = and k (and v further)

-- the texts of metadata with keys set
keys_set : (pairs : List MetadataPair) (named : List (List ℕ × List ℕ)) → AreUtf8 (pair_texts named)
    → AreUtf8 (metadata_texts pairs) → AreUtf8 (metadata_texts (with_keys pairs named))
keys_set pairs [] h k = k
keys_set pairs (pair ∷ named) h k =
    let front = first_text pair.0 (pair.1 ∷ pair_texts named) h in
    let back = first_text pair.1 (pair_texts named) front.1 in
    keys_set (with_key pairs pair) named back.1
    (pair_put (record { key = pair.0; value = pair.1 }) pairs front.0 back.0 k)

-- the texts of the metadata of a new object
pub first_kept : (named : Option Meta) → list_all is_utf8 (named_texts named) ≡ true
    → list_all is_utf8 (metadata_texts (first_metadata named)) ≡ true
first_kept None h = refl
first_kept (Some meta.Clear) h = refl
first_kept (Some (meta.Set named)) h = keys_set [] named h refl
