-- Texts that are UTF-8, and what keeps them so.
use Rattle.std.proofs.Common.{◌≡◌, ℕ, true, not, List, [], ◌∷◌, Option, None, Some, refl}
use Rattle.std.proofs.lemmas.Bool.{cond_both}
use Rattle.std.specs.Option.{option_or}
use Rattle.std.specs.Str.{is_utf8, bytes_eq}
use Rattle.ph_kinds.specs.declared.metadata.Meta.{Meta}
use Rattle.ph_kinds.specs.declared.metadata.Meta.TheVariants as meta
use Rattle.ph_kinds.specs.Kept.{named_texts, pair_texts}
use Rattle.ph_kinds.proofs.KeptLemmas.{and, first_text, pair_put}
use Rattle.ph_items.specs.declared.metadata_pairs.MetadataPair.{MetadataPair}
use Rattle.ph_items.specs.declared.payment_methods.PaymentMethod.{PaymentMethod}
use Rattle.ph_items.specs.Metadata.{without_pair}
use Rattle.ph_items.specs.Weights.{with_text, method_text, metadata_texts}
use Rattle.ph_items.specs.Weights.{AreUtf8}
use Rattle.ph_intents.specs.Metadata.{with_change, with_changes, merged_metadata}

-- a text in front that may be there, and the others
pub front_text : (text : Option (List ℕ)) (texts : List (List ℕ)) → AreUtf8 (with_text text texts)
    → AreUtf8 (with_text text []) × AreUtf8 texts
front_text None texts h = (refl, h)
front_text (Some text) texts h = let parts = first_text text texts h in (and parts.0 refl, parts.1)

pub with_front : (text : Option (List ℕ)) (texts : List (List ℕ)) → AreUtf8 (with_text text []) → AreUtf8 texts
    → AreUtf8 (with_text text texts)
with_front None texts h rest = rest
with_front (Some text) texts h rest = and (first_text text [] h).0 rest

-- of two that may be there, the first that is
pub either_text : (named kept : Option (List ℕ)) → AreUtf8 (with_text named []) → AreUtf8 (with_text kept [])
    → AreUtf8 (with_text (option_or named kept) [])
either_text None kept h k = k
either_text (Some text) kept h k = h

pub either_method : (named kept : Option PaymentMethod) → AreUtf8 (with_text (method_text named) [])
    → AreUtf8 (with_text (method_text kept) []) → AreUtf8 (with_text (method_text (option_or named kept)) [])
either_method None kept h k = k
either_method (Some method) kept h k = h

-- the texts of metadata with a pair taken away
pub pair_taken : (key : List ℕ) (pairs : List MetadataPair) → AreUtf8 (metadata_texts pairs)
    → AreUtf8 (metadata_texts (without_pair key pairs))
pair_taken key [] h = refl
pair_taken key (pair ∷ pairs) h =
    let front = first_text pair.key (pair.value ∷ metadata_texts pairs) h in
    let back = first_text pair.value (metadata_texts pairs) front.1 in
    let rest = pair_taken key pairs back.1 in
    cond_both (not (bytes_eq pair.key key)) (pair ∷ without_pair key pairs) (without_pair key pairs)
    (λ (left : List MetadataPair). AreUtf8 (metadata_texts left))
    (λ kept. and front.0 (and back.0 rest)) (λ gone. rest)

-- the texts of metadata with a key changed
change_made : (pairs : List MetadataPair) (key text : List ℕ) → is_utf8 key ≡ true → is_utf8 text ≡ true
    → AreUtf8 (metadata_texts pairs) → AreUtf8 (metadata_texts (with_change pairs key text))
change_made pairs key [] k t h = pair_taken key pairs h
change_made pairs key (c ∷ text) k t h = pair_put (record { key = key; value = c ∷ text }) pairs k t h

-- the texts of metadata with keys changed
pub changes_made : (pairs : List MetadataPair) (named : List (List ℕ × List ℕ)) → AreUtf8 (pair_texts named)
    → AreUtf8 (metadata_texts pairs) → AreUtf8 (metadata_texts (with_changes pairs named))
changes_made pairs [] h k = k
changes_made pairs (pair ∷ named) h k =
    let front = first_text pair.0 (pair.1 ∷ pair_texts named) h in
    let back = first_text pair.1 (pair_texts named) front.1 in
    changes_made (with_change pairs pair.0 pair.1) named back.1 (change_made pairs pair.0 pair.1 front.0 back.0 k)

-- the texts of the metadata that an update leaves
pub merged_kept : (named : Option Meta) (pairs : List MetadataPair) → AreUtf8 (named_texts named)
    → AreUtf8 (metadata_texts pairs) → AreUtf8 (metadata_texts (merged_metadata named pairs))
merged_kept None pairs h k = k
merged_kept (Some meta.Clear) pairs h k = refl
merged_kept (Some (meta.Set named)) pairs h k = changes_made pairs named h k
