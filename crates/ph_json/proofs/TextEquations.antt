-- The text of a document, level by level.
use Rattle.std.proofs.Common.{◌≡◌, ℕ, List, Bool, ℤ, map, rules}
use Rattle.ph_json.specs.declared.doc.Doc.{Doc, the_lemmas}
use Rattle.ph_json.specs.declared.doc.Doc.TheOpen.{Doc-F}
use Rattle.ph_json.specs.declared.doc.Doc.TheVariants.{Null, Truth, Number, Text, List as ListDoc, Object}
use Rattle.ph_json.specs.Text.{text_of, text_step, member_of}

pub text_of-Null : text_of Null ≡ text_step Doc-F.Null
text_of-Null = search (rules, the_lemmas)

pub text_of-Truth : (truth : Bool) → text_of (Truth truth) ≡ text_step (Doc-F.Truth truth)
text_of-Truth truth = search (rules, the_lemmas)

pub text_of-Number : (number : ℤ) → text_of (Number number) ≡ text_step (Doc-F.Number number)
text_of-Number number = search (rules, the_lemmas)

pub text_of-Text : (text : List ℕ) → text_of (Text text) ≡ text_step (Doc-F.Text text)
text_of-Text text = search (rules, the_lemmas)

pub text_of-List : (docs : List Doc) → text_of (ListDoc docs) ≡ text_step (Doc-F.List (map text_of docs))
text_of-List docs = search (rules, the_lemmas)

pub text_of-Object : (members : List (List ℕ × Doc)) → text_of (Object members) ≡ text_step (Doc-F.Object (map member_of members))
text_of-Object members = search (rules, the_lemmas)
