-- The document of an account.
use Rattle.std.specs.Prelude.{ℕ, true, List, [], ◌∷◌, ◌++◌, codes}
use Rattle.ph_base.specs.declared.ids.Kind.TheVariants as kind
use Rattle.ph_items.specs.declared.accounts.Account.{Account}
use Rattle.ph_items.specs.Words.{account_type_text}
use Rattle.ph_json.specs.declared.doc.Doc.{Doc}
use Rattle.ph_json.specs.declared.doc.Doc.TheVariants.{Truth, Text, Object}
use Rattle.ph_json.specs.Values.{text_or_null}
use Rattle.ph_views.specs.Values.{moment_doc, printed_id, metadata_doc}

-- whose it is
unfoldable pub holder_members : Account → List (List ℕ × Doc)
holder_members account =
    (codes "email", text_or_null account.email)
    ∷ (codes "metadata", metadata_doc account.metadata)
    ∷ (codes "type", Text (account_type_text account.sort))
    ∷ []

-- which one, and what it may do: every account may charge and be paid out
unfoldable pub standing_members : ℕ → ℕ → List (List ℕ × Doc)
standing_members created object =
    (codes "charges_enabled", Truth true)
    ∷ (codes "created", moment_doc created)
    ∷ (codes "id", Text (printed_id kind.Account object))
    ∷ (codes "object", Text (codes "account"))
    ∷ (codes "payouts_enabled", Truth true)
    ∷ []

-- the document of a version of an account that was created at a moment and has a number
unfoldable pub account_doc : ℕ → ℕ → Account → Doc
account_doc created object account = Object (holder_members account ++ standing_members created object)
