-- The body of an error.
use Rattle.std.specs.Prelude.{ℕ, List, [], ◌∷◌, ◌++◌, Option, option_map, codes}
use Rattle.ph_json.specs.declared.doc.Doc.{Doc}
use Rattle.ph_json.specs.declared.doc.Doc.TheVariants.{Text, Object}
use Rattle.ph_json.specs.Text.{text_of}
use Rattle.ph_json.specs.Values.{member_if}
use Rattle.ph_errors.specs.declared.api_error.ApiError.{ApiError}
use Rattle.ph_errors.specs.Names.{kind_name, code_name, decline_name}

-- why: the error's code, its decline code and its message
unfoldable pub reasons_of : ApiError → List (List ℕ × Doc)
reasons_of error =
    member_if (codes "code") (option_map (λ code. Text (code_name code)) error.code)
    ++ member_if (codes "decline_code") (option_map (λ decline. Text (decline_name decline)) error.decline)
    ++ (codes "message", Text error.message) ∷ []

-- of what: the parameter that it speaks of, the payment intent, and its type
unfoldable pub subjects_of : ApiError → Option Doc → List (List ℕ × Doc)
subjects_of error intent =
    member_if (codes "param") (option_map (λ param. Text param) error.param)
    ++ member_if (codes "payment_intent") intent
    ++ (codes "type", Text (kind_name error.kind)) ∷ []

-- the error as a document
abbrev pub object_of : ApiError → Option Doc → Doc
object_of error intent = Object (reasons_of error ++ subjects_of error intent)

-- the body of the reply: an object with the one key `error`
unfoldable pub body_of : ApiError → Option Doc → List ℕ
body_of error intent = text_of (Object ((codes "error", object_of error intent) ∷ []))
