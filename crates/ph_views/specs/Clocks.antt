-- The document of the clock.
use Rattle.std.specs.Prelude.{ℕ, [], ◌∷◌, codes}
use Rattle.ph_json.specs.declared.doc.Doc.{Doc}
use Rattle.ph_json.specs.declared.doc.Doc.TheVariants.{Text, Object}
use Rattle.ph_views.specs.Values.{moment_doc}

-- the document of the clock that shows a moment
abbrev pub clock_doc : ℕ → Doc
clock_doc now = Object ((codes "now", moment_doc now) ∷ (codes "object", Text (codes "payhost.clock")) ∷ [])
