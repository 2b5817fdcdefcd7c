-- Where the signatures of a request stand in it.
use Rattle.std.proofs.Common.{◌≡◌, ℕ, List, ◌++◌, sym, ap, ◌∙◌, append_assoc}

-- the line of the signatures, cut into its name, its value and its end, among the other lines
pub carried :
    (target plain name value end lengths body : List ℕ) →
    target ++ plain ++ (name ++ value ++ end) ++ lengths ++ body
    ≡ target ++ plain ++ name ++ value ++ end ++ lengths ++ body
carried target plain name value end lengths body =
    let before = target ++ plain in
    ap (λ (front : List ℕ). front ++ lengths ++ body)
    (sym (append_assoc before (name ++ value) end)
    ∙ ap (λ (front : List ℕ). front ++ end) (sym (append_assoc before name value)))
