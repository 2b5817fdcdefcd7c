-- What is fed to a hash in turn.
use Rattle.std.proofs.Common.{◌≡◌, ℕ, List, [], ◌∷◌, ◌++◌, ◌∙◌}
use Rattle.std.proofs.lemmas.List.{append_assoc}

-- the key, the moment, the dot and the body
pub fed_in_turn : (key moment body : List ℕ) → ((key ++ moment) ++ 46 ∷ []) ++ body ≡ key ++ (moment ++ 46 ∷ body)
fed_in_turn key moment body =
    append_assoc (key ++ moment) (46 ∷ []) body ∙ append_assoc key moment (46 ∷ body)
