-- What the first item of some bytes is, as `next` finds it.
use Rattle.std.specs.Prelude.{ℕ, Bool, List, drop}
use Rattle.ph_http.specs.Talk.{Gives}
use Rattle.ph_http.specs.declared.talk.Found.{Found}

-- a talk that stands so gives this, and stands then as it says
abbrev pub IsFound : List ℕ → Bool → Bool → Found → Type 0
IsFound bytes ended continued found =
    Gives (record { unread = bytes; ended = ended; continued = continued }) found.next
    (record { unread = drop found.taken bytes; ended = ended; continued = found.continued })
