-- What a session begins and ends with, from its parts.
use Rattle.ph_bank.specs.Links.{Link}
use Rattle.ph_bank.specs.Patiences.{Granted}
use Rattle.ph_conn.specs.Fronts.{Known}
use Rattle.ph_conn.specs.Means.{Means}

-- what is known of the history, the link, and what the patience counts
abbrev pub means_of : Known → Link → Granted → Means
means_of known link counts = record { known = known; link = link; counts = counts }
