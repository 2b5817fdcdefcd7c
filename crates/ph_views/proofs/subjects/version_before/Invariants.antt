use Rattle.ph_views.proofs.SearchLemmas.{SearchIsAt}
use Rattle.ph_views.proofs.subjects.version_before.Given as goal

abbrev pub invariant-loop-at : goal.invariant-loop-at
invariant-loop-at g l = SearchIsAt l.at l.place l.object (g.V.View.state l.view).rows

abbrev pub decreases-loop-at : goal.decreases-loop-at
decreases-loop-at g l = l.at
