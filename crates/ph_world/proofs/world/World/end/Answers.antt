use Rattle.std.proofs.Common.{◌≡◌, [], sym, subst}
use Rattle.ph_book.specs.Laws.{runs_of}
use Rattle.ph_book.specs.State.{BookState}
use Rattle.ph_world.proofs.EndLemmas.{reached_apart, reached_none}
use Rattle.ph_world.proofs.MoveLemmas.{reached_in_hand}
use Rattle.ph_world.proofs.world.World.end.Goals as goal

pub end-requires : goal.end-requires
end-requires c = record {
  in_hand = reached_in_hand c.self.inside.inner c.self.invariant;
  apart = reached_apart c.self.inside.inner c.self.invariant;
}

pub returns-clause-none_in_flight : goal.returns-clause-none_in_flight
returns-clause-none_in_flight c =
    subst (λ (book : BookState). runs_of book.setup book.history ≡ []) (sym c.end.ensures)
    (reached_none c.self.inside.inner c.self.invariant (reached_in_hand c.self.inside.inner c.self.invariant))
