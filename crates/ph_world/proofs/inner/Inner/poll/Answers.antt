use Rattle.std.proofs.Common.{◌≡◌, List, None, sym, ap, ◌∙◌}
use Rattle.std.specs.Prelude.{option_map}
use Rattle.ph_attempts.specs.declared.flights.Flight.{Flight}
use Rattle.ph_world.specs.Flights.{flight_in}
use Rattle.ph_world.specs.Moves.{replied}
use Rattle.ph_world.specs.Worlds.{WorldState, polled}
use Rattle.ph_world.proofs.CodeLemmas.{polled_none}
use Rattle.ph_world.proofs.LawLemmas.{replied_same}
use Rattle.ph_world.proofs.inner.Inner.poll.Goals as goal

pub returns-in-None-clause-after : goal.returns-in-None-clause-after
returns-in-None-clause-after c =
    let none : option_map (λ (flight : Flight). flight.order) (flight_in c.self.inside.tickets.items c.args.run) ≡ None =
    ap (λ (flights : List Flight). option_map (λ (flight : Flight). flight.order) (flight_in flights c.args.run)) (sym c.as_slice.ensures.value)
    ∙ sym c.in-None.ensures in
    let stays : c.args.self.now ≡ polled c.args.self.now (flight_in c.args.self.now.flights c.args.run) =
    polled_none c.args.self.now c.self.inside.book c.self.inside.tickets.items c.self.inside.decisions.items c.self.inside.asks.items c.self.view_is
    c.args.run none in
    cc

pub returns-in-None-clause-reply : goal.returns-in-None-clause-reply
returns-in-None-clause-reply c =
    let book : c.self.inside.book ≡ c.args.self.now.book = ap (λ (w : WorldState). w.book) c.self.view_is in
    let same : replied c.args.self.now.book c.args.self.now.book ≡ None = replied_same c.args.self.now.book in
    cc

pub ask-requires : goal.ask-requires
ask-requires c = record {
  in_hand = c.requires.in_hand;
  order = c.in-Some.ensures
      ∙ ap (λ (flights : List Flight). option_map (λ (flight : Flight). flight.order) (flight_in flights c.args.run)) c.as_slice.ensures.value
      ∙ ap (λ (w : WorldState). option_map (λ (flight : Flight). flight.order) (flight_in w.flights c.args.run)) c.self.view_is;
}
