use Rattle.std.proofs.Common.{◌≡◌, ◌∷◌, sym, ap, ◌∙◌, subst, arith}
use Rattle.ph_world.specs.Flights.{AllInHand, AreApart}
use Rattle.ph_world.specs.Playing.{ended}
use Rattle.ph_world.proofs.EndLemmas.{ended_more, head_is, left_in_hand, runs_as}
use Rattle.ph_world.proofs.tickets.park_all.Goals as goal

pub loop-book-preserved : goal.loop-book-preserved
loop-book-preserved c =
    let is : c.loop-book.tickets.items ≡ c.remove-ticket.result ∷ c.remove-ticket.new.self.items =
    head_is c.loop-book.tickets.items c.remove-ticket.result c.remove-ticket.new.self.items (omega (arith, c.loop-book.tickets.ok.0)) c.remove-ticket.ensures.value c.remove-ticket.ensures.items in
    let hand : AllInHand c.loop-book.book (c.remove-ticket.result ∷ c.remove-ticket.new.self.items) =
    subst (AllInHand c.loop-book.book) is c.loop-book.invariant.in_hand in
    let apart : AreApart (c.remove-ticket.result ∷ c.remove-ticket.new.self.items) = subst AreApart is c.loop-book.invariant.apart in
    record {
      in_hand = left_in_hand c.loop-book.book c.park.new.book c.remove-ticket.result c.remove-ticket.new.self.items
          (runs_as c.loop-book.book c.setup.result.now c.history.result.now c.setup.ensures c.history.ensures.value c.runs_follow.ensures)
          apart hand c.park.ensures.book;
      apart = apart.1;
      book = ended_more c.loop-book.book c.park.new.book c.remove-ticket.result c.remove-ticket.new.self.items c.park.ensures.book
          ∙ ap (ended c.loop-book.book) (sym is) ∙ c.loop-book.invariant.book;
    }
