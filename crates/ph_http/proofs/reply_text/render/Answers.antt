use Rattle.ph_http.specs.Replies.{rendered}
use Rattle.ph_http.proofs.reply_text.render.Goals as goal

pub returns : goal.returns
unfolding rendered
returns c =
    rw (c.new.ensures, c.in_ok-extend_from_slice-2.ensures.items, c.in_ok-extend_from_slice.ensures.items, c.in_ok-push_line_if-3.ensures, c.in_ok-push_line_if-2.ensures, c.in_ok-push_line_if.ensures, c.in_ok-push_length.ensures, c.in_ok-push_status.ensures, c.new-out.ensures.items, c.as_slice.ensures, c.as_slice-2.ensures)
