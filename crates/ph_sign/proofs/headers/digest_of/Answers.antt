use Rattle.ph_sign.specs.Hmac.{hmac_of}
use Rattle.ph_sign.proofs.HmacLemmas.{fed_in_turn}
use Rattle.ph_sign.proofs.headers.digest_of.Goals as goal

pub returns : goal.returns
unfolding hmac_of
returns c =
    let fed = c.update-3.ensures _ (c.update-2.ensures _ (c.update.ensures _ c.begun-inner.ensures)) in
    rw (c.block_of-block.ensures, c.as_slice.ensures, c.new.ensures, fed_in_turn) at (c.ended.ensures _ fed)
