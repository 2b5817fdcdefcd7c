use Rattle.ph_sign.specs.Hmac.{hmac_of}
use Rattle.ph_sign.proofs.keyed_hash.hmac.Goals as goal

pub returns : goal.returns
unfolding hmac_of
returns c = rw c.block_of-block.ensures at (c.ended.ensures _ (c.update.ensures _ c.begun-inner.ensures))
