use Rattle.std.proofs.Common.{◌≡◌, ◌++◌, ◌∷◌, [], ℕ, List, length, map, bit_xor, arith, refl, sym, ap, ◌∙◌, slice_index}
use Rattle.std.proofs.lemmas.List.{length-replicate, length-set, map_more, take_all, take_more_set}
use Rattle.ph_sign.proofs.keyed_hash.pad.Goals as goal

pub bytes-init : goal.bytes-init
bytes-init c = (length-replicate {A = ℕ} 64 0, refl)

pub bytes-preserved : goal.bytes-preserved
bytes-preserved c =
    let width : length c.args.block.now ≡ 64 = c.told-block in
    let len = c.bytes.invariant.0 in
    let byte = bit_xor (slice_index c.args.block.now c.bytes.i) c.args.with in (
      length-set _ _ _ ∙ len,
      take_more_set c.bytes.out c.bytes.i byte (omega arith) ∙ ap (λ (l : List ℕ). l ++ byte ∷ []) c.bytes.invariant.1
          ∙ sym (map_more (λ b. bit_xor b c.args.with) c.args.block.now c.bytes.i 0 (omega arith)),
    )

pub returns : goal.returns
returns c =
    let width : length c.args.block.now ≡ 64 = c.told-block in
    let len = c.bytes.invariant.0 in
    let done = c.bytes.auto.i-end in
    let e : c.bytes.i ≡ 64 = omega arith in
    sym (take_all 64 c.bytes.out (omega arith)) ∙ rw e at c.bytes.invariant.1
    ∙ ap (map (λ b. bit_xor b c.args.with)) (take_all 64 c.args.block.now (omega arith))
