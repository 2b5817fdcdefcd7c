use Rattle.std.proofs.Common.{◌++◌, length, codes, arith}
use Rattle.ph_sign.specs.Signatures.{signature_header}
use Rattle.ph_delivery.specs.Requests.{crlf, delivery_request, target_lines, plain_lines, length_lines}
use Rattle.ph_delivery.proofs.RequestLemmas.{carried}
use Rattle.ph_delivery.proofs.request.delivery_request.Goals as goal

pub returns-clause-text : goal.returns-clause-text
unfolding delivery_request
returns-clause-text c =
    rw (c.new.ensures, c.in_ok-extend_from_slice-2.ensures.items, c.in_ok-push_length.ensures, c.in_ok-push_signature.ensures, c.in_ok-extend_from_slice.ensures.items, c.in_ok-push_target.ensures, c.new-out.ensures.items)

pub returns-clause-signed : goal.returns-clause-signed
unfolding delivery_request
returns-clause-signed c =
    let target = target_lines c.args.host.now c.args.port c.args.path.now in
    let header = signature_header c.args.secrets.now c.args.at c.args.body.now in
    record {
      before = target ++ plain_lines;
      signatures = header;
      between = length_lines (length c.args.body.now);
      carries =
          rw (c.new.ensures, c.in_ok-extend_from_slice-2.ensures.items, c.in_ok-push_length.ensures, c.in_ok-push_signature.ensures, c.in_ok-extend_from_slice.ensures.items, c.in_ok-push_target.ensures, c.new-out.ensures.items)
          (carried target plain_lines (codes "Stripe-Signature: ") header crlf (length_lines (length c.args.body.now)) c.args.body.now);
      good = λ secret now tolerance inside soon.
          c.header_is_good.ensures c.args.secrets.now c.args.at c.args.body.now secret now tolerance (omega (arith, c.ranges.at.fits)) inside soon;
    }
