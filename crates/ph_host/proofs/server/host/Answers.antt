use Rattle.std.proofs.Common.{◌≡◌, ◌≢◌, sym, ap, ◌∙◌}
use Rattle.std.specs.Prelude.{IsSomeAnd}
use Rattle.ph_host.specs.declared.workers.WorkerEnd.TheVariants as worker
use Rattle.ph_conn.proofs.LawLemmas.{laws_hold}
use Rattle.ph_host.proofs.HostLemmas.{not_idle, once_by, some_and, some_gives, some_if, worked}
use Rattle.ph_host.proofs.KeyLemmas.{key_laws_hold}
use Rattle.ph_host.proofs.PairLemmas.{all_after_zip, all_any, all_of_zip, zip_thrice}
use Rattle.ph_host.proofs.server.host.Goals as goal

pub serve_all-requires-clause-passes : goal.serve_all-requires-clause-passes
serve_all-requires-clause-passes g c = λ κs lives.
    all_of_zip _ (λ w. IsSomeAnd w.pass (λ pass. pass.lock ≡ c.in-Ok.made.0)) _ _
    (λ x y r. some_and y.pass (λ p is. is.lock) r.4) c.split_each.ensures.passes

pub join_each-requires-clause-passes : goal.join_each-requires-clause-passes
join_each-requires-clause-passes g c =
    all_after_zip _ (λ w. IsSomeAnd w.pass (λ pass. pass.lock ≡ c.in-Ok.made.0)) (λ w. IsSomeAnd w.pass (λ pass. pass.lock ≡ c.in-Ok.made.0)) _ _
    (λ x y is s. let both = some_if x.pass is s.1 in some_and y.pass (λ p did. did.same.lock ∙ both.1.0) both.1.1)
    (all_of_zip _ (λ w. IsSomeAnd w.pass (λ pass. pass.lock ≡ c.in-Ok.made.0)) _ _
    (λ x y r. some_and y.pass (λ p is. is.lock) r.4) c.split_each.ensures.passes)
    c.serve_all.ensures.served

pub status-requires : goal.status-requires
status-requires g c = record {
  ended = all_after_zip _ (λ w. w.end ≢ worker.Idle) (λ w. w.end ≢ worker.Idle) _ _ (λ x y ended r idle. ended (sym r.3 ∙ idle))
      (all_after_zip _ (λ w. IsSomeAnd w.pass (λ pass. pass.lock ≡ c.in-Ok.made.0)) (λ w. w.end ≢ worker.Idle) _ _
      (λ x y is s. let both = some_if x.pass is s.1 in some_gives y.pass (λ p did. not_idle did.served) both.1.1)
      (all_of_zip _ (λ w. IsSomeAnd w.pass (λ pass. pass.lock ≡ c.in-Ok.made.0)) _ _
      (λ x y r. some_and y.pass (λ p is. is.lock) r.4) c.split_each.ensures.passes)
      c.serve_all.ensures.served)
      c.join_each.ensures.joined;
}

pub returns-in-Ok-write_end-clause-workers : goal.returns-in-Ok-write_end-clause-workers
returns-in-Ok-write_end-clause-workers g c =
    let first = c.in-Ok.ensures.first in
    let base = ap (λ p. p.base) first in
    let front = ap (λ p. p.front) first ∙ c.requires.empty in (
      c.close-book.ensures.base ∙ c.join_each.ensures.same.base ∙ ap (λ p. p.base) c.split_each.ensures.same ∙ base,
      zip_thrice _ _ _ _ _ _ _ _
          (λ w m n v r s t. (
            t.4,
            worked c.in-Ok.made.0 c.args.book.setup _ _ m.pass n.pass v.last n.end v.end
                (g.A.Acquirer.link w.link) (g.A.Acquirer.link m.link) (g.A.Acquirer.link n.link) (g.A.Acquirer.link v.link)
                (g.P.Patience.counts w.patience) (g.P.Patience.counts m.patience) (g.P.Patience.counts n.patience) (g.P.Patience.counts v.patience)
                (g.G.Gate.gate w.gate) (g.G.Gate.gate m.gate) (g.G.Gate.gate n.gate) (g.G.Gate.gate v.gate)
                (some_and m.pass (λ p is. record { lock = is.lock; base = is.base ∙ base; front = is.front ∙ front; mine = is.mine }) r.4)
                s.1 t.5 c.close-book.ensures.history (sym t.3)
                (ap g.A.Acquirer.link r.1) (ap g.A.Acquirer.link (sym t.1))
                (ap g.P.Patience.counts r.2) (ap g.P.Patience.counts (sym t.2))
                (ap g.G.Gate.gate r.0) (ap g.G.Gate.gate (sym t.0)),
          ))
          c.split_each.ensures.passes c.serve_all.ensures.served c.join_each.ensures.joined,
    )

pub returns-in-Err-write_end-clause-workers : goal.returns-in-Err-write_end-clause-workers
returns-in-Err-write_end-clause-workers g c =
    let first = c.in-Ok.ensures.first in
    let base = ap (λ p. p.base) first in
    let front = ap (λ p. p.front) first ∙ c.requires.empty in (
      c.close-book.ensures.base ∙ c.join_each.ensures.same.base ∙ ap (λ p. p.base) c.split_each.ensures.same ∙ base,
      zip_thrice _ _ _ _ _ _ _ _
          (λ w m n v r s t. (
            t.4,
            worked c.in-Ok.made.0 c.args.book.setup _ _ m.pass n.pass v.last n.end v.end
                (g.A.Acquirer.link w.link) (g.A.Acquirer.link m.link) (g.A.Acquirer.link n.link) (g.A.Acquirer.link v.link)
                (g.P.Patience.counts w.patience) (g.P.Patience.counts m.patience) (g.P.Patience.counts n.patience) (g.P.Patience.counts v.patience)
                (g.G.Gate.gate w.gate) (g.G.Gate.gate m.gate) (g.G.Gate.gate n.gate) (g.G.Gate.gate v.gate)
                (some_and m.pass (λ p is. record { lock = is.lock; base = is.base ∙ base; front = is.front ∙ front; mine = is.mine }) r.4)
                s.1 t.5 c.close-book.ensures.history (sym t.3)
                (ap g.A.Acquirer.link r.1) (ap g.A.Acquirer.link (sym t.1))
                (ap g.P.Patience.counts r.2) (ap g.P.Patience.counts (sym t.2))
                (ap g.G.Gate.gate r.0) (ap g.G.Gate.gate (sym t.0)),
          ))
          c.split_each.ensures.passes c.serve_all.ensures.served c.join_each.ensures.joined,
    )

pub returns-in-Ok-write_end-clause-laws : goal.returns-in-Ok-write_end-clause-laws
returns-in-Ok-write_end-clause-laws g c =
    let lawful = c.close-book.ensures.lawful in
    (lawful.legal, laws_hold _ _ lawful.few lawful.legal)

pub returns-in-Ok-write_end-clause-authorised_once : goal.returns-in-Ok-write_end-clause-authorised_once
returns-in-Ok-write_end-clause-authorised_once g c =
    all_any _ _ (λ w. once_by _ _ (g.A.Acquirer.link w.link) c.close-book.ensures.lawful)

pub returns-in-Err-write_end-clause-laws : goal.returns-in-Err-write_end-clause-laws
returns-in-Err-write_end-clause-laws g c =
    let lawful = c.close-book.ensures.lawful in
    (lawful.legal, laws_hold _ _ lawful.few lawful.legal)

pub returns-in-Err-write_end-clause-authorised_once : goal.returns-in-Err-write_end-clause-authorised_once
returns-in-Err-write_end-clause-authorised_once g c =
    all_any _ _ (λ w. once_by _ _ (g.A.Acquirer.link w.link) c.close-book.ensures.lawful)

pub returns-in-Ok-write_end-clause-keys : goal.returns-in-Ok-write_end-clause-keys
returns-in-Ok-write_end-clause-keys g c = key_laws_hold _ c.close-book.ensures.lawful.few

pub returns-in-Err-write_end-clause-keys : goal.returns-in-Err-write_end-clause-keys
returns-in-Err-write_end-clause-keys g c = key_laws_hold _ c.close-book.ensures.lawful.few
