-- Reading line by line: what holds before each line, and at each exit.
use Rattle.std.proofs.Common.{◌≡◌, ℕ, ◌+◌, ◌≤◌, ◌⊎◌, inl, inr, List, [], ◌∷◌, ◌++◌, length, Result, Ok, Err, refl, sym, ap, subst, ◌∙◌, arith}
use Rattle.std.specs.Global.{Vec}
use Rattle.std.proofs.lemmas.List.{length_push}
use Rattle.ph_base.specs.Counts.{Rose}
use Rattle.ph_io.specs.Told.{SourceState, preceded_by, followed_by}
use Rattle.ph_io.specs.Reads.{Moves, EndsAfter, FailsAfter}
use Rattle.ph_io.proofs.DeviceLemmas.{moves_nothing, moves_twice, preceded_twice, followed_twice}
use Rattle.ph_book.specs.declared.acts.Entry.{Entry}
use Rattle.ph_book.specs.declared.setup.Setup.{Setup}
use Rattle.ph_lines.specs.Lines.{First, Wants, Long, Has, first, Gets, Leads}
use Rattle.ph_lines.specs.declared.sources.LineRead.TheVariants as got
use Rattle.ph_lines.proofs.TextLemmas.{leads_more, leads_push}
use Rattle.ph_history.specs.declared.parts.Part.{Part}
use Rattle.ph_history.specs.declared.parts.Part.TheVariants as part
use Rattle.ph_history.specs.declared.faults.HistoryFault.{HistoryFault}
use Rattle.ph_history.specs.declared.faults.HistoryFault.TheVariants as fault
use Rattle.ph_history.specs.Grammar.{told_by, CanBegin, AreWhole, LeavesForm, IsBadAt, IsCut, IsText, Reads, EndIs, part_lines, FitsPart}
use Rattle.ph_history.proofs.GrammarLemmas.{part_begins, whole_is}

-- moves, and then more until the end or a fault
ends_later : {old between new : SourceState} {xs ys : List ℕ} → Moves old between xs → EndsAfter between new ys → EndsAfter old new (xs ++ ys)
ends_later {old} {between} {new} {xs} {ys} first last = record {
  left = first.left ∙ ap (λ told. preceded_by told xs) last.left ∙ preceded_twice new.left xs ys;
  spent = last.spent;
  taken = last.taken ∙ ap (λ told. followed_by told ys) first.taken ∙ followed_twice old.taken xs ys;
  counted = subst (λ before. Rose before new.ends) first.ends last.counted;
  not_fallen = subst (λ before. before ≤ new.ends) first.ends last.not_fallen;
  faults = last.faults ∙ first.faults;
}

fails_later : {old between new : SourceState} {xs ys : List ℕ} → Moves old between xs → FailsAfter between new ys → FailsAfter old new (xs ++ ys)
fails_later {old} {between} {new} {xs} {ys} first last = record {
  left = first.left ∙ ap (λ told. preceded_by told xs) last.left ∙ preceded_twice new.left xs ys;
  taken = last.taken ∙ ap (λ told. followed_by told ys) first.taken ∙ followed_twice old.taken xs ys;
  ends = last.ends ∙ first.ends;
  counted = subst (λ before. Rose before new.faults) first.faults last.counted;
  not_fallen = subst (λ before. before ≤ new.faults) first.faults last.not_fallen;
}

-- before the line of a number: the bytes so far are these lines, and those that are unread
pub record Begun (unread : List ℕ) (p : Part) (source0 source1 : SourceState) (at : ℕ) : Type 0 where
  pub bytes : List ℕ
  pub moved : Moves source0 source1 bytes
  pub leads : Leads bytes (part_lines p) unread
  pub fits : FitsPart p
  pub place : at ≡ length (part_lines p) + 1

pub begins_empty : (source : SourceState) → Begun [] part.Nothing source source 1
begins_empty source = record { bytes = []; moved = moves_nothing source; leads = refl; fits = tt; place = refl }

pub goes_on : {u v line : List ℕ} {p more : Part} {s0 s1 s2 : SourceState} {at : ℕ} → Begun u p s0 s1 at → Gets u v (got.Line line) s1 s2
    → part_lines more ≡ part_lines p ++ line ∷ [] → FitsPart more → Begun v more s0 s2 (at + 1)
goes_on {u} {v} {line} {p} {more} b g lines fits = record {
  bytes = b.bytes ++ g.bytes;
  moved = moves_twice b.moved g.read;
  leads = subst (λ ls. Leads (b.bytes ++ g.bytes) ls v) (sym lines) (leads_push (b.bytes ++ g.bytes) (part_lines p) (u ++ g.bytes) line v (leads_more b.bytes (part_lines p) u g.bytes b.leads) g.item);
  fits = fits;
  place = let size = ap length lines ∙ length_push (part_lines p) line in let before = b.place in omega arith;
}

bad : {u : List ℕ} {p : Part} {s0 s1 : SourceState} {at : ℕ} → (b : Begun u p s0 s1 at) → (piece : List ℕ) → LeavesForm (part_lines p) (u ++ piece) → IsBadAt (b.bytes ++ piece) at
bad {u} {p} b piece leaves = record {
  lines = part_lines p;
  rest = u ++ piece;
  leads = leads_more b.bytes (part_lines p) u piece b.leads;
  place = b.place;
  begins = part_begins p b.fits;
  leaves = leaves;
}

pub stops_long : {u v : List ℕ} {p : Part} {s0 s1 s2 : SourceState} {at : ℕ} → Begun u p s0 s1 at → Gets u v got.Long s1 s2 → Reads (Err (fault.BadLine at)) s0 s2
stops_long b g = record { bytes = b.bytes ++ g.bytes; says = (inl (moves_twice b.moved g.read), bad b g.bytes (inl g.item)) }

pub stops_form : {u v line : List ℕ} {p : Part} {s0 s1 s2 : SourceState} {at : ℕ} → Begun u p s0 s1 at → Gets u v (got.Line line) s1 s2 → (CanBegin (part_lines p ++ line ∷ []) → ⊥) → Reads (Err (fault.BadLine at)) s0 s2
stops_form {v = v} {line} b g refused = record { bytes = b.bytes ++ g.bytes; says = (inl (moves_twice b.moved g.read), bad b g.bytes (inr (inl (line, v, g.item, refused)))) }

pub stops_fault : {u v : List ℕ} {p : Part} {s0 s1 s2 : SourceState} {at : ℕ} → Begun u p s0 s1 at → Gets u v got.ReadFault s1 s2 → Reads (Err fault.ReadFault) s0 s2
stops_fault b g = record { bytes = b.bytes ++ g.bytes; says = fails_later b.moved g.read }

pub stops_memory : (s0 s1 : SourceState) → Reads (Err fault.NoMemory) s0 s1
stops_memory s0 s1 = record { bytes = []; says = tt }

cut : {u v : List ℕ} {p : Part} {s0 s1 s2 : SourceState} {at : ℕ} → Begun u p s0 s1 at → Gets u v got.End s1 s2 → (AreWhole (part_lines p) → ⊥) → Reads (Err fault.Cut) s0 s2
cut {u} {p = p} b g open_part = record {
  bytes = b.bytes ++ g.bytes;
  says = (
    ends_later b.moved g.read,
    record {
      lines = part_lines p;
      rest = u ++ g.bytes;
      leads = leads_more b.bytes (part_lines p) u g.bytes b.leads;
      begins = part_begins p b.fits;
      open_end = g.item.0;
      not_whole = open_part;
    },
  );
}

pub stops_end : {u v : List ℕ} (p : Part) {s0 s1 s2 : SourceState} {at : ℕ} (r : Result (Setup × Vec Entry) HistoryFault) → Begun u p s0 s1 at → Gets u v got.End s1 s2 → EndIs p v at r → Reads r s0 s2
stops_end part.Nothing {s0} {s2 = s2} r b g e = subst (λ x. Reads x s0 s2) (sym e) (cut b g (whole_is part.Nothing))
stops_end part.Header {s0} {s2 = s2} r b g e = subst (λ x. Reads x s0 s2) (sym e) (cut b g (whole_is part.Header))
stops_end (part.Open setup entries) {s0} {s2 = s2} r b g e = subst (λ x. Reads x s0 s2) (sym e) (cut b g (whole_is (part.Open setup entries)))
stops_end {u} {v} (part.Whole setup entries) {s0} {s2 = s2} (Ok read) b g e =
    subst (λ (x : Setup × Vec Entry). Reads (Ok x) s0 s2) (sym e.1) (record {
      bytes = b.bytes ++ g.bytes;
      says = (
        ends_later b.moved g.read,
        record {
          leads = subst (Leads (b.bytes ++ g.bytes) (part_lines (part.Whole setup entries))) (sym g.item.1 ∙ e.0) (leads_more b.bytes (part_lines (part.Whole setup entries)) u g.bytes b.leads);
          fits = record { setup = b.fits.0; entries = b.fits.1 };
        },
      );
    })
stops_end {u} {v} (part.Whole setup entries) {s0} {s2 = s2} (Err why) b g e =
    subst (λ x. Reads (Err x) s0 s2) (sym e.1) (record {
      bytes = b.bytes ++ g.bytes;
      says = (inr (ends_later b.moved g.read), bad b g.bytes (inr (inr (record { history = told_by setup entries.items; text = refl }, λ none. e.0 (g.item.1 ∙ none)))));
    })
