-- A history's text is read as nothing else.
use Rattle.std.proofs.Common.{◌≡◌, ℕ, ◌⊎◌, inl, inr, suc, List, [], ◌∷◌, ◌++◌, length, map, Option, Some, None, Result, Ok, Err, refl, sym, ap, subst, ◌∙◌, append_assoc, arith}
use Rattle.std.proofs.lemmas.List.{append-nil}
use Rattle.std.specs.Global.{Vec}
use Rattle.ph_io.specs.Told.{SourceState, preceded_by}
use Rattle.ph_io.specs.Reads.{Moves, EndsAfter}
use Rattle.ph_io.proofs.DeviceLemmas.{ends_after_all}
use Rattle.ph_book.specs.declared.acts.Entry.{Entry}
use Rattle.ph_book.specs.declared.setup.Setup.{Setup}
use Rattle.ph_lines.specs.Lines.{First, Wants, Long, Has, first, Leads}
use Rattle.ph_lines.proofs.FieldLemmas.{some_is}
use Rattle.ph_lines.proofs.LineLemmas.{has_more, long_more}
use Rattle.ph_lines.proofs.TextLemmas.{behind_front, leads_more, none_here, nothing_wants, same_line}
use Rattle.ph_history.specs.Text.{History, entry_line, end_line, header_line, history_lines}
use Rattle.ph_history.specs.Reading.{AllFit, FitsHistory}
use Rattle.ph_history.specs.Grammar.{told_by, CanBegin, AreWhole, LeavesForm, IsBadAt, IsCut, IsText, Reads, Finds}
use Rattle.ph_history.specs.declared.faults.HistoryFault.{HistoryFault}
use Rattle.ph_history.specs.declared.faults.HistoryFault.TheVariants as fault
use Rattle.ph_history.proofs.EntryLemmas.{entry_lines_differ, setup_lines_differ}
use Rattle.ph_history.proofs.GrammarLemmas.{heads, tails, entry_no_end, whole_refused}

-- the lines of a history's text, with one more of them, begin it
goes_on_with : (history : History) (front more : List (List ℕ)) (line : List ℕ) → FitsHistory history → history_lines history ≡ front ++ line ∷ more → CanBegin (front ++ line ∷ [])
goes_on_with history front more line fits parts = record {
  history = history;
  more = more;
  text = append_assoc front (line ∷ []) more ∙ sym parts;
  fits = fits;
}

-- a text leaves the form nowhere
pub text_not_bad : (bytes : List ℕ) (history : History) (at : ℕ) → IsText bytes history → IsBadAt bytes at → ⊥
text_not_bad bytes history at text bad =
    let behind = behind_front bytes (history_lines history) bad.lines bad.rest text.leads bad.leads in
    cases behind.more behind.parts behind.leads bad.leaves
  where
    cases : (more : List (List ℕ)) → history_lines history ≡ bad.lines ++ more → Leads bad.rest more [] → LeavesForm bad.lines bad.rest → ⊥
    cases [] parts leads (inl long) = absurd (let both : Wants ≡ Long = sym nothing_wants ∙ sym (ap first leads) ∙ long in cc)
    cases (line ∷ more) parts leads (inl long) = absurd (let both : Has line leads.0 ≡ Long = sym leads.1 ∙ long in cc)
    cases [] parts leads (inr (inl other)) = none_here bad.rest other.0 other.1 leads other.2
    cases (line ∷ more) parts leads (inr (inl other)) =
        let same = same_line line leads.0 other.0 other.1 (sym leads.1 ∙ other.2) in
        other.3 (subst (λ l. CanBegin (bad.lines ++ l ∷ [])) same.0 (goes_on_with history bad.lines more line text.fits parts))
    cases [] parts leads (inr (inr whole)) = whole.1 leads
    cases (line ∷ more) parts leads (inr (inr whole)) =
        whole_refused whole.0.history line
        (subst (λ ls. CanBegin (ls ++ line ∷ [])) whole.0.text (goes_on_with history bad.lines more line text.fits parts))

-- a text isn't cut
pub text_not_cut : (bytes : List ℕ) (history : History) → IsText bytes history → IsCut bytes → ⊥
text_not_cut bytes history text cut =
    let behind = behind_front bytes (history_lines history) cut.lines cut.rest text.leads cut.leads in
    cases behind.more behind.parts behind.leads
  where
    cases : (more : List (List ℕ)) → history_lines history ≡ cut.lines ++ more → Leads cut.rest more [] → ⊥
    cases [] parts leads = cut.not_whole (record { history = history; text = sym (append-nil cut.lines) ∙ sym parts })
    cases (line ∷ more) parts leads = absurd (let both : Has line leads.0 ≡ Wants = sym leads.1 ∙ cut.open_end in cc)

same_entries : (xs ys : List Entry) (n m : ℕ) → AllFit xs → AllFit ys → map entry_line xs ++ end_line n ∷ [] ≡ map entry_line ys ++ end_line m ∷ [] → xs ≡ ys
same_entries [] [] n m fx fy same = refl
same_entries [] (y ∷ ys) n m fx fy same = absurd (entry_no_end y n (sym (heads same)))
same_entries (x ∷ xs) [] n m fx fy same = absurd (entry_no_end x m (heads same))
same_entries (x ∷ xs) (y ∷ ys) n m fx fy same =
    ap (λ e. e ∷ xs) (entry_lines_differ x y fx.0 fy.0 (heads same)) ∙ ap (λ es. y ∷ es) (same_entries xs ys n m fx.1 fy.1 (tails same))

same_parts : (x y : History) → x.setup ≡ y.setup → x.entries ≡ y.entries → x ≡ y
same_parts x y setups entries = ap (λ s. told_by s x.entries) setups ∙ ap (λ es. told_by y.setup es) entries

-- a text is that of one history
pub text_of_one : (bytes : List ℕ) (x y : History) → IsText bytes x → IsText bytes y → x ≡ y
text_of_one bytes x y a b =
    let behind = behind_front bytes (history_lines x) (history_lines y) [] a.leads b.leads in
    cases behind.more behind.parts behind.leads
  where
    cases : (more : List (List ℕ)) → history_lines x ≡ history_lines y ++ more → Leads [] more [] → x ≡ y
    cases [] parts leads =
        let same = parts ∙ append-nil (history_lines y) in
        same_parts x y (setup_lines_differ x.setup y.setup a.fits.setup b.fits.setup (heads (tails same)))
        (same_entries x.entries y.entries (length x.entries) (length y.entries) a.fits.entries b.fits.entries (tails (tails same)))
    cases (line ∷ more) parts leads = absurd (none_here [] line leads.0 refl leads.1)

-- what leaves the form leaves it, whatever follows
leaves_more : (lines : List (List ℕ)) (rest more : List ℕ) → LeavesForm lines rest → LeavesForm lines (rest ++ more)
leaves_more lines rest more (inl long) = inl (long_more rest more long)
leaves_more lines rest more (inr (inl other)) = inr (inl (other.0, other.1 ++ more, has_more rest other.0 other.1 more other.2, other.3))
leaves_more lines rest more (inr (inr whole)) = inr (inr (whole.0, λ none. whole.1 (front_of_none rest more none)))
  where
    front_of_none : (xs ys : List ℕ) → xs ++ ys ≡ [] → xs ≡ []
    front_of_none [] ys h = refl
    front_of_none (x ∷ xs) ys h = absurd (let sizes = ap length h in let never : suc (length (xs ++ ys)) ≡ 0 = sizes in omega arith)

pub bad_more : (bytes more : List ℕ) (at : ℕ) → IsBadAt bytes at → IsBadAt (bytes ++ more) at
bad_more bytes more at bad = record {
  lines = bad.lines;
  rest = bad.rest ++ more;
  leads = leads_more bytes bad.lines bad.rest more bad.leads;
  place = bad.place;
  begins = bad.begins;
  leaves = leaves_more bad.lines bad.rest more bad.leaves;
}

-- a source that holds a history's text gives that history
pub reads_only : (r : Result (Setup × Vec Entry) HistoryFault) (old new : SourceState) (all : List ℕ) (history : History) → Reads r old new → old.left ≡ Some all → IsText all history → Finds history r
reads_only (Ok read) old new all history reads told text =
    let same = ends_after_all reads.says.0 told in
    text_of_one reads.bytes (told_by read.0 read.1.items) history reads.says.1 (subst (λ b. IsText b history) same text)
reads_only (Err (fault.BadLine at)) old new all history reads told text = cases reads.says.0
  where
    front : (left : Option (List ℕ)) → Some all ≡ preceded_by left reads.bytes → ⊥
    front None same = absurd (let never : Some all ≡ None = same in cc)
    front (Some rest) same =
        let whole : all ≡ reads.bytes ++ rest = some_is all (reads.bytes ++ rest) same in
        text_not_bad all history at text (subst (λ b. IsBadAt b at) (sym whole) (bad_more reads.bytes rest at reads.says.1))

    cases : Moves old new reads.bytes ⊎ EndsAfter old new reads.bytes → ⊥
    cases (inl moved) = front new.left (sym told ∙ moved.left)
    cases (inr ended) = text_not_bad all history at text (subst (λ b. IsBadAt b at) (sym (ends_after_all ended told)) reads.says.1)
reads_only (Err (fault.Illegal at)) old new all history reads told text = absurd reads.says
reads_only (Err fault.Cut) old new all history reads told text =
    text_not_cut all history text (subst IsCut (sym (ends_after_all reads.says.0 told)) reads.says.1)
reads_only (Err fault.ReadFault) old new all history reads told text = tt
reads_only (Err fault.NoMemory) old new all history reads told text = tt
