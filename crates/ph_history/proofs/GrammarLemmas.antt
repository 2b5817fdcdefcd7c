-- Which lines begin a history's text.
use Rattle.std.proofs.Common.{◌≡◌, ℕ, suc, ◌+◌, ◌^◌, ◌<◌, ◌⊎◌, inl, inr, List, [], ◌∷◌, ◌++◌, length, get_or, map, take, Some, None, Result, Ok, Err, refl, sym, ap, subst, ◌∙◌, append_assoc, arith}
use Rattle.std.proofs.lemmas.List.{append-nil, take_more}
use Rattle.ph_book.specs.declared.acts.Entry.{Entry}
use Rattle.ph_book.specs.declared.setup.Setup.{Setup}
use Rattle.ph_lines.specs.declared.reading.Unread.{Unread}
use Rattle.ph_lines.specs.declared.reading.Unread.TheVariants as unread
use Rattle.ph_lines.specs.Reading.{Gives}
use Rattle.ph_history.specs.Text.{History, entry_line, setup_line, end_line, header_line, history_lines}
use Rattle.ph_history.specs.Reading.{FitsEntry, FitsSetup, AllFit, FitsHistory}
use Rattle.ph_history.specs.declared.parts.Part.{Part}
use Rattle.ph_history.specs.declared.parts.Part.TheVariants as part
use Rattle.ph_history.specs.Grammar.{told_by, CanBegin, AreWhole, part_lines, FitsPart}

-- ---- lists

abbrev head_or : List ℕ → List (List ℕ) → List ℕ
head_or d [] = d
head_or d (x ∷ xs) = x

abbrev tail_of : List (List ℕ) → List (List ℕ)
tail_of [] = []
tail_of (x ∷ xs) = xs

pub heads : {x y : List ℕ} {xs ys : List (List ℕ)} → x ∷ xs ≡ y ∷ ys → x ≡ y
heads {x} h = ap (head_or x) h

pub tails : {x y : List ℕ} {xs ys : List (List ℕ)} → x ∷ xs ≡ y ∷ ys → xs ≡ ys
tails h = ap tail_of h

pub no_nil : {x : List ℕ} {xs : List (List ℕ)} → x ∷ xs ≡ [] → ⊥
no_nil h = let sizes = ap length h in absurd (omega arith)

-- ---- entries and the last line

-- the second byte tells them apart
pub entry_no_end : (entry : Entry) (n : ℕ) → entry_line entry ≡ end_line n → ⊥
unfolding entry_line end_line
entry_no_end entry n same = let second : ◌≡◌ {A = ℕ} 32 110 = ap (λ line. get_or line 1 0) same in absurd (omega arith)

-- the line is an entry's
abbrev pub IsEntrys : List ℕ → Type 0
IsEntrys line = (entry : Entry) × FitsEntry entry × (line ≡ entry_line entry)

-- the line behind some entries, in a history's text: another entry's, or the last
next_is : (before entries : List Entry) (line : List ℕ) (more : List (List ℕ)) (n : ℕ) → AllFit entries
    → map entry_line before ++ line ∷ more ≡ map entry_line entries ++ end_line n ∷ []
    → IsEntrys line ⊎ ((line ≡ end_line n) × (length entries ≡ length before) × (more ≡ []))
next_is [] [] line more n fits same = inr (heads same, refl, tails same)
next_is [] (entry ∷ entries) line more n fits same = inl (entry, fits.0, heads same)
next_is (entry ∷ before) [] line more n fits same = absurd (entry_no_end entry n (heads same))
next_is (first ∷ before) (entry ∷ entries) line more n fits same = longer (next_is before entries line more n fits.1 (tails same))
  where
    longer : IsEntrys line ⊎ ((line ≡ end_line n) × (length entries ≡ length before) × (more ≡ []))
        → IsEntrys line ⊎ ((line ≡ end_line n) × (suc (length entries) ≡ suc (length before)) × (more ≡ []))
    longer (inl found) = inl found
    longer (inr last) = inr (last.0, ap suc last.1, last.2)

no_end_in : (before entries : List Entry) (n : ℕ) → map entry_line before ≡ map entry_line entries ++ end_line n ∷ [] → ⊥
no_end_in [] [] n same = no_nil (sym same)
no_end_in [] (entry ∷ entries) n same = no_nil (sym same)
no_end_in (entry ∷ before) [] n same = entry_no_end entry n (heads same)
no_end_in (first ∷ before) (entry ∷ entries) n same = no_end_in before entries n (tails same)

-- ---- lines with which no text goes on

pub open_refused : (setup : Setup) (entries : List Entry) (line : List ℕ) → ((entry : Entry) → FitsEntry entry → line ≡ entry_line entry → ⊥) → (line ≡ end_line (length entries) → ⊥)
    → CanBegin ((header_line ∷ setup_line setup ∷ map entry_line entries) ++ line ∷ []) → ⊥
open_refused setup entries line no_entry no_last begins =
    at (next_is entries begins.history.entries line begins.more (length begins.history.entries) begins.fits.entries
    (sym (append_assoc (map entry_line entries) (line ∷ []) begins.more) ∙ tails (tails begins.text)))
  where
    at : IsEntrys line ⊎ ((line ≡ end_line (length begins.history.entries)) × (length begins.history.entries ≡ length entries) × (begins.more ≡ [])) → ⊥
    at (inl found) = no_entry found.0 found.1 found.2
    at (inr last) = no_last (last.0 ∙ ap end_line last.1)

pub whole_refused : (history : History) (line : List ℕ) → CanBegin (history_lines history ++ line ∷ []) → ⊥
whole_refused history line begins =
    let entries = history.entries in
    at (next_is entries begins.history.entries (end_line (length entries)) (line ∷ begins.more) (length begins.history.entries) begins.fits.entries
    (sym (append_assoc (map entry_line entries) (end_line (length entries) ∷ []) (line ∷ begins.more)) ∙ sym (append_assoc (map entry_line entries ++ end_line (length entries) ∷ []) (line ∷ []) begins.more) ∙ tails (tails begins.text)))
  where
    at : IsEntrys (end_line (length history.entries)) ⊎ ((end_line (length history.entries) ≡ end_line (length begins.history.entries)) × (length begins.history.entries ≡ length history.entries) × (line ∷ begins.more ≡ [])) → ⊥
    at (inl found) = entry_no_end found.0 (length history.entries) (sym found.2)
    at (inr last) = no_nil last.2

-- ---- what was read so far

abbrev sample : Setup
sample = record { key = []; opened = 0; entries = 0; weight = 0 }

sample_fits : FitsSetup sample
sample_fits = record { key = λ i. omega arith; opened = omega arith; entries = omega arith; weight = omega arith }

nothing_fits : FitsHistory (told_by sample [])
nothing_fits = record { setup = sample_fits; entries = tt }

pub part_begins : (p : Part) → FitsPart p → CanBegin (part_lines p)
part_begins part.Nothing fits = record { history = told_by sample []; more = history_lines (told_by sample []); text = refl; fits = nothing_fits }
part_begins part.Header fits = record { history = told_by sample []; more = setup_line sample ∷ end_line 0 ∷ []; text = refl; fits = nothing_fits }
part_begins (part.Open setup entries) fits = record { history = told_by setup entries.items; more = end_line (length entries.items) ∷ []; text = refl; fits = record { setup = fits.0; entries = fits.1 } }
part_begins (part.Whole setup entries) fits = record { history = told_by setup entries.items; more = []; text = append-nil (history_lines (told_by setup entries.items)); fits = record { setup = fits.0; entries = fits.1 } }

-- only the whole part's lines are a whole history's
abbrev pub IsWholePart : Part → Type 0
IsWholePart part.Nothing = ⊥
IsWholePart part.Header = ⊥
IsWholePart (part.Open setup entries) = ⊥
IsWholePart (part.Whole setup entries) = Unit {0}

pub whole_is : (p : Part) → AreWhole (part_lines p) → IsWholePart p
whole_is part.Nothing whole = no_nil (sym whole.text)
whole_is part.Header whole = no_nil (sym (tails whole.text))
whole_is (part.Open setup entries) whole = no_end_in entries.items whole.history.entries (length whole.history.entries) (tails (tails whole.text))
whole_is (part.Whole setup entries) whole = tt

pub fits_push : (entries : List Entry) (entry : Entry) → AllFit entries → FitsEntry entry → AllFit (entries ++ entry ∷ [])
fits_push [] entry fits one = (one, tt)
fits_push (first ∷ entries) entry fits one = (fits.0, fits_push entries entry fits.1 one)

-- one entry more of a list's
pub fits_more : (entries : List Entry) (i : ℕ) (entry : Entry) → entry ≡ get_or entries i entry → i < length entries → AllFit (take i entries) → FitsEntry entry → AllFit (take (i + 1) entries)
fits_more entries i entry is inside fits one =
    subst AllFit (sym (take_more entries i entry inside)) (subst (λ e. AllFit (take i entries ++ e ∷ [])) is (fits_push (take i entries) entry fits one))

-- ---- what the reader of a line gives

-- a reader that finds the form in no line that says this
pub form_never : {X : Type 0} (x : X) → Gives (λ y. y) (Err unread.Form) (Some x) → ⊥
form_never x h = absurd cc

pub other_count : (count n : ℕ) → Gives (λ m. m) (Ok count) (Some n) → (n ≡ count → ⊥) → ⊥
other_count count n h other = other (let e : Some n ≡ Some count = h in cc)

pub form_always : {T : Type 0} (n : ℕ) (why : Unread) → ◌≡◌ {A = Result T Unread} (Err why) (Err unread.Form) → Gives {X = ℕ} (λ m. m) (Err why) (Some n) → ⊥
form_always n unread.Form form h = absurd cc
form_always n unread.NoMemory form h = absurd cc
