-- The lines of a history as one text.
use Rattle.std.proofs.Common.{◌≡◌, ℕ, ◌^◌, ◌<◌, false, List, [], ◌∷◌, ◌++◌, length, map, refl, sym, subst, ◌∙◌}
use Rattle.std.proofs.lemmas.List.{append-nil}
use Rattle.ph_book.specs.declared.acts.Entry.{Entry}
use Rattle.ph_lines.specs.Fields.{text_of}
use Rattle.ph_lines.specs.Lines.{Leads}
use Rattle.ph_lines.proofs.TextLemmas.{ArePlain, leads_text, text_leads}
use Rattle.ph_history.specs.Text.{History, entry_line, end_line, history_lines, history_text}
use Rattle.ph_history.specs.Reading.{AllFit}
use Rattle.ph_history.specs.Grammar.{IsText, IsWritten}
use Rattle.ph_history.proofs.EntryLemmas.{entry_plain, setup_plain, end_plain}

entries_plain : (entries : List Entry) (n : ℕ) → AllFit entries → n < 2 ^ 64 → ArePlain (map entry_line entries ++ end_line n ∷ [])
entries_plain [] n fits small = (end_plain n small, tt)
entries_plain (entry ∷ entries) n fits small = (entry_plain entry fits.0, entries_plain entries n fits.1 small)

lines_plain : (history : History) (bytes : List ℕ) → IsWritten bytes history → ArePlain (history_lines history)
lines_plain history bytes written =
    (refl, (setup_plain history.setup written.fits.setup, entries_plain history.entries (length history.entries) written.fits.entries written.count))

-- what is written is read
pub written_is_text : (bytes : List ℕ) (history : History) → IsWritten bytes history → IsText bytes history
unfolding history_text
written_is_text bytes history written = record {
  leads = subst (λ b. Leads b (history_lines history) []) (sym written.text) (text_leads (history_lines history) (lines_plain history bytes written) written.short);
  fits = written.fits;
}

-- what is read is written
pub text_is_written : (bytes : List ℕ) (history : History) → IsText bytes history → bytes ≡ history_text history
unfolding history_text
text_is_written bytes history text = leads_text bytes (history_lines history) [] text.leads ∙ append-nil (text_of (history_lines history))
