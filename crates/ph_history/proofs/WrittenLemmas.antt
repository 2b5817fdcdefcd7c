-- A text by its lines and by its parts.
use Rattle.std.proofs.Common.{◌≡◌, ℕ, List, [], ◌∷◌, ◌++◌, length, map, refl, sym, ap, subst, ◌∙◌, append_assoc}
use Rattle.std.specs.List.{flat_map}
use Rattle.std.proofs.lemmas.List.{append-nil}
use Rattle.std.proofs.lemmas.List.Concat.{flat_map-cons, flat_map-append}
use Rattle.ph_io.specs.Told.{SinkState}
use Rattle.ph_io.specs.Writes.{Takes, TakesFront}
use Rattle.ph_io.proofs.DeviceLemmas.{takes_twice, takes_then_front}
use Rattle.ph_book.specs.declared.acts.Entry.{Entry}
use Rattle.ph_book.specs.declared.setup.Setup.{Setup}
use Rattle.ph_lines.specs.Fields.{line_text, text_of, with_lf}
use Rattle.ph_lines.proofs.WriteLemmas.{both, front_within}
use Rattle.ph_history.specs.Text.{end_fields, end_line, entry_fields, entry_line, header_fields, header_line, history_lines, history_text, setup_fields, setup_line}
use Rattle.ph_history.specs.Grammar.{told_by}
use Rattle.ph_history.specs.Written.{entries_text, written_text}

-- ---- the text by its lines

entry_is : (entry : Entry) → with_lf (entry_line entry) ≡ line_text (entry_fields entry)
unfolding entry_line line_text
entry_is entry = refl

entries_are : (entries : List Entry) → text_of (map entry_line entries) ≡ entries_text entries
entries_are [] = refl
entries_are (entry ∷ entries) =
    flat_map-cons with_lf (entry_line entry) (map entry_line entries)
    ∙ ap (λ text. text ++ text_of (map entry_line entries)) (entry_is entry)
    ∙ ap (λ text. line_text (entry_fields entry) ++ text) (entries_are entries)
    ∙ sym (flat_map-cons (λ e. line_text (entry_fields e)) entry entries)

header_is : with_lf header_line ≡ line_text header_fields
unfolding line_text
header_is = refl

setup_is : (setup : Setup) → with_lf (setup_line setup) ≡ line_text (setup_fields setup)
unfolding setup_line line_text
setup_is setup = refl

end_is : (count : ℕ) → text_of (end_line count ∷ []) ≡ line_text (end_fields count)
unfolding end_line line_text
end_is count = append-nil (line_text (end_fields count))

-- the parts are the text
pub written_is : (setup : Setup) (entries : List Entry) → written_text setup entries ≡ history_text (told_by setup entries)
unfolding written_text history_text
written_is setup entries = sym (
    flat_map-cons with_lf header_line (setup_line setup ∷ (map entry_line entries ++ end_line (length entries) ∷ []))
    ∙ ap (λ text. text ++ text_of (setup_line setup ∷ (map entry_line entries ++ end_line (length entries) ∷ []))) header_is
    ∙ ap (λ text. line_text header_fields ++ text) (
    flat_map-cons with_lf (setup_line setup) (map entry_line entries ++ end_line (length entries) ∷ [])
    ∙ ap (λ text. text ++ text_of (map entry_line entries ++ end_line (length entries) ∷ [])) (setup_is setup)
    ∙ ap (λ text. line_text (setup_fields setup) ++ text) (
    flat_map-append with_lf (map entry_line entries) (end_line (length entries) ∷ [])
    ∙ ap (λ text. text ++ text_of (end_line (length entries) ∷ [])) (entries_are entries)
    ∙ ap (λ text. entries_text entries ++ text) (end_is (length entries)))))

-- ---- four parts

pub in_second : {s0 s1 s2 : SinkState} (a b c d : List ℕ) → Takes s0 s1 a → TakesFront s1 s2 b → TakesFront s0 s2 (a ++ (b ++ (c ++ d)))
in_second a b c d first front = front_within (c ++ d) first front (append_assoc a b (c ++ d))

pub in_third : {s0 s1 s2 s3 : SinkState} (a b c d : List ℕ) → Takes s0 s1 a → Takes s1 s2 b → TakesFront s2 s3 c → TakesFront s0 s3 (a ++ (b ++ (c ++ d)))
in_third a b c d first second front = front_within d (takes_twice first second) front (append_assoc (a ++ b) c d ∙ append_assoc a b (c ++ d))

four : (a b c d : List ℕ) → ((a ++ b) ++ c) ++ d ≡ a ++ (b ++ (c ++ d))
four a b c d = append_assoc (a ++ b) c d ∙ append_assoc a b (c ++ d)

pub in_fourth : {s0 s1 s2 s3 s4 : SinkState} (a b c d : List ℕ) → Takes s0 s1 a → Takes s1 s2 b → Takes s2 s3 c → TakesFront s3 s4 d → TakesFront s0 s4 (a ++ (b ++ (c ++ d)))
in_fourth {s0} {s4 = s4} a b c d first second third front = subst (TakesFront s0 s4) (four a b c d) (takes_then_front (takes_twice (takes_twice first second) third) front)

pub all_four : {s0 s1 s2 s3 s4 : SinkState} (a b c d : List ℕ) → Takes s0 s1 a → Takes s1 s2 b → Takes s2 s3 c → Takes s3 s4 d → Takes s0 s4 (a ++ (b ++ (c ++ d)))
all_four a b c d first second third fourth = both (takes_twice (takes_twice first second) third) fourth (four a b c d)
