-- Lines and the bytes that they are.
use Rattle.std.proofs.Common.{◌≡◌, ℕ, ◌≤◌, false, List, [], ◌∷◌, ◌++◌, length, refl, sym, ap, subst, ◌∙◌, append_assoc}
use Rattle.std.specs.List.{flat_map, list_any}
use Rattle.std.proofs.lemmas.List.{append-nil}
use Rattle.std.proofs.lemmas.List.Concat.{flat_map-cons}
use Rattle.ph_lines.specs.Fields.{text_of, with_lf}
use Rattle.ph_lines.specs.Lines.{First, Wants, Long, Has, first, is_lf, Leads, AreShort}
use Rattle.ph_lines.proofs.LineLemmas.{has_more, has_text, line_has}

-- the bytes are the lines with their LFs, and what follows
pub leads_text : (bytes : List ℕ) (lines : List (List ℕ)) (rest : List ℕ) → Leads bytes lines rest → bytes ≡ text_of lines ++ rest
leads_text bytes [] rest leads = leads
leads_text bytes (line ∷ lines) rest leads =
    has_text bytes line leads.0 leads.1 ∙ ap (λ more. line ++ 10 ∷ more) (leads_text leads.0 lines rest leads.2)
    ∙ sym (append_assoc line (10 ∷ text_of lines) rest)
    ∙ ap (λ text. text ++ rest) (sym (append_assoc line (10 ∷ []) (text_of lines)) ∙ sym (flat_map-cons with_lf line lines))

-- no line has an LF
abbrev pub ArePlain : List (List ℕ) → Type 0
ArePlain [] = Unit {0}
ArePlain (line ∷ lines) = (list_any is_lf line ≡ false) × ArePlain lines

-- short lines without LFs are the lines of their text
pub text_leads : (lines : List (List ℕ)) → ArePlain lines → AreShort lines → Leads (text_of lines) lines []
text_leads [] plain short = refl
text_leads (line ∷ lines) plain short = (
  text_of lines,
  ap first (flat_map-cons with_lf line lines ∙ append_assoc line (10 ∷ []) (text_of lines)) ∙ line_has line (text_of lines) plain.0 short.0,
  text_leads lines plain.1 short.1,
)

-- the lines of a front of some bytes
pub leads_more : (bytes : List ℕ) (lines : List (List ℕ)) (rest more : List ℕ) → Leads bytes lines rest → Leads (bytes ++ more) lines (rest ++ more)
leads_more bytes [] rest more leads = ap (λ xs. xs ++ more) leads
leads_more bytes (line ∷ lines) rest more leads = (leads.0 ++ more, has_more bytes line leads.0 more leads.1, leads_more leads.0 lines rest more leads.2)

-- one line more
pub leads_push : (bytes : List ℕ) (lines : List (List ℕ)) (rest line after : List ℕ) → Leads bytes lines rest → first rest ≡ Has line after → Leads bytes (lines ++ line ∷ []) after
leads_push bytes [] rest line after leads has = (after, ap first leads ∙ has, refl)
leads_push bytes (one ∷ lines) rest line after leads has = (leads.0, leads.1, leads_push leads.0 lines rest line after leads.2 has)

pub nothing_wants : first [] ≡ Wants
unfolding first
nothing_wants = refl

-- no bytes have a line
pub none_here : (bytes line rest : List ℕ) → bytes ≡ [] → first bytes ≡ Has line rest → ⊥
none_here bytes line rest none has = let both : Wants ≡ Has line rest = sym nothing_wants ∙ sym (ap first none) ∙ has in absurd cc

pub same_line : (a b c d : List ℕ) → Has a b ≡ Has c d → (a ≡ c) × (b ≡ d)
same_line a b c d h = (cc, cc)

-- lines that some bytes begin with are a front of all their lines
pub record Behind (all front : List (List ℕ)) (rest : List ℕ) : Type 0 where
  pub more : List (List ℕ)
  pub parts : all ≡ front ++ more
  pub leads : Leads rest more []

pub behind_front : (bytes : List ℕ) (all front : List (List ℕ)) (rest : List ℕ) → Leads bytes all [] → Leads bytes front rest → Behind all front rest
behind_front bytes all [] rest whole leads = record { more = all; parts = refl; leads = subst (λ b. Leads b all []) leads whole }
behind_front bytes [] (line ∷ front) rest whole leads = absurd (none_here bytes line leads.0 whole leads.1)
behind_front bytes (x ∷ all) (line ∷ front) rest whole leads =
    let same = same_line x whole.0 line leads.0 (sym whole.1 ∙ leads.1) in
    let later = behind_front leads.0 all front rest (subst (λ b. Leads b all []) same.1 whole.2) leads.2 in
    record { more = later.more; parts = ap (λ l. l ∷ all) same.0 ∙ ap (λ ls. line ∷ ls) later.parts; leads = later.leads }
