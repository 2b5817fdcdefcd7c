use Rattle.std.proofs.Common.{◌≡◌, ℕ, Bool, true, false, List, Option, Some, None, refl, sym, ◌∙◌, subst}
use Rattle.http_uri.specs.Grammar.{IsUriText, normal_scheme}
use Rattle.http_uri.specs.Uri.{Spells, SpellsNone, uri_scheme, uri_authority, uri_data}
use Rattle.http_uri.specs.declared.uri.Uri.{Uri}
use Rattle.http_uri.proofs.Theorems.{Spells_unique}
use Rattle.ph_address.specs.Absolute.{is_absolute, name_of, authority_of, tail_of, kept_of}
use Rattle.ph_address.specs.Address.{address_from, address_of}
use Rattle.ph_address.proofs.AbsoluteLemmas.{is_absolute-form, form-is_absolute}

unless_true : (b : Bool) → (b ≡ true → ⊥) → b ≡ false
unless_true true f = absurd (f refl)
unless_true false f = refl

-- a text that spells nothing has no endpoint
pub address_of_none : (text : List ℕ) → SpellsNone text → address_of text ≡ None
unfolding address_of
address_of_none text none =
    rw (unless_true (is_absolute text) (λ e. none (Some (normal_scheme (name_of text))) (Some (authority_of text)) (kept_of (tail_of text)) (is_absolute-form text e))) refl

-- the absolute form as a URI
abbrev absolute_uri : List ℕ → List ℕ → List ℕ → Uri
absolute_uri s a k = record { scheme = Some s; authority = Some a; path_and_query = k; absolute = λ x e. refl; authority_alone = λ e. absurd (let wrong : Some s ≡ None = e in cc) }

from_parts : (text : List ℕ) (u : Uri) (s a : Option (List ℕ)) → uri_scheme u ≡ s → uri_authority u ≡ a → Spells text u
    → address_of text ≡ address_from text s a (uri_data u)
unfolding address_of
from_parts text u (Some s) (Some a) x y h =
    let form = form-is_absolute text s a (uri_data u) (subst (λ o. IsUriText text (Some s) o (uri_data u)) y (subst (λ o. IsUriText text o (uri_authority u) (uri_data u)) x h)) in
    rw (form.0, form.1, form.2, form.3) refl
from_parts text u (Some s) None x y h =
    absurd (subst (λ o. IsUriText text (Some s) o (uri_data u)) y (subst (λ o. IsUriText text o (uri_authority u) (uri_data u)) x h)).1
from_parts text u None a x y h =
    rw (unless_true (is_absolute text) (λ e.
    let same = Spells_unique text u (absolute_uri (normal_scheme (name_of text)) (authority_of text) (kept_of (tail_of text))) h (is_absolute-form text e) in
    let wrong : None ≡ Some (normal_scheme (name_of text)) = sym x ∙ same.0 in cc)) refl

-- a text that spells a URI has the endpoint of its parts
pub address_of_spelled : (text : List ℕ) (u : Uri) → Spells text u → address_of text ≡ address_from text (uri_scheme u) (uri_authority u) (uri_data u)
address_of_spelled text u h = from_parts text u _ _ refl refl h
