-- A line that is read is the line that was written, and what was written is read again.
use Rattle.std.proofs.Common.{◌≡◌, ℕ, zero, suc, ◌+◌, ◌^◌, ◌<◌, Bool, true, false, cond, nat_lt, List, [], ◌∷◌, ◌++◌, length, Option, Some, None, refl, sym, ap, subst, ◌∙◌, arith, codes}
use Rattle.std.specs.Prelude.{IfSome, IfOk, Result, Ok, Err, ◌==◌}
use Rattle.std.specs.List.{slice_split, list_any, list_all}
use Rattle.std.specs.Str.{bytes_eq}
use Rattle.std.specs.Fmt.{decimal}
use Rattle.std.proofs.lemmas.Bool.Decides.{nat_tests}
use Rattle.std.proofs.lemmas.Bool.{ltb-true, lt-ltb, eqb-true}
use Rattle.std.proofs.lemmas.List.{nil_from_length, append-nil}
use Rattle.hex.specs.Hex.{IsBytes}
use Rattle.ph_base.specs.declared.acquirer.Decline.TheVariants as decline
use Rattle.ph_base.specs.declared.acquirer.Ruling.{Ruling}
use Rattle.ph_base.specs.declared.acquirer.Ruling.TheVariants as ruling
use Rattle.ph_base.specs.declared.acquirer.Why.{Why}
use Rattle.ph_base.specs.declared.acquirer.Why.TheVariants as why
use Rattle.ph_http.specs.declared.message.Raw.{Raw}
use Rattle.ph_book.specs.declared.acts.Deed.{Deed}
use Rattle.ph_book.specs.declared.acts.Deed.TheVariants as deed
use Rattle.ph_book.specs.declared.acts.Entry.{Entry}
use Rattle.ph_book.specs.declared.setup.Setup.{Setup}
use Rattle.ph_lines.specs.declared.reading.Unread.{Unread}
use Rattle.ph_lines.specs.Fields.{flag, joined, octets}
use Rattle.ph_lines.specs.Reading.{◌>>=◌, Gives, fields_left, is_space, field_at, by_word, flag_at, number_at, octets_at, bytes_at, all_read}
use Rattle.ph_lines.proofs.SplitLemmas.{AreWords, is_shown, split_joined, joined_split, joined_plain}
use Rattle.ph_lines.proofs.FieldLemmas.{bind_some, bind_then, just, some_is, behind, guarded, same_bytes, equal_bytes, spelled, kind_is, nothing_left, field_takes, by_word_takes, by_word_again, number_field, number_field_again, octets_field, octets_field_again, bytes_field, bytes_field_again, flag_field, flag_field_again, decimal_plain, octets_plain, flag_plain}
use Rattle.ph_history.specs.Text.{ruling_word, why_word, raw_fields, deed_fields, entry_fields, setup_fields, end_fields, entry_line, setup_line, end_line}
use Rattle.ph_history.specs.Reading.{ruling_of, why_of, raw_at, call_at, finish_at, park_at, tick_at, deed_by, entry_in, setup_in, end_in, FitsRaw, FitsDeed, FitsEntry, FitsSetup}

-- ---- words

ruling_takes : (word : List ℕ) (r : Ruling) → ruling_of word ≡ Some r → word ≡ ruling_word r
ruling_takes word r e =
    spelled ruling_word word ruling.Approved r _ e
    (λ e. spelled ruling_word word (ruling.Declined decline.Generic) r _ e
    (λ e. spelled ruling_word word (ruling.Declined decline.NoFunds) r _ e
    (λ e. spelled ruling_word word ruling.Challenge r None e (λ e. absurd cc))))

ruling_again : (r : Ruling) → ruling_of (ruling_word r) ≡ Some r
ruling_again ruling.Approved = refl
ruling_again (ruling.Declined decline.Generic) = refl
ruling_again (ruling.Declined decline.NoFunds) = refl
ruling_again ruling.Challenge = refl

why_takes : (word : List ℕ) (w : Why) → why_of word ≡ Some w → word ≡ why_word w
why_takes word w e =
    spelled why_word word why.Pending w _ e
    (λ e. spelled why_word word why.Failed w _ e
    (λ e. spelled why_word word why.NoMemory w None e (λ e. absurd cc)))

why_again : (w : Why) → why_of (why_word w) ≡ Some w
why_again why.Pending = refl
why_again why.Failed = refl
why_again why.NoMemory = refl

-- ---- what several fields give

-- x was read from the front of the fields
abbrev Took : {X : Type 0} → (X → List (List ℕ)) → (X → Type 0) → List (List ℕ) → X × List (List ℕ) → Type 0
Took fields Fits words x = (words ≡ fields x.0 ++ x.1) × Fits x.0

-- eight fields, one behind the other
raw_text :
    {w0 w1 w2 w3 w4 w5 w6 w7 rest : List (List ℕ)} (raw : Raw) →
    (w0 ≡ octets (Some raw.method) ∷ w1) × IsBytes raw.method → (w1 ≡ octets (Some raw.path) ∷ w2) × IsBytes raw.path →
    (w2 ≡ octets raw.query ∷ w3) × IfSome raw.query IsBytes → (w3 ≡ octets raw.auth ∷ w4) × IfSome raw.auth IsBytes →
    (w4 ≡ octets raw.key ∷ w5) × IfSome raw.key IsBytes → (w5 ≡ octets raw.account ∷ w6) × IfSome raw.account IsBytes →
    w6 ≡ flag raw.close ∷ w7 → (w7 ≡ octets (Some raw.body) ∷ rest) × IsBytes raw.body →
    Took raw_fields FitsRaw w0 (raw, rest)
raw_text raw m p q u k a c b = (
  m.0 ∙ behind (p.0 ∙ behind (q.0 ∙ behind (u.0 ∙ behind (k.0 ∙ behind (a.0 ∙ behind (c ∙ behind b.0)))))),
  record { method = m.1; path = p.1; query = q.1; auth = u.1; key = k.1; account = a.1; body = b.1 },
)

raw_takes : (words : List (List ℕ)) (x : Raw × List (List ℕ)) → raw_at words ≡ Some x → Took raw_fields FitsRaw words x
unfolding raw_at
raw_takes words x e =
    bind_then (bytes_at words) _ x e (λ m em e.
    bind_then (bytes_at m.1) _ x e (λ p ep e.
    bind_then (octets_at p.1) _ x e (λ q eq e.
    bind_then (octets_at q.1) _ x e (λ u eu e.
    bind_then (octets_at u.1) _ x e (λ k ek e.
    bind_then (octets_at k.1) _ x e (λ a ea e.
    bind_then (flag_at a.1) _ x e (λ c ec e.
    bind_then (bytes_at c.1) _ x e (λ b eb e.
    let made : Raw = record { method = m.0; path = p.0; query = q.0; auth = u.0; key = k.0; account = a.0; body = b.0; close = c.0 } in
    subst (Took raw_fields FitsRaw words) (some_is (made, b.1) x e)
    (raw_text made (bytes_field words m em) (bytes_field m.1 p ep) (octets_field p.1 q eq) (octets_field q.1 u eu) (octets_field u.1 k ek) (octets_field k.1 a ea) (flag_field a.1 c ec) (bytes_field c.1 b eb))))))))))

raw_again : (raw : Raw) (rest : List (List ℕ)) → FitsRaw raw → raw_at (raw_fields raw ++ rest) ≡ Some (raw, rest)
unfolding raw_at
raw_again raw rest fits =
    let r7 = octets (Some raw.body) ∷ rest in
    let r6 = flag raw.close ∷ r7 in
    let r5 = octets raw.account ∷ r6 in
    let r4 = octets raw.key ∷ r5 in
    let r3 = octets raw.auth ∷ r4 in
    let r2 = octets raw.query ∷ r3 in
    let r1 = octets (Some raw.path) ∷ r2 in
    rw (bytes_field_again raw.method r1 fits.method, bytes_field_again raw.path r2 fits.path, octets_field_again raw.query r3 fits.query, octets_field_again raw.auth r4 fits.auth, octets_field_again raw.key r5 fits.key, octets_field_again raw.account r6 fits.account, flag_field_again raw.close r7, bytes_field_again raw.body rest fits.body) refl

call_takes : (words : List (List ℕ)) (x : Deed × List (List ℕ)) → call_at words ≡ Some x → Took deed_fields FitsDeed (codes "call" ∷ words) x
unfolding call_at
call_takes words x e =
    let a = bind_some (raw_at words) _ x e in
    let t = raw_takes words a.0 a.1 in
    subst (Took deed_fields FitsDeed (codes "call" ∷ words)) (some_is (deed.Call a.0.0, a.0.1) x a.2) (ap (λ ws. codes "call" ∷ ws) t.0, t.1)

finish_takes : (words : List (List ℕ)) (x : Deed × List (List ℕ)) → finish_at words ≡ Some x → Took deed_fields FitsDeed (codes "finish" ∷ words) x
unfolding finish_at
finish_takes words x e =
    let a = bind_some (number_at words) _ x e in
    let b = bind_some (by_word ruling_of a.0.1) _ x a.2 in
    let ta = number_field words a.0 a.1 in
    let tb = by_word_takes ruling_of a.0.1 b.0 b.1 in
    subst (Took deed_fields FitsDeed (codes "finish" ∷ words)) (some_is (deed.Finish a.0.0 b.0.0, b.0.1) x b.2)
    (behind (ta.0 ∙ behind (tb.1 ∙ ap (λ word. word ∷ b.0.1) (ruling_takes tb.0 b.0.0 tb.2))), ta.1)

park_takes : (words : List (List ℕ)) (x : Deed × List (List ℕ)) → park_at words ≡ Some x → Took deed_fields FitsDeed (codes "park" ∷ words) x
unfolding park_at
park_takes words x e =
    let a = bind_some (number_at words) _ x e in
    let b = bind_some (by_word why_of a.0.1) _ x a.2 in
    let ta = number_field words a.0 a.1 in
    let tb = by_word_takes why_of a.0.1 b.0 b.1 in
    subst (Took deed_fields FitsDeed (codes "park" ∷ words)) (some_is (deed.Park a.0.0 b.0.0, b.0.1) x b.2)
    (behind (ta.0 ∙ behind (tb.1 ∙ ap (λ word. word ∷ b.0.1) (why_takes tb.0 b.0.0 tb.2))), ta.1)

resume_takes : (words : List (List ℕ)) (x : Deed × List (List ℕ)) → Some (deed.Resume, words) ≡ Some x → Took deed_fields FitsDeed (codes "resume" ∷ words) x
resume_takes words x e = subst (Took deed_fields FitsDeed (codes "resume" ∷ words)) (some_is (deed.Resume, words) x e) (refl, tt)

tick_takes : (words : List (List ℕ)) (x : Deed × List (List ℕ)) → tick_at words ≡ Some x → Took deed_fields FitsDeed (codes "tick" ∷ words) x
unfolding tick_at
tick_takes words x e =
    let a = bind_some (number_at words) _ x e in
    let t = number_field words a.0 a.1 in
    subst (Took deed_fields FitsDeed (codes "tick" ∷ words)) (some_is (deed.Tick a.0.0, a.0.1) x a.2) (ap (λ ws. codes "tick" ∷ ws) t.0, t.1)

deed_takes : (w : List ℕ) (ws : List (List ℕ)) (x : Deed × List (List ℕ)) → deed_by w ws ≡ Some x → Took deed_fields FitsDeed (w ∷ ws) x
unfolding deed_by
deed_takes w ws x e =
    kind_is w (codes "call") _ _ x e (λ h e. rw h (call_takes ws x e))
    (λ e. kind_is w (codes "finish") _ _ x e (λ h e. rw h (finish_takes ws x e))
    (λ e. kind_is w (codes "park") _ _ x e (λ h e. rw h (park_takes ws x e))
    (λ e. kind_is w (codes "resume") _ _ x e (λ h e. rw h (resume_takes ws x e))
    (λ e. kind_is w (codes "tick") _ None x e (λ h e. rw h (tick_takes ws x e))
    (λ e. absurd cc)))))

-- the fields of a deed are its kind and the others
deed_again : (d : Deed) → FitsDeed d → (field_at (deed_fields d) >>= λ kind. deed_by kind.0 kind.1) ≡ Some (d, [])
unfolding deed_by call_at finish_at park_at tick_at
deed_again (deed.Call raw) fits = rw (raw_again raw [] fits) refl
deed_again (deed.Finish run r) fits = rw (number_field_again run (ruling_word r ∷ []) fits, by_word_again ruling_of (ruling_word r) r [] (ruling_again r)) refl
deed_again (deed.Park run w) fits = rw (number_field_again run (why_word w ∷ []) fits, by_word_again why_of (why_word w) w [] (why_again w)) refl
deed_again deed.Resume fits = refl
deed_again (deed.Tick moment) fits = rw (number_field_again moment [] fits) refl

-- ---- lines

entry_takes : (words : List (List ℕ)) (entry : Entry) → entry_in words ≡ Some entry → (words ≡ entry_fields entry) × FitsEntry entry
unfolding entry_in
entry_takes words entry e =
    let a = bind_some (field_at words) _ entry e in
    let g = guarded (bytes_eq a.0.0 (codes "e")) _ entry a.2 in
    let b = bind_some (number_at a.0.1) _ entry g.1 in
    let k = bind_some (field_at b.0.1) _ entry b.2 in
    let d = bind_some (deed_by k.0.0 k.0.1) _ entry k.2 in
    let tb = number_field a.0.1 b.0 b.1 in
    let td = deed_takes k.0.0 k.0.1 d.0 d.1 in
    let left = nothing_left (record { caller = b.0.0; deed = d.0.0 }) entry d.0.1 d.2 in
    let made : Entry = record { caller = b.0.0; deed = d.0.0 } in
    let fields : words ≡ entry_fields made =
    field_takes words a.0 a.1 ∙ ap (λ word. word ∷ a.0.1) (same_bytes a.0.0 (codes "e") g.0)
    ∙ behind (tb.0 ∙ behind (field_takes b.0.1 k.0 k.1 ∙ td.0 ∙ ap (λ rest. deed_fields d.0.0 ++ rest) left.0 ∙ append-nil (deed_fields d.0.0))) in
    subst (λ (y : Entry). (words ≡ entry_fields y) × FitsEntry y) left.1 (fields, record { caller = tb.1; deed = td.1 })

entry_again : (entry : Entry) → FitsEntry entry → entry_in (entry_fields entry) ≡ Some entry
unfolding entry_in
entry_again entry fits =
    let a = bind_some (field_at (deed_fields entry.deed)) _ (entry.deed, []) (deed_again entry.deed fits.deed) in
    rw (number_field_again entry.caller (deed_fields entry.deed) fits.caller, a.1, a.2) refl

-- ---- fields without spaces

ruling_plain : (r : Ruling) → list_all is_shown (ruling_word r) ≡ true
ruling_plain ruling.Approved = refl
ruling_plain (ruling.Declined decline.Generic) = refl
ruling_plain (ruling.Declined decline.NoFunds) = refl
ruling_plain ruling.Challenge = refl

why_plain : (w : Why) → list_all is_shown (why_word w) ≡ true
why_plain why.Pending = refl
why_plain why.Failed = refl
why_plain why.NoMemory = refl

deed_plain : (d : Deed) → FitsDeed d → AreWords (deed_fields d)
deed_plain (deed.Call raw) fits =
    (refl, (octets_plain (Some raw.method) fits.method, (octets_plain (Some raw.path) fits.path, (octets_plain raw.query fits.query, (octets_plain raw.auth fits.auth, (octets_plain raw.key fits.key, (octets_plain raw.account fits.account, (flag_plain raw.close, (octets_plain (Some raw.body) fits.body, tt)))))))))
deed_plain (deed.Finish run r) fits = (refl, (decimal_plain run fits, (ruling_plain r, tt)))
deed_plain (deed.Park run w) fits = (refl, (decimal_plain run fits, (why_plain w, tt)))
deed_plain deed.Resume fits = (refl, tt)
deed_plain (deed.Tick moment) fits = (refl, (decimal_plain moment fits, tt))

-- what is read from a line is what it says
pub entry_line_takes : (line : List ℕ) (entry : Entry) → entry_in (slice_split is_space line) ≡ Some entry → (line ≡ entry_line entry) × FitsEntry entry
unfolding entry_line
entry_line_takes line entry e =
    let t = entry_takes (slice_split is_space line) entry e in
    (sym (joined_split line) ∙ ap joined t.0, t.1)

-- what a line says is read from it
pub entry_line_again : (entry : Entry) → FitsEntry entry → entry_in (slice_split is_space (entry_line entry)) ≡ Some entry
unfolding entry_line
entry_line_again entry fits =
    let words = split_joined (codes "e") (decimal entry.caller ∷ deed_fields entry.deed) (refl, (decimal_plain entry.caller fits.caller, deed_plain entry.deed fits.deed)) in
    ap entry_in words ∙ entry_again entry fits

-- no two entries have one line
pub entry_lines_differ : (x y : Entry) → FitsEntry x → FitsEntry y → entry_line x ≡ entry_line y → x ≡ y
entry_lines_differ x y fx fy same = some_is x y (sym (entry_line_again x fx) ∙ ap (λ line. entry_in (slice_split is_space line)) same ∙ entry_line_again y fy)

-- ---- what the reader of a line promises

pub line_found : (line : List ℕ) (r : Result Entry Unread) → Gives (λ entry. entry) r (entry_in (slice_split is_space line)) → IfOk r (λ entry. (line ≡ entry_line entry) × FitsEntry entry)
line_found line (Ok entry) given = entry_line_takes line entry given
line_found line (Err e) given = tt

pub line_only : (line : List ℕ) (r : Result Entry Unread) (said : Entry) → Gives (λ entry. entry) r (entry_in (slice_split is_space line)) → FitsEntry said → line ≡ entry_line said → Gives (λ entry. entry) r (Some said)
line_only line r said given fits text = subst (Gives (λ entry. entry) r) (ap (λ bytes. entry_in (slice_split is_space bytes)) text ∙ entry_line_again said fits) given

-- ---- the setup and the end

setup_takes : (words : List (List ℕ)) (s : Setup) → setup_in words ≡ Some s → (words ≡ setup_fields s) × FitsSetup s
unfolding setup_in
setup_takes words s e =
    bind_then (field_at words) _ s e (λ a ea e.
    let g = guarded (bytes_eq a.0 (codes "setup")) _ s e in
    bind_then (bytes_at a.1) _ s g.1 (λ k ek e.
    bind_then (number_at k.1) _ s e (λ o eo e.
    bind_then (number_at o.1) _ s e (λ n en e.
    bind_then (number_at n.1) _ s e (λ w ew e.
    let small = guarded (nat_lt n.0 (2 ^ 32)) _ s e in
    let made : Setup = record { key = k.0; opened = o.0; entries = n.0; weight = w.0 } in
    let left = nothing_left made s w.1 small.1 in
    let tk = bytes_field a.1 k ek in
    let to = number_field k.1 o eo in
    let tn = number_field o.1 n en in
    let tw = number_field n.1 w ew in
    subst (λ (y : Setup). (words ≡ setup_fields y) × FitsSetup y) left.1 (
      field_takes words a ea ∙ ap (λ word. word ∷ a.1) (same_bytes a.0 (codes "setup") g.0)
          ∙ behind (tk.0 ∙ behind (to.0 ∙ behind (tn.0 ∙ behind (tw.0 ∙ behind left.0)))),
      record { key = tk.1; opened = to.1; entries = ltb-true n.0 (2 ^ 32) small.0; weight = tw.1 },
    ))))))

setup_again : (s : Setup) → FitsSetup s → setup_in (setup_fields s) ≡ Some s
unfolding setup_in
setup_again s fits =
    let r3 = decimal s.weight ∷ [] in
    let r2 = decimal s.entries ∷ r3 in
    let r1 = decimal s.opened ∷ r2 in
    let narrow : s.entries < 2 ^ 64 = omega (arith, fits.entries) in
    rw (bytes_field_again s.key r1 fits.key, number_field_again s.opened r2 fits.opened, number_field_again s.entries r3 narrow, number_field_again s.weight [] fits.weight, lt-ltb s.entries (2 ^ 32) fits.entries) refl

end_takes : (words : List (List ℕ)) (n : ℕ) → end_in words ≡ Some n → words ≡ end_fields n
unfolding end_in
end_takes words n e =
    bind_then (field_at words) _ n e (λ a ea e.
    let g = guarded (bytes_eq a.0 (codes "end")) _ n e in
    bind_then (number_at a.1) _ n g.1 (λ c ec e.
    let left = nothing_left c.0 n c.1 e in
    subst (λ m. words ≡ end_fields m) left.1
    (field_takes words a ea ∙ ap (λ word. word ∷ a.1) (same_bytes a.0 (codes "end") g.0) ∙ behind ((number_field a.1 c ec).0 ∙ behind left.0))))

end_again : (n : ℕ) → n < 2 ^ 64 → end_in (end_fields n) ≡ Some n
unfolding end_in
end_again n small = rw (number_field_again n [] small) refl

setup_split : (s : Setup) → FitsSetup s → slice_split is_space (setup_line s) ≡ setup_fields s
unfolding setup_line
setup_split s fits =
    let narrow : s.entries < 2 ^ 64 = omega (arith, fits.entries) in
    split_joined (codes "setup") _ (refl, (octets_plain (Some s.key) fits.key, (decimal_plain s.opened fits.opened, (decimal_plain s.entries narrow, (decimal_plain s.weight fits.weight, tt)))))

end_split : (n : ℕ) → n < 2 ^ 64 → slice_split is_space (end_line n) ≡ end_fields n
unfolding end_line
end_split n small = split_joined (codes "end") _ (refl, (decimal_plain n small, tt))

entry_split : (entry : Entry) → FitsEntry entry → slice_split is_space (entry_line entry) ≡ entry_fields entry
unfolding entry_line
entry_split entry fits = split_joined (codes "e") (decimal entry.caller ∷ deed_fields entry.deed) (refl, (decimal_plain entry.caller fits.caller, deed_plain entry.deed fits.deed))

pub setup_found : (line : List ℕ) (r : Result Setup Unread) → Gives (λ s. s) r (setup_in (slice_split is_space line)) → IfOk r (λ s. (line ≡ setup_line s) × FitsSetup s)
unfolding setup_line
setup_found line (Ok s) given = let t = setup_takes (slice_split is_space line) s given in (sym (joined_split line) ∙ ap joined t.0, t.1)
setup_found line (Err e) given = tt

pub setup_only : (line : List ℕ) (r : Result Setup Unread) (said : Setup) → Gives (λ s. s) r (setup_in (slice_split is_space line)) → FitsSetup said → line ≡ setup_line said → Gives (λ s. s) r (Some said)
setup_only line r said given fits text = subst (Gives (λ s. s) r) (ap (λ bytes. setup_in (slice_split is_space bytes)) text ∙ ap setup_in (setup_split said fits) ∙ setup_again said fits) given

pub end_found : (line : List ℕ) (r : Result ℕ Unread) → Gives (λ n. n) r (end_in (slice_split is_space line)) → IfOk r (λ n. line ≡ end_line n)
unfolding end_line
end_found line (Ok n) given = sym (joined_split line) ∙ ap joined (end_takes (slice_split is_space line) n given)
end_found line (Err e) given = tt

pub end_only : (line : List ℕ) (r : Result ℕ Unread) (said : ℕ) → Gives (λ n. n) r (end_in (slice_split is_space line)) → said < 2 ^ 64 → line ≡ end_line said → Gives (λ n. n) r (Some said)
end_only line r said given small text = subst (Gives (λ n. n) r) (ap (λ bytes. end_in (slice_split is_space bytes)) text ∙ ap end_in (end_split said small) ∙ end_again said small) given

-- no two setups have one line
pub setup_lines_differ : (x y : Setup) → FitsSetup x → FitsSetup y → setup_line x ≡ setup_line y → x ≡ y
setup_lines_differ x y fx fy same = some_is x y
    (sym (setup_again x fx) ∙ ap setup_in (sym (setup_split x fx)) ∙ ap (λ line. setup_in (slice_split is_space line)) same ∙ ap setup_in (setup_split y fy) ∙ setup_again y fy)

-- ---- no line has an LF

pub entry_plain : (entry : Entry) → FitsEntry entry → list_any (λ b. b == 10) (entry_line entry) ≡ false
unfolding entry_line
entry_plain entry fits = joined_plain (codes "e") (decimal entry.caller ∷ deed_fields entry.deed) (refl, (decimal_plain entry.caller fits.caller, deed_plain entry.deed fits.deed))

pub setup_plain : (s : Setup) → FitsSetup s → list_any (λ b. b == 10) (setup_line s) ≡ false
unfolding setup_line
setup_plain s fits =
    let narrow : s.entries < 2 ^ 64 = omega (arith, fits.entries) in
    joined_plain (codes "setup") (octets (Some s.key) ∷ decimal s.opened ∷ decimal s.entries ∷ decimal s.weight ∷ []) (refl, (octets_plain (Some s.key) fits.key, (decimal_plain s.opened fits.opened, (decimal_plain s.entries narrow, (decimal_plain s.weight fits.weight, tt)))))

pub end_plain : (n : ℕ) → n < 2 ^ 64 → list_any (λ b. b == 10) (end_line n) ≡ false
unfolding end_line
end_plain n small = joined_plain (codes "end") (decimal n ∷ []) (refl, (decimal_plain n small, tt))
