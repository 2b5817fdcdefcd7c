-- What a session serves and writes, one request after another.
use Rattle.std.proofs.Common.{◌≡◌, ℕ, zero, suc, ◌==◌, ◌||◌, Bool, true, false, cond, List, [], ◌∷◌, ◌++◌, refl, sym, ap, ◌∙◌, append_assoc}
use Rattle.std.specs.Prelude.{Option}
use Rattle.std.proofs.lemmas.List.{append-nil}
use Rattle.ph_errors.specs.declared.fixed.Fixed.{Fixed}
use Rattle.ph_http.specs.declared.message.Raw.{Raw}
use Rattle.ph_http.specs.declared.message.Reply.{Reply}
use Rattle.ph_http.specs.Items.{Item, Continue, Request, Close, Cut, End}
use Rattle.ph_http.specs.Replies.{rendered}
use Rattle.ph_conn.specs.Reads.{request_items}
use Rattle.ph_conn.specs.Served.{Stopped, served, halt_of, replies_behind, replies_text, next_line, output}
use Rattle.ph_conn.specs.Texts.{continue_line, line_for, tail_text}
use Rattle.ph_conn.specs.declared.endings.Stop.TheVariants as stop

-- ---- the items of one request at the front

served-request : (raw : Raw) (continues : Bool) (tail : List Item) (n : ℕ) → raw.close ≡ false → served (request_items raw continues ++ tail) (suc n) ≡ raw ∷ served tail n
served-request raw false tail n stays = ap (λ b. raw ∷ cond b [] (served tail n)) stays
served-request raw true tail n stays = ap (λ b. raw ∷ cond b [] (served tail n)) stays

served-last : (raw : Raw) (continues : Bool) (tail : List Item) (n : ℕ) → raw.close ≡ true → served (request_items raw continues ++ tail) (suc n) ≡ raw ∷ []
served-last raw false tail n closes = ap (λ b. raw ∷ cond b [] (served tail n)) closes
served-last raw true tail n closes = ap (λ b. raw ∷ cond b [] (served tail n)) closes

-- whatever follows it
pub served-with : (raw : Raw) (continues : Bool) (tail : List Item) (n : ℕ) → served (request_items raw continues ++ tail) (suc n) ≡ raw ∷ cond raw.close [] (served tail n)
served-with raw false tail n = refl
served-with raw true tail n = refl

halt-request : (raw : Raw) (continues : Bool) (tail : List Item) (n : ℕ) → raw.close ≡ false → halt_of (request_items raw continues ++ tail) (suc n) ≡ halt_of tail n
halt-request raw false tail n stays = ap (λ b. cond b (Stopped stop.Asked) (halt_of tail n)) stays
halt-request raw true tail n stays = ap (λ b. cond b (Stopped stop.Asked) (halt_of tail n)) stays

halt-last : (raw : Raw) (continues : Bool) (tail : List Item) (n : ℕ) → raw.close ≡ true → halt_of (request_items raw continues ++ tail) (suc n) ≡ Stopped stop.Asked
halt-last raw false tail n closes = ap (λ b. cond b (Stopped stop.Asked) (halt_of tail n)) closes
halt-last raw true tail n closes = ap (λ b. cond b (Stopped stop.Asked) (halt_of tail n)) closes

-- the text of a reply, behind the line that its request waits for
abbrev pub reply_text : Bool → Bool → Reply → List ℕ
reply_text continues last reply = line_for continues ++ rendered reply last

replies-request : (raw : Raw) (continues : Bool) (tail : List Item) (n : ℕ) (reply : Reply) (more : List Reply)
    → replies_text (request_items raw continues ++ tail) (suc n) (reply ∷ more) ≡ reply_text continues (raw.close || n == 0) reply ++ cond raw.close [] (replies_text tail n more)
replies-request raw false tail n reply more = refl
replies-request raw true tail n reply more = refl

line-request : (raw : Raw) (continues : Bool) (tail : List Item) (n : ℕ) (reply : Reply) (more : List Reply)
    → next_line (request_items raw continues ++ tail) (suc n) (reply ∷ more) ≡ cond raw.close [] (next_line tail n more)
line-request raw false tail n reply more = refl
line-request raw true tail n reply more = refl

-- a request without a reply has its line
pub line-waiting : (raw : Raw) (continues : Bool) (tail : List Item) (n : ℕ) → next_line (request_items raw continues ++ tail) (suc n) [] ≡ line_for continues
line-waiting raw false tail n = refl
line-waiting raw true tail n = refl

-- without replies nothing is replied
pub no-replies : (line : List ℕ) (items : List Item) (limit : ℕ) → replies_behind line items limit [] ≡ []
no-replies line items zero = refl
no-replies line [] (suc n) = refl
no-replies line (Continue ∷ items) (suc n) = no-replies continue_line items (suc n)
no-replies line (Request raw ∷ items) (suc n) = refl
no-replies line (Close status ∷ items) (suc n) = refl
no-replies line (Cut ∷ items) (suc n) = refl
no-replies line (End ∷ items) (suc n) = refl

-- ---- a session so far

-- what a session has served and written of the items given so far, with so many requests left to serve
pub record Serves (limit : ℕ) (given : List Item) (entered : List Raw) (replies : List Reply) (text : List ℕ) (left : ℕ) : Type 0 where
  pub serves : (tail : List Item) → served (given ++ tail) limit ≡ entered ++ served tail left
  pub halts : (tail : List Item) → halt_of (given ++ tail) limit ≡ halt_of tail left
  pub writes : (tail : List Item) (more : List Reply) → replies_text (given ++ tail) limit (replies ++ more) ≡ text ++ replies_text tail left more
  pub waits : (tail : List Item) (more : List Reply) → next_line (given ++ tail) limit (replies ++ more) ≡ next_line tail left more

pub serves-nothing : (limit : ℕ) → Serves limit [] [] [] [] limit
serves-nothing limit = record { serves = λ tail. refl; halts = λ tail. refl; writes = λ tail more. refl; waits = λ tail more. refl }

-- what was written is its replies
pub written : {limit : ℕ} {given : List Item} {entered : List Raw} {replies : List Reply} {text : List ℕ} {left : ℕ} → Serves limit given entered replies text left
    → (tail : List Item) → replies_text (given ++ tail) limit replies ≡ text
written {limit} {given} {entered} {replies} {text} {left} done tail =
    ap (λ rs. replies_text (given ++ tail) limit rs) (sym (append-nil replies))
    ∙ done.writes tail [] ∙ ap (λ more. text ++ more) (no-replies [] tail left) ∙ append-nil text

-- and behind them stands the line of the next item
pub line-left : {limit : ℕ} {given : List Item} {entered : List Raw} {replies : List Reply} {text : List ℕ} {left : ℕ} → Serves limit given entered replies text left
    → (tail : List Item) → next_line (given ++ tail) limit replies ≡ next_line tail left []
line-left {limit} {given} {entered} {replies} done tail =
    ap (λ rs. next_line (given ++ tail) limit rs) (sym (append-nil replies)) ∙ done.waits tail []

pub output-left : {limit : ℕ} {given : List Item} {entered : List Raw} {replies : List Reply} {text : List ℕ} {left : ℕ} → Serves limit given entered replies text left
    → (items : List Item) (tail : Option Fixed) → output (given ++ items) limit replies tail ≡ text ++ next_line items left [] ++ tail_text tail
output-left {limit} {given} {entered} {replies} {text} {left} done items tail =
    ap (λ (told : List ℕ). told ++ next_line (given ++ items) limit replies ++ tail_text tail) (written done items)
    ∙ ap (λ (line : List ℕ). text ++ line ++ tail_text tail) (line-left done items)

-- ---- a request more

-- what a session has served and written with a request that it answered, and what may follow it
pub record TookText (limit : ℕ) (given : List Item) (entered : List Raw) (replies : List Reply) (text : List ℕ) (raw : Raw) (continues : Bool) (n : ℕ) : Type 0 where
  pub serves : (tail : List Item) → served (given ++ tail) limit ≡ entered ++ served (request_items raw continues ++ tail) (suc n)
  pub halts : (tail : List Item) → halt_of (given ++ tail) limit ≡ halt_of (request_items raw continues ++ tail) (suc n)
  pub writes : (tail : List Item) (more : List Reply) → replies_text (given ++ tail) limit (replies ++ more) ≡ text ++ cond raw.close [] (replies_text tail n more)
  pub waits : (tail : List Item) (more : List Reply) → next_line (given ++ tail) limit (replies ++ more) ≡ cond raw.close [] (next_line tail n more)

pub took : {limit : ℕ} {given : List Item} {entered : List Raw} {replies : List Reply} {text : List ℕ} {n : ℕ} (raw : Raw) (continues : Bool) (reply : Reply) → Serves limit given entered replies text (suc n)
    → TookText limit (given ++ request_items raw continues) entered (replies ++ reply ∷ []) (text ++ reply_text continues (raw.close || n == 0) reply) raw continues n
took {limit} {given} {entered} {replies} {text} {n} raw continues reply done =
    let request = request_items raw continues in
    record {
      serves = λ tail. ap (λ (items : List Item). served items limit) (append_assoc given request tail) ∙ done.serves (request ++ tail);
      halts = λ tail. ap (λ (items : List Item). halt_of items limit) (append_assoc given request tail) ∙ done.halts (request ++ tail);
      writes = λ tail more. ap (λ (items : List Item). replies_text items limit ((replies ++ reply ∷ []) ++ more)) (append_assoc given request tail)
          ∙ ap (λ (rs : List Reply). replies_text (given ++ (request ++ tail)) limit rs) (append_assoc replies (reply ∷ []) more)
          ∙ done.writes (request ++ tail) (reply ∷ more)
          ∙ ap (λ (out : List ℕ). text ++ out) (replies-request raw continues tail n reply more)
          ∙ sym (append_assoc text (reply_text continues (raw.close || n == 0) reply) (cond raw.close [] (replies_text tail n more)));
      waits = λ tail more. ap (λ (items : List Item). next_line items limit ((replies ++ reply ∷ []) ++ more)) (append_assoc given request tail)
          ∙ ap (λ (rs : List Reply). next_line (given ++ (request ++ tail)) limit rs) (append_assoc replies (reply ∷ []) more)
          ∙ done.waits (request ++ tail) (reply ∷ more)
          ∙ line-request raw continues tail n reply more;
    }

-- behind a request that doesn't ask for the end
pub goes_further : {limit : ℕ} {given : List Item} {entered : List Raw} {replies : List Reply} {text : List ℕ} {raw : Raw} {continues : Bool} {n : ℕ}
    → TookText limit given entered replies text raw continues n → raw.close ≡ false → Serves limit given (entered ++ raw ∷ []) replies text n
goes_further {limit} {given} {entered} {replies} {text} {raw} {continues} {n} t stays = record {
  serves = λ tail. t.serves tail ∙ ap (λ (raws : List Raw). entered ++ raws) (served-request raw continues tail n stays) ∙ sym (append_assoc entered (raw ∷ []) (served tail n));
  halts = λ tail. t.halts tail ∙ halt-request raw continues tail n stays;
  writes = λ tail more. t.writes tail more ∙ ap (λ b. text ++ cond b [] (replies_text tail n more)) stays;
  waits = λ tail more. t.waits tail more ∙ ap (λ b. cond b [] (next_line tail n more)) stays;
}

-- behind a request that asks for the end nothing is served or written: it is as at a limit
pub goes_no_further : {limit : ℕ} {given : List Item} {entered : List Raw} {replies : List Reply} {text : List ℕ} {raw : Raw} {continues : Bool} {n : ℕ}
    → TookText limit given entered replies text raw continues n → raw.close ≡ true → (tail : List Item)
    → (served (given ++ tail) limit ≡ entered ++ raw ∷ []) × (halt_of (given ++ tail) limit ≡ Stopped stop.Asked)
    × (replies_text (given ++ tail) limit replies ≡ text) × (next_line (given ++ tail) limit replies ≡ [])
goes_no_further {limit} {given} {entered} {replies} {text} {raw} {continues} {n} t closes tail = (
  t.serves tail ∙ ap (λ (raws : List Raw). entered ++ raws) (served-last raw continues tail n closes),
  t.halts tail ∙ halt-last raw continues tail n closes,
  ap (λ rs. replies_text (given ++ tail) limit rs) (sym (append-nil replies)) ∙ t.writes tail []
      ∙ ap (λ b. text ++ cond b [] (replies_text tail n [])) closes ∙ append-nil text,
  ap (λ rs. next_line (given ++ tail) limit rs) (sym (append-nil replies)) ∙ t.waits tail []
      ∙ ap (λ b. cond b [] (next_line tail n [])) closes,
)
