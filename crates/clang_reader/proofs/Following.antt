-- Turns of the loop over the lines of a function, and bitcasts that no chain joins.
use Rattle.std.proofs.Common.{◌≡◌, ℕ, zero, suc, ◌+◌, ◌-◌, ◌<◌, ◌≤◌, Bool, true, false, List, [], ◌∷◌, ◌++◌, Option, Some, None, refl, sym, ap, ◌∙◌, append_assoc, append-nil, arith}
use Rattle.std.specs.Prelude.{if◌then◌else◌, not, is_some, ◌&&◌}
use Rattle.clang_tokens.specs.Lines.{lines}
use Rattle.clang_tokens.specs.Listing.{tokens_of}
use Rattle.clang_tokens.specs.declared.listing.Listed.{Listed}
use Rattle.clang_reader.specs.Bitcasts.{bitcast_at, bitcast_of, bitcasts_in, followed, is_define, is_settled, operand_at, place_of, settled, stands_for}
use Rattle.clang_reader.specs.Plain.{plain}
use Rattle.clang_reader.specs.declared.bitcasts.Bitcast.{Bitcast}

-- the bitcasts of a first line and of the others
abbrev found_on : Listed → List Bitcast → List Bitcast
found_on s more = if is_define s.tokens then [] else bitcast_of (plain s.tokens) ++ more

-- no function begins on the line
pub found_turn : (whole all new : List Bitcast) (line rest behind-line : List ℕ) (listed : Listed) (p : List (List ℕ))
    → all ++ bitcasts_in (lines rest) ≡ whole
    → lines rest ≡ line ∷ lines behind-line
    → listed ≡ tokens_of line
    → is_define listed.tokens ≡ false
    → p ≡ plain listed.tokens
    → new ≡ all ++ bitcast_of p
    → new ++ bitcasts_in (lines behind-line) ≡ whole
found_turn whole all new line rest behind-line listed p inv first is isnt stripped put =
    ap (λ (l : List Bitcast). l ++ bitcasts_in (lines behind-line)) put
    ∙ append_assoc all (bitcast_of p) (bitcasts_in (lines behind-line))
    ∙ ap (λ (q : List (List ℕ)). all ++ (bitcast_of q ++ bitcasts_in (lines behind-line))) stripped
    ∙ ap (λ (b : Bool). all ++ (if b then [] else bitcast_of (plain listed.tokens) ++ bitcasts_in (lines behind-line))) (sym isnt)
    ∙ ap (λ (s : Listed). all ++ found_on s (bitcasts_in (lines behind-line))) is
    ∙ ap (λ (l : List (List ℕ)). all ++ bitcasts_in l) (sym first)
    ∙ inv

-- a function begins on the line
pub found_stop : (whole all : List Bitcast) (line rest behind-line : List ℕ) (listed : Listed)
    → all ++ bitcasts_in (lines rest) ≡ whole
    → lines rest ≡ line ∷ lines behind-line
    → listed ≡ tokens_of line
    → is_define listed.tokens ≡ true
    → all ≡ whole
found_stop whole all line rest behind-line listed inv first is begun =
    sym (append-nil all)
    ∙ ap (λ (b : Bool). all ++ (if b then [] else bitcast_of (plain listed.tokens) ++ bitcasts_in (lines behind-line))) (sym begun)
    ∙ ap (λ (s : Listed). all ++ found_on s (bitcasts_in (lines behind-line))) is
    ∙ ap (λ (l : List (List ℕ)). all ++ bitcasts_in l) (sym first)
    ∙ inv

-- no line is left
pub found_end : (whole all : List Bitcast) (rest : List ℕ) → all ++ bitcasts_in (lines rest) ≡ whole → rest ≡ [] → all ≡ whole
found_end whole all rest inv none = sym (append-nil all) ∙ ap (λ (l : List ℕ). all ++ bitcasts_in (lines l)) (sym none) ∙ inv

stays_itself : (all : List Bitcast) (t : List ℕ) (place : Option ℕ) → not (is_some place) ≡ true → operand_at t (bitcast_at all place) ≡ t
stays_itself all t None unnamed = refl
stays_itself all t (Some i) unnamed = absurd (cc)

first_of : (a b : Bool) → (a && b) ≡ true → a ≡ true
first_of true b e = refl
first_of false b e = e

second_of : (a b : Bool) → (a && b) ≡ true → b ≡ true
second_of true b e = e
second_of false true e = refl
second_of false false e = e

-- where no operand is a bitcast's result, nothing is followed
stays_once : (all bs : List Bitcast) → is_settled all bs ≡ true → followed all bs ≡ bs
stays_once all [] told = refl
stays_once all (b ∷ bs) told =
    let here : stands_for all b.value ≡ b.value = stays_itself all b.value (place_of all b.value) (first_of (not (is_some (place_of all b.value))) (is_settled all bs) told) in
    let more : followed all bs ≡ bs = stays_once all bs (second_of (not (is_some (place_of all b.value))) (is_settled all bs) told) in
    ap (λ (v : List ℕ). record { name = b.name; value = v } ∷ followed all bs) here ∙ ap (λ (l : List Bitcast). b ∷ l) more

settled_stays : (n : ℕ) (all : List Bitcast) → is_settled all all ≡ true → settled n all ≡ all
unfolding settled
settled_stays zero all told = refl
settled_stays (suc n) all told = ap (settled n) (stays_once all all told) ∙ settled_stays n all told

-- nothing is left to follow
pub settled_early : (n : ℕ) (all whole : List Bitcast) (told : Bool) → settled n all ≡ whole → told ≡ is_settled all all → told ≡ true → all ≡ whole
settled_early n all whole told inv is holds = sym (settled_stays n all (sym is ∙ holds)) ∙ inv

-- one time more
pub settled_more : (n k : ℕ) (all more whole : List Bitcast) → k < n → settled (n - k) all ≡ whole → more ≡ followed all all → settled (n - (k + 1)) more ≡ whole
unfolding settled
settled_more n k all more whole less inv is =
    let left : n - k ≡ suc (n - (k + 1)) = omega arith in
    ap (settled (n - (k + 1))) is ∙ ap (λ (m : ℕ). settled m all) (sym left) ∙ inv

pub settled_last : (n k : ℕ) (all whole : List Bitcast) → settled (n - k) all ≡ whole → n ≤ k → all ≡ whole
unfolding settled
settled_last n k all whole inv over =
    let left : n - k ≡ 0 = omega (arith, over) in
    ap (λ (m : ℕ). settled m all) (sym left) ∙ inv
