-- The least upper bounds of words of bits are the answers by paths.
use Rattle.std.proofs.Common.{◌≡◌, ℕ, ◌<◌, ◌≤◌, ◌^◌, ◌⊎◌, List, length, Some, Ok, Err, Option, Result, IfOk, sym, ap, ◌∙◌, subst, ⊎_elim, inl, inr, arith, eq-eqb}
use Rattle.std.specs.Prelude.{bit_and, bit_or, slice_get, unwrap_or, IsTrue, nat_eq, ◌↔◌}
use Rattle.std.specs.Int.{bit_at}
use Rattle.std.proofs.lemmas.Bool.{cases_lt, eqb-true}
use Rattle.std.proofs.lemmas.Nat.Bits.{bit_at_and, bit_at_or, bit_at-zero, bit_at-lt, same_from_bits_below}
use Rattle.std.proofs.lemmas.Option.{slice_get_within, slice_get-get_or, unwrap_or-slice_get}
use Rattle.flow_bits.specs.Bits.{HasBit, IsWithin, kept_at, words}
use Rattle.flow_bits.specs.Reaching.{Reaches, AnswersAt, StartAt}
use Rattle.flow_bits.specs.Reaching.Reaches.{Start, Edge}
use Rattle.flow_solver.specs.Paths.{IsCarried, IsGathered, IsLeastAbove, AreStarts, AreKnown}
use Rattle.flow_solver.specs.Paths.IsCarried.{Start as CarriedStart, Edge as CarriedEdge}
use Rattle.flow_solver.specs.Paths.IsGathered.{Nothing, Alone, Together}

-- ---- equal words

within_both : (n a b : ℕ) → a < 2 ^ n → b < 2 ^ n → ((c : ℕ) → c < n → bit_at a c ≤ bit_at b c) → ((c : ℕ) → c < n → bit_at b c ≤ bit_at a c) → a ≡ b
within_both n a b la lb ab ba = same_from_bits_below n a b la lb (λ c lt. let p = ab c lt in let q = ba c lt in omega (arith, p, q))

pub same_words : (a b : ℕ) → a < 2 ^ 64 → b < 2 ^ 64 → IsTrue (nat_eq a b) ↔ (IsWithin a b × IsWithin b a)
same_words a b la lb = (forth, λ h. eq-eqb a b (within_both 64 a b la lb h.0 h.1))
  where
    forth : IsTrue (nat_eq a b) → IsWithin a b × IsWithin b a
    forth e = let same = eqb-true a b e in (λ c lt. subst (λ x. bit_at a c ≤ bit_at x c) same (omega arith), λ c lt. subst (λ x. bit_at x c ≤ bit_at a c) same (omega arith))

-- ---- what one edge keeps

both_bits : (a k c : ℕ) → HasBit (bit_and a k) c → HasBit a c × HasBit k c
both_bits a k c h =
    let at = bit_at_and a k c in
    let la = bit_at-lt a c in
    let lk = bit_at-lt k c in
    (omega (arith, at, la, lk, h), omega (arith, at, la, lk, h))

kept_bit : (a k c : ℕ) → HasBit a c → HasBit k c → HasBit (bit_and a k) c
kept_bit a k c ha hk = let at = bit_at_and a k c in omega (arith, at, ha, hk)

one_bit : (a b c : ℕ) → HasBit (bit_or a b) c → HasBit a c ⊎ HasBit b c
one_bit a b c h =
    let at = bit_at_or a b c in
    let la = bit_at-lt a c in
    let lb = bit_at-lt b c in
    ⊎_elim (λ less. inr (omega (arith, at, la, lb, h, less))) (λ more. inl (omega (arith, at, la, lb, h, more))) (cases_lt (bit_at a c) (bit_at b c))

within_bit : (a b c : ℕ) → c < 64 → IsWithin a b → HasBit a c → HasBit b c
within_bit a b c lt h is = let at = h c lt in let lb = bit_at-lt b c in omega (arith, at, lb, is)

kept_word : (kept : List ℕ) (e : ℕ) → e < length kept → slice_get kept e ≡ Some (kept_at kept e)
kept_word kept e lt = slice_get-get_or kept e 0 lt ∙ ap (λ (w : ℕ). Some w) (sym (unwrap_or-slice_get kept e 0))

kept_at_is : (kept : List ℕ) (e word : ℕ) → slice_get kept e ≡ Some word → kept_at kept e ≡ word
kept_at_is kept e word at = ap (λ (o : Option ℕ). unwrap_or o 0) at

-- ---- paths

module _ (edges : List (ℕ × ℕ)) (kept : List ℕ) (starts : List (ℕ × ℕ)) (c : ℕ) where
  -- a path brings a fact with the bit
  brought : (node : ℕ) → Reaches edges kept starts c node → (fact : ℕ) × (IsCarried (words kept) edges starts node fact × HasBit fact c)
  brought _ (Start node word listed has) = (word, (CarriedStart node word listed, has))
  brought _ (Edge e from to word at kept_is has before) =
      let found = brought from before in
      (bit_and found.0 (kept_at kept e), (CarriedEdge e from to found.0 at found.1.0, kept_bit found.0 (kept_at kept e) c found.1.1 (subst (λ k. HasBit k c) (sym (kept_at_is kept e word kept_is)) has)))

  module _ (enough : length edges ≤ length kept) where
    -- a carried bit came along a path
    came : (node fact : ℕ) → IsCarried (words kept) edges starts node fact → HasBit fact c → Reaches edges kept starts c node
    came _ _ (CarriedStart node fact listed) has = Start node fact listed has
    came _ _ (CarriedEdge e from to fact at before) has =
        let within = slice_get_within edges e (from, to) at in
        let two = both_bits fact (kept_at kept e) c has in
        Edge e from to (kept_at kept e) at (kept_word kept e (omega (arith, within, enough))) two.1 (came from fact before two.0)

    gathered : (lt : c < 64) (node fact : ℕ) → IsGathered (words kept) edges starts node fact → HasBit fact c → Reaches edges kept starts c node
    gathered lt node _ (Nothing fact below) has = let none = bit_at-zero c in let at = below c lt in absurd (omega (arith, none, at, has))
    gathered lt node _ (Alone fact carried by below) has = came node carried by (within_bit fact carried c lt below has)
    gathered lt node _ (Together fact a b a_is b_is ga gb below) has =
        ⊎_elim (gathered lt node a ga) (gathered lt node b gb) (one_bit a b c (within_bit fact (bit_or a b) c lt below has))

pub answers : (edges : List (ℕ × ℕ)) (kept : List ℕ) (starts : List (ℕ × ℕ)) (node word : ℕ) → length edges ≤ length kept → IsLeastAbove (words kept) edges starts node word → AnswersAt edges kept starts node word
answers edges kept starts node word enough least = record {
  is_reached = λ c lt has. gathered edges kept starts c enough lt node word least.gathered has;
  is_told = λ c lt path. let found = brought edges kept starts c node path in within_bit found.0 word c lt (least.above found.0 found.1.0) found.1.1;
}

-- a fact of what was made, by another
pub of_ok : {T E : Type 0} (r : Result T E) (P Q : T → Type 0) → ((x : T) → P x → Q x) → IfOk r P → IfOk r Q
of_ok (Ok x) P Q h p = h x p
of_ok (Err e) P Q h p = p

pub starts_are : (kept : List ℕ) (nodes : ℕ) (starts : List (ℕ × ℕ)) → StartAt nodes starts → AreStarts (words kept) nodes starts
starts_are kept nodes starts at i node fact is = (at i node fact is, tt)

pub all_known : (edges : List (ℕ × ℕ)) (kept : List ℕ) → length edges ≤ length kept → AreKnown (words kept) edges
all_known edges kept enough e from to at = let within = slice_get_within edges e (from, to) at in omega (arith, within, enough)
