-- Bits of words, and the question of one value.
use Rattle.std.proofs.Common.{◌≡◌, ℕ, ◌+◌, ◌/◌, ◌%◌, ◌<◌, ◌⊎◌, Bool, true, false, List, [], ◌∷◌, ◌++◌, map, Some, None, Option, refl, sym, ap, ◌∙◌, subst, ⊎_elim, inl, inr, arith, eq-eqb}
use Rattle.std.specs.Prelude.{◌↔◌, ◌==◌, bit_and, bit_or, bit_xor, if◌then◌else◌, option_map, option_to_list, slice_get, unwrap_or}
use Rattle.std.specs.Int.{bit_at}
use Rattle.std.proofs.lemmas.Bool.{cases_eq, cases_lt, eqb-true, false≢true}
use Rattle.std.proofs.lemmas.Nat.Bits.{bit_at_and, bit_at_or, bit_at_ones, bit_at_xor, bit_at-lt, bit_at-pow_other, bit_at-pow_same, bit_at-zero}
use Rattle.std.proofs.lemmas.Option.{slice_get-map}
use Rattle.flow_bits.specs.Bits.{HasBit}
use Rattle.rule_uses.proofs.flow_blocks.Elements.{listed_append}
use Rattle.rule_uses.specs.flow_blocks.Words.{word_at}
use Rattle.rule_uses.specs.Questions.{IsNumbering, all_bits, bit_if, bit_in, block_word, edge_word, instrs_word, phis_word, result_word, value_word, word_of_bit}
use Rattle.rule_uses.specs.Uses.{block_values, local_of, locals_in, made_by_instrs, made_by_phis, values_at, values_in}
use Rattle.flow_solver.proofs.Lists.{listed_front, same_place}
use Rattle.flow_solver.specs.Paths.{IsListed}
use Rattle.ir_parts.specs.Contents.{result_of}
use Rattle.ir_model.specs.declared.instr.Instr.{Instr}
use Rattle.ir_model.specs.declared.instr.Phi.{Phi}
use Rattle.ir_model.specs.declared.module.Block.{Block}
use Rattle.ir_model.specs.declared.module.Function.{Function}
use Rattle.ir_model.specs.declared.operand.Operand.{Operand}
use Rattle.rule_window_values.proofs.Iffs.{either_none, either_same, same_itself, step_same, then_same}
use Rattle.rule_window_values.specs.Words.{left_of, operands_word, passed_word, values_word}

-- ---- bits

pub no_bit : (c : ℕ) → HasBit 0 c → ⊥
no_bit c has = let none = bit_at-zero c in absurd (omega arith)

pub left_bit : (a b c : ℕ) → HasBit a c → HasBit (bit_or a b) c
left_bit a b c h = let at = bit_at_or a b c in let lb = bit_at-lt b c in omega (arith, at, h, lb)

pub right_bit : (a b c : ℕ) → HasBit b c → HasBit (bit_or a b) c
right_bit a b c h = let at = bit_at_or a b c in let la = bit_at-lt a c in omega (arith, at, h, la)

pub one_bit : (a b c : ℕ) → HasBit (bit_or a b) c → HasBit a c ⊎ HasBit b c
one_bit a b c h =
    let at = bit_at_or a b c in
    let la = bit_at-lt a c in
    let lb = bit_at-lt b c in
    ⊎_elim (λ less. inr (omega (arith, at, la, lb, h, less))) (λ more. inl (omega (arith, at, la, lb, h, more))) (cases_lt (bit_at a c) (bit_at b c))

pub either_bit : (a b c : ℕ) → HasBit (bit_or a b) c ↔ (HasBit a c ⊎ HasBit b c)
either_bit a b c = ((λ h. one_bit a b c h), (λ h. ⊎_elim (λ l. left_bit a b c l) (λ r. right_bit a b c r) h))

first_bit : (a b c : ℕ) → HasBit (bit_and a b) c → HasBit a c
first_bit a b c h = let at = bit_at_and a b c in let la = bit_at-lt a c in omega (arith, at, h, la)

second_bit : (a b c : ℕ) → HasBit (bit_and a b) c → HasBit b c
second_bit a b c h = let at = bit_at_and a b c in let lb = bit_at-lt b c in omega (arith, at, h, lb)

both_bits : (a b c : ℕ) → HasBit a c → HasBit b c → HasBit (bit_and a b) c
both_bits a b c h j = let at = bit_at_and a b c in omega (arith, at, h, j)

pub and_bit : (a b c : ℕ) → HasBit (bit_and a b) c ↔ (HasBit a c × HasBit b c)
and_bit a b c = ((λ h. (first_bit a b c h, second_bit a b c h)), (λ h. both_bits a b c h.0 h.1))

flipped : (w c : ℕ) → c < 64 → bit_at (bit_xor w all_bits) c ≡ (bit_at w c + 1) % 2
flipped w c lt = bit_at_xor w all_bits c ∙ ap (λ (x : ℕ). (bit_at w c + x) % 2) (bit_at_ones 64 c lt)

flipped_on : (w c : ℕ) → c < 64 → (HasBit w c → ⊥) → HasBit (bit_xor w all_bits) c
flipped_on w c lt never =
    let at = flipped w c lt in
    let small = bit_at-lt w c in
    ⊎_elim (λ one. absurd (never one)) (λ other. let is_zero : bit_at w c ≡ 0 = omega (arith, small, other) in at ∙ ap (λ (x : ℕ). (x + 1) % 2) is_zero) (cases_eq (bit_at w c) 1)

flipped_off : (w c : ℕ) → c < 64 → HasBit (bit_xor w all_bits) c → HasBit w c → ⊥
flipped_off w c lt h has =
    let at : bit_at (bit_xor w all_bits) c ≡ 0 = flipped w c lt ∙ ap (λ (x : ℕ). (x + 1) % 2) has in
    absurd (omega (arith, at, h))

pub flip_bit : (w c : ℕ) → c < 64 → HasBit (bit_xor w all_bits) c ↔ (HasBit w c → ⊥)
flip_bit w c lt = ((λ h. flipped_off w c lt h), (λ never. flipped_on w c lt never))

pub left_bits : (base made c : ℕ) → c < 64 → HasBit (left_of base made) c ↔ (HasBit base c × (HasBit made c → ⊥))
left_bits base made c lt = (
  (λ h. (first_bit base (bit_xor made all_bits) c h, flipped_off made c lt (second_bit base (bit_xor made all_bits) c h))),
  (λ h. both_bits base (bit_xor made all_bits) c h.0 (flipped_on made c lt h.1)),
)

-- an edge lets a question through
pub record Passes (made : List ℕ) (end from c : ℕ) : Type 0 where
  pub no_end : from ≡ end → ⊥
  pub not_made : HasBit (word_at made from) c → ⊥

passes_by : (made : List ℕ) (end from to c : ℕ) → c < 64 → (b : Bool) → (from == end) ≡ b → HasBit (if b then 0 else edge_word made (from, to)) c ↔ Passes made end from c
passes_by made end from to c lt true e = ((λ h. absurd (no_bit c h)), (λ p. absurd (p.no_end (eqb-true from end e))))
passes_by made end from to c lt false e = (
  (λ h. record { no_end = λ same. false≢true (sym e ∙ eq-eqb from end same); not_made = flipped_off (word_at made from) c lt h }),
  (λ p. flipped_on (word_at made from) c lt p.not_made),
)

pub passes_is : (made : List ℕ) (end from to c : ℕ) → c < 64 → HasBit (passed_word made end (from, to)) c ↔ Passes made end from c
passes_is made end from to c lt = passes_by made end from to c lt (from == end) refl

-- ---- the question of a value

-- of a chunk's questions c asks for v, and for no other value
pub record Asks (numbers : List (Option ℕ)) (chunk v c : ℕ) : Type 0 where
  pub small : c < 64
  pub own_bit : HasBit (value_word numbers chunk v) c
  pub only_own : (w : ℕ) → HasBit (value_word numbers chunk w) c → w ≡ v

if_true : (b : Bool) (c d : ℕ) → HasBit (word_of_bit (bit_if b c)) d → (b ≡ true) × (d ≡ c)
if_true false c d h = absurd (no_bit d h)
if_true true c d h = (refl, ⊎_elim (λ e. e) (λ other. let none = bit_at-pow_other c d other in absurd (omega (arith, none, h))) (cases_eq d c))

same_parts : (k j chunk : ℕ) → k / 64 ≡ chunk → j / 64 ≡ chunk → k % 64 ≡ j % 64 → k ≡ j
same_parts k j chunk a b e = omega arith

module _ (names : ℕ) (numbers : List (Option ℕ)) (values : List ℕ) (numbering : IsNumbering names numbers values) (chunk v k : ℕ) (at : slice_get numbers v ≡ Some (Some k)) (chunk_is : k / 64 ≡ chunk) where
  its_bit : HasBit (value_word numbers chunk v) (k % 64)
  its_bit =
      subst (λ (w : ℕ). HasBit w (k % 64))
      (sym (ap (λ (o : Option (Option ℕ)). word_of_bit (bit_in o chunk)) at ∙ ap (λ (b : Bool). word_of_bit (bit_if b (k % 64))) (eq-eqb (k / 64) chunk chunk_is)))
      (bit_at-pow_same (k % 64))

  other_in : (w : ℕ) (o : Option (Option ℕ)) → slice_get numbers w ≡ o → HasBit (word_of_bit (bit_in o chunk)) (k % 64) → w ≡ v
  other_in w None e h = absurd (no_bit (k % 64) h)
  other_in w (Some None) e h = absurd (no_bit (k % 64) h)
  other_in w (Some (Some j)) e h =
      let two = if_true (j / 64 == chunk) (j % 64) (k % 64) h in
      let same = same_parts k j chunk chunk_is (eqb-true (j / 64) chunk two.0) two.1 in
      same_place (slice_get values j) w v (numbering.asked w j e) (ap (slice_get values) (sym same) ∙ numbering.asked v k at)

  pub asks : Asks numbers chunk v (k % 64)
  asks = record { small = omega arith; own_bit = its_bit; only_own = λ w h. other_in w (slice_get numbers w) refl h }

-- ---- lists

pub listed_back : {X : Type 0} (y : X) (xs zs : List X) → IsListed y zs → IsListed y (xs ++ zs)
listed_back y [] zs h = h
listed_back y (x ∷ xs) zs h = inr (listed_back y xs zs h)

pub listed_either : (y : ℕ) (xs zs : List ℕ) → (IsListed y xs ⊎ IsListed y zs) ↔ IsListed y (xs ++ zs)
listed_either y xs zs = ((λ h. ⊎_elim (λ l. listed_front y xs zs l) (λ r. listed_back y xs zs r) h), (λ h. listed_append y xs zs h))

-- ---- words and lists of values

module _ (numbers : List (Option ℕ)) (chunk v c : ℕ) (a : Asks numbers chunk v c) where
  value_bit : (w : ℕ) → HasBit (value_word numbers chunk w) c ↔ (v ≡ w)
  value_bit w = ((λ h. sym (a.only_own w h)), (λ e. subst (λ (x : ℕ). HasBit (value_word numbers chunk x) c) e a.own_bit))

  with_value : (word w : ℕ) → HasBit (bit_or word (value_word numbers chunk w)) c ↔ (HasBit word c ⊎ (v ≡ w))
  with_value word w =
      then_same (HasBit (bit_or word (value_word numbers chunk w)) c) (HasBit word c ⊎ HasBit (value_word numbers chunk w) c) (HasBit word c ⊎ (v ≡ w))
      (either_bit word (value_word numbers chunk w) c)
      (either_same (HasBit word c) (HasBit word c) (HasBit (value_word numbers chunk w) c) (v ≡ w) (same_itself (HasBit word c)) (value_bit w))

  pub values_bit : (word : ℕ) (vs : List ℕ) → HasBit (values_word numbers chunk word vs) c ↔ (HasBit word c ⊎ IsListed v vs)
  values_bit word [] = either_none (HasBit word c)
  values_bit word (w ∷ vs) =
      let next : ℕ = bit_or word (value_word numbers chunk w) in
      step_same (HasBit (values_word numbers chunk next vs) c) (HasBit next c) (HasBit word c) (v ≡ w) (IsListed v vs) (IsListed v (w ∷ vs))
      (values_bit next vs) (with_value word w) (same_itself (IsListed v (w ∷ vs)))

  one_listed : (w : ℕ) → (v ≡ w) ↔ IsListed v (w ∷ [])
  one_listed w = either_none (v ≡ w)

  pub result_bit : (word : ℕ) (o : Option ℕ) → HasBit (result_word numbers chunk word o) c ↔ (HasBit word c ⊎ IsListed v (option_to_list o))
  result_bit word None = either_none (HasBit word c)
  result_bit word (Some w) =
      then_same (HasBit (bit_or word (value_word numbers chunk w)) c) (HasBit word c ⊎ (v ≡ w)) (HasBit word c ⊎ IsListed v (w ∷ []))
      (with_value word w)
      (either_same (HasBit word c) (HasBit word c) (v ≡ w) (IsListed v (w ∷ [])) (same_itself (HasBit word c)) (one_listed w))

  pub operands_bit : (word : ℕ) (xs : List Operand) → HasBit (operands_word numbers chunk word xs) c ↔ (HasBit word c ⊎ IsListed v (locals_in xs))
  operands_bit word [] = either_none (HasBit word c)
  operands_bit word (x ∷ xs) =
      let next : ℕ = result_word numbers chunk word (local_of x) in
      let here : List ℕ = option_to_list (local_of x) in
      step_same (HasBit (operands_word numbers chunk next xs) c) (HasBit next c) (HasBit word c) (IsListed v here) (IsListed v (locals_in xs)) (IsListed v (here ++ locals_in xs))
      (operands_bit next xs) (result_bit word (local_of x)) (listed_either v here (locals_in xs))

  -- the word has the bit exactly where the value is among these
  abbrev pub Tells : ℕ → List ℕ → Type 0
  Tells word vs = HasBit word c ↔ IsListed v vs

  one_told : (word : ℕ) (vs : List ℕ) (w : ℕ) → Tells word vs → Tells (bit_or word (value_word numbers chunk w)) (w ∷ vs)
  one_told word vs w t = (
    (λ h. ⊎_elim (λ old. inr (t.0 old)) (λ new. inl (sym (a.only_own w new))) (one_bit word (value_word numbers chunk w) c h)),
    (λ h. ⊎_elim (λ same. right_bit word (value_word numbers chunk w) c (subst (λ (x : ℕ). HasBit (value_word numbers chunk x) c) same a.own_bit)) (λ old. left_bit word (value_word numbers chunk w) c (t.1 old)) h),
  )

  pub result_told : (word : ℕ) (vs : List ℕ) (r : Option ℕ) → Tells word vs → Tells (result_word numbers chunk word r) (option_to_list r ++ vs)
  result_told word vs None t = t
  result_told word vs (Some w) t = one_told word vs w t

  pub phis_told : (word : ℕ) (vs : List ℕ) (ps : List Phi) → Tells word vs → Tells (phis_word numbers chunk word ps) (made_by_phis vs ps)
  phis_told word vs [] t = t
  phis_told word vs (p ∷ ps) t = phis_told (bit_or word (value_word numbers chunk p.result)) (p.result ∷ vs) ps (one_told word vs p.result t)

  pub instrs_told : (word : ℕ) (vs : List ℕ) (is : List Instr) → Tells word vs → Tells (instrs_word numbers chunk word is) (made_by_instrs vs is)
  instrs_told word vs [] t = t
  instrs_told word vs (i ∷ is) t = instrs_told (result_word numbers chunk word (result_of i)) (option_to_list (result_of i) ++ vs) is (result_told word vs (result_of i) t)

  pub none_told : Tells 0 []
  none_told = ((λ h. absurd (no_bit c h)), (λ h. absurd h))

  block_told : (b : Block) → Tells (block_word numbers chunk b) (block_values b)
  block_told b = instrs_told (phis_word numbers chunk 0 b.phis) (made_by_phis [] b.phis) b.instrs (phis_told 0 [] b.phis none_told)

  some_block : (o : Option Block) → Tells (unwrap_or (option_map (block_word numbers chunk) o) 0) (values_in o)
  some_block None = none_told
  some_block (Some b) = block_told b

  pub made_told : (f : Function) (b : ℕ) → Tells (word_at (map (block_word numbers chunk) f.blocks) b) (values_at f b)
  made_told f b = subst (λ (o : Option ℕ). Tells (unwrap_or o 0) (values_at f b)) (sym (slice_get-map (block_word numbers chunk) f.blocks b)) (some_block (slice_get f.blocks b))
