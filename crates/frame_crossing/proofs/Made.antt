-- What the words of blocks say of one value.
use Rattle.std.proofs.Common.{◌≡◌, ◌≢◌, ℕ, ◌<◌, ◌≤◌, ◌⊎◌, List, [], ◌∷◌, ◌++◌, length, map, Some, None, Option, sym, ap, subst, ⊎_elim, inl, inr}
use Rattle.std.specs.Prelude.{bit_or, option_map, option_to_list, slice_get, slice_set, unwrap_or}
use Rattle.std.proofs.lemmas.Bool.{cases_lt}
use Rattle.std.proofs.lemmas.Option.{slice_get-map, slice_get_past}
use Rattle.flow_bits.specs.Bits.{HasBit}
use Rattle.rule_uses.specs.flow_blocks.Words.{word_at}
use Rattle.rule_uses.specs.Questions.{block_word, instrs_word, phis_word, result_word, value_word}
use Rattle.rule_uses.specs.Uses.{block_values, local_of, locals_in, made_by_instrs, made_by_phis, phi_values, values_at, values_in}
use Rattle.flow_solver.proofs.Lists.{set_here, set_other}
use Rattle.flow_solver.specs.Paths.{IsListed}
use Rattle.ir_parts.specs.Contents.{ending_operands, instr_operands, result_of}
use Rattle.ir_model.specs.declared.instr.Instr.{Instr}
use Rattle.ir_model.specs.declared.instr.Phi.{Phi}
use Rattle.ir_model.specs.declared.instr.Terminator.{Terminator}
use Rattle.ir_model.specs.declared.module.Block.{Block}
use Rattle.ir_model.specs.declared.module.Function.{Function}
use Rattle.ir_model.specs.declared.module.Param.{Param}
use Rattle.ir_model.specs.declared.operand.Operand.{Operand}
use Rattle.frame_crossing.proofs.Bits.{IsOwn, in_without, left_bit, no_bit, one_bit, right_bit, still_without}
use Rattle.frame_crossing.proofs.Blocks.{as_result, behind_result, is_result}
use Rattle.frame_crossing.proofs.Walks.{IsOpenFrom, IsOpenIn}
use Rattle.frame_crossing.specs.Words.{block_open, open_word, operands_word, params_word, without}

-- ---- words in lists of words

pub word_set_other : (words : List ℕ) (i b w : ℕ) → b ≢ i → word_at (slice_set words i w) b ≡ word_at words b
word_set_other words i b w ne = ap (λ (o : Option ℕ). unwrap_or o 0) (set_other words i b w ne)

pub word_set_here : (words : List ℕ) (i w : ℕ) → i < length words → word_at (slice_set words i w) i ≡ w
word_set_here words i w lt = ap (λ (o : Option ℕ). unwrap_or o 0) (set_here words i w lt)

pub no_word_past : (words : List ℕ) (b : ℕ) → length words ≤ b → word_at words b ≡ 0
no_word_past words b le = ap (λ (o : Option ℕ). unwrap_or o 0) (slice_get_past words b le)

pub within_words : (words : List ℕ) (b c : ℕ) → HasBit (word_at words b) c → b < length words
within_words words b c has = ⊎_elim (λ lt. lt) (λ past. absurd (no_bit c (subst (λ (w : ℕ). HasBit w c) (no_word_past words b past) has))) (cases_lt b (length words))

module _ (numbers : List (Option ℕ)) (chunk v c : ℕ) (o : IsOwn numbers chunk v c) where
  own_value : (w : ℕ) → w ≡ v → HasBit (value_word numbers chunk w) c
  own_value w e = subst (λ (x : ℕ). HasBit (value_word numbers chunk x) c) (sym e) o.own

  some_same : (a b : ℕ) → Some a ≡ Some b → a ≡ b
  some_same a b e = cc

  -- ---- a word with a result

  pub result_split : (word : ℕ) (r : Option ℕ) → HasBit (result_word numbers chunk word r) c → HasBit word c ⊎ (r ≡ Some v)
  result_split word None h = inl h
  result_split word (Some w) h = ⊎_elim (λ old. inl old) (λ new. inr (ap (λ (x : ℕ). Some x) (o.only w new))) (one_bit word (value_word numbers chunk w) c h)

  pub result_kept : (word : ℕ) (r : Option ℕ) → HasBit word c → HasBit (result_word numbers chunk word r) c
  result_kept word None h = h
  result_kept word (Some w) h = left_bit word (value_word numbers chunk w) c h

  pub result_has : (word : ℕ) (r : Option ℕ) → r ≡ Some v → HasBit (result_word numbers chunk word r) c
  result_has word None e = absurd (cc)
  result_has word (Some w) e = right_bit word (value_word numbers chunk w) c (own_value w (some_same w v e))

  -- ---- made values

  -- the word has the bit exactly where the value is among these
  abbrev pub Tells : ℕ → List ℕ → Type 0
  Tells word vs = (HasBit word c → IsListed v vs) × (IsListed v vs → HasBit word c)

  one_told : (word : ℕ) (vs : List ℕ) (w : ℕ) → Tells word vs → Tells (bit_or word (value_word numbers chunk w)) (w ∷ vs)
  one_told word vs w t = (
    λ h. ⊎_elim (λ old. inr (t.0 old)) (λ new. inl (sym (o.only w new))) (one_bit word (value_word numbers chunk w) c h),
    λ h. ⊎_elim (λ same. right_bit word (value_word numbers chunk w) c (own_value w (sym same))) (λ old. left_bit word (value_word numbers chunk w) c (t.1 old)) h,
  )

  result_told : (word : ℕ) (vs : List ℕ) (r : Option ℕ) → Tells word vs → Tells (result_word numbers chunk word r) (option_to_list r ++ vs)
  result_told word vs None t = t
  result_told word vs (Some w) t = one_told word vs w t

  phis_told : (word : ℕ) (vs : List ℕ) (ps : List Phi) → Tells word vs → Tells (phis_word numbers chunk word ps) (made_by_phis vs ps)
  phis_told word vs [] t = t
  phis_told word vs (p ∷ ps) t = phis_told (bit_or word (value_word numbers chunk p.result)) (p.result ∷ vs) ps (one_told word vs p.result t)

  instrs_told : (word : ℕ) (vs : List ℕ) (is : List Instr) → Tells word vs → Tells (instrs_word numbers chunk word is) (made_by_instrs vs is)
  instrs_told word vs [] t = t
  instrs_told word vs (i ∷ is) t = instrs_told (result_word numbers chunk word (result_of i)) (option_to_list (result_of i) ++ vs) is (result_told word vs (result_of i) t)

  pub phi_values_told : (b : Block) → Tells (phis_word numbers chunk 0 b.phis) (phi_values b)
  phi_values_told b = phis_told 0 [] b.phis (λ h. absurd (no_bit c h), λ h. absurd h)

  -- one of these phis gives the value
  abbrev IsPhiOf : List Phi → Type 0
  IsPhiOf [] = ⊥
  IsPhiOf (p ∷ ps) = (p.result ≡ v) ⊎ IsPhiOf ps

  phis_split : (word : ℕ) (ps : List Phi) → HasBit (phis_word numbers chunk word ps) c → HasBit word c ⊎ IsPhiOf ps
  phis_split word [] h = inl h
  phis_split word (p ∷ ps) h = ⊎_elim
      (λ here. ⊎_elim (λ old. inl old) (λ new. inr (inl (o.only p.result new))) (one_bit word (value_word numbers chunk p.result) c here))
      (λ later. inr (inr later))
      (phis_split (bit_or word (value_word numbers chunk p.result)) ps h)

  phis_has : (word : ℕ) (ps : List Phi) → HasBit word c ⊎ IsPhiOf ps → HasBit (phis_word numbers chunk word ps) c
  phis_has word [] h = ⊎_elim (λ k. k) (λ none. absurd none) h
  phis_has word (p ∷ ps) h = phis_has (bit_or word (value_word numbers chunk p.result)) ps (⊎_elim
      (λ old. inl (left_bit word (value_word numbers chunk p.result) c old))
      (λ k. ⊎_elim (λ e. inl (right_bit word (value_word numbers chunk p.result) c (own_value p.result e))) (λ later. inr later) k)
      h)

  -- a word with the bits of a block's phis
  pub front_split : (word : ℕ) (b : Block) → HasBit (phis_word numbers chunk word b.phis) c → HasBit word c ⊎ IsListed v (phi_values b)
  front_split word b h = ⊎_elim (λ old. inl old) (λ new. inr ((phi_values_told b).0 (phis_has 0 b.phis (inr new)))) (phis_split word b.phis h)

  pub front_has : (word : ℕ) (b : Block) → HasBit word c ⊎ IsListed v (phi_values b) → HasBit (phis_word numbers chunk word b.phis) c
  front_has word b h = ⊎_elim
      (λ old. phis_has word b.phis (inl old))
      (λ new. ⊎_elim (λ none. absurd (no_bit c none)) (λ phi. phis_has word b.phis (inr phi)) (phis_split 0 b.phis ((phi_values_told b).1 new)))
      h

  block_told : (b : Block) → Tells (block_word numbers chunk b) (block_values b)
  block_told b = instrs_told (phis_word numbers chunk 0 b.phis) (phi_values b) b.instrs (phi_values_told b)

  some_block : (x : Option Block) → Tells (unwrap_or (option_map (block_word numbers chunk) x) 0) (values_in x)
  some_block None = (λ h. absurd (no_bit c h), λ h. absurd h)
  some_block (Some b) = block_told b

  pub made_told : (f : Function) (b : ℕ) → Tells (word_at (map (block_word numbers chunk) f.blocks) b) (values_at f b)
  made_told f b = subst (λ (x : Option ℕ). Tells (unwrap_or x 0) (values_at f b)) (sym (slice_get-map (block_word numbers chunk) f.blocks b)) (some_block (slice_get f.blocks b))

  pub params_told : (word : ℕ) (ps : List Param) → (HasBit (params_word numbers chunk word ps) c → HasBit word c ⊎ IsListed v (map (λ p. p.name) ps)) × (HasBit word c ⊎ IsListed v (map (λ p. p.name) ps) → HasBit (params_word numbers chunk word ps) c)
  params_told word [] = (λ h. inl h, λ h. ⊎_elim (λ k. k) (λ none. absurd none) h)
  params_told word (p ∷ ps) =
      let rest = params_told (bit_or word (value_word numbers chunk p.name)) ps in (
        λ h. ⊎_elim
            (λ here. ⊎_elim (λ old. inl old) (λ new. inr (inl (sym (o.only p.name new)))) (one_bit word (value_word numbers chunk p.name) c here))
            (λ later. inr (inr later))
            (rest.0 h),
        λ h. ⊎_elim
            (λ old. rest.1 (inl (left_bit word (value_word numbers chunk p.name) c old)))
            (λ listed. ⊎_elim (λ same. rest.1 (inl (right_bit word (value_word numbers chunk p.name) c (own_value p.name (sym same))))) (λ later. rest.1 (inr later)) listed)
            h,
      )

  -- ---- used values

  operands_told : (word : ℕ) (xs : List Operand) → (HasBit (operands_word numbers chunk word xs) c → HasBit word c ⊎ IsListed v (locals_in xs)) × (HasBit word c ⊎ IsListed v (locals_in xs) → HasBit (operands_word numbers chunk word xs) c)
  operands_told word [] = (λ h. inl h, λ h. ⊎_elim (λ k. k) (λ none. absurd none) h)
  operands_told word (x ∷ xs) =
      let rest = operands_told (result_word numbers chunk word (local_of x)) xs in (
        λ h. ⊎_elim
            (λ here. ⊎_elim (λ old. inl old) (λ new. inr (as_result v (local_of x) (locals_in xs) new)) (result_split word (local_of x) here))
            (λ later. inr (behind_result v (local_of x) (locals_in xs) later))
            (rest.0 h),
        λ h. ⊎_elim
            (λ old. rest.1 (inl (result_kept word (local_of x) old)))
            (λ listed. ⊎_elim (λ new. rest.1 (inl (result_has word (local_of x) new))) (λ later. rest.1 (inr later)) (is_result v (local_of x) (locals_in xs) listed))
            h,
      )

  uses_told : (xs : List Operand) → HasBit (operands_word numbers chunk 0 xs) c → IsListed v (locals_in xs)
  uses_told xs h = ⊎_elim (λ none. absurd (no_bit c none)) (λ k. k) ((operands_told 0 xs).0 h)

  told_uses : (xs : List Operand) → IsListed v (locals_in xs) → HasBit (operands_word numbers chunk 0 xs) c
  told_uses xs h = (operands_told 0 xs).1 (inr h)

  open_step : (made found : ℕ) (i : Instr) (is : List Instr) (t : Terminator) →
      HasBit (bit_or found (without (operands_word numbers chunk 0 (instr_operands i)) made)) c ⊎ ((HasBit (result_word numbers chunk made (result_of i)) c → ⊥) × IsOpenFrom v is t) →
      HasBit found c ⊎ ((HasBit made c → ⊥) × IsOpenFrom v (i ∷ is) t)
  open_step made found i is t (inl h) = ⊎_elim
      (λ old. inl old)
      (λ new. let two = in_without (operands_word numbers chunk 0 (instr_operands i)) made c o.small new in inr (two.1, inl (uses_told (instr_operands i) two.0)))
      (one_bit found (without (operands_word numbers chunk 0 (instr_operands i)) made) c h)
  open_step made found i is t (inr p) = inr (λ h. p.0 (result_kept made (result_of i) h), inr (λ e. p.0 (result_has made (result_of i) e), p.1))

  pub open_told : (made found : ℕ) (is : List Instr) (t : Terminator) → HasBit (open_word numbers chunk made found is t) c → HasBit found c ⊎ ((HasBit made c → ⊥) × IsOpenFrom v is t)
  open_told made found [] t h = ⊎_elim
      (λ old. inl old)
      (λ new. let two = in_without (operands_word numbers chunk 0 (ending_operands t)) made c o.small new in inr (two.1, uses_told (ending_operands t) two.0))
      (one_bit found (without (operands_word numbers chunk 0 (ending_operands t)) made) c h)
  open_told made found (i ∷ is) t h = open_step made found i is t (open_told (result_word numbers chunk made (result_of i)) (bit_or found (without (operands_word numbers chunk 0 (instr_operands i)) made)) is t h)

  step_open : (made found : ℕ) (i : Instr) (is : List Instr) (t : Terminator) → HasBit found c ⊎ ((HasBit made c → ⊥) × IsOpenFrom v (i ∷ is) t) →
      HasBit (bit_or found (without (operands_word numbers chunk 0 (instr_operands i)) made)) c ⊎ ((HasBit (result_word numbers chunk made (result_of i)) c → ⊥) × IsOpenFrom v is t)
  step_open made found i is t (inl old) = inl (left_bit found (without (operands_word numbers chunk 0 (instr_operands i)) made) c old)
  step_open made found i is t (inr p) = ⊎_elim
      (λ used. inl (right_bit found (without (operands_word numbers chunk 0 (instr_operands i)) made) c (still_without (operands_word numbers chunk 0 (instr_operands i)) made c o.small (told_uses (instr_operands i) used) p.0)))
      (λ rest. inr (λ h. ⊎_elim (λ k. p.0 k) (λ e. rest.0 e) (result_split made (result_of i) h), rest.1))
      p.1

  pub told_open : (made found : ℕ) (is : List Instr) (t : Terminator) → HasBit found c ⊎ ((HasBit made c → ⊥) × IsOpenFrom v is t) → HasBit (open_word numbers chunk made found is t) c
  told_open made found [] t (inl old) = left_bit found (without (operands_word numbers chunk 0 (ending_operands t)) made) c old
  told_open made found [] t (inr p) = right_bit found (without (operands_word numbers chunk 0 (ending_operands t)) made) c (still_without (operands_word numbers chunk 0 (ending_operands t)) made c o.small (told_uses (ending_operands t) p.1) p.0)
  told_open made found (i ∷ is) t h = told_open (result_word numbers chunk made (result_of i)) (bit_or found (without (operands_word numbers chunk 0 (instr_operands i)) made)) is t (step_open made found i is t h)

  some_open : (x : Option Block) → HasBit (unwrap_or (option_map (block_open numbers chunk) x) 0) c → IsOpenIn v x
  some_open None h = absurd (no_bit c h)
  some_open (Some b) h =
      let p = ⊎_elim (λ none. absurd (no_bit c none)) (λ k. k) (open_told (phis_word numbers chunk 0 b.phis) 0 b.instrs b.term h) in
      (λ k. p.0 ((phi_values_told b).1 k), p.1)

  pub open_some : (x : Option Block) → IsOpenIn v x → HasBit (unwrap_or (option_map (block_open numbers chunk) x) 0) c
  open_some None h = absurd h
  open_some (Some b) h = told_open (phis_word numbers chunk 0 b.phis) 0 b.instrs b.term (inr (λ k. h.0 ((phi_values_told b).0 k), h.1))

  pub opens_told : (f : Function) (b : ℕ) → HasBit (word_at (map (block_open numbers chunk) f.blocks) b) c → IsOpenIn v (slice_get f.blocks b)
  opens_told f b h = some_open (slice_get f.blocks b) (subst (λ (x : Option ℕ). HasBit (unwrap_or x 0) c) (slice_get-map (block_open numbers chunk) f.blocks b) h)

  pub told_opens : (f : Function) (b : ℕ) → IsOpenIn v (slice_get f.blocks b) → HasBit (word_at (map (block_open numbers chunk) f.blocks) b) c
  told_opens f b h = subst (λ (x : Option ℕ). HasBit (unwrap_or x 0) c) (sym (slice_get-map (block_open numbers chunk) f.blocks b)) (open_some (slice_get f.blocks b) h)
