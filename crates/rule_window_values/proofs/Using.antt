-- What the walk through the text tells of the question of one value.
use Rattle.std.proofs.Common.{◌≡◌, ℕ, ◌+◌, ◌⊎◌, List, [], ◌∷◌, ◌++◌, length, map, Option, refl, sym, subst, ⊎_elim, inl, inr}
use Rattle.std.specs.Prelude.{◌↔◌, bit_and, bit_or, option_to_list}
use Rattle.flow_bits.specs.Bits.{HasBit}
use Rattle.rule_uses.specs.flow_blocks.Words.{word_at}
use Rattle.ir_base.specs.declared.outcome.Place.{Place}
use Rattle.rule_uses.specs.Questions.{block_word, phis_word, result_word}
use Rattle.rule_uses.specs.Uses.{Use, block_uses, block_values, blocks_uses, incoming_use, incoming_uses, instr_uses, local_of, locals_in, phi_uses, phi_values, use_of, uses_at, uses_of, values_at}
use Rattle.flow_solver.specs.Paths.{IsListed}
use Rattle.ir_parts.specs.Contents.{ending_operands, instr_operands, result_of}
use Rattle.ir_parts.specs.Parts.{instr_place}
use Rattle.ir_model.specs.Names.{position_of}
use Rattle.ir_model.specs.declared.instr.Incoming.{Incoming}
use Rattle.ir_model.specs.declared.instr.Instr.{Instr}
use Rattle.ir_model.specs.declared.instr.Phi.{Phi}
use Rattle.ir_model.specs.declared.module.Block.{Block}
use Rattle.ir_model.specs.declared.module.Function.{Function}
use Rattle.ir_model.specs.declared.operand.Operand.{Operand}
use Rattle.rule_window_values.proofs.Bits.{Asks, and_bit, either_bit, instrs_told, left_bits, no_bit, none_told, operands_bit, phis_told, result_bit, result_told}
use Rattle.rule_window_values.proofs.Iffs.{either_none, either_same, same_itself, step_same, then_same}
use Rattle.rule_window_values.specs.Words.{end_at, left_of, live_at, operands_word, told_block, told_blocks, told_incoming, told_instrs, told_phis, with_used}
use Rattle.rule_window_values.specs.declared.chunk.Chunk.{Chunk}

-- ---- some of a list

abbrev pub SomeOf : (Use → Type 0) → List Use → Type 0
SomeOf H [] = ⊥
SomeOf H (u ∷ us) = H u ⊎ SomeOf H us

some_append : (H : Use → Type 0) (xs ys : List Use) → (SomeOf H xs ⊎ SomeOf H ys) ↔ SomeOf H (xs ++ ys)
some_append H [] ys = ((λ h. ⊎_elim (λ none. absurd none) (λ r. r) h), (λ h. inr h))
some_append H (x ∷ xs) ys =
    let rest = some_append H xs ys in (
      (λ h. ⊎_elim (λ l. ⊎_elim (λ e. inl e) (λ later. inr (rest.0 (inl later))) l) (λ r. inr (rest.0 (inr r))) h),
      (λ h. ⊎_elim (λ e. inl (inl e)) (λ later. ⊎_elim (λ l. inl (inr l)) (λ r. inr r) (rest.1 later)) h),
    )

pub some_from : (H : Use → Type 0) (us : List Use) → SomeOf H us → (u : Use) × (IsListed u us × H u)
some_from H [] h = absurd h
some_from H (x ∷ xs) h = ⊎_elim (λ e. (x, (inl refl, e))) (λ later. let found : (u : Use) × (IsListed u xs × H u) = some_from H xs later in (found.0, (inr found.1.0, found.1.1))) h

pub some_to : (H : Use → Type 0) (us : List Use) (u : Use) → IsListed u us → H u → SomeOf H us
some_to H [] u l h = absurd l
some_to H (x ∷ xs) u l h = ⊎_elim (λ e. inl (subst H e h)) (λ later. inr (some_to H xs u later h)) l

-- ---- uses

-- a use of the value, which its block doesn't make before, in a block to which the question's paths lead
pub record IsHit (v c : ℕ) (ch : Chunk) (u : Use) : Type 0 where
  pub value : u.value ≡ v
  pub live : HasBit (live_at ch u.block) c
  pub not_before : IsListed v u.before → ⊥

module _ (numbers : List (Option ℕ)) (v c : ℕ) (ch : Chunk) (a : Asks numbers ch.number v c) where
  -- the value is among these, and asked at this place
  abbrev Hits : List ℕ → ℕ → List ℕ → Type 0
  Hits vs block before = IsListed v vs × (HasBit (live_at ch block) c × (IsListed v before → ⊥))

  some_use : (p : Place) (block : ℕ) (before vs : List ℕ) → Hits vs block before ↔ SomeOf (IsHit v c ch) (map (use_of p block before) vs)
  some_use p block before [] = ((λ h. absurd h.0), (λ h. absurd h))
  some_use p block before (w ∷ vs) =
      let rest = some_use p block before vs in (
        (λ h. ⊎_elim (λ e. inl (record { value = sym e; live = h.1.0; not_before = h.1.1 })) (λ later. inr (rest.0 (later, h.1))) h.0),
        (λ h. ⊎_elim (λ e. (inl (sym e.value), (e.live, e.not_before))) (λ later. let r = rest.1 later in (inr r.0, r.1)) h),
      )

  -- what the block has made so far
  abbrev Made : ℕ → List ℕ → Type 0
  Made word before = HasBit word c ↔ IsListed v before

  left_is : (block made : ℕ) (before : List ℕ) → Made made before → HasBit (left_of (live_at ch block) made) c ↔ (HasBit (live_at ch block) c × (IsListed v before → ⊥))
  left_is block made before t =
      let bits = left_bits (live_at ch block) made c a.small in
      ((λ h. let two = bits.0 h in (two.0, (λ l. two.1 (t.1 l)))), (λ h. bits.1 (h.0, (λ b. h.1 (t.0 b)))))

  -- those of a word that lists the values asked for here
  hits_is : (word block made : ℕ) (vs before : List ℕ) → HasBit word c ↔ IsListed v vs → Made made before → HasBit (bit_and word (left_of (live_at ch block) made)) c ↔ Hits vs block before
  hits_is word block made vs before w t =
      let bits = and_bit word (left_of (live_at ch block) made) c in
      let left = left_is block made before t in
      ((λ h. let two = bits.0 h in (w.0 two.0, left.0 two.1)), (λ h. bits.1 (w.1 h.0, left.1 h.1)))

  pub none_before : (T : Type 0) (word : ℕ) → HasBit word c ↔ (HasBit 0 c ⊎ T) → HasBit word c ↔ T
  none_before T word t = ((λ h. ⊎_elim (λ z. absurd (no_bit c z)) (λ x. x) (t.0 h)), (λ x. t.1 (inr x)))

  operands_are : (xs : List Operand) → HasBit (operands_word numbers ch.number 0 xs) c ↔ IsListed v (locals_in xs)
  operands_are xs = none_before (IsListed v (locals_in xs)) (operands_word numbers ch.number 0 xs) (operands_bit numbers ch.number v c a 0 xs)

  pub operand_is : (o : Option ℕ) → HasBit (result_word numbers ch.number 0 o) c ↔ IsListed v (option_to_list o)
  operand_is o = none_before (IsListed v (option_to_list o)) (result_word numbers ch.number 0 o) (result_bit numbers ch.number v c a 0 o)

  used_told : (p : Place) (block made told : ℕ) (before : List ℕ) (xs : List Operand) → Made made before →
      HasBit (with_used numbers ch.number (live_at ch block) made told xs) c ↔ (HasBit told c ⊎ SomeOf (IsHit v c ch) (uses_at p block before xs))
  used_told p block made told before xs t =
      let word : ℕ = bit_and (operands_word numbers ch.number 0 xs) (left_of (live_at ch block) made) in
      then_same (HasBit (bit_or told word) c) (HasBit told c ⊎ HasBit word c) (HasBit told c ⊎ SomeOf (IsHit v c ch) (uses_at p block before xs))
      (either_bit told word c)
      (either_same (HasBit told c) (HasBit told c) (HasBit word c) (SomeOf (IsHit v c ch) (uses_at p block before xs)) (same_itself (HasBit told c))
      (then_same (HasBit word c) (Hits (locals_in xs) block before) (SomeOf (IsHit v c ch) (uses_at p block before xs))
      (hits_is (operands_word numbers ch.number 0 xs) block made (locals_in xs) before (operands_are xs) t)
      (some_use p block before (locals_in xs))))

  instrs_hit : (func block at made told : ℕ) (before : List ℕ) (is : List Instr) → Made made before →
      HasBit (told_instrs numbers ch.number (live_at ch block) made told is) c ↔ (HasBit told c ⊎ SomeOf (IsHit v c ch) (instr_uses func block at before is))
  instrs_hit func block at made told before [] t = either_none (HasBit told c)
  instrs_hit func block at made told before (i ∷ is) t =
      let next : ℕ = with_used numbers ch.number (live_at ch block) made told (instr_operands i) in
      let made2 : ℕ = result_word numbers ch.number made (result_of i) in
      let before2 : List ℕ = option_to_list (result_of i) ++ before in
      let here : List Use = uses_at (instr_place func block at) block before (instr_operands i) in
      let rest : List Use = instr_uses func block (at + 1) before2 is in
      step_same (HasBit (told_instrs numbers ch.number (live_at ch block) made2 next is) c) (HasBit next c) (HasBit told c) (SomeOf (IsHit v c ch) here) (SomeOf (IsHit v c ch) rest) (SomeOf (IsHit v c ch) (here ++ rest))
      (instrs_hit func block (at + 1) made2 next before2 is (result_told numbers ch.number v c a made before (result_of i) t))
      (used_told (instr_place func block at) block made told before (instr_operands i) t)
      (some_append (IsHit v c ch) here rest)

  module _ (f : Function) (mades : (b : ℕ) → HasBit (word_at ch.made b) c ↔ IsListed v (values_at f b)) where
    -- ---- phis

    one_incoming : (p : Place) (i : Incoming) (o : Option ℕ) → Hits (option_to_list o) (position_of f i.from) (values_at f (position_of f i.from)) ↔ SomeOf (IsHit v c ch) (map (incoming_use f p i) (option_to_list o))
    one_incoming p i o = some_use p (position_of f i.from) (values_at f (position_of f i.from)) (option_to_list o)

    incoming_told : (p : Place) (told : ℕ) (i : Incoming) →
        HasBit (bit_or told (bit_and (result_word numbers ch.number 0 (local_of i.value)) (end_at ch (position_of f i.from)))) c ↔ (HasBit told c ⊎ SomeOf (IsHit v c ch) (map (incoming_use f p i) (option_to_list (local_of i.value))))
    incoming_told p told i =
        let from : ℕ = position_of f i.from in
        let word : ℕ = bit_and (result_word numbers ch.number 0 (local_of i.value)) (end_at ch from) in
        let here : List Use = map (incoming_use f p i) (option_to_list (local_of i.value)) in
        then_same (HasBit (bit_or told word) c) (HasBit told c ⊎ HasBit word c) (HasBit told c ⊎ SomeOf (IsHit v c ch) here)
        (either_bit told word c)
        (either_same (HasBit told c) (HasBit told c) (HasBit word c) (SomeOf (IsHit v c ch) here) (same_itself (HasBit told c))
        (then_same (HasBit word c) (Hits (option_to_list (local_of i.value)) from (values_at f from)) (SomeOf (IsHit v c ch) here)
        (hits_is (result_word numbers ch.number 0 (local_of i.value)) from (word_at ch.made from) (option_to_list (local_of i.value)) (values_at f from) (operand_is (local_of i.value)) (mades from))
        (one_incoming p i (local_of i.value))))

    incomings_told : (p : Place) (told : ℕ) (is : List Incoming) → HasBit (told_incoming f numbers ch told is) c ↔ (HasBit told c ⊎ SomeOf (IsHit v c ch) (incoming_uses f p is))
    incomings_told p told [] = either_none (HasBit told c)
    incomings_told p told (i ∷ is) =
        let next : ℕ = bit_or told (bit_and (result_word numbers ch.number 0 (local_of i.value)) (end_at ch (position_of f i.from))) in
        let here : List Use = map (incoming_use f p i) (option_to_list (local_of i.value)) in
        step_same (HasBit (told_incoming f numbers ch next is) c) (HasBit next c) (HasBit told c) (SomeOf (IsHit v c ch) here) (SomeOf (IsHit v c ch) (incoming_uses f p is)) (SomeOf (IsHit v c ch) (here ++ incoming_uses f p is))
        (incomings_told p next is) (incoming_told p told i) (some_append (IsHit v c ch) here (incoming_uses f p is))

    phis_hit : (func block at told : ℕ) (ps : List Phi) → HasBit (told_phis f numbers ch told ps) c ↔ (HasBit told c ⊎ SomeOf (IsHit v c ch) (phi_uses f func block at ps))
    phis_hit func block at told [] = either_none (HasBit told c)
    phis_hit func block at told (p ∷ ps) =
        let next : ℕ = told_incoming f numbers ch told p.incoming in
        let here : List Use = incoming_uses f (instr_place func block at) p.incoming in
        let rest : List Use = phi_uses f func block (at + 1) ps in
        step_same (HasBit (told_phis f numbers ch next ps) c) (HasBit next c) (HasBit told c) (SomeOf (IsHit v c ch) here) (SomeOf (IsHit v c ch) rest) (SomeOf (IsHit v c ch) (here ++ rest))
        (phis_hit func block (at + 1) next ps) (incomings_told (instr_place func block at) told p.incoming) (some_append (IsHit v c ch) here rest)

    -- ---- blocks

    block_hit : (func block told : ℕ) (b : Block) → HasBit (told_block f numbers ch block told b) c ↔ (HasBit told c ⊎ SomeOf (IsHit v c ch) (block_uses f func block b))
    unfolding told_block block_uses
    block_hit func block told b =
        let base : ℕ = live_at ch block in
        let phis : ℕ = phis_word numbers ch.number 0 b.phis in
        let one : ℕ = told_phis f numbers ch told b.phis in
        let two : ℕ = told_instrs numbers ch.number base phis one b.instrs in
        let end_place : Place = instr_place func block (length b.phis + length b.instrs) in
        let first : List Use = phi_uses f func block 0 b.phis in
        let second : List Use = instr_uses func block (length b.phis) (phi_values b) b.instrs in
        let third : List Use = uses_at end_place block (block_values b) (ending_operands b.term) in
        let after_phis : Made phis (phi_values b) = phis_told numbers ch.number v c a 0 [] b.phis (none_told numbers ch.number v c a) in
        let after_all : Made (block_word numbers ch.number b) (block_values b) = instrs_told numbers ch.number v c a phis (phi_values b) b.instrs after_phis in
        step_same (HasBit (with_used numbers ch.number base (block_word numbers ch.number b) two (ending_operands b.term)) c) (HasBit one c) (HasBit told c) (SomeOf (IsHit v c ch) first) (SomeOf (IsHit v c ch) (second ++ third)) (SomeOf (IsHit v c ch) (first ++ (second ++ third)))
        (step_same (HasBit (with_used numbers ch.number base (block_word numbers ch.number b) two (ending_operands b.term)) c) (HasBit two c) (HasBit one c) (SomeOf (IsHit v c ch) second) (SomeOf (IsHit v c ch) third) (SomeOf (IsHit v c ch) (second ++ third))
        (used_told end_place block (block_word numbers ch.number b) two (block_values b) (ending_operands b.term) after_all)
        (instrs_hit func block (length b.phis) phis one (phi_values b) b.instrs after_phis)
        (some_append (IsHit v c ch) second third))
        (phis_hit func block 0 told b.phis)
        (some_append (IsHit v c ch) first (second ++ third))

    blocks_hit : (func block told : ℕ) (bs : List Block) → HasBit (told_blocks f numbers ch block told bs) c ↔ (HasBit told c ⊎ SomeOf (IsHit v c ch) (blocks_uses f func block bs))
    blocks_hit func block told [] = either_none (HasBit told c)
    blocks_hit func block told (b ∷ bs) =
        let next : ℕ = told_block f numbers ch block told b in
        let here : List Use = block_uses f func block b in
        let rest : List Use = blocks_uses f func (block + 1) bs in
        step_same (HasBit (told_blocks f numbers ch (block + 1) next bs) c) (HasBit next c) (HasBit told c) (SomeOf (IsHit v c ch) here) (SomeOf (IsHit v c ch) rest) (SomeOf (IsHit v c ch) (here ++ rest))
        (blocks_hit func (block + 1) next bs) (block_hit func block told b) (some_append (IsHit v c ch) here rest)

    pub all_hit : (func : ℕ) → HasBit (told_blocks f numbers ch 0 0 f.blocks) c ↔ SomeOf (IsHit v c ch) (uses_of func f)
    all_hit func = none_before (SomeOf (IsHit v c ch) (uses_of func f)) (told_blocks f numbers ch 0 0 f.blocks) (blocks_hit func 0 0 f.blocks)
