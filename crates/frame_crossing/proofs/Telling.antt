-- The words of suspends say of a value which it crosses.
use Rattle.std.proofs.Common.{◌≡◌, ℕ, zero, suc, ◌+◌, ◌<◌, ◌⊎◌, Bool, true, false, List, [], ◌∷◌, ◌++◌, length, map, replicate, Some, Option, refl, sym, ap, ◌∙◌, subst, ⊎_elim, inl, inr, arith, eq-eqb}
use Rattle.std.specs.Prelude.{bit_and, bit_or, filter, option_map, slice_get, slice_set, unwrap_or, if◌then◌else◌, ◌==◌, ◌||◌}
use Rattle.std.proofs.lemmas.Bool.{cases_eq, eqb-true, false≢true}
use Rattle.std.proofs.lemmas.List.{length-replicate, length-set}
use Rattle.std.proofs.lemmas.Option.{slice_get-map, slice_get_within}
use Rattle.flow_bits.specs.Bits.{HasBit}
use Rattle.rule_uses.specs.flow_blocks.Words.{word_at}
use Rattle.rule_uses.specs.Questions.{phis_word, result_word, value_word}
use Rattle.flow_solver.specs.Paths.{IsListed}
use Rattle.ir_parts.specs.Contents.{result_of}
use Rattle.ir_model.specs.Names.{position_of}
use Rattle.ir_model.specs.declared.instr.Instr.{Instr}
use Rattle.ir_model.specs.declared.module.Block.{Block}
use Rattle.ir_model.specs.declared.module.Function.{Function}
use Rattle.ir_model.specs.declared.operand.Intrinsic.{Intrinsic}
use Rattle.ir_paths.specs.Windows.{is_call_of, label_at, label_of_term, points_from, points_in}
use Rattle.ir_paths.specs.declared.point.Point.{Point}
use Rattle.frame_crossing.proofs.Bits.{IsOwn, both_bits, common_bit, left_bit, no_bit, one_bit, right_bit}
use Rattle.frame_crossing.proofs.Blocks.{IsMadeIn, get_behind, length_further, one_further, phis_are}
use Rattle.frame_crossing.proofs.Made.{front_has, front_split, result_has, result_kept, result_split, word_set_here, word_set_other}
use Rattle.frame_crossing.proofs.Seeing.{IsBefore, IsSeenIn, before_defined, defined_before}
use Rattle.frame_crossing.proofs.Solving.{filter_in, in_filter}
use Rattle.frame_crossing.proofs.Walks.{IsNeededIn, from_edge, on_edge}
use Rattle.frame_crossing.specs.Crossing.{Crosses, suspends_of}
use Rattle.frame_crossing.specs.EdgeUses.{IsUsedOn, edge_use, edge_uses, is_behind, is_behind_way, way_of}
use Rattle.frame_crossing.specs.Paths.{IsDefinedBefore, IsNeededBehind}
use Rattle.frame_crossing.specs.Values.{values_of}
use Rattle.frame_crossing.specs.Words.{AreTold, behind_word, crossing_words, suspend_words, use_words, way_at, word_if}
use Rattle.frame_crossing.specs.Words.AreTold.{Nothing, More}
use Rattle.frame_crossing.specs.declared.edge_use.EdgeUse.{EdgeUse}

-- ---- the uses on the suspends' own edges

-- one of these uses is of v, from the block
abbrev IsUseFrom : ℕ → ℕ → List EdgeUse → Type 0
IsUseFrom v b [] = ⊥
IsUseFrom v b (u ∷ us) = ((u.from ≡ b) × (u.value ≡ v)) ⊎ IsUseFrom v b us

listed_use : (v b : ℕ) (us : List EdgeUse) → IsUseFrom v b us → (u : EdgeUse) × (IsListed u us × ((u.from ≡ b) × (u.value ≡ v)))
listed_use v b [] h = absurd h
listed_use v b (u ∷ us) h = ⊎_elim (λ here. (u, (inl refl, here))) (λ later. let found = listed_use v b us later in (found.0, (inr found.1.0, found.1.1))) h

use_listed : (v b : ℕ) (us : List EdgeUse) (u : EdgeUse) → IsListed u us → u.from ≡ b → u.value ≡ v → IsUseFrom v b us
use_listed v b [] u h f e = absurd h
use_listed v b (x ∷ us) u h f e = ⊎_elim
    (λ same. inl (ap (λ (y : EdgeUse). y.from) (sym same) ∙ f, ap (λ (y : EdgeUse). y.value) (sym same) ∙ e))
    (λ later. inr (use_listed v b us u later f e))
    h

module _ (f : Function) (numbers : List (Option ℕ)) (chunk v c : ℕ) (o : IsOwn numbers chunk v c) where
  abbrev with_use : List ℕ → EdgeUse → List ℕ
  with_use words u = slice_set words u.from (bit_or (word_at words u.from) (value_word numbers chunk u.value))

  with_use_split : (words : List ℕ) (u : EdgeUse) (b : ℕ) → b < length words → HasBit (word_at (with_use words u) b) c → HasBit (word_at words b) c ⊎ ((u.from ≡ b) × (u.value ≡ v))
  with_use_split words u b lt has = ⊎_elim here (λ ne. inl (subst (λ (w : ℕ). HasBit w c) (word_set_other words u.from b (bit_or (word_at words u.from) (value_word numbers chunk u.value)) ne) has)) (cases_eq b u.from)
    where
      here : b ≡ u.from → HasBit (word_at words b) c ⊎ ((u.from ≡ b) × (u.value ≡ v))
      here e = ⊎_elim
          (λ old. inl (subst (λ (n : ℕ). HasBit (word_at words n) c) (sym e) old))
          (λ new. inr (sym e, o.only u.value new))
          (one_bit (word_at words u.from) (value_word numbers chunk u.value) c
          (subst (λ (w : ℕ). HasBit w c) (ap (word_at (with_use words u)) e ∙ word_set_here words u.from (bit_or (word_at words u.from) (value_word numbers chunk u.value)) (omega (arith, lt, e))) has))

  with_use_kept : (words : List ℕ) (u : EdgeUse) (b : ℕ) → b < length words → HasBit (word_at words b) c → HasBit (word_at (with_use words u) b) c
  with_use_kept words u b lt has = ⊎_elim
      (λ e. subst (λ (w : ℕ). HasBit w c) (sym (ap (word_at (with_use words u)) e ∙ word_set_here words u.from (bit_or (word_at words u.from) (value_word numbers chunk u.value)) (omega (arith, lt, e))))
      (left_bit (word_at words u.from) (value_word numbers chunk u.value) c (subst (λ (n : ℕ). HasBit (word_at words n) c) e has)))
      (λ ne. subst (λ (w : ℕ). HasBit w c) (sym (word_set_other words u.from b (bit_or (word_at words u.from) (value_word numbers chunk u.value)) ne)) has)
      (cases_eq b u.from)

  with_use_has : (words : List ℕ) (u : EdgeUse) (b : ℕ) → b < length words → u.from ≡ b → u.value ≡ v → HasBit (word_at (with_use words u) b) c
  with_use_has words u b lt e is =
      subst (λ (n : ℕ). HasBit (word_at (with_use words u) n) c) e
      (subst (λ (w : ℕ). HasBit w c) (sym (word_set_here words u.from (bit_or (word_at words u.from) (value_word numbers chunk u.value)) (omega (arith, lt, e))))
      (right_bit (word_at words u.from) (value_word numbers chunk u.value) c (subst (λ (x : ℕ). HasBit (value_word numbers chunk x) c) (sym is) o.own)))

  with_use_length : (words : List ℕ) (u : EdgeUse) (b : ℕ) → b < length words → b < length (with_use words u)
  with_use_length words u b lt = let len = length-set words u.from (bit_or (word_at words u.from) (value_word numbers chunk u.value)) in omega (arith, lt, len)

  uses_split : (words : List ℕ) (us : List EdgeUse) (b : ℕ) → b < length words → HasBit (word_at (use_words numbers chunk words us) b) c → HasBit (word_at words b) c ⊎ IsUseFrom v b us
  uses_split words [] b lt has = inl has
  uses_split words (u ∷ us) b lt has = ⊎_elim
      (λ here. ⊎_elim (λ old. inl old) (λ new. inr (inl new)) (with_use_split words u b lt here))
      (λ later. inr (inr later))
      (uses_split (with_use words u) us b (with_use_length words u b lt) has)

  uses_has : (words : List ℕ) (us : List EdgeUse) (b : ℕ) → b < length words → HasBit (word_at words b) c ⊎ IsUseFrom v b us → HasBit (word_at (use_words numbers chunk words us) b) c
  uses_has words [] b lt h = ⊎_elim (λ has. has) (λ none. absurd none) h
  uses_has words (u ∷ us) b lt h = uses_has (with_use words u) us b (with_use_length words u b lt) (⊎_elim
      (λ old. inl (with_use_kept words u b lt old))
      (λ listed. ⊎_elim (λ here. inl (with_use_has words u b lt here.0 here.1)) (λ later. inr later) listed)
      h)

  blank : (n b : ℕ) → HasBit (word_at (replicate n 0) b) c → ⊥
  blank zero b h = no_bit c h
  blank (suc n) zero h = no_bit c h
  blank (suc n) (suc b) h = blank n b h

  -- ---- behind a block's suspends

  abbrev ways : List (ℕ × ℕ)
  ways = map (way_of f) f.blocks

  abbrev own : List ℕ
  own = use_words numbers chunk (replicate (length f.blocks) 0) (filter (is_behind ways) (edge_uses f))

  module _ (needed : List ℕ) (told_needed : (b : ℕ) → HasBit (word_at needed b) c → IsNeededIn f v b) (needed_told : (b : ℕ) → IsNeededIn f v b → HasBit (word_at needed b) c)
      (b : ℕ) (block : Block) (is_block : slice_get f.blocks b ≡ Some block) where
    abbrev resumed : ℕ
    resumed = position_of f (label_of_term 0 block.term)

    abbrev destroyed : ℕ
    destroyed = position_of f (label_of_term 1 block.term)

    way_is : slice_get ways b ≡ Some (way_of f block)
    way_is = slice_get-map (way_of f) f.blocks b ∙ ap (option_map (way_of f)) is_block

    way_at_is : way_at ways b ≡ way_of f block
    way_at_is = ap (λ (x : Option (ℕ × ℕ)). unwrap_or x (0, 0)) way_is

    resumed_is : position_of f (label_at 0 (slice_get f.blocks b)) ≡ resumed
    resumed_is = ap (λ (x : Option Block). position_of f (label_at 0 x)) is_block

    destroyed_is : position_of f (label_at 1 (slice_get f.blocks b)) ≡ destroyed
    destroyed_is = ap (λ (x : Option Block). position_of f (label_at 1 x)) is_block

    blank_length : b < length {A = ℕ} (replicate (length f.blocks) 0)
    blank_length = let len = length-replicate {A = ℕ} (length f.blocks) 0 in let lt = slice_get_within f.blocks b block is_block in omega (arith, len, lt)

    either : (x y : Bool) → (x || y) ≡ true → (x ≡ true) ⊎ (y ≡ true)
    either true y e = inl refl
    either false y e = inr e

    or_first : (x y : Bool) → x ≡ true → (x || y) ≡ true
    or_first true y e = refl
    or_first false y e = absurd (false≢true e)

    or_second : (x y : Bool) → y ≡ true → (x || y) ≡ true
    or_second true y e = refl
    or_second false y e = e

    behind_is : (u : EdgeUse) → u.from ≡ b → is_behind ways u ≡ ((u.to == resumed) || (u.to == destroyed))
    behind_is u e = ap (is_behind_way u.to) (ap (slice_get ways) e ∙ way_is)

    used_by_it : (u : EdgeUse) → IsListed u (edge_uses f) → u.from ≡ b → u.value ≡ v → (to : ℕ) → u.to ≡ to → IsUsedOn f v b to
    used_by_it u listed from_is value_is to to_is =
        subst (λ (n : ℕ). IsListed (edge_use b n v) (edge_uses f)) to_is
        (subst (λ (n : ℕ). IsListed (edge_use n u.to v) (edge_uses f)) from_is
        (subst (λ (n : ℕ). IsListed (edge_use u.from u.to n) (edge_uses f)) value_is listed))

    abbrev IsOnWays : Type 0
    IsOnWays = IsUsedOn f v b resumed ⊎ IsUsedOn f v b destroyed

    own_used : HasBit (word_at own b) c → IsOnWays
    own_used has = ⊎_elim (λ none. absurd (blank (length f.blocks) b none)) by_uses (uses_split (replicate (length f.blocks) 0) (filter (is_behind ways) (edge_uses f)) b blank_length has)
      where
        by_uses : IsUseFrom v b (filter (is_behind ways) (edge_uses f)) → IsOnWays
        by_uses h =
            let found : (u : EdgeUse) × (IsListed u (filter (is_behind ways) (edge_uses f)) × ((u.from ≡ b) × (u.value ≡ v))) = listed_use v b (filter (is_behind ways) (edge_uses f)) h in
            let u : EdgeUse = found.0 in
            let left = in_filter (is_behind ways) u (edge_uses f) found.1.0 in
            ⊎_elim
            (λ r. inl (used_by_it u left.0 found.1.1.0 found.1.1.1 resumed (eqb-true u.to resumed r)))
            (λ d. inr (used_by_it u left.0 found.1.1.0 found.1.1.1 destroyed (eqb-true u.to destroyed d)))
            (either (u.to == resumed) (u.to == destroyed) (sym (behind_is u found.1.1.0) ∙ left.1))

    used_own : IsOnWays → HasBit (word_at own b) c
    used_own h = uses_has (replicate (length f.blocks) 0) (filter (is_behind ways) (edge_uses f)) b blank_length (inr (⊎_elim
        (λ r. on resumed r (or_first (resumed == resumed) (resumed == destroyed) (eq-eqb resumed resumed refl)))
        (λ d. on destroyed d (or_second (destroyed == resumed) (destroyed == destroyed) (eq-eqb destroyed destroyed refl)))
        h))
      where
        on : (to : ℕ) → IsUsedOn f v b to → ((to == resumed) || (to == destroyed)) ≡ true → IsUseFrom v b (filter (is_behind ways) (edge_uses f))
        on to used e = use_listed v b (filter (is_behind ways) (edge_uses f)) (edge_use b to v) (filter_in (is_behind ways) (edge_use b to v) (edge_uses f) used (behind_is (edge_use b to v) refl ∙ e)) refl refl

    abbrev behind : ℕ
    behind = behind_word own needed (way_at ways b) b

    behind_same : behind ≡ bit_or (word_at own b) (bit_or (word_at needed resumed) (word_at needed destroyed))
    behind_same = ap (λ (w : ℕ × ℕ). behind_word own needed w b) way_at_is

    from_ways : (at : ℕ) → IsUsedOn f v b resumed ⊎ IsNeededIn f v resumed → IsNeededBehind f v (record { block = b; at = at })
    from_ways at h = inl (on_edge f v b (label_at 0 (slice_get f.blocks b)) (subst (λ (n : ℕ). IsUsedOn f v b n ⊎ IsNeededIn f v n) (sym resumed_is) h))

    from_destroyed : (at : ℕ) → IsUsedOn f v b destroyed ⊎ IsNeededIn f v destroyed → IsNeededBehind f v (record { block = b; at = at })
    from_destroyed at h = inr (on_edge f v b (label_at 1 (slice_get f.blocks b)) (subst (λ (n : ℕ). IsUsedOn f v b n ⊎ IsNeededIn f v n) (sym destroyed_is) h))

    pub told_behind : (at : ℕ) → HasBit behind c → IsNeededBehind f v (record { block = b; at = at })
    told_behind at has = ⊎_elim
        (λ mine. ⊎_elim (λ r. from_ways at (inl r)) (λ d. from_destroyed at (inl d)) (own_used mine))
        (λ there. ⊎_elim (λ r. from_ways at (inr (told_needed resumed r))) (λ d. from_destroyed at (inr (told_needed destroyed d))) (one_bit (word_at needed resumed) (word_at needed destroyed) c there))
        (one_bit (word_at own b) (bit_or (word_at needed resumed) (word_at needed destroyed)) c (subst (λ (w : ℕ). HasBit w c) behind_same has))

    resumed_has : IsUsedOn f v b resumed ⊎ IsNeededIn f v resumed → HasBit (bit_or (word_at own b) (bit_or (word_at needed resumed) (word_at needed destroyed))) c
    resumed_has h = ⊎_elim
        (λ used. left_bit (word_at own b) (bit_or (word_at needed resumed) (word_at needed destroyed)) c (used_own (inl used)))
        (λ n. right_bit (word_at own b) (bit_or (word_at needed resumed) (word_at needed destroyed)) c (left_bit (word_at needed resumed) (word_at needed destroyed) c (needed_told resumed n)))
        h

    destroyed_has : IsUsedOn f v b destroyed ⊎ IsNeededIn f v destroyed → HasBit (bit_or (word_at own b) (bit_or (word_at needed resumed) (word_at needed destroyed))) c
    destroyed_has h = ⊎_elim
        (λ used. left_bit (word_at own b) (bit_or (word_at needed resumed) (word_at needed destroyed)) c (used_own (inr used)))
        (λ n. right_bit (word_at own b) (bit_or (word_at needed resumed) (word_at needed destroyed)) c (right_bit (word_at needed resumed) (word_at needed destroyed) c (needed_told destroyed n)))
        h

    pub behind_told : (at : ℕ) → IsNeededBehind f v (record { block = b; at = at }) → HasBit behind c
    behind_told at n = subst (λ (w : ℕ). HasBit w c) (sym behind_same) (⊎_elim
        (λ r. resumed_has (subst (λ (k : ℕ). IsUsedOn f v b k ⊎ IsNeededIn f v k) resumed_is (from_edge f v b (label_at 0 (slice_get f.blocks b)) r)))
        (λ d. destroyed_has (subst (λ (k : ℕ). IsUsedOn f v b k ⊎ IsNeededIn f v k) destroyed_is (from_edge f v b (label_at 1 (slice_get f.blocks b)) d)))
        n)

  -- ---- the suspends of a block

  made_more : (front : List Instr) (i : Instr) → IsMadeIn v (front ++ i ∷ []) → IsMadeIn v front ⊎ (result_of i ≡ Some v)
  made_more [] i h = ⊎_elim (λ e. inr e) (λ none. absurd none) h
  made_more (x ∷ front) i h = ⊎_elim (λ e. inl (inl e)) (λ later. ⊎_elim (λ k. inl (inr k)) (λ e. inr e) (made_more front i later)) h

  more_made : (front : List Instr) (i : Instr) → IsMadeIn v front → IsMadeIn v (front ++ i ∷ [])
  more_made [] i h = absurd h
  more_made (x ∷ front) i h = ⊎_elim (λ e. inl e) (λ later. inr (more_made front i later)) h

  last_made : (front : List Instr) (i : Instr) → result_of i ≡ Some v → IsMadeIn v (front ++ i ∷ [])
  last_made [] i e = inl e
  last_made (x ∷ front) i e = inr (last_made front i e)

  -- the word has the bit exactly where the value is defined before what follows these instructions
  pub record TellsBefore (b : ℕ) (front : List Instr) (word : ℕ) : Type 0 where
    pub told : HasBit word c → IsBefore f v b front
    pub has : IsBefore f v b front → HasBit word c

  before_step : (b : ℕ) (front : List Instr) (i : Instr) (word : ℕ) → TellsBefore b front word → TellsBefore b (front ++ i ∷ []) (result_word numbers chunk word (result_of i))
  before_step b front i word t = record {
    told = λ h. ⊎_elim
        (λ old. ⊎_elim (λ k. inl k) (λ m. inr (more_made front i m)) (t.told old))
        (λ e. inr (last_made front i e))
        (result_split numbers chunk v c o word (result_of i) h);
    has = λ h. ⊎_elim
        (λ k. result_kept numbers chunk v c o word (result_of i) (t.has (inl k)))
        (λ m. ⊎_elim (λ old. result_kept numbers chunk v c o word (result_of i) (t.has (inr old))) (λ e. result_has numbers chunk v c o word (result_of i) e) (made_more front i m))
        h;
  }

  append_told : (ss ss2 : List Point) (ws ws2 : List ℕ) → AreTold f v c ss ws → AreTold f v c ss2 ws2 → AreTold f v c (ss ++ ss2) (ws ++ ws2)
  append_told _ ss2 _ ws2 Nothing t = t
  append_told _ ss2 _ ws2 (More s ss w ws forth back rest) t = More s (ss ++ ss2) w (ws ++ ws2) forth back (append_told ss ss2 ws ws2 rest t)

  module _ (is_value : IsListed v (values_of f)) (needed : List ℕ) (told_needed : (b : ℕ) → HasBit (word_at needed b) c → IsNeededIn f v b) (needed_told : (b : ℕ) → IsNeededIn f v b → HasBit (word_at needed b) c) where
    one_if : (t : Bool) (p : Point) (ps : List Point) (w : ℕ) (ws : List ℕ) → (HasBit w c → Crosses f v p) → (Crosses f v p → HasBit w c) → AreTold f v c ps ws → AreTold f v c (if t then p ∷ ps else ps) (word_if t w ++ ws)
    one_if true p ps w ws forth back t = More p ps w ws forth back t
    one_if false p ps w ws forth back t = t

    block_told : (b : ℕ) (block : Block) → slice_get f.blocks b ≡ Some block → (front is : List Instr) → block.instrs ≡ front ++ is → (at : ℕ) → at ≡ length front → (before : ℕ) → TellsBefore b front before →
        AreTold f v c (points_from (is_call_of Intrinsic.CoroSuspend) b at is) (suspend_words numbers chunk before (behind_word own needed (way_at ways b) b) is)
    block_told b block e front [] is_instrs at at_is before t = Nothing
    block_told b block e front (i ∷ is) is_instrs at at_is before t =
        one_if (is_call_of Intrinsic.CoroSuspend i) (record { block = b; at = at }) (points_from (is_call_of Intrinsic.CoroSuspend) b (suc at) is)
        (bit_and before (behind_word own needed (way_at ways b) b)) (suspend_words numbers chunk (result_word numbers chunk before (result_of i)) (behind_word own needed (way_at ways b) b) is)
        (λ h. let two = both_bits before (behind_word own needed (way_at ways b) b) c h in record {
          is_value = is_value;
          defined = subst (IsDefinedBefore f v b) (sym at_is) (before_defined f v b block e front (i ∷ is) is_instrs (t.told two.0));
          needed = told_behind needed told_needed needed_told b block e at two.1;
        })
        (λ x. common_bit before (behind_word own needed (way_at ways b) b) c (t.has (defined_before f v b block e front (i ∷ is) is_instrs (subst (IsDefinedBefore f v b) at_is x.defined))) (behind_told needed told_needed needed_told b block e at x.needed))
        (block_told b block e (front ++ i ∷ []) is (one_further block.instrs front i is is_instrs) (suc at) (let longer = length_further front i in let same : suc at ≡ length (front ++ i ∷ []) = omega (arith, longer, at_is) in same)
        (result_word numbers chunk before (result_of i)) (before_step b front i before t))

    -- ---- all blocks

    module _ (seen : List ℕ) (told_seen : (b : ℕ) → HasBit (word_at seen b) c → IsSeenIn f v b) (seen_told : (b : ℕ) → IsSeenIn f v b → HasBit (word_at seen b) c) where
      at_front : (b : ℕ) (block : Block) → slice_get f.blocks b ≡ Some block → TellsBefore b [] (phis_word numbers chunk (word_at seen b) block.phis)
      at_front b block e = record {
        told = λ h. ⊎_elim
            (λ there. inl (inr (told_seen b there)))
            (λ phi. inl (inl (subst (IsListed v) (sym (phis_are f b block e)) phi)))
            (front_split numbers chunk v c o (word_at seen b) block h);
        has = λ h. ⊎_elim
            (λ k. front_has numbers chunk v c o (word_at seen b) block (⊎_elim (λ phi. inr (subst (IsListed v) (phis_are f b block e) phi)) (λ there. inl (seen_told b there)) k))
            (λ none. absurd none)
            h;
      }

      blocks_told : (front blocks : List Block) → f.blocks ≡ front ++ blocks → (at at2 : ℕ) → at ≡ length front → at2 ≡ at →
          AreTold f v c (points_in (is_call_of Intrinsic.CoroSuspend) at blocks) (crossing_words numbers chunk seen own needed ways at2 blocks)
      blocks_told front [] e at at2 is same = Nothing
      blocks_told front (b ∷ bs) e at at2 is same =
          let stands : slice_get f.blocks at ≡ Some b = ap (slice_get f.blocks) is ∙ ap (λ (l : List Block). slice_get l (length front)) e ∙ get_behind front b bs in
          append_told (points_from (is_call_of Intrinsic.CoroSuspend) at 0 b.instrs) (points_in (is_call_of Intrinsic.CoroSuspend) (suc at) bs)
          (suspend_words numbers chunk (phis_word numbers chunk (word_at seen at2) b.phis) (behind_word own needed (way_at ways at2) at2) b.instrs) (crossing_words numbers chunk seen own needed ways (at2 + 1) bs)
          (subst (λ (n : ℕ). AreTold f v c (points_from (is_call_of Intrinsic.CoroSuspend) at 0 b.instrs) (suspend_words numbers chunk (phis_word numbers chunk (word_at seen n) b.phis) (behind_word own needed (way_at ways n) n) b.instrs)) (sym same)
          (block_told at b stands [] b.instrs refl 0 refl (phis_word numbers chunk (word_at seen at) b.phis) (at_front at b stands)))
          (blocks_told (front ++ b ∷ []) bs (one_further f.blocks front b bs e) (suc at) (at2 + 1)
          (let longer = length_further front b in let k : suc at ≡ length (front ++ b ∷ []) = omega (arith, longer, is) in k)
          (let k : at2 + 1 ≡ suc at = omega (arith, same) in k))

      pub suspends_told : AreTold f v c (suspends_of f) (crossing_words numbers chunk seen own needed ways 0 f.blocks)
      suspends_told = blocks_told [] f.blocks refl 0 0 refl refl
