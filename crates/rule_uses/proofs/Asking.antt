-- What the words of a chunk say of one value that it asks for.
use Rattle.std.proofs.Common.{◌≡◌, ◌≢◌, ℕ, zero, suc, ◌+◌, ◌*◌, ◌/◌, ◌%◌, ◌^◌, ◌<◌, ◌≤◌, ◌⊎◌, Bool, true, false, List, [], ◌∷◌, ◌++◌, length, map, Some, None, Option, refl, sym, ap, ◌∙◌, subst, ⊎_elim, inl, inr, arith, eq-eqb}
use Rattle.std.specs.Prelude.{IsTrue, bit_or, bit_xor, not, option_map, option_to_list, slice_get, unwrap_or, ◌==◌, ◌&&◌}
use Rattle.std.specs.Int.{bit_at}
use Rattle.std.proofs.lemmas.Bool.{cases_eq, cases_lt, eqb-true, false≢true}
use Rattle.std.proofs.lemmas.Nat.Bits.{bit_at_or, bit_at_ones, bit_at_xor, bit_at-lt, bit_at-pow_other, bit_at-pow_same, bit_at-zero}
use Rattle.std.proofs.lemmas.Option.{slice_get-map, slice_get_past}
use Rattle.flow_bits.specs.Bits.{HasBit}
use Rattle.flow_bits.specs.Reaching.{AnswersAt, Reaches}
use Rattle.flow_bits.specs.Reaching.Reaches.{Start, Edge}
use Rattle.flow_blocks.proofs.Bounds.{edge_bounded}
use Rattle.flow_blocks.proofs.Reached.{word_within}
use Rattle.flow_blocks.specs.Edges.{block_edges}
use Rattle.flow_blocks.specs.Words.{word_at}
use Rattle.rule_uses.specs.Questions.{IsNumbering, IsOpen, all_bits, bit_if, bit_in, bit_of, block_word, edge_word, has_bit, instrs_word, is_told, phis_word, result_word, told_by, value_word, word_of_bit}
use Rattle.rule_uses.specs.Undefined.{ReachesWithout}
use Rattle.rule_uses.specs.Undefined.ReachesWithout.{Entry, Next}
use Rattle.rule_uses.specs.Uses.{block_values, made_by_instrs, made_by_phis, values_at, values_in}
use Rattle.rule_uses.specs.declared.open_use.OpenUse.{OpenUse}
use Rattle.flow_solver.proofs.Lists.{listed_at, place_of, same_place}
use Rattle.flow_solver.specs.Paths.{IsListed}
use Rattle.ir_parts.specs.Contents.{result_of}
use Rattle.ir_model.specs.declared.instr.Instr.{Instr}
use Rattle.ir_model.specs.declared.instr.Phi.{Phi}
use Rattle.ir_model.specs.declared.module.Block.{Block}
use Rattle.ir_model.specs.declared.module.Function.{Function}

-- ---- bits

no_bit : (c : ℕ) → HasBit 0 c → ⊥
no_bit c has = let none = bit_at-zero c in absurd (omega arith)

left_bit : (a b c : ℕ) → HasBit a c → HasBit (bit_or a b) c
left_bit a b c h = let at = bit_at_or a b c in let lb = bit_at-lt b c in omega (arith, at, h, lb)

right_bit : (a b c : ℕ) → HasBit b c → HasBit (bit_or a b) c
right_bit a b c h = let at = bit_at_or a b c in let la = bit_at-lt a c in omega (arith, at, h, la)

one_bit : (a b c : ℕ) → HasBit (bit_or a b) c → HasBit a c ⊎ HasBit b c
one_bit a b c h =
    let at = bit_at_or a b c in
    let la = bit_at-lt a c in
    let lb = bit_at-lt b c in
    ⊎_elim (λ less. inr (omega (arith, at, la, lb, h, less))) (λ more. inl (omega (arith, at, la, lb, h, more))) (cases_lt (bit_at a c) (bit_at b c))

flipped : (w c : ℕ) → c < 64 → bit_at (bit_xor w all_bits) c ≡ (bit_at w c + 1) % 2
flipped w c lt = bit_at_xor w all_bits c ∙ ap (λ (x : ℕ). (bit_at w c + x) % 2) (bit_at_ones 64 c lt)

flipped_on : (w c : ℕ) → c < 64 → (HasBit w c → ⊥) → HasBit (bit_xor w all_bits) c
flipped_on w c lt never =
    let at = flipped w c lt in
    let small = bit_at-lt w c in
    ⊎_elim (λ one. absurd (never one)) (λ other. let is_zero : bit_at w c ≡ 0 = omega (arith, small, other) in at ∙ ap (λ (x : ℕ). (x + 1) % 2) is_zero) (cases_eq (bit_at w c) 1)

flipped_off : (w c : ℕ) → c < 64 → HasBit (bit_xor w all_bits) c → HasBit w c → ⊥
flipped_off w c lt h has =
    let at : bit_at (bit_xor w all_bits) c ≡ 0 = flipped w c lt ∙ ap (λ (x : ℕ). (x + 1) % 2) has in
    absurd (omega (arith, at, h))

-- ---- the question of a value

if_true : (b : Bool) (c d : ℕ) → HasBit (word_of_bit (bit_if b c)) d → (b ≡ true) × (d ≡ c)
if_true false c d h = absurd (no_bit d h)
if_true true c d h = (refl, ⊎_elim (λ e. e) (λ other. let none = bit_at-pow_other c d other in absurd (omega (arith, none, h))) (cases_eq d c))

same_parts : (k j chunk : ℕ) → k / 64 ≡ chunk → j / 64 ≡ chunk → k % 64 ≡ j % 64 → k ≡ j
same_parts k j chunk a b e = omega arith

module _ (names : ℕ) (numbers : List (Option ℕ)) (values : List ℕ) (numbering : IsNumbering names numbers values) (chunk v k : ℕ) (at : slice_get numbers v ≡ Some (Some k)) (chunk_is : k / 64 ≡ chunk) where
  own_bit : HasBit (value_word numbers chunk v) (k % 64)
  own_bit =
      subst (λ (w : ℕ). HasBit w (k % 64))
      (sym (ap (λ (o : Option (Option ℕ)). word_of_bit (bit_in o chunk)) at ∙ ap (λ (b : Bool). word_of_bit (bit_if b (k % 64))) (eq-eqb (k / 64) chunk chunk_is)))
      (bit_at-pow_same (k % 64))

  other_in : (w : ℕ) (o : Option (Option ℕ)) → slice_get numbers w ≡ o → HasBit (word_of_bit (bit_in o chunk)) (k % 64) → w ≡ v
  other_in w None e h = absurd (no_bit (k % 64) h)
  other_in w (Some None) e h = absurd (no_bit (k % 64) h)
  other_in w (Some (Some j)) e h =
      let two = if_true (j / 64 == chunk) (j % 64) (k % 64) h in
      let same = same_parts k j chunk chunk_is (eqb-true (j / 64) chunk two.0) two.1 in
      same_place (slice_get values j) w v (numbering.asked w j e) (ap (slice_get values) (sym same) ∙ numbering.asked v k at)

  -- no other value has the bit
  only_own : (w : ℕ) → HasBit (value_word numbers chunk w) (k % 64) → w ≡ v
  only_own w h = other_in w (slice_get numbers w) refl h

  -- the word has the bit exactly where the value is among these
  abbrev Tells : ℕ → List ℕ → Type 0
  Tells word vs = (HasBit word (k % 64) → IsListed v vs) × (IsListed v vs → HasBit word (k % 64))

  one_told : (word : ℕ) (vs : List ℕ) (w : ℕ) → Tells word vs → Tells (bit_or word (value_word numbers chunk w)) (w ∷ vs)
  one_told word vs w t = (
    λ h. ⊎_elim (λ old. inr (t.0 old)) (λ new. inl (sym (only_own w new))) (one_bit word (value_word numbers chunk w) (k % 64) h),
    λ h. ⊎_elim (λ same. right_bit word (value_word numbers chunk w) (k % 64) (subst (λ (x : ℕ). HasBit (value_word numbers chunk x) (k % 64)) same own_bit)) (λ old. left_bit word (value_word numbers chunk w) (k % 64) (t.1 old)) h,
  )

  result_told : (word : ℕ) (vs : List ℕ) (r : Option ℕ) → Tells word vs → Tells (result_word numbers chunk word r) (option_to_list r ++ vs)
  result_told word vs None t = t
  result_told word vs (Some w) t = one_told word vs w t

  phis_told : (word : ℕ) (vs : List ℕ) (ps : List Phi) → Tells word vs → Tells (phis_word numbers chunk word ps) (made_by_phis vs ps)
  phis_told word vs [] t = t
  phis_told word vs (p ∷ ps) t = phis_told (bit_or word (value_word numbers chunk p.result)) (p.result ∷ vs) ps (one_told word vs p.result t)

  instrs_told : (word : ℕ) (vs : List ℕ) (is : List Instr) → Tells word vs → Tells (instrs_word numbers chunk word is) (made_by_instrs vs is)
  instrs_told word vs [] t = t
  instrs_told word vs (i ∷ is) t = instrs_told (result_word numbers chunk word (result_of i)) (option_to_list (result_of i) ++ vs) is (result_told word vs (result_of i) t)

  block_told : (b : Block) → Tells (block_word numbers chunk b) (block_values b)
  block_told b = instrs_told (phis_word numbers chunk 0 b.phis) (made_by_phis [] b.phis) b.instrs (phis_told 0 [] b.phis (λ h. absurd (no_bit (k % 64) h), λ h. absurd h))

  some_block : (o : Option Block) → Tells (unwrap_or (option_map (block_word numbers chunk) o) 0) (values_in o)
  some_block None = (λ h. absurd (no_bit (k % 64) h), λ h. absurd h)
  some_block (Some b) = block_told b

  module _ (f : Function) where
    abbrev made : List ℕ
    made = map (block_word numbers chunk) f.blocks

    made_told : (b : ℕ) → Tells (word_at made b) (values_at f b)
    made_told b = subst (λ (o : Option ℕ). Tells (unwrap_or o 0) (values_at f b)) (sym (slice_get-map (block_word numbers chunk) f.blocks b)) (some_block (slice_get f.blocks b))

    abbrev kept : List ℕ
    kept = map (edge_word made) (block_edges f)

    abbrev asked : List (ℕ × ℕ)
    asked = (0, all_bits) ∷ []

    small : k % 64 < 64
    small = omega arith

    word_is : (e from to : ℕ) → slice_get (block_edges f) e ≡ Some (from, to) → slice_get kept e ≡ Some (edge_word made (from, to))
    word_is e from to there = slice_get-map (edge_word made) (block_edges f) e ∙ ap (option_map (edge_word made)) there

    to_path : (b : ℕ) → Reaches (block_edges f) kept asked (k % 64) b → ReachesWithout f v b
    to_path _ (Start node word listed has) = ⊎_elim (λ e. subst (ReachesWithout f v) (sym (ap (λ (p : ℕ × ℕ). p.0) e)) Entry) (λ none. absurd none) listed
    to_path _ (Edge e from to word there kept_is has before) =
        let word_same : word ≡ edge_word made (from, to) = same_place (slice_get kept e) word (edge_word made (from, to)) kept_is (word_is e from to there) in
        Next from to (to_path from before)
        (λ makes. flipped_off (word_at made from) (k % 64) small (subst (λ (x : ℕ). HasBit x (k % 64)) word_same has) ((made_told from).1 makes))
        (listed_at (block_edges f) e (from, to) there)

    from_path : (b : ℕ) → ReachesWithout f v b → Reaches (block_edges f) kept asked (k % 64) b
    from_path _ Entry = Start 0 all_bits (inl refl) (bit_at_ones 64 (k % 64) small)
    from_path _ (Next from to before not_made listed) =
        let found = place_of (block_edges f) (from, to) listed in
        Edge found.0 from to (edge_word made (from, to)) found.1 (word_is found.0 from to found.1)
        (flipped_on (word_at made from) (k % 64) small (λ has. not_made ((made_told from).0 has)))
        (from_path from before)

    reaches_bounded : (b : ℕ) → ReachesWithout f v b → b < length f.blocks + 1
    reaches_bounded _ Entry = omega arith
    reaches_bounded _ (Next from to before not_made listed) = (edge_bounded f from to listed).1

    module _ (words : List ℕ) (len : length words ≡ length f.blocks + 1) (answers : (node word : ℕ) → slice_get words node ≡ Some word → AnswersAt (block_edges f) kept asked node word) where
      reaches_told : (b : ℕ) → ReachesWithout f v b → HasBit (word_at words b) (k % 64)
      reaches_told b path =
          let lt = reaches_bounded b path in
          (answers b (word_at words b) (word_within words b (omega (arith, len, lt)))).is_told (k % 64) small (from_path b path)

      told_reaches : (b : ℕ) → HasBit (word_at words b) (k % 64) → ReachesWithout f v b
      told_reaches b has = ⊎_elim
          (λ lt. to_path b ((answers b (word_at words b) (word_within words b lt)).is_reached (k % 64) small has))
          (λ past. absurd (no_bit (k % 64) (subst (λ (o : Option ℕ). HasBit (unwrap_or o 0) (k % 64)) (slice_get_past words b past) has)))
          (cases_lt b (length words))

      both : (a b : Bool) → (a && b) ≡ true → (a ≡ true) × (b ≡ true)
      both true b e = (refl, e)
      both false b e = absurd (false≢true e)

      not_both : (a b : Bool) → not (a && b) ≡ true → a ≡ true → b ≡ true → ⊥
      not_both true true e x y = false≢true e
      not_both true false e x y = false≢true y
      not_both false b e x y = false≢true x

      not_all : (a b : Bool) → (a ≡ true → b ≡ true → ⊥) → not (a && b) ≡ true
      not_all true true apart = absurd (apart refl refl)
      not_all true false apart = refl
      not_all false b apart = refl

      all_of : (a b : Bool) → a ≡ true → b ≡ true → (a && b) ≡ true
      all_of true b x y = y
      all_of false b x y = absurd (false≢true x)

      -- the answers say of a use of this value whether it is undefined
      told_open : (u : OpenUse) → u.value ≡ v → told_by made words u (Some (k % 64)) ≡ true → IsOpen f u
      told_open u is e =
          let two = both (has_bit (word_at words u.block) (k % 64)) (not (u.at_end && has_bit (word_at made u.block) (k % 64))) e in
          record {
            reaches = subst (λ (x : ℕ). ReachesWithout f x u.block) (sym is) (told_reaches u.block (eqb-true (bit_at (word_at words u.block) (k % 64)) 1 two.0));
            not_made = λ at_end makes. not_both u.at_end (has_bit (word_at made u.block) (k % 64)) two.1 at_end
                (eq-eqb (bit_at (word_at made u.block) (k % 64)) 1 ((made_told u.block).1 (subst (λ (x : ℕ). IsListed x (values_at f u.block)) is makes)));
          }

      open_told : (u : OpenUse) → u.value ≡ v → IsOpen f u → told_by made words u (Some (k % 64)) ≡ true
      open_told u is o =
          all_of (has_bit (word_at words u.block) (k % 64)) (not (u.at_end && has_bit (word_at made u.block) (k % 64)))
          (eq-eqb (bit_at (word_at words u.block) (k % 64)) 1 (reaches_told u.block (subst (λ (x : ℕ). ReachesWithout f x u.block) is o.reaches)))
          (not_all u.at_end (has_bit (word_at made u.block) (k % 64))
          (λ at_end has. o.not_made at_end (subst (λ (x : ℕ). IsListed x (values_at f u.block)) (sym is) ((made_told u.block).0 (eqb-true (bit_at (word_at made u.block) (k % 64)) 1 has)))))

-- ---- the answers of a chunk

module _ (names : ℕ) (numbers : List (Option ℕ)) (values : List ℕ) (numbering : IsNumbering names numbers values) (chunk : ℕ) (f : Function) (words : List ℕ) (len : length words ≡ length f.blocks + 1)
    (answers : (node word : ℕ) → slice_get words node ≡ Some word → AnswersAt (block_edges f) (map (edge_word (map (block_word numbers chunk) f.blocks)) (block_edges f)) ((0, all_bits) ∷ []) node word) where
  told_if : (u : OpenUse) (k : ℕ) → slice_get numbers u.value ≡ Some (Some k) → (b : Bool) → (k / 64 == chunk) ≡ b → told_by (map (block_word numbers chunk) f.blocks) words u (bit_if b (k % 64)) ≡ true → IsOpen f u
  told_if u k at false e h = absurd (false≢true h)
  told_if u k at true e h = told_open names numbers values numbering chunk u.value k at (eqb-true (k / 64) chunk e) f words len answers u refl h

  told_in : (u : OpenUse) (o : Option (Option ℕ)) → slice_get numbers u.value ≡ o → told_by (map (block_word numbers chunk) f.blocks) words u (bit_in o chunk) ≡ true → IsOpen f u
  told_in u None e h = absurd (false≢true h)
  told_in u (Some None) e h = absurd (false≢true h)
  told_in u (Some (Some k)) e h = told_if u k e (k / 64 == chunk) refl h

  pub told_is_open : (u : OpenUse) → is_told numbers chunk (map (block_word numbers chunk) f.blocks) words u ≡ true → IsOpen f u
  told_is_open u h = told_in u (slice_get numbers u.value) refl h

  pub open_is_told : (u : OpenUse) (k : ℕ) → slice_get numbers u.value ≡ Some (Some k) → k / 64 ≡ chunk → IsOpen f u → is_told numbers chunk (map (block_word numbers chunk) f.blocks) words u ≡ true
  open_is_told u k at is o =
      ap (λ (x : Option (Option ℕ)). told_by (map (block_word numbers chunk) f.blocks) words u (bit_in x chunk)) at
      ∙ ap (λ (b : Bool). told_by (map (block_word numbers chunk) f.blocks) words u (bit_if b (k % 64))) (eq-eqb (k / 64) chunk is)
      ∙ open_told names numbers values numbering chunk u.value k at is f words len answers u refl o
