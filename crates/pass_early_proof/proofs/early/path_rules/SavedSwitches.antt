-- The switches of suspends of a function whose saves are written out: rule K3.
use Rattle.std.proofs.Common.{◌≡◌, ℕ, suc, ◌+◌, ◌<◌, Bool, true, false, List, [], ◌∷◌, ◌++◌, length, refl, sym, ap, ◌∙◌, subst, arith}
use Rattle.std.proofs.lemmas.List.Sums.{sum_by-append, sum_by-cons}
use Rattle.std.specs.Prelude.{Some, None, Option, cond, count_by, flat_map, nat_le, not, option_map, slice_get, if◌then◌else◌, ◌&&◌, ◌==◌}
use Rattle.rule_laws.specs.ir_base.declared.outcome.Place.{Place}
use Rattle.rule_laws.specs.rule_shape.Switches.{breaks_switch, end_label, is_last, is_switch_on, is_switched, is_switched_in, wrong_switch}
use Rattle.rule_laws.specs.rule_shape.Uses.{block_operands, phi_operands, uses_of}
use Rattle.rule_laws.proofs.rules.renamed.Switches.{none_part}
use Rattle.pass_early.specs.Early.{save_call, saved}
use Rattle.rule_laws.proofs.rules.path_rules.Holding.{HoldsIn, of_parts, part_none, to_parts}
use Rattle.pass_early_proof.proofs.early.path_rules.Origins.{ComesFrom, Saves, Stays, Suspends, block_from, comes_from, number_least}
use Rattle.pass_early_proof.proofs.early.saves.Tokens.{bare_is}
use Rattle.rule_laws.specs.ir_parts.Contents.{arg_operands, ending_operands, instr_operands}
use Rattle.rule_laws.specs.ir_parts.Parts.{Part, OfInstr, first_part, instr_place, parts_of}
use Rattle.ir_model.specs.Names.{is_local}
use Rattle.ir_model.specs.declared.instr.Instr.{Instr}
use Rattle.ir_model.specs.declared.module.Block.{Block}
use Rattle.ir_model.specs.declared.module.Function.{Function}
use Rattle.ir_model.specs.declared.operand.Intrinsic.{Intrinsic}
use Rattle.ir_model.specs.declared.operand.Operand.{Operand}
use Rattle.rule_laws.proofs.ir_paths.Search.{eq_from, eq_itself}
use Rattle.rule_laws.specs.ir_paths.Windows.{call_result, end_block, is_call_of}
use Rattle.pass_early_proof.proofs.early.saves.Behind.{end_saved}
use Rattle.pass_early_proof.proofs.early.saves.Blocks.{get_block}
use Rattle.rule_laws.proofs.ir_laws.facts.Lists.{place_end}
use Rattle.pass_early_proof.proofs.early.saves.Instrs.{next_place}
use Rattle.rule_laws.proofs.ir_laws.facts.Members.{at_each as each_at}
use Rattle.pass_early_proof.specs.early.saves.SavesWritten.{behind_save, behind_saves, is_bare, saved_block, saved_blocks, saved_function, with_save, with_saves}
use Rattle.pass_early_proof.specs.early.saves.Spots.{number_of_block, own_saves, place_in}
use Rattle.rule_laws.specs.run_laws.changed.Changed.{Each}
use Rattle.rule_laws.specs.ir_laws.paths.expanded.Tokens.{HasNamedToken, HasNamedTokens}
use Rattle.rule_laws.specs.ir_laws.facts.expanded.Tokens.{IsNamedResult}
use Rattle.rule_laws.proofs.ir_laws.facts.Truth.{both_true, other_number as less_than}

-- ---- how often a local is an operand

abbrev pub times_in : ℕ → List Operand → ℕ
times_in v xs = count_by (is_local v) xs

pub times_more : (v : ℕ) (x : Operand) (xs : List Operand) → times_in v (x ∷ xs) ≡ cond (is_local v x) 1 0 + times_in v xs
times_more v x xs = sum_by-cons (λ y. cond (is_local v y) 1 0) x xs

pub times_append : (v : ℕ) (xs ys : List Operand) → times_in v (xs ++ ys) ≡ times_in v xs + times_in v ys
times_append v xs ys = sum_by-append (λ y. cond (is_local v y) 1 0) xs ys

module _ (v : ℕ) where
  -- what becomes of an instruction has the local as often
  group_times : (c : Bool) (n : ℕ) (i : Instr) (rest : List Instr) → v < n → times_in v (flat_map instr_operands (with_save c n i ++ rest)) ≡ times_in v (instr_operands i) + times_in v (flat_map instr_operands rest)
  group_times c n i rest lt = on (is_bare c i) refl
    where
      on : (b : Bool) → is_bare c i ≡ b → times_in v (flat_map instr_operands ((if b then save_call n ∷ saved n i ∷ [] else i ∷ []) ++ rest)) ≡ times_in v (instr_operands i) + times_in v (flat_map instr_operands rest)
      on true e =
          let is = bare_is c i e in
          let more : List Operand = flat_map instr_operands rest in
          let null : times_in v (Operand.Null ∷ (instr_operands (saved n i) ++ more)) ≡ 0 + times_in v (instr_operands (saved n i) ++ more) = times_more v Operand.Null (instr_operands (saved n i) ++ more) in
          let none : 0 + times_in v (instr_operands (saved n i) ++ more) ≡ times_in v (instr_operands (saved n i) ++ more) = omega arith in
          null ∙ none
          ∙ times_append v (instr_operands (saved n i)) more
          ∙ ap (λ (x : Instr). times_in v (instr_operands (saved n x)) + times_in v more) is.is
          ∙ ap (λ (m : ℕ). m + times_in v more) (times_more v (Operand.Local n) (arg_operands is.args) ∙ ap (λ (b : Bool). cond b 1 0 + times_in v (arg_operands is.args)) (less_than v n lt) ∙ sym (times_more v Operand.None (arg_operands is.args)))
          ∙ sym (ap (λ (x : Instr). times_in v (instr_operands x) + times_in v more) is.is)
      on false e = times_append v (instr_operands i) (flat_map instr_operands rest)

  step_more : (c : Bool) (n : ℕ) (i : Instr) → v < n → v < behind_save c n i
  step_more c n i lt = on (is_bare c i)
    where
      on : (b : Bool) → v < (if b then n + 1 else n)
      on true = omega arith
      on false = lt

  all_more : (c : Bool) (n : ℕ) (is : List Instr) → v < n → v < behind_saves c n is
  all_more c n [] lt = lt
  all_more c n (i ∷ is) lt = all_more c (behind_save c n i) is (step_more c n i lt)

  instrs_times : (c : Bool) (n : ℕ) (is : List Instr) → v < n → times_in v (flat_map instr_operands (with_saves c n is)) ≡ times_in v (flat_map instr_operands is)
  instrs_times c n [] lt = refl
  instrs_times c n (i ∷ is) lt =
      group_times c n i (with_saves c (behind_save c n i) is) lt
      ∙ ap (λ (m : ℕ). times_in v (instr_operands i) + m) (instrs_times c (behind_save c n i) is (step_more c n i lt))
      ∙ sym (times_append v (instr_operands i) (flat_map instr_operands is))

  block_times : (c : Bool) (n : ℕ) (b : Block) → v < n → times_in v (block_operands (saved_block c n b)) ≡ times_in v (block_operands b)
  block_times c n b lt =
      let phis : List Operand = flat_map phi_operands b.phis in
      let ends : List Operand = ending_operands b.term in
      times_append v phis (flat_map instr_operands (with_saves c n b.instrs) ++ ends)
      ∙ ap (λ (m : ℕ). times_in v phis + m) (times_append v (flat_map instr_operands (with_saves c n b.instrs)) ends ∙ ap (λ (m : ℕ). m + times_in v ends) (instrs_times c n b.instrs lt) ∙ sym (times_append v (flat_map instr_operands b.instrs) ends))
      ∙ sym (times_append v phis (flat_map instr_operands b.instrs ++ ends))

  blocks_times : (c : Bool) (n : ℕ) (bs : List Block) → v < n → times_in v (flat_map block_operands (saved_blocks c n bs)) ≡ times_in v (flat_map block_operands bs)
  blocks_times c n [] lt = refl
  blocks_times c n (b ∷ bs) lt =
      times_append v (block_operands (saved_block c n b)) (flat_map block_operands (saved_blocks c (behind_saves c n b.instrs) bs))
      ∙ (λ k. block_times c n b lt k + blocks_times c (behind_saves c n b.instrs) bs (all_more c n b.instrs lt) k)
      ∙ sym (times_append v (block_operands b) (flat_map block_operands bs))

  pub uses_saved : (f : Function) → v < length f.names → uses_of (saved_function f) v ≡ uses_of f v
  uses_saved f lt = blocks_times f.coroutine (length f.names) f.blocks lt

-- ---- K3

result_below : (n v : ℕ) (o : Option ℕ) → o ≡ Some v → IsNamedResult n o → v < n
result_below n v None e h = absurd (cc)
result_below n v (Some u) e h = let same : u ≡ v = cc in subst (λ (x : ℕ). x < n) same h

pub no_switch_breaks : (a b : Bool) → a ≡ true → (a && not b) ≡ false → b ≡ true
no_switch_breaks true true e h = refl
no_switch_breaks true false e h = absurd (cc)
no_switch_breaks false b e h = absurd (cc)

module _ (func : ℕ) (f : Function) (named : HasNamedTokens f) where
  abbrev g : Function
  g = saved_function f

  abbrev number : ℕ → ℕ
  number k = number_of_block f.coroutine k (length f.names) f.blocks

  end_label_same : end_label g ≡ end_label f
  end_label_same =
      ap (λ (m : ℕ). option_map (λ (b : Block). b.label) (slice_get g.blocks m)) (end_saved f)
      ∙ ap (option_map (λ (b : Block). b.label)) (get_block f.coroutine (end_block f) (length f.names) f.blocks)
      ∙ on (slice_get f.blocks (end_block f))
    where
      on : (o : Option Block) → option_map (λ (b : Block). b.label) (option_map (saved_block f.coroutine (number (end_block f))) o) ≡ option_map (λ (b : Block). b.label) o
      on None = refl
      on (Some b) = refl

  -- what stood last in its block stands last
  last_stays : (k phis m j : ℕ) (is : List Instr) → j ≡ place_in f.coroutine m (number k) is + own_saves f.coroutine (slice_get is m) → (phis + m + 1 == phis + length is) ≡ true → (phis + j + 1 == phis + length (with_saves f.coroutine (number k) is)) ≡ true
  last_stays k phis m j is at e =
      let same = eq_from (phis + m + 1) (phis + length is) e in
      let last : suc m ≡ length is = omega (arith, same) in
      let next = next_place f.coroutine m (number k) is in
      let end = ap (λ (x : ℕ). place_in f.coroutine x (number k) is) last ∙ place_end (with_save f.coroutine) (behind_save f.coroutine) (number k) is in
      let now : phis + j + 1 ≡ phis + length (with_saves f.coroutine (number k) is) = omega (arith, at, next, end) in
      ap (λ (x : ℕ). x == phis + length (with_saves f.coroutine (number k) is)) now ∙ eq_itself (phis + length (with_saves f.coroutine (number k) is))

  switched_then : (k m j : ℕ) (b : Block) (o : Option ℕ) → slice_get f.blocks k ≡ Some b → IsNamedResult (length f.names) o → j ≡ place_in f.coroutine m (number k) b.instrs + own_saves f.coroutine (slice_get b.instrs m) → is_switched f (instr_place func k (length b.phis + m)) o ≡ true → is_switched g (instr_place func k (length b.phis + j)) o ≡ true
  switched_then k m j b None e h at s = s
  switched_then k m j b (Some v) e h at s =
      let was : is_switched_in f v (instr_place func k (length b.phis + m)) (Some b) ≡ true = ap (is_switched_in f v (instr_place func k (length b.phis + m))) (sym e) ∙ s in
      let two = both_true (is_last b (Some (length b.phis + m))) (is_switch_on v (end_label f) b.term && nat_le (uses_of f v) 1) was in
      ap (is_switched_in g v (instr_place func k (length b.phis + j))) (get_block f.coroutine k (length f.names) f.blocks ∙ ap (option_map (saved_block f.coroutine (number k))) e)
      ∙ (λ i. last_stays k (length b.phis) m j b.instrs at two.0 i && (is_switch_on v (end_label_same i) b.term && nat_le (uses_saved v f h i) 1))
      ∙ two.1

  abbrev Switched : Function → Place × Part → Type 0
  Switched h x = breaks_switch h x.0 x.1 ≡ false

  lone_own : (k m : ℕ) (b : Block) (i : Instr) (t : Bool) → slice_get b.instrs m ≡ Some i → is_bare f.coroutine i ≡ t → own_saves f.coroutine (slice_get b.instrs m) ≡ (if t then 1 else 0)
  lone_own k m b i t e s = ap (own_saves f.coroutine) e ∙ ap (λ (x : Bool). if x then 1 else 0) s

  -- an instruction that is a suspend as one before, with its result, is switched as that was
  still : (k m j : ℕ) (b : Block) (i y : Instr) → slice_get f.blocks k ≡ Some b → slice_get b.instrs m ≡ Some i → is_call_of Intrinsic.CoroSuspend y ≡ is_call_of Intrinsic.CoroSuspend i → call_result y ≡ call_result i → j ≡ place_in f.coroutine m (number k) b.instrs + own_saves f.coroutine (slice_get b.instrs m) → Switched f (instr_place func k (length b.phis + m), OfInstr i) → Switched g (instr_place func k (length b.phis + j), OfInstr y)
  still k m j b i y e d same_call same_result at h = on (is_call_of Intrinsic.CoroSuspend i) refl
    where
      result : IsNamedResult (length f.names) (call_result i)
      result = (each_at (HasNamedToken (length f.names)) b.instrs m i (each_at (λ (x : Block). Each (HasNamedToken (length f.names)) x.instrs) f.blocks k b named e) d).result

      on : (t : Bool) → is_call_of Intrinsic.CoroSuspend i ≡ t → Switched g (instr_place func k (length b.phis + j), OfInstr y)
      on true s =
          let was = no_switch_breaks (is_call_of Intrinsic.CoroSuspend i) (is_switched f (instr_place func k (length b.phis + m)) (call_result i)) s h in
          (λ n. (same_call ∙ s) n && not ((ap (is_switched g (instr_place func k (length b.phis + j))) same_result ∙ switched_then k m j b (call_result i) e result at was) n))
      on false s = ap (λ (t : Bool). t && not (is_switched g (instr_place func k (length b.phis + j)) (call_result y))) (same_call ∙ s)

  instr_switched : (k j : ℕ) (b : Block) (y : Instr) → slice_get f.blocks k ≡ Some b → HoldsIn (Switched f) func k b → ComesFrom f.coroutine (length f.names) (number k) b.instrs j y → Switched g (instr_place func k (length b.phis + j), OfInstr y)
  instr_switched k j b y e h (Stays m d s at) =
      let own = lone_own k m b y false d s in
      still k m j b y y e d refl refl (omega (arith, at, own)) (h.instrs m y d)
  instr_switched k j b y e h (Suspends m name i d s le at same) =
      let own = lone_own k m b i true d s in
      let is = bare_is f.coroutine i s in
      still k m j b i y e d
      (ap (is_call_of Intrinsic.CoroSuspend) same ∙ ap (λ (x : Instr). is_call_of Intrinsic.CoroSuspend (saved name x)) is.is ∙ sym (ap (is_call_of Intrinsic.CoroSuspend) is.is))
      (ap call_result same ∙ ap (λ (x : Instr). call_result (saved name x)) is.is ∙ sym (ap call_result is.is))
      (omega (arith, at, own)) (h.instrs m i d)
  instr_switched k j b y e h (Saves m name i d s le at same) = ap (λ (x : Instr). breaks_switch g (instr_place func k (length b.phis + j)) (OfInstr x)) same

  pub wrong_switch_saved : f.coroutine ≡ true → wrong_switch func f ≡ None → wrong_switch func g ≡ None
  wrong_switch_saved coroutine e =
      let parts = of_parts (Switched f) func f (none_part (breaks_switch f) (parts_of func f) (subst (λ (b : Bool). (if b then first_part (breaks_switch f) (parts_of func f) else None) ≡ None) coroutine e)) in
      subst (λ (b : Bool). (if b then first_part (breaks_switch g) (parts_of func g) else None) ≡ None) (sym coroutine)
      (part_none (breaks_switch g) (parts_of func g) (to_parts (Switched g) func g (record {
        signature = refl;
        blocks = λ k d there.
            let x = block_from f k d there in
            subst (HoldsIn (Switched g) func k) (sym x.is) (record {
              head = refl;
              phis = λ j p q. refl;
              instrs = λ j y q. instr_switched k j x.block y x.got (parts.blocks k x.block x.got) (comes_from f.coroutine (length f.names) (number k) x.block.instrs j y (number_least f k) q);
              ending = refl;
            });
      })))
