-- The calls by which a function is a coroutine stay when blocks are put on edges that leave windows, as a suspend's block stays as it is.
use Rattle.std.proofs.Common.{◌≡◌, ℕ, suc, ◌+◌, ◌-◌, Bool, true, false, List, [], ◌∷◌, ◌++◌, None, Option, Some, if◌then◌else◌, ap, length, map, refl, sym, ◌∙◌, arith}
use Rattle.std.specs.Prelude.{count_by, flat_map, slice_get, ◌==◌}
use Rattle.pass_fetch_proof.specs.rule_shape.Uses.{block_operands, uses_of, phi_operands}
use Rattle.pass_fetch_proof.proofs.ir_laws.facts.local_rules.Woven.{other_number}
use Rattle.pass_edges.specs.Edges.{ends_in_suspend, is_suspend, is_suspend_at}
use Rattle.pass_fetch_proof.specs.ir_parts.Contents.{instr_operands}
use Rattle.ir_model.specs.Names.{is_local, same_intrinsic}
use Rattle.ir_model.specs.declared.instr.Case.{Case}
use Rattle.ir_model.specs.declared.instr.Instr.{Instr}
use Rattle.ir_model.specs.declared.instr.Terminator.{Terminator}
use Rattle.ir_model.specs.declared.module.Block.{Block}
use Rattle.ir_model.specs.declared.module.Function.{Function}
use Rattle.ir_model.specs.declared.operand.Callee.{Callee}
use Rattle.ir_model.specs.declared.operand.Intrinsic.{Intrinsic}
use Rattle.ir_model.specs.declared.operand.Operand.{Operand}
use Rattle.pass_fetch_proof.specs.ir_paths.Paths.{entry_point}
use Rattle.pass_fetch_proof.specs.ir_paths.Windows.{windows_of}
use Rattle.pass_split.specs.pass_exits.ExitBlocks.{after_exit, blocks_by, exit_blocks, exit_cases, exit_label, exit_term, with_exit_blocks, with_exits}
use Rattle.pass_split.specs.pass_exits.Exits.{block_exits, end_of, mark_from, mark_in, mark_of}
use Rattle.pass_split.specs.pass_exits.declared.exit.Exit.{Exit}
use Rattle.pass_fetch_proof.specs.rule_laws.rules.woven_shape.Calls.{call_at, calls_in, calls_of_block, default_on, first_named, is_shaping, joined, leads_block, second_named, shaping_call, shaping_calls, switched_to}
use Rattle.pass_exits_proof.proofs.exits.rules.Operands.{ending_operands_same}
use Rattle.pass_fetch_proof.proofs.edges.exit_rules.Shape.{suspend_is}

-- ---- the block of a suspend

-- no edge of a suspend's switch has a mark
pub suspend_unmarked : (f : Function) (k : ℕ) (b : Block) → slice_get f.blocks k ≡ Some b → ends_in_suspend b.instrs ≡ true → (label : ℕ) → mark_of f k label ≡ None
suspend_unmarked f k b there ends label =
    ap (λ (o : Option Block). mark_from f k o (entry_point f label) (windows_of f)) there
    ∙ ap (λ (s : Bool). if s then None else mark_in f (end_of k b) (entry_point f label) (windows_of f)) ends

same_cases : (f : Function) (k n : ℕ) (cases : List Case) → ((label : ℕ) → mark_of f k label ≡ None) → exit_cases f k n cases ≡ cases
same_cases f k n [] h = refl
same_cases f k n (c ∷ cases) h =
    ap (λ (o : Option ℕ). record { arg = c.arg; target = exit_label n o c.target } ∷ exit_cases f k (after_exit n o) cases) (h c.target)
    ∙ ap (λ (cs : List Case). c ∷ cs) (same_cases f k n cases h)

same_term : (f : Function) (k n : ℕ) (t : Terminator) → ((label : ℕ) → mark_of f k label ≡ None) → exit_term f k n t ≡ t
same_term f k n (Terminator.Jump label) h = ap (λ (o : Option ℕ). Terminator.Jump (exit_label n o label)) (h label)
same_term f k n (Terminator.Branch c a b) h = λ i. Terminator.Branch c (exit_label n (h a i) a) (exit_label (after_exit n (h a i)) (h b i) b)
same_term f k n (Terminator.Switch arg default cases) h =
    ap (λ (o : Option ℕ). Terminator.Switch arg (exit_label n o default) (exit_cases f k (after_exit n o) cases)) (h default)
    ∙ ap (Terminator.Switch arg default) (same_cases f k n cases h)
same_term f k n (Terminator.Ret value) h = refl
same_term f k n Terminator.Unreachable h = refl

pub suspend_term : (f : Function) (k n : ℕ) (b : Block) → slice_get f.blocks k ≡ Some b → ends_in_suspend b.instrs ≡ true → exit_term f k n b.term ≡ b.term
suspend_term f k n b there ends = same_term f k n b.term (suspend_unmarked f k b there ends)

pub suspend_block : (f : Function) (k n : ℕ) (b : Block) → slice_get f.blocks k ≡ Some b → ends_in_suspend b.instrs ≡ true → with_exits f k n b ≡ b
suspend_block f k n b there ends = ap (λ (t : Terminator). record { label = b.label; phis = b.phis; instrs = b.instrs; term = t }) (suspend_term f k n b there ends)

module _ (f : Function) (k n : ℕ) (b : Block) where
  abbrev c : Block
  c = with_exits f k n b

  switch_same : (at : ℕ) (r : Option ℕ) → (at + 1 == length b.phis + length b.instrs) ≡ false → switched_to c at r ≡ switched_to b at r
  switch_same at None e = refl
  switch_same at (Some v) e =
      ap (λ (x : Bool). if x then default_on v c.term else None) e
      ∙ ap (λ (x : Bool). if x then default_on v b.term else None) (sym e)

  call_same : (at : ℕ) (i : Instr) → (is_suspend i ≡ true → (at + 1 == length b.phis + length b.instrs) ≡ false) → call_at c at i ≡ call_at b at i
  call_same at (Instr.Call result must_tail ty (Callee.Intrinsic x) args) h = on (is_shaping x)
    where
      behind : (s : Bool) → same_intrinsic Intrinsic.CoroSuspend x ≡ s → (if s then switched_to c at result else None) ≡ (if s then switched_to b at result else None)
      behind true e = switch_same at result (h (suspend_is (Instr.Call result must_tail ty (Callee.Intrinsic x) args) e))
      behind false e = refl

      on : (t : Bool) → (if t then shaping_call c at x result args ∷ [] else []) ≡ (if t then shaping_call b at x result args ∷ [] else [])
      on true =
          λ j.
          record {
            intrinsic = x;
            result = result;
            first = first_named x args;
            second = second_named x args;
            block = b.label;
            leads = leads_block x at;
            default = behind (same_intrinsic Intrinsic.CoroSuspend x) refl j;
          } ∷ []
      on false = refl
  call_same at _ h = refl

  instrs_same : (at : ℕ) (is : List Instr) → at + length is ≡ length b.phis + length b.instrs → ends_in_suspend is ≡ false → calls_in c at is ≡ calls_in b at is
  instrs_same at [] e ends = refl
  instrs_same at (i ∷ []) e ends = λ j. call_same at i (λ s. let no : true ≡ false = sym s ∙ ends in absurd (cc)) j ++ []
  instrs_same at (i ∷ x ∷ is) e ends =
      let same : suc (suc (length is)) - 1 ≡ suc (suc (length is) - 1) = omega arith in
      let first = call_same at i (λ s. other_number (at + 1) (length b.phis + length b.instrs) (λ d. absurd (omega (arith, e, d)))) in
      let rest = instrs_same (at + 1) (x ∷ is) (omega (arith, e)) (sym (ap (λ (m : ℕ). is_suspend_at (slice_get (i ∷ x ∷ is) m)) same) ∙ ends) in
      λ j. first j ++ rest j

  pub block_same : slice_get f.blocks k ≡ Some b → calls_of_block (with_exits f k n b) ≡ calls_of_block b
  block_same there = on (ends_in_suspend b.instrs) refl
    where
      on : (s : Bool) → ends_in_suspend b.instrs ≡ s → calls_of_block c ≡ calls_of_block b
      on true e = ap calls_of_block (suspend_block f k n b there e)
      on false e = instrs_same (length b.phis) b.instrs refl e

module _ (f : Function) where
  -- the blocks on edges call nothing
  no_calls : (n : ℕ) (es : List Exit) (bs : List Block) → joined (map calls_of_block (exit_blocks n es ++ bs)) ≡ joined (map calls_of_block bs)
  no_calls n [] bs = refl
  no_calls n (e ∷ es) bs = no_calls (n + 1) es bs

  -- the blocks from a position on are those of the function
  abbrev pub AreFrom : ℕ → List Block → Type 0
  AreFrom at bs = (k : ℕ) (b : Block) → slice_get bs k ≡ Some b → slice_get f.blocks (at + k) ≡ Some b

  pub first_from : (at : ℕ) (b : Block) (bs : List Block) → AreFrom at (b ∷ bs) → slice_get f.blocks at ≡ Some b
  first_from at b bs h = let z : at ≡ at + 0 = omega arith in ap (slice_get f.blocks) z ∙ h 0 b refl

  pub rest_from : (at : ℕ) (b : Block) (bs : List Block) → AreFrom at (b ∷ bs) → AreFrom (at + 1) bs
  rest_from at b bs h k c e = let z : at + 1 + k ≡ at + suc k = omega arith in ap (slice_get f.blocks) z ∙ h (suc k) c e

  pub all_from : AreFrom 0 f.blocks
  all_from k b e = let z : 0 + k ≡ k = omega arith in ap (slice_get f.blocks) z ∙ e

  blocks_same : (at n : ℕ) (bs : List Block) → AreFrom at bs → joined (map calls_of_block (blocks_by f at n bs)) ≡ joined (map calls_of_block bs)
  blocks_same at n [] h = refl
  blocks_same at n (b ∷ bs) h =
      let next : ℕ = n + length (block_exits f at b) in
      let first = block_same f at n b (first_from at b bs h) in
      let rest = no_calls n (block_exits f at b) (blocks_by f (at + 1) next bs) ∙ blocks_same (at + 1) next bs (rest_from at b bs h) in
      λ j. first j ++ rest j

  pub same_calls : shaping_calls (with_exit_blocks f) ≡ shaping_calls f
  same_calls = blocks_same 0 (length f.names) f.blocks all_from

  -- ---- how often values are used

  no_operands : (n : ℕ) (es : List Exit) (bs : List Block) → flat_map block_operands (exit_blocks n es ++ bs) ≡ flat_map block_operands bs
  no_operands n [] bs = refl
  no_operands n (e ∷ es) bs = no_operands (n + 1) es bs

  operands_by : (at n : ℕ) (bs : List Block) → flat_map block_operands (blocks_by f at n bs) ≡ flat_map block_operands bs
  operands_by at n [] = refl
  operands_by at n (b ∷ bs) =
      let next : ℕ = n + length (block_exits f at b) in
      let first = ap (λ (xs : List Operand). flat_map phi_operands b.phis ++ (flat_map instr_operands b.instrs ++ xs)) (ending_operands_same f at n b.term) in
      let rest = no_operands n (block_exits f at b) (blocks_by f (at + 1) next bs) ∙ operands_by (at + 1) next bs in
      λ j. first j ++ rest j

  pub same_uses : (v : ℕ) → uses_of (with_exit_blocks f) v ≡ uses_of f v
  same_uses v = ap (λ (xs : List Operand). count_by (is_local v) xs) (operands_by 0 (length f.names) f.blocks)
