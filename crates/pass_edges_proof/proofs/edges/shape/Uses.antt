-- The result of a suspend, which its switch alone uses, is used as often where edges have blocks.
use Rattle.std.proofs.Common.{◌≡◌, ℕ, zero, suc, ◌+◌, ◌≤◌, Bool, true, false, List, [], ◌∷◌, ◌++◌, length, refl, sym, ap, ◌∙◌, subst, arith}
use Rattle.std.specs.List.{list_all}
use Rattle.std.specs.Prelude.{Some, None, Option, cond, flat_map, map, not, slice_get, if◌then◌else◌, ◌&&◌}
use Rattle.pass_early_proof.specs.rule_shape.Switches.{are_both, is_last}
use Rattle.pass_early_proof.specs.rule_shape.Uses.{block_operands, phi_operands, uses_of}
use Rattle.pass_early_proof.proofs.early.path_rules.SavedSwitches.{times_append, times_in, times_more}
use Rattle.pass_edges_proof.proofs.edges.rules.Operands.{all_taken, ending_operands_same}
use Rattle.pass_edges.specs.EdgeBlocks.{edge_block, split_block, split_blocks, split_phi}
use Rattle.pass_edges.specs.Edges.{block_edges, edges_at, ends_in_suspend}
use Rattle.pass_edges.specs.declared.edge.Edge.{Edge}
use Rattle.pass_early_proof.specs.ir_parts.Contents.{ending_operands, instr_operands}
use Rattle.ir_model.specs.Names.{is_local, same_intrinsic}
use Rattle.ir_model.specs.declared.instr.Instr.{Instr}
use Rattle.ir_model.specs.declared.instr.Phi.{Phi}
use Rattle.ir_model.specs.declared.instr.Terminator.{Terminator}
use Rattle.ir_model.specs.declared.module.Block.{Block}
use Rattle.ir_model.specs.declared.module.Function.{Function}
use Rattle.ir_model.specs.declared.operand.Callee.{Callee}
use Rattle.ir_model.specs.declared.operand.Intrinsic.{Intrinsic}
use Rattle.ir_model.specs.declared.operand.Operand.{Operand}
use Rattle.pass_early_proof.specs.run_laws.changed.Changed.{Each}
use Rattle.pass_early_proof.proofs.rule_laws.rules.woven_shape.Gathered.{gathered, of_rows}
use Rattle.pass_early_proof.specs.rule_laws.rules.woven_shape.Calls.{ShapingCall, call_at, default_on, is_shaping, shaping_call, shaping_calls, switched_to}

module _ (v : ℕ) where
  abbrev IsOther : Operand → Bool
  IsOther x = not (is_local v x)

  -- ---- where it is no operand

  none_among : (xs : List Operand) → times_in v xs ≡ 0 → list_all IsOther xs ≡ true
  none_among [] e = refl
  none_among (x ∷ xs) e = on (is_local v x) (times_more v x xs) (none_among xs)
    where
      on : (b : Bool) → times_in v (x ∷ xs) ≡ cond b 1 0 + times_in v xs → (times_in v xs ≡ 0 → list_all IsOther xs ≡ true) → (not b && list_all IsOther xs) ≡ true
      on true s again = absurd (omega (arith, s, e))
      on false s again = again (omega (arith, s, e))

  among_none : (xs : List Operand) → list_all IsOther xs ≡ true → times_in v xs ≡ 0
  among_none [] e = refl
  among_none (x ∷ xs) e = times_more v x xs ∙ on (is_local v x) e (among_none xs)
    where
      on : (b : Bool) → (not b && list_all IsOther xs) ≡ true → (list_all IsOther xs ≡ true → times_in v xs ≡ 0) → cond b 1 0 + times_in v xs ≡ 0
      on true s again = absurd (cc)
      on false s again = let none : times_in v xs ≡ 0 = again s in omega (arith, none)

  phis_none : (es : List Edge) (ps : List Phi) → times_in v (flat_map phi_operands ps) ≡ 0 → times_in v (flat_map phi_operands (map (split_phi es) ps)) ≡ 0
  phis_none es [] e = refl
  phis_none es (p ∷ ps) e =
      let was : times_in v (phi_operands p ++ flat_map phi_operands ps) ≡ times_in v (phi_operands p) + times_in v (flat_map phi_operands ps) = times_append v (phi_operands p) (flat_map phi_operands ps) in
      let first : times_in v (phi_operands p) ≡ 0 = omega (arith, was, e) in
      let rest : times_in v (flat_map phi_operands ps) ≡ 0 = omega (arith, was, e) in
      let now : times_in v (phi_operands (split_phi es p)) ≡ 0 = among_none (phi_operands (split_phi es p)) (all_taken IsOther p.incoming es (none_among (phi_operands p) first)) in
      let more : times_in v (flat_map phi_operands (map (split_phi es) ps)) ≡ 0 = phis_none es ps rest in
      times_append v (phi_operands (split_phi es p)) (flat_map phi_operands (map (split_phi es) ps)) ∙ (λ k. now k + more k)

  -- ---- how often phis and terminators name it

  abbrev pub phis_total : List Block → ℕ
  phis_total [] = 0
  phis_total (b ∷ bs) = times_in v (flat_map phi_operands b.phis) + phis_total bs

  abbrev pub ends_total : List Block → ℕ
  ends_total [] = 0
  ends_total (b ∷ bs) = times_in v (ending_operands b.term) + ends_total bs

  abbrev all_total : List Block → ℕ
  all_total bs = times_in v (flat_map block_operands bs)

  parts_fewer : (bs : List Block) → phis_total bs + ends_total bs ≤ all_total bs
  parts_fewer [] = omega arith
  parts_fewer (b ∷ bs) =
      let phis : List Operand = flat_map phi_operands b.phis in
      let instrs : List Operand = flat_map instr_operands b.instrs in
      let ends : List Operand = ending_operands b.term in
      let a : times_in v (block_operands b ++ flat_map block_operands bs) ≡ times_in v (block_operands b) + times_in v (flat_map block_operands bs) = times_append v (block_operands b) (flat_map block_operands bs) in
      let c : times_in v (block_operands b) ≡ times_in v phis + times_in v (instrs ++ ends) = times_append v phis (instrs ++ ends) in
      let d : times_in v (instrs ++ ends) ≡ times_in v instrs + times_in v ends = times_append v instrs ends in
      let rest : phis_total bs + ends_total bs ≤ all_total bs = parts_fewer bs in
      omega (arith, a, c, d, rest)

  end_there : (bs : List Block) (k : ℕ) (b : Block) → slice_get bs k ≡ Some b → times_in v (ending_operands b.term) ≤ ends_total bs
  end_there [] k b e = absurd (cc)
  end_there (c ∷ bs) zero b e = let same : c ≡ b = cc in subst (λ (x : Block). times_in v (ending_operands x.term) ≤ times_in v (ending_operands c.term) + ends_total bs) same (omega arith)
  end_there (c ∷ bs) (suc k) b e = let more : times_in v (ending_operands b.term) ≤ ends_total bs = end_there bs k b e in omega (arith, more)

  -- ---- where no phi names it

  no_operands : (es : List Edge) (bs : List Block) → flat_map block_operands (map edge_block es ++ bs) ≡ flat_map block_operands bs
  no_operands [] bs = refl
  no_operands (e ∷ es) bs = no_operands es bs

  module _ (flags : List Bool) (table : List (List Edge)) where
    block_same : (n : ℕ) (b : Block) → times_in v (flat_map phi_operands b.phis) ≡ 0 → times_in v (block_operands (split_block flags table n b)) ≡ times_in v (block_operands b)
    block_same n b e =
        let instrs : List Operand = flat_map instr_operands b.instrs in
        let now : times_in v (flat_map phi_operands (map (split_phi (edges_at table b.label)) b.phis)) ≡ 0 = phis_none (edges_at table b.label) b.phis e in
        times_append v (flat_map phi_operands (map (split_phi (edges_at table b.label)) b.phis)) (instrs ++ ending_operands (split_block flags table n b).term)
        ∙ (λ k. (now ∙ sym e) k + times_in v (instrs ++ ending_operands_same flags (ends_in_suspend b.instrs) n b.term k))
        ∙ sym (times_append v (flat_map phi_operands b.phis) (instrs ++ ending_operands b.term))

    pub blocks_same : (n : ℕ) (bs : List Block) → phis_total bs ≡ 0 → all_total (split_blocks flags table n bs) ≡ all_total bs
    blocks_same n [] e = refl
    blocks_same n (b ∷ bs) e =
        let next : ℕ = n + length (block_edges flags n b) in
        let here : times_in v (flat_map phi_operands b.phis) ≡ 0 = omega (arith, e) in
        let rest : phis_total bs ≡ 0 = omega (arith, e) in
        times_append v (block_operands (split_block flags table n b)) (flat_map block_operands (map edge_block (block_edges flags n b) ++ split_blocks flags table next bs))
        ∙ (λ k. block_same n b here k + (ap (times_in v) (no_operands (block_edges flags n b) (split_blocks flags table next bs)) ∙ blocks_same next bs rest) k)
        ∙ sym (times_append v (block_operands b) (flat_map block_operands bs))

  -- ---- a switch names it

  on_term : (l : ℕ) (t : Terminator) → default_on v t ≡ Some l → 1 ≤ times_in v (ending_operands t)
  on_term l (Terminator.Switch arg default cases) d = on (is_local v arg.value) (times_more v arg.value (map (λ k. k.arg.value) cases)) d
    where
      on : (b : Bool) → times_in v (arg.value ∷ map (λ k. k.arg.value) cases) ≡ cond b 1 0 + times_in v (map (λ k. k.arg.value) cases) → (if b && are_both cases then Some default else None) ≡ Some l → 1 ≤ times_in v (arg.value ∷ map (λ k. k.arg.value) cases)
      on true s e = omega (arith, s)
      on false s e = absurd (cc)
  on_term l (Terminator.Jump label) d = absurd (cc)
  on_term l (Terminator.Branch x a b) d = absurd (cc)
  on_term l (Terminator.Ret value) d = absurd (cc)
  on_term l Terminator.Unreachable d = absurd (cc)

  behind : (b : Block) (at l : ℕ) (t : Bool) (r : Option ℕ) → r ≡ Some v → (if t then switched_to b at r else None) ≡ Some l → 1 ≤ times_in v (ending_operands b.term)
  behind b at l false r e d = absurd (cc)
  behind b at l true None e d = absurd (cc)
  behind b at l true (Some u) e d = let same : u ≡ v = cc in last (is_last b (Some at)) (subst (λ (n : ℕ). (if is_last b (Some at) then default_on n b.term else None) ≡ Some l) same d)
    where
      last : (t : Bool) → (if t then default_on v b.term else None) ≡ Some l → 1 ≤ times_in v (ending_operands b.term)
      last true d = on_term l b.term d
      last false d = absurd (cc)

  -- the suspends' results that are switched on are named at an end
  abbrev pub IsNamed : Function → ShapingCall → Type 0
  IsNamed f c = (l : ℕ) → c.result ≡ Some v → c.default ≡ Some l → 1 ≤ ends_total f.blocks

  named_call : (f : Function) (k : ℕ) (b : Block) → slice_get f.blocks k ≡ Some b → (at : ℕ) (i : Instr) → Each (IsNamed f) (call_at b at i)
  named_call f k b there at (Instr.Call result must_tail ty (Callee.Intrinsic x) args) = on (is_shaping x)
    where
      on : (t : Bool) → Each (IsNamed f) (if t then shaping_call b at x result args ∷ [] else [])
      on true = (
        (λ l r d.
            let one : 1 ≤ times_in v (ending_operands b.term) = behind b at l (same_intrinsic Intrinsic.CoroSuspend x) result r d in
            let more : times_in v (ending_operands b.term) ≤ ends_total f.blocks = end_there f.blocks k b there in
            omega (arith, one, more)),
        tt,
      )
      on false = tt
  named_call f k b there at _ = tt

  pub all_named : (f : Function) → Each (IsNamed f) (shaping_calls f)
  all_named f = of_rows (IsNamed f) f.blocks (λ k b e. gathered (IsNamed f) b (λ at i. Unit {0}) (λ at i u. named_call f k b e at i) (length b.phis) b.instrs (λ j i d. tt))

  -- what is used once, there, no phi names
  pub no_phi : (f : Function) → 1 ≤ ends_total f.blocks → uses_of f v ≤ 1 → phis_total f.blocks ≡ 0
  no_phi f some most = let all : phis_total f.blocks + ends_total f.blocks ≤ all_total f.blocks = parts_fewer f.blocks in omega (arith, some, most, all)
