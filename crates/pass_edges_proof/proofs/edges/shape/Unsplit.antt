-- The calls by which a function is a coroutine stay where edges have blocks, as the edges to the end's block have none.
use Rattle.std.proofs.Common.{◌≡◌, ℕ, ◌+◌, Bool, true, false, List, [], ◌∷◌, ◌++◌, length, refl, ap, ◌∙◌}
use Rattle.std.proofs.lemmas.List.{length-map}
use Rattle.std.specs.Prelude.{Some, None, Option, map, slice_get, unwrap_or, if◌then◌else◌, ◌&&◌, ◌==◌}
use Rattle.pass_early_proof.specs.rule_shape.Switches.{are_both, is_last}
use Rattle.pass_early_proof.proofs.rule_laws.rules.renamed.Outside.{each_left, each_right}
use Rattle.pass_edges.specs.EdgeBlocks.{edge_block, split_block, split_blocks, split_cases, split_label, split_phi, split_term}
use Rattle.pass_edges.specs.Edges.{after_edge, block_edges, edges_at, ends_in_suspend}
use Rattle.pass_edges.specs.declared.edge.Edge.{Edge}
use Rattle.ir_model.specs.Names.{is_local, same_intrinsic}
use Rattle.ir_model.specs.declared.instr.Case.{Case}
use Rattle.ir_model.specs.declared.instr.Instr.{Instr}
use Rattle.ir_model.specs.declared.instr.Terminator.{Terminator}
use Rattle.ir_model.specs.declared.module.Block.{Block}
use Rattle.ir_model.specs.declared.operand.Callee.{Callee}
use Rattle.ir_model.specs.declared.operand.Intrinsic.{Intrinsic}
use Rattle.pass_early_proof.specs.run_laws.changed.Changed.{Each}
use Rattle.pass_early_proof.specs.rule_laws.rules.woven_shape.Calls.{ShapingCall, call_at, calls_in, calls_of_block, default_on, first_named, is_shaping, is_suspend_call, joined, leads_block, second_named, shaping_call, switched_to}

-- an edge to a label gets no block by flags
abbrev pub Unflagged : List Bool → ℕ → Type 0
Unflagged flags label = unwrap_or (slice_get flags label) false ≡ false

-- the default edge of a suspend's switch doesn't
abbrev pub IsUnsplit : List Bool → ShapingCall → Type 0
IsUnsplit flags c = is_suspend_call c ≡ true → (label : ℕ) → c.default ≡ Some label → Unflagged flags label

module _ (flags : List Bool) where
  same_cases : (resumes : Bool) (n : ℕ) (cases : List Case) → are_both (split_cases flags resumes n cases) ≡ are_both cases
  same_cases resumes n [] = refl
  same_cases resumes n (a ∷ []) = refl
  same_cases resumes n (a ∷ b ∷ []) = refl
  same_cases resumes n (a ∷ b ∷ c ∷ cases) = refl

  same_default : (v n : ℕ) (resumes : Bool) (t : Terminator) → ((label : ℕ) → default_on v t ≡ Some label → Unflagged flags label) → default_on v (split_term flags resumes n t) ≡ default_on v t
  same_default v n resumes (Terminator.Switch arg default cases) h =
      ap (λ (both : Bool). if is_local v arg.value && both then Some (split_label flags false n default) else None) (same_cases resumes (after_edge flags false n default) cases)
      ∙ on (is_local v arg.value && are_both cases) h
    where
      on : (t : Bool) → ((label : ℕ) → (if t then Some default else None) ≡ Some label → Unflagged flags label) → (if t then Some (split_label flags false n default) else None) ≡ (if t then Some default else None)
      on true k = ap (λ (b : Bool). Some (if b then n else default)) (k default refl)
      on false k = refl
  same_default v n resumes (Terminator.Jump label) h = refl
  same_default v n resumes (Terminator.Branch x a b) h = refl
  same_default v n resumes (Terminator.Ret value) h = refl
  same_default v n resumes Terminator.Unreachable h = refl

  module _ (table : List (List Edge)) (n : ℕ) (b : Block) where
    abbrev c : Block
    c = split_block flags table n b

    same_phis : length c.phis ≡ length b.phis
    same_phis = length-map b.phis (split_phi (edges_at table b.label))

    same_switch : (at : ℕ) (r : Option ℕ) → ((label : ℕ) → switched_to b at r ≡ Some label → Unflagged flags label) → switched_to c at r ≡ switched_to b at r
    same_switch at None h = refl
    same_switch at (Some v) h =
        ap (λ (phis : ℕ). if (at + 1 == phis + length b.instrs) then default_on v c.term else None) same_phis
        ∙ on (is_last b (Some at)) h
      where
        on : (t : Bool) → ((label : ℕ) → (if t then default_on v b.term else None) ≡ Some label → Unflagged flags label) → (if t then default_on v c.term else None) ≡ (if t then default_on v b.term else None)
        on true k = same_default v n (ends_in_suspend b.instrs) b.term k
        on false k = refl

    same_behind : (at : ℕ) (t : Bool) (r : Option ℕ) → (t ≡ true → (label : ℕ) → (if t then switched_to b at r else None) ≡ Some label → Unflagged flags label) → (if t then switched_to c at r else None) ≡ (if t then switched_to b at r else None)
    same_behind at true r h = same_switch at r (h refl)
    same_behind at false r h = refl

    same_call : (at : ℕ) (i : Instr) → Each (IsUnsplit flags) (call_at b at i) → call_at c at i ≡ call_at b at i
    same_call at (Instr.Call result must_tail ty (Callee.Intrinsic x) args) h = on (is_shaping x) h
      where
        on : (t : Bool) → Each (IsUnsplit flags) (if t then shaping_call b at x result args ∷ [] else []) → (if t then shaping_call c at x result args ∷ [] else []) ≡ (if t then shaping_call b at x result args ∷ [] else [])
        on true k =
            λ j.
            record {
              intrinsic = x;
              result = result;
              first = first_named x args;
              second = second_named x args;
              block = b.label;
              leads = leads_block x at;
              default = same_behind at (same_intrinsic Intrinsic.CoroSuspend x) result k.0 j;
            } ∷ []
        on false k = refl
    same_call at _ h = refl

    same_instrs : (at : ℕ) (is : List Instr) → Each (IsUnsplit flags) (calls_in b at is) → calls_in c at is ≡ calls_in b at is
    same_instrs at [] h = refl
    same_instrs at (i ∷ is) h =
        λ k.
        same_call at i (each_left (IsUnsplit flags) (call_at b at i) (calls_in b (at + 1) is) h) k
        ++ same_instrs (at + 1) is (each_right (IsUnsplit flags) (call_at b at i) (calls_in b (at + 1) is) h) k

    same_block : Each (IsUnsplit flags) (calls_of_block b) → calls_of_block c ≡ calls_of_block b
    same_block h = ap (λ (at : ℕ). calls_in c at b.instrs) same_phis ∙ same_instrs (length b.phis) b.instrs h

  -- blocks of edges call nothing
  no_calls : (es : List Edge) (bs : List Block) → joined (map calls_of_block (map edge_block es ++ bs)) ≡ joined (map calls_of_block bs)
  no_calls [] bs = refl
  no_calls (e ∷ es) bs = no_calls es bs

  pub same_blocks : (table : List (List Edge)) (n : ℕ) (bs : List Block) → Each (IsUnsplit flags) (joined (map calls_of_block bs)) → joined (map calls_of_block (split_blocks flags table n bs)) ≡ joined (map calls_of_block bs)
  same_blocks table n [] h = refl
  same_blocks table n (b ∷ bs) h =
      let next : ℕ = n + length (block_edges flags n b) in
      let rest = no_calls (block_edges flags n b) (split_blocks flags table next bs) ∙ same_blocks table next bs (each_right (IsUnsplit flags) (calls_of_block b) (joined (map calls_of_block bs)) h) in
      λ k. same_block table n b (each_left (IsUnsplit flags) (calls_of_block b) (joined (map calls_of_block bs)) h) k ++ rest k
