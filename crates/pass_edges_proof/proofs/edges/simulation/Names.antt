-- The locals of a function whose edges have blocks are positions of its table of names.
use Rattle.std.proofs.Common.{◌≡◌, ℕ, ◌<◌, ◌≤◌, Bool, true, false, List, [], ◌∷◌, ◌++◌, length, refl, sym, subst, arith}
use Rattle.std.specs.List.{cons_option}
use Rattle.std.specs.Prelude.{Some, None, Option, filter_map, map, if◌then◌else◌, ◌==◌}
use Rattle.pass_edges_proof.specs.edges.paths.Spots.{behind_edges, table_of}
use Rattle.pass_edges.specs.EdgeBlocks.{edge_block, incoming_on, incoming_with, operand_from, split_block, split_blocks, split_cases, split_phi, split_term, with_edge_blocks}
use Rattle.pass_edges.specs.Edges.{after_edge, block_edges, edges_at, ends_in_suspend, phi_flags}
use Rattle.pass_edges.specs.declared.edge.Edge.{Edge}
use Rattle.pass_edges_proof.proofs.edges.states.Parts.{by_kind, function_moved, names_counted}
use Rattle.pass_edges_proof.specs.edges.states.MovedState.{edge_function, edges_split}
use Rattle.ir_model.specs.Names.{function_at}
use Rattle.ir_model.specs.declared.instr.Case.{Case}
use Rattle.ir_model.specs.declared.instr.Incoming.{Incoming}
use Rattle.ir_model.specs.declared.instr.Instr.{Instr}
use Rattle.ir_model.specs.declared.instr.Phi.{Phi}
use Rattle.ir_model.specs.declared.instr.Terminator.{Terminator}
use Rattle.ir_model.specs.declared.module.Block.{Block}
use Rattle.ir_model.specs.declared.module.Function.{Function}
use Rattle.ir_model.specs.declared.module.Module.{Module}
use Rattle.ir_model.specs.declared.module.Param.{Param}
use Rattle.ir_model.specs.declared.operand.Operand.{Operand}
use Rattle.pass_early_proof.specs.run_laws.changed.Changed.{Each, operands_of, operands_of_term, result_of, Each as EachOperand}
use Rattle.pass_early_proof.specs.ir_laws.facts.expanded.Tokens.{IsNamed, IsNamedResult}
use Rattle.pass_early_proof.specs.ir_laws.facts.sound_states.Named.{AreLocalsNamed, AreUsesNamed, HasNamedLocals, HasNamedUses}
use Rattle.pass_early_proof.proofs.ir_laws.facts.Members.{each_turns as each_more}

operands_more : (P Q : Operand → Type 0) → ((x : Operand) → P x → Q x) → (xs : List Operand) → EachOperand P xs → EachOperand Q xs
operands_more P Q h [] k = tt
operands_more P Q h (x ∷ xs) k = (h x k.0, operands_more P Q h xs k.1)

module _ (n m : ℕ) (le : n ≤ m) where
  result_more : (o : Option ℕ) → IsNamedResult n o → IsNamedResult m o
  result_more None h = tt
  result_more (Some v) h = omega arith

  operand_more : (x : Operand) → IsNamed n x → IsNamed m x
  operand_more (Operand.Local v) h = omega arith
  operand_more (Operand.Global g) h = tt
  operand_more (Operand.Number z) h = tt
  operand_more Operand.True h = tt
  operand_more Operand.False h = tt
  operand_more Operand.Null h = tt
  operand_more Operand.None h = tt
  operand_more Operand.Poison h = tt

  -- ---- operands of phis

  taken_named : (is : List Incoming) (label : ℕ) (x : Operand) → Each (λ (i : Incoming). IsNamed n i.value) is → operand_from is label ≡ Some x → IsNamed m x
  taken_named [] label x h e = absurd (cc)
  taken_named (i ∷ is) label x h e = on (i.from == label) e (taken_named is label x h.1)
    where
      same : Some i.value ≡ Some x → i.value ≡ x
      same d = cc

      on : (b : Bool) → (if b then Some i.value else operand_from is label) ≡ Some x → (operand_from is label ≡ Some x → IsNamed m x) → IsNamed m x
      on true d again = subst (IsNamed m) (same d) (operand_more i.value h.0)
      on false d again = again d

  incoming_named : (is : List Incoming) → Each (λ (i : Incoming). IsNamed n i.value) is → (es : List Edge) → Each (λ (i : Incoming). IsNamed m i.value) (filter_map (incoming_on is) es)
  incoming_named is h [] = tt
  incoming_named is h (e ∷ es) = on (operand_from is e.from) refl (incoming_named is h es)
    where
      on : (o : Option Operand) → operand_from is e.from ≡ o → Each (λ (i : Incoming). IsNamed m i.value) (filter_map (incoming_on is) es) → Each (λ (i : Incoming). IsNamed m i.value) (cons_option (incoming_with e.label o) (filter_map (incoming_on is) es))
      on None d again = again
      on (Some x) d again = (taken_named is e.from x h d, again)

  phis_incoming : (es : List Edge) (ps : List Phi) → Each (λ (p : Phi). Each (λ (i : Incoming). IsNamed n i.value) p.incoming) ps → Each (λ (p : Phi). Each (λ (i : Incoming). IsNamed m i.value) p.incoming) (map (split_phi es) ps)
  phis_incoming es [] h = tt
  phis_incoming es (p ∷ ps) h = (incoming_named p.incoming h.0 es, phis_incoming es ps h.1)

  phis_results : (es : List Edge) (ps : List Phi) → Each (λ (p : Phi). p.result < n) ps → Each (λ (p : Phi). p.result < m) (map (split_phi es) ps)
  phis_results es [] h = tt
  phis_results es (p ∷ ps) h = (omega (arith, h.0), phis_results es ps h.1)

  cases_named : (flags : List Bool) (resumes : Bool) (k : ℕ) (cases : List Case) → EachOperand (IsNamed n) (map (λ (c : Case). c.arg.value) cases) → EachOperand (IsNamed m) (map (λ (c : Case). c.arg.value) (split_cases flags resumes k cases))
  cases_named flags resumes k [] h = tt
  cases_named flags resumes k (c ∷ cases) h = (operand_more c.arg.value h.0, cases_named flags resumes (after_edge flags resumes k c.target) cases h.1)

  term_named : (flags : List Bool) (resumes : Bool) (k : ℕ) (t : Terminator) → EachOperand (IsNamed n) (operands_of_term t) → EachOperand (IsNamed m) (operands_of_term (split_term flags resumes k t))
  term_named flags resumes k (Terminator.Jump label) h = tt
  term_named flags resumes k (Terminator.Branch c a b) h = operands_more (IsNamed n) (IsNamed m) operand_more (operands_of_term (Terminator.Branch c a b)) h
  term_named flags resumes k (Terminator.Switch arg default cases) h = (operand_more arg.value h.0, cases_named flags resumes (after_edge flags false k default) cases h.1)
  term_named flags resumes k (Terminator.Ret None) h = tt
  term_named flags resumes k (Terminator.Ret (Some arg)) h = operands_more (IsNamed n) (IsNamed m) operand_more (operands_of_term (Terminator.Ret (Some arg))) h
  term_named flags resumes k Terminator.Unreachable h = tt

-- ---- all blocks

module _ (flags : List Bool) (table : List (List Edge)) (P Q : Block → Type 0) (old : (n : ℕ) (b : Block) → P b → Q (split_block flags table n b)) (new : (e : Edge) → Q (edge_block e)) where
  edges_too : (es : List Edge) (rest : List Block) → Each Q rest → Each Q (map edge_block es ++ rest)
  edges_too [] rest h = h
  edges_too (e ∷ es) rest h = (new e, edges_too es rest h)

  each_split : (n : ℕ) (bs : List Block) → Each P bs → Each Q (split_blocks flags table n bs)
  each_split n [] h = tt
  each_split n (b ∷ bs) h = (old n b h.0, edges_too (block_edges flags n b) (split_blocks flags table (behind_edges flags n b) bs) (each_split (behind_edges flags n b) bs h.1))

module _ (f : Function) (n m : ℕ) (le : n ≤ m) where
  abbrev Phis : ℕ → Block → Type 0
  Phis k b = Each (λ (p : Phi). p.result < k) b.phis

  abbrev Results : ℕ → Block → Type 0
  Results k b = Each (λ (i : Instr). IsNamedResult k (result_of i)) b.instrs

  abbrev Operands : ℕ → Block → Type 0
  Operands k b = Each (λ (i : Instr). EachOperand (IsNamed k) (operands_of i)) b.instrs

  abbrev Incomings : ℕ → Block → Type 0
  Incomings k b = Each (λ (p : Phi). Each (λ (i : Incoming). IsNamed k i.value) p.incoming) b.phis

  abbrev Ends : ℕ → Block → Type 0
  Ends k b = EachOperand (IsNamed k) (operands_of_term b.term)

  split_phis : Each (Phis n) f.blocks → Each (Phis m) (with_edge_blocks f).blocks
  split_phis h = each_split (phi_flags f) (table_of f) (Phis n) (Phis m) (λ k b. phis_results n m le (edges_at (table_of f) b.label) b.phis) (λ e. tt) (length f.names) f.blocks h

  split_results : Each (Results n) f.blocks → Each (Results m) (with_edge_blocks f).blocks
  split_results h = each_split (phi_flags f) (table_of f) (Results n) (Results m) (λ k b. each_more (λ (i : Instr). IsNamedResult n (result_of i)) (λ (i : Instr). IsNamedResult m (result_of i)) (λ i. result_more n m le (result_of i)) b.instrs) (λ e. tt) (length f.names) f.blocks h

  split_operands : Each (Operands n) f.blocks → Each (Operands m) (with_edge_blocks f).blocks
  split_operands h = each_split (phi_flags f) (table_of f) (Operands n) (Operands m) (λ k b. each_more (λ (i : Instr). EachOperand (IsNamed n) (operands_of i)) (λ (i : Instr). EachOperand (IsNamed m) (operands_of i)) (λ i. operands_more (IsNamed n) (IsNamed m) (operand_more n m le) (operands_of i)) b.instrs) (λ e. tt) (length f.names) f.blocks h

  split_incoming : Each (Incomings n) f.blocks → Each (Incomings m) (with_edge_blocks f).blocks
  split_incoming h = each_split (phi_flags f) (table_of f) (Incomings n) (Incomings m) (λ k b. phis_incoming n m le (edges_at (table_of f) b.label) b.phis) (λ e. tt) (length f.names) f.blocks h

  split_ends : Each (Ends n) f.blocks → Each (Ends m) (with_edge_blocks f).blocks
  split_ends h = each_split (phi_flags f) (table_of f) (Ends n) (Ends m) (λ k b. term_named n m le (phi_flags f) (ends_in_suspend b.instrs) k b.term) (λ e. tt) (length f.names) f.blocks h

-- ---- functions

locals_split : (f : Function) → HasNamedLocals f → length f.names ≤ length (with_edge_blocks f).names → HasNamedLocals (with_edge_blocks f)
locals_split f h le = record {
  params = each_more (λ (p : Param). p.name < length f.names) (λ (p : Param). p.name < length (with_edge_blocks f).names) (λ p k. omega arith) f.params h.params;
  phis = split_phis f (length f.names) (length (with_edge_blocks f).names) le h.phis;
  results = split_results f (length f.names) (length (with_edge_blocks f).names) le h.results;
}

uses_split : (f : Function) → HasNamedUses f → length f.names ≤ length (with_edge_blocks f).names → HasNamedUses (with_edge_blocks f)
uses_split f h le = record {
  operands = split_operands f (length f.names) (length (with_edge_blocks f).names) le h.operands;
  incoming = split_incoming f (length f.names) (length (with_edge_blocks f).names) le h.incoming;
  ends = split_ends f (length f.names) (length (with_edge_blocks f).names) le h.ends;
}

more_names : (f : Function) → length f.names ≤ length (edge_function f).names
more_names f = let e = names_counted f in omega (arith, e)

locals_kept : (f : Function) → HasNamedLocals f → HasNamedLocals (edge_function f)
locals_kept f h = by_kind (λ g to n. length f.names ≤ length g.names → HasNamedLocals g) f (λ e. locals_split f h) (λ e le. h) (more_names f)

uses_kept : (f : Function) → HasNamedUses f → HasNamedUses (edge_function f)
uses_kept f h = by_kind (λ g to n. length f.names ≤ length g.names → HasNamedUses g) f (λ e. uses_split f h) (λ e le. h) (more_names f)

pub locals_named : (m : Module) → AreLocalsNamed m → AreLocalsNamed (edges_split m)
locals_named m h func = subst HasNamedLocals (sym (function_moved m func)) (locals_kept (function_at m func) (h func))

pub uses_named : (m : Module) → AreUsesNamed m → AreUsesNamed (edges_split m)
uses_named m h func = subst HasNamedUses (sym (function_moved m func)) (uses_kept (function_at m func) (h func))
