-- Where edges have blocks, what lies in the frame is used behind begin as it was.
use Rattle.std.proofs.Common.{◌≡◌, inl, inr, ⊎_elim, ℕ, suc, ◌<◌, Bool, true, false, List, [], ◌∷◌, ◌++◌, length, refl, sym, subst}
use Rattle.std.specs.List.{cons_option}
use Rattle.std.specs.Prelude.{None, Option, Some, filter_map, map, slice_get, if◌then◌else◌, ◌==◌}
use Rattle.pass_copies.specs.Slots.{entry_instrs}
use Rattle.pass_proofs.specs.frames.begin_order.Behind.{AreBehind, AreBlocksBehind, IsBlockBehind, IsEntrySlot, MayBeAccessed}
use Rattle.pass_exits_proof.specs.addresses.begin_order.Behind.{IsBehind, IsIncomingBehind}
use Rattle.pass_exits_proof.specs.rule_laws.rules.begin_order.Behind.{access_operands, other_operands}
use Rattle.pass_exits_proof.specs.ir_base.declared.outcome.Place.{Place}
use Rattle.pass_exits_proof.specs.rule_uses.Uses.{block_values, phi_values, values_at}
use Rattle.pass_exits_proof.proofs.ir_laws.facts.Truth.{equal_numbers}
use Rattle.pass_exits_proof.proofs.rule_laws.rules.source_rules.Locals.{made_by}
use Rattle.pass_exits_proof.proofs.edges.paths.Blocks.{own_number, spot}
use Rattle.pass_exits_proof.proofs.edges.paths.Edges.{edges_of_block}
use Rattle.pass_exits_proof.specs.ir_laws.paths.threads.Labels.{HasLabelsBelow, HasNamedLabels}
use Rattle.pass_exits_proof.specs.edges.paths.Phis.{AreLabelsOnce}
use Rattle.pass_exits_proof.specs.edges.paths.Spots.{table_of}
use Rattle.pass_exits_proof.proofs.edges.rules.Homes.{IsEdge, IsOwn, home, own_block}
use Rattle.pass_exits_proof.proofs.edges.rules.Labels.{ComesFromBlock, edge_to_label}
use Rattle.pass_exits_proof.proofs.edges.rules.Operands.{ending_operands_same}
use Rattle.pass_exits_proof.proofs.edges.rules.Uses.{edge_fine, moved_fine, phi_values_same, values_same}
use Rattle.pass_edges.specs.EdgeBlocks.{incoming_on, incoming_with, operand_from, split_blocks, split_phi, with_edge_blocks}
use Rattle.pass_edges.specs.Edges.{edges_at, ends_in_suspend, phi_flags}
use Rattle.pass_edges.specs.declared.edge.Edge.{Edge}
use Rattle.pass_exits_proof.specs.flow_solver.Paths.{IsListed}
use Rattle.pass_exits_proof.specs.ir_parts.Contents.{ending_operands}
use Rattle.pass_exits_proof.specs.ir_parts.Parts.{instr_place}
use Rattle.ir_model.specs.Names.{position_of}
use Rattle.ir_model.specs.declared.instr.Incoming.{Incoming}
use Rattle.ir_model.specs.declared.instr.Instr.{Instr}
use Rattle.ir_model.specs.declared.instr.Phi.{Phi}
use Rattle.ir_model.specs.declared.module.Block.{Block}
use Rattle.ir_model.specs.declared.module.Function.{Function}
use Rattle.ir_model.specs.declared.operand.Operand.{Operand}
use Rattle.pass_exits_proof.specs.ir_paths.Slots.{allocas_in}
use Rattle.pass_exits_proof.proofs.ir_laws.facts.Members.{at_each as each_at, each_turns}
use Rattle.pass_exits_proof.specs.run_laws.changed.Changed.{Each}
use Rattle.pass_exits_proof.specs.rule_laws.rules.woven_rules.Weaving.{IsThere}

module _ (f : Function) (named : HasNamedLabels f) (once : AreLabelsOnce f) (begin : ℕ) (slots : List Bool) (offsets : List (Option ℕ)) where
  abbrev g : Function
  g = with_edge_blocks f

  abbrev here : Place
  here = instr_place 0 0 0

  moved_there : (k : ℕ) (before : List ℕ) → IsThere f k before begin → IsThere g (spot f k) before begin
  moved_there k before h r none no_param =
      moved_fine f named here here k begin before (λ u. h u.reaches u.not_before u.no_param) (record { reaches = r; not_before = none; no_param = no_param })

  moved_operand : (k : ℕ) (before : List ℕ) (x : Operand) → IsBehind f begin offsets k before x → IsBehind g begin offsets (spot f k) before x
  moved_operand k before (Operand.Local v) h = λ e. moved_there k before (h e)
  moved_operand k before _ h = tt

  -- the entry block is the first
  entry_same : (bs : List Block) (n : ℕ) (v : ℕ) → IsListed v (allocas_in (entry_instrs bs)) → IsListed v (allocas_in (entry_instrs (split_blocks (phi_flags f) (table_of f) n bs)))
  entry_same [] n v l = l
  entry_same (b ∷ bs) n v l = l

  moved_slot : (v : ℕ) → IsEntrySlot f slots v → IsEntrySlot g slots v
  moved_slot v s = record { flagged = s.flagged; alloca = entry_same f.blocks (length f.names) v s.alloca }

  moved_access : (k : ℕ) (before : List ℕ) (x : Operand) → MayBeAccessed f begin slots offsets k before x → MayBeAccessed g begin slots offsets (spot f k) before x
  moved_access k before (Operand.Local v) h = λ e. ⊎_elim (λ s. inl (moved_slot v s)) (λ t. inr (moved_there k before t)) (h e)
  moved_access k before _ h = tt

  moved_instrs : (k : ℕ) (before : List ℕ) (is : List Instr) → AreBehind f begin slots offsets k before is → AreBehind g begin slots offsets (spot f k) before is
  moved_instrs k before [] h = tt
  moved_instrs k before (i ∷ is) h = (
    each_turns (IsBehind f begin offsets k before) (IsBehind g begin offsets (spot f k) before) (λ x y. moved_operand k before x y) (other_operands i) h.0,
    (
      each_turns (MayBeAccessed f begin slots offsets k before) (MayBeAccessed g begin slots offsets (spot f k) before) (λ x y. moved_access k before x y) (access_operands i) h.1.0,
      moved_instrs k (made_by i ++ before) is h.1.1,
    ),
  )

  -- ---- phis

  -- what a phi takes for a label
  taken : (is : List Incoming) (label : ℕ) (x : Operand) → Each (IsIncomingBehind f begin offsets) is → operand_from is label ≡ Some x → IsBehind f begin offsets (position_of f label) (values_at f (position_of f label)) x
  taken [] label x h e = absurd (cc)
  taken (i ∷ is) label x h e = on (i.from == label) refl e (taken is label x h.1)
    where
      on : (c : Bool) → (i.from == label) ≡ c → (if c then Some i.value else operand_from is label) ≡ Some x → (operand_from is label ≡ Some x → IsBehind f begin offsets (position_of f label) (values_at f (position_of f label)) x) → IsBehind f begin offsets (position_of f label) (values_at f (position_of f label)) x
      on true s d again =
          let value : i.value ≡ x = cc in
          subst (λ (n : ℕ). IsBehind f begin offsets (position_of f n) (values_at f (position_of f n)) x) (equal_numbers i.from label s) (subst (IsBehind f begin offsets (position_of f i.from) (values_at f (position_of f i.from))) value h.0)
      on false s d again = again d

  edge_operand : (k : ℕ) (b : Block) (i : ℕ) (e : Edge) (x : Operand) → slice_get f.blocks k ≡ Some b → slice_get (edges_of_block f k b) i ≡ Some e → IsBehind f begin offsets (position_of f e.from) (values_at f (position_of f e.from)) x → IsBehind g begin offsets (position_of g e.label) (values_at g (position_of g e.label)) x
  edge_operand k b i e (Operand.Local v) there got h =
      λ d r none no_param. edge_fine f named once here here k b i e begin there got (λ u. h d u.reaches u.not_before u.no_param) (record { reaches = r; not_before = none; no_param = no_param })
  edge_operand k b i e _ there got h = tt

  incoming_moved : (is : List Incoming) (es : List Edge) → ((i : ℕ) (e : Edge) → slice_get es i ≡ Some e → ComesFromBlock f e) → Each (IsIncomingBehind f begin offsets) is → Each (IsIncomingBehind g begin offsets) (filter_map (incoming_on is) es)
  incoming_moved is [] homes h = tt
  incoming_moved is (e ∷ es) homes h = on (operand_from is e.from) refl (incoming_moved is es (λ i d s. homes (suc i) d s) h)
    where
      on : (o : Option Operand) → operand_from is e.from ≡ o → Each (IsIncomingBehind g begin offsets) (filter_map (incoming_on is) es) → Each (IsIncomingBehind g begin offsets) (cons_option (incoming_with e.label o) (filter_map (incoming_on is) es))
      on None d again = again
      on (Some x) d again = let y = homes 0 e refl in (edge_operand y.index y.block y.position e x y.got y.there (taken is e.from x h d), again)

  phis_moved : (es : List Edge) (ps : List Phi) → ((i : ℕ) (e : Edge) → slice_get es i ≡ Some e → ComesFromBlock f e) → Each (λ (p : Phi). Each (IsIncomingBehind f begin offsets) p.incoming) ps → Each (λ (p : Phi). Each (IsIncomingBehind g begin offsets) p.incoming) (map (split_phi es) ps)
  phis_moved es [] homes h = tt
  phis_moved es (p ∷ ps) homes h = (incoming_moved p.incoming es homes h.0, phis_moved es ps homes h.1)

  -- ---- blocks

  own_moved : (k : ℕ) (b : Block) → slice_get f.blocks k ≡ Some b → IsBlockBehind f begin slots offsets k b → IsBlockBehind g begin slots offsets (spot f k) (own_block f k b)
  own_moved k b there h =
      let c : Block = own_block f k b in
      let lt : b.label < length f.names = (each_at (HasLabelsBelow (length f.names)) f.blocks k b named there).label in
      record {
        phis = phis_moved (edges_at (table_of f) b.label) b.phis (λ i e s. (edge_to_label f b.label e lt (record { at = i; got = s })).home) h.phis;
        instrs = subst (λ (before : List ℕ). AreBehind g begin slots offsets (spot f k) before b.instrs) (sym (phi_values_same f named k b)) (moved_instrs k (phi_values b) b.instrs h.instrs);
        term =
            subst (λ (before : List ℕ). Each (IsBehind g begin offsets (spot f k) before) (ending_operands c.term)) (sym (values_same f named k b))
            (subst (Each (IsBehind g begin offsets (spot f k) (block_values b))) (sym (ending_operands_same (phi_flags f) (ends_in_suspend b.instrs) (own_number f k) b.term))
            (each_turns (IsBehind f begin offsets k (block_values b)) (IsBehind g begin offsets (spot f k) (block_values b)) (λ x y. moved_operand k (block_values b) x y) (ending_operands b.term) h.term));
      }

  pub edges_behind : AreBlocksBehind f begin slots offsets → AreBlocksBehind (with_edge_blocks f) begin slots offsets
  edges_behind all at d e =
      ⊎_elim
      (λ (x : IsOwn f at d). subst (λ (n : ℕ). IsBlockBehind g begin slots offsets n d) (sym x.stands) (subst (IsBlockBehind g begin slots offsets (spot f x.index)) (sym x.is) (own_moved x.index x.block x.got (all x.index x.block x.got))))
      (λ (x : IsEdge f at d). subst (IsBlockBehind g begin slots offsets at) (sym x.is) (record { phis = tt; instrs = tt; term = tt }))
      (home f at d e)
