-- What is noted beside values stays where edges have blocks: their kinds, and the sizes of slots.
use Rattle.std.proofs.Common.{Bool, List, None, Option, [], ap, length, map, refl, sym, ℕ, ◌++◌, ◌∙◌, ◌∷◌, ◌≡◌}
use Rattle.std.specs.Prelude.{is_some}
use Rattle.pass_early_proof.proofs.rule_laws.rules.local_rules.Defined.{value_defined}
use Rattle.pass_edges_proof.specs.edges.paths.Spots.{behind_edges, table_of}
use Rattle.pass_edges.specs.EdgeBlocks.{edge_block, split_block, split_blocks, split_phi, with_edge_blocks}
use Rattle.pass_edges.specs.Edges.{block_edges, edges_at, phi_flags}
use Rattle.pass_edges.specs.declared.edge.Edge.{Edge}
use Rattle.ir_model.specs.declared.instr.Phi.{Phi}
use Rattle.ir_model.specs.declared.module.Block.{Block}
use Rattle.ir_model.specs.declared.module.Function.{Function}
use Rattle.ir_model.specs.declared.module.Module.{Module}
use Rattle.pass_early_proof.specs.rule_locals.Markers.{block_size, slot_size}
use Rattle.pass_early_proof.specs.ir_locals.Tables.{first_in, or_first}
use Rattle.pass_early_proof.specs.rule_names.Known.{is_value}
use Rattle.pass_early_proof.specs.rule_values.Kinds.{block_kind, instr_kind, param_kind, phi_kind, value_kind}
use Rattle.pass_early_proof.specs.rule_values.declared.kinds.Kind.{Kind}

module _ {T : Type 0} (one : Block → ℕ → Option T) (v : ℕ) (flags : List Bool) (table : List (List Edge)) (stays : (n : ℕ) (b : Block) → one (split_block flags table n b) v ≡ one b v) (none : (e : Edge) → one (edge_block e) v ≡ None) where
  first_behind : (es : List Edge) (rest : List Block) → first_in one (map edge_block es ++ rest) v ≡ first_in one rest v
  first_behind [] rest = refl
  first_behind (e ∷ es) rest = ap (λ (o : Option T). or_first o (first_in one (map edge_block es ++ rest) v)) (none e) ∙ first_behind es rest

  -- what the blocks note first
  pub first_split : (n : ℕ) (bs : List Block) → first_in one (split_blocks flags table n bs) v ≡ first_in one bs v
  first_split n [] = refl
  first_split n (b ∷ bs) =
      let rest : List Block = split_blocks flags table (behind_edges flags n b) bs in
      let first = stays n b in
      let later = first_behind (block_edges flags n b) rest ∙ first_split (behind_edges flags n b) bs in
      λ k. or_first (first k) (later k)

phi_kinds : (es : List Edge) (ps : List Phi) (v : ℕ) → first_in phi_kind (map (split_phi es) ps) v ≡ first_in phi_kind ps v
phi_kinds es [] v = refl
phi_kinds es (p ∷ ps) v = ap (or_first (phi_kind p v)) (phi_kinds es ps v)

module _ (f : Function) where
  kind_same : (v : ℕ) → value_kind (with_edge_blocks f) v ≡ value_kind f v
  kind_same v =
      ap (or_first (first_in param_kind f.params v))
      (first_split block_kind v (phi_flags f) (table_of f)
      (λ n b. ap (λ (o : Option Kind). or_first o (first_in instr_kind b.instrs v)) (phi_kinds (edges_at (table_of f) b.label) b.phis v))
      (λ e. refl) (length f.names) f.blocks)

  pub kinds_same : value_kind (with_edge_blocks f) ≡ value_kind f
  kinds_same = λ k v. kind_same v k

  size_same : (m : Module) (v : ℕ) → slot_size m (with_edge_blocks f) v ≡ slot_size m f v
  size_same m v = first_split (block_size m) v (phi_flags f) (table_of f) (λ n b. refl) (λ e. refl) (length f.names) f.blocks

  pub sizes_same : (m : Module) → slot_size m (with_edge_blocks f) ≡ slot_size m f
  sizes_same m = λ k v. size_same m v k

  value_same : (func v : ℕ) → is_value func (with_edge_blocks f) v ≡ is_value func f v
  value_same func v = value_defined v func (with_edge_blocks f) ∙ ap is_some (kind_same v) ∙ sym (value_defined v func f)

  pub values_same : (func : ℕ) → is_value func (with_edge_blocks f) ≡ is_value func f
  values_same func = λ k v. value_same func v k
