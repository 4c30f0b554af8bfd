-- What is noted beside values stays when blocks are put on edges that leave windows: their kinds, and the sizes of slots.
use Rattle.std.proofs.Common.{◌≡◌, ℕ, ◌+◌, List, [], ◌∷◌, ◌++◌, None, Option, length, refl, sym, ap, ◌∙◌}
use Rattle.std.specs.Prelude.{is_some}
use Rattle.pass_fetch_proof.proofs.rule_laws.rules.local_rules.Defined.{value_defined}
use Rattle.ir_model.specs.declared.module.Block.{Block}
use Rattle.ir_model.specs.declared.module.Function.{Function}
use Rattle.ir_model.specs.declared.module.Module.{Module}
use Rattle.pass_fetch_proof.specs.rule_locals.Markers.{block_size, slot_size}
use Rattle.pass_fetch_proof.specs.ir_locals.Tables.{first_in, or_first}
use Rattle.pass_fetch_proof.specs.rule_names.Known.{is_value}
use Rattle.pass_fetch_proof.specs.rule_values.Kinds.{block_kind, param_kind, value_kind}
use Rattle.pass_split.specs.pass_exits.ExitBlocks.{blocks_by, exit_block, exit_blocks, with_exit_blocks, with_exits}
use Rattle.pass_split.specs.pass_exits.Exits.{block_exits}
use Rattle.pass_split.specs.pass_exits.declared.exit.Exit.{Exit}

module _ {T : Type 0} (one : Block → ℕ → Option T) (v : ℕ) (f : Function) (stays : (at n : ℕ) (b : Block) → one (with_exits f at n b) v ≡ one b v) (none : (n : ℕ) (e : Exit) → one (exit_block n e) v ≡ None) where
  first_behind : (n : ℕ) (es : List Exit) (rest : List Block) → first_in one (exit_blocks n es ++ rest) v ≡ first_in one rest v
  first_behind n [] rest = refl
  first_behind n (e ∷ es) rest = ap (λ (o : Option T). or_first o (first_in one (exit_blocks (n + 1) es ++ rest) v)) (none n e) ∙ first_behind (n + 1) es rest

  -- what the blocks note first
  first_exits : (at n : ℕ) (bs : List Block) → first_in one (blocks_by f at n bs) v ≡ first_in one bs v
  first_exits at n [] = refl
  first_exits at n (b ∷ bs) =
      let next : ℕ = n + length (block_exits f at b) in
      let first = stays at n b in
      let later = first_behind n (block_exits f at b) (blocks_by f (at + 1) next bs) ∙ first_exits (at + 1) next bs in
      λ k. or_first (first k) (later k)

module _ (f : Function) where
  kind_same : (v : ℕ) → value_kind (with_exit_blocks f) v ≡ value_kind f v
  kind_same v = ap (or_first (first_in param_kind f.params v)) (first_exits block_kind v f (λ at n b. refl) (λ n e. refl) 0 (length f.names) f.blocks)

  pub kinds_same : value_kind (with_exit_blocks f) ≡ value_kind f
  kinds_same = λ k v. kind_same v k

  size_same : (m : Module) (v : ℕ) → slot_size m (with_exit_blocks f) v ≡ slot_size m f v
  size_same m v = first_exits (block_size m) v f (λ at n b. refl) (λ n e. refl) 0 (length f.names) f.blocks

  pub sizes_same : (m : Module) → slot_size m (with_exit_blocks f) ≡ slot_size m f
  sizes_same m = λ k v. size_same m v k

  value_same : (func v : ℕ) → is_value func (with_exit_blocks f) v ≡ is_value func f v
  value_same func v = value_defined v func (with_exit_blocks f) ∙ ap is_some (kind_same v) ∙ sym (value_defined v func f)

  pub values_same : (func : ℕ) → is_value func (with_exit_blocks f) ≡ is_value func f
  values_same func = λ k v. value_same func v k
