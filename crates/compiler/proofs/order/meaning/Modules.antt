-- A module with the names of its functions in order: what stands where, and under which labels.
use Rattle.std.proofs.Common.{◌≡◌, ℕ, suc, Bool, true, false, List, [], ◌∷◌, length, refl, ap, ◌∙◌, Option, Some, None}
use Rattle.std.proofs.lemmas.List.{length-map}
use Rattle.std.proofs.lemmas.Option.{slice_get-map}
use Rattle.std.specs.List.{list_any}
use Rattle.std.specs.Prelude.{◌&&◌, ◌==◌, if◌then◌else◌, map, option_map, slice_get, unwrap_or}
use Rattle.ir_base.specs.declared.name.Name.{Name}
use Rattle.pass_cleanup.proofs.Kept.{any_mapped, first_mapped}
use Rattle.ir_model.specs.Layout.{same_type}
use Rattle.ir_model.specs.Names.{first_where, function_at, is_local, no_function, position_of, same_name}
use Rattle.ir_model.specs.Ty.{Ty}
use Rattle.ir_model.specs.declared.instr.Instr.{Instr}
use Rattle.ir_model.specs.declared.module.Block.{Block}
use Rattle.ir_model.specs.declared.module.Function.{Function}
use Rattle.ir_model.specs.declared.module.Module.{Module}
use Rattle.ir_model.specs.declared.module.Param.{Param}
use Rattle.ir_model.specs.declared.operand.Arg.{Arg}
use Rattle.ir_model.specs.declared.operand.Callee.{Callee}
use Rattle.ir_model.specs.declared.operand.Operand.{Operand}
use Rattle.pass_proofs.proofs.ir_laws.facts.Renumbering.{equal_same}
use Rattle.pass_proofs.specs.ir_laws.facts.order_rules.Renumbered.{IsRenumbered, StaysApart, renumbered_arg, renumbered_block, renumbered_callee, renumbered_function, renumbered_instr, renumbered_operand}
use Rattle.text_canonical.specs.order.Order.{function_order, module_order, param_order}
use Rattle.text_canonical.specs.order.Places.{each_order}
use Rattle.pass_proofs.proofs.run_states.order_meaning.Actions.{AreLike, renumbered_here}
use Rattle.pass_proofs.proofs.run_states.order_meaning.Moved.{AreFoundAlike}
use Rattle.pass_proofs.specs.run_step.Step.{fetch, fetch_in, fetch_or, fits_function, fits_params, has_markers, is_lifetime, is_marker_of, same_result}

-- ---- one function

module _ (to : ℕ → ℕ) (apart : StaysApart to) (names : List Name) (f : Function) where
  abbrev g : Function
  g = renumbered_function to names f

  pub block_there : (block : ℕ) → slice_get g.blocks block ≡ option_map (renumbered_block to) (slice_get f.blocks block)
  block_there block = slice_get-map (renumbered_block to) f.blocks block

  labelled : (bs : List Block) (label : ℕ) → first_where (λ b. b.label == to label) (map (renumbered_block to) bs) ≡ first_where (λ b. b.label == label) bs
  labelled [] label = refl
  labelled (b ∷ bs) label = λ i. if equal_same to apart b.label label i then Some 0 else option_map suc (labelled bs label i)

  pub position_same : (label : ℕ) → position_of g (to label) ≡ position_of f label
  position_same label = λ i. unwrap_or (labelled f.blocks label i) (length-map f.blocks (renumbered_block to) i)

  -- ---- what stands at a place

  instr_there : (o : Option Instr) (last : Bool) (b : Block) → fetch_or (option_map (renumbered_instr to) o) last (renumbered_block to b).term ≡ renumbered_here to (fetch_or o last b.term)
  instr_there (Some x) last b = refl
  instr_there None true b = refl
  instr_there None false b = refl

  fetch_there : (o : Option Block) (at : ℕ) → fetch_in (option_map (renumbered_block to) o) at ≡ renumbered_here to (fetch_in o at)
  fetch_there None at = refl
  fetch_there (Some b) at =
      (λ i. fetch_or (slice_get-map (renumbered_instr to) b.instrs at i) (at == length-map b.instrs (renumbered_instr to) i) (renumbered_block to b).term)
      ∙ instr_there (slice_get b.instrs at) (at == length b.instrs) b

  pub fetch_same : (block at : ℕ) → fetch g block at ≡ renumbered_here to (fetch f block at)
  fetch_same block at = ap (λ (o : Option Block). fetch_in o at) (block_there block) ∙ fetch_there (slice_get f.blocks block) at

  -- ---- markers

  local_same : (name : ℕ) (x : Operand) → is_local (to name) (renumbered_operand to x) ≡ is_local name x
  local_same name (Operand.Local v) = equal_same to apart name v
  local_same name (Operand.Global x) = refl
  local_same name (Operand.Number z) = refl
  local_same name Operand.True = refl
  local_same name Operand.False = refl
  local_same name Operand.Null = refl
  local_same name Operand.None = refl
  local_same name Operand.Poison = refl

  lifetime_same : (x : Callee) → is_lifetime (renumbered_callee to x) ≡ is_lifetime x
  lifetime_same (Callee.Named x) = refl
  lifetime_same (Callee.Allocator a) = refl
  lifetime_same (Callee.Intrinsic i) = refl
  lifetime_same (Callee.Local v) = refl

  marker_same : (name : ℕ) (x : Instr) → is_marker_of (to name) (renumbered_instr to x) ≡ is_marker_of name x
  marker_same name (Instr.Call r must_tail ty callee args) =
      let among : list_any (λ a. is_local (to name) a.value) (map (renumbered_arg to) args) ≡ list_any (λ a. is_local name a.value) args =
      any_mapped (renumbered_arg to) (λ a. is_local (to name) a.value) (λ a. is_local name a.value) (λ a. local_same name a.value) args in
      λ i. lifetime_same callee i && among i
  marker_same name _ = refl

  pub markers_same : (name : ℕ) → has_markers g (to name) ≡ has_markers f name
  markers_same name =
      any_mapped (renumbered_block to) (λ b. list_any (is_marker_of (to name)) b.instrs) (λ b. list_any (is_marker_of name) b.instrs)
      (λ b. any_mapped (renumbered_instr to) (is_marker_of (to name)) (is_marker_of name) (marker_same name) b.instrs) f.blocks

-- ---- the module

pub function_there : (m : Module) (func : ℕ) → function_at (module_order m) func ≡ function_order (function_at m func)
function_there m func = ap (λ (o : Option Function). unwrap_or o no_function) (slice_get-map function_order m.functions func) ∙ on (slice_get m.functions func)
  where
    on : (o : Option Function) → unwrap_or (option_map function_order o) no_function ≡ function_order (unwrap_or o no_function)
    on None = refl
    on (Some f) = refl

pub found_alike : (m : Module) → AreFoundAlike m (map function_order m.functions)
found_alike m = record {
  named = λ x. first_mapped function_order (λ f. same_name f.name x) (λ f. refl) m.functions;
  count = length-map m.functions function_order;
}

params_fit : (to : ℕ → ℕ) (names : List Name) (args : List Arg) (ps : List Param) (ns : List Name) → fits_params (map (renumbered_arg to) args) (each_order (param_order names) ps ns).0 ≡ fits_params args ps
params_fit to names [] [] ns = refl
params_fit to names [] (p ∷ ps) ns = refl
params_fit to names (a ∷ args) [] ns = refl
params_fit to names (a ∷ args) (p ∷ ps) ns = ap (λ (b : Bool). same_type a.ty p.ty && b) (params_fit to names args ps (param_order names p ns).1)

pub fits_there : (m : Module) (to : ℕ → ℕ) (ty : Option Ty) (args : List Arg) (func : ℕ) → fits_function ty (map (renumbered_arg to) args) (slice_get (map function_order m.functions) func) ≡ fits_function ty args (slice_get m.functions func)
fits_there m to ty args func =
    ap (fits_function ty (map (renumbered_arg to) args)) (slice_get-map function_order m.functions func) ∙ on (slice_get m.functions func)
  where
    on : (o : Option Function) → fits_function ty (map (renumbered_arg to) args) (option_map function_order o) ≡ fits_function ty args o
    on None = refl
    on (Some f) = ap (λ (b : Bool). same_result ty f.result && b) (params_fit to f.names args f.params [])

pub are_like : (m : Module) (f : Function) (ren : IsRenumbered f (function_order f)) → AreLike m (map function_order m.functions) f (function_order f) ren.to
are_like m f ren = record {
  alike = found_alike m;
  fits = fits_there m ren.to;
  coroutine = refl;
  markers = λ name. ap (λ (x : Function). has_markers x (ren.to name)) ren.is ∙ markers_same ren.to ren.apart (function_order f).names f name;
}
