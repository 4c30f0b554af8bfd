-- What the last pass leaves as it is: functions by their names, types and labels, markers, and what stands at a place.
use Rattle.std.proofs.Common.{◌≡◌, ℕ, suc, Bool, true, false, List, [], ◌∷◌, length, refl, ap, ◌∙◌}
use Rattle.std.proofs.lemmas.Option.{slice_get-map}
use Rattle.std.specs.Prelude.{Some, None, Option, IsTrue, option_map, unwrap_or, is_some, filter, map, slice_get, ◌==◌, ◌||◌}
use Rattle.ir_base.specs.declared.name.Name.{Name}
use Rattle.pass_cleanup.specs.Cleanable.{IsDefined, IsNoIntrinsic}
pub use Rattle.pass_cleanup.specs.Cleaned.{instrs_of, moved_in}
use Rattle.pass_cleanup.specs.Cleanup.{clean_block, clean_function, clean_module, is_kept_callee, is_kept_declaration, is_kept_instr}
use Rattle.pass_cleanup.proofs.Kept.{IsKept, any_kept, any_mapped, end_kept, first_kept, first_mapped, get_kept, kept_before}
use Rattle.ir_model.specs.Names.{block_labelled, declaration_named, function_at, function_named, global_named, no_function, position_of, same_name}
use Rattle.ir_model.specs.Table.{callee_named}
use Rattle.ir_model.specs.Ty.{Ty}
use Rattle.ir_model.specs.declared.instr.Instr.{Instr}
use Rattle.ir_model.specs.declared.module.Block.{Block}
use Rattle.ir_model.specs.declared.module.Declaration.{Declaration}
use Rattle.ir_model.specs.declared.module.Function.{Function}
use Rattle.ir_model.specs.declared.module.Module.{Module}
use Rattle.ir_model.specs.declared.operand.Arg.{Arg}
use Rattle.ir_model.specs.declared.operand.Callee.{Callee}
use Rattle.ir_model.specs.declared.operand.Intrinsic.{Intrinsic}
use Rattle.ir_model.specs.declared.operand.Operand.{Operand}
use Rattle.run_step.proofs.Tables.{same_name-same}
use Rattle.run_step.specs.Step.{fetch, fetch_in, fetch_or, fits_function, has_markers, is_marker_of}
use Rattle.run_step.specs.Values.{Env, address_from, operand_value}

-- ---- functions

pub function_clean : (m : Module) (func : ℕ) → function_at (clean_module m) func ≡ clean_function (function_at m func)
function_clean m func =
    ap (λ (o : Option Function). unwrap_or o no_function) (slice_get-map clean_function m.functions func) ∙ on (slice_get m.functions func)
  where
    on : (o : Option Function) → unwrap_or (option_map clean_function o) no_function ≡ clean_function (unwrap_or o no_function)
    on None = refl
    on (Some f) = refl

pub named_clean : (m : Module) (n : Name) → function_named (clean_module m) n ≡ function_named m n
named_clean m n = first_mapped clean_function (λ f. same_name f.name n) (λ f. refl) m.functions

pub fits_clean : (m : Module) (ty : Option Ty) (args : List Arg) (func : ℕ) → fits_function ty args (slice_get (clean_module m).functions func) ≡ fits_function ty args (slice_get m.functions func)
fits_clean m ty args func =
    ap (fits_function ty args) (slice_get-map clean_function m.functions func) ∙ on (slice_get m.functions func)
  where
    on : (o : Option Function) → fits_function ty args (option_map clean_function o) ≡ fits_function ty args o
    on None = refl
    on (Some f) = refl

-- ---- declarations

pub kept_name : (n : Name) → IsNoIntrinsic (Some n) → (d : Declaration) → same_name d.name n ≡ true → is_kept_declaration d ≡ true
kept_name n h d e = ap (λ k. is_kept_callee (callee_named k)) (same_name-same d.name n e) ∙ h

pub declared_clean : (m : Module) (n : Name) → IsNoIntrinsic (Some n) → declaration_named (clean_module m) n ≡ option_map (kept_before is_kept_declaration m.declarations) (declaration_named m n)
declared_clean m n h = first_kept is_kept_declaration (λ d. same_name d.name n) m.declarations (kept_name n h)

-- ---- blocks

pub position_clean : (f : Function) (label : ℕ) → position_of (clean_function f) label ≡ position_of f label
position_clean f label =
    ap (λ (o : Option ℕ). unwrap_or o (length (map clean_block f.blocks))) (first_mapped clean_block (λ b. b.label == label) (λ b. refl) f.blocks)
    ∙ ap (unwrap_or (block_labelled f label)) (length-map f.blocks)
  where
    length-map : (bs : List Block) → length (map clean_block bs) ≡ length bs
    length-map [] = refl
    length-map (b ∷ bs) = ap suc (length-map bs)

pub block_clean : (f : Function) (block : ℕ) → slice_get (clean_function f).blocks block ≡ option_map clean_block (slice_get f.blocks block)
block_clean f block = slice_get-map clean_block f.blocks block

id_no_marker : (name : ℕ) (i : Instr) → is_kept_instr i ≡ false → is_marker_of name i ≡ false
id_no_marker name (Instr.Call result must_tail ty (Callee.Intrinsic Intrinsic.CoroId) args) e = refl
id_no_marker name _ e = absurd (cc)

pub markers_clean : (f : Function) (name : ℕ) → has_markers (clean_function f) name ≡ has_markers f name
markers_clean f name =
    any_mapped clean_block _ _ (λ b. any_kept is_kept_instr (is_marker_of name) b.instrs (id_no_marker name)) f.blocks

-- ---- what stands at a place

pub fetch_clean : (f : Function) (block at : ℕ) → IsKept is_kept_instr (instrs_of (slice_get f.blocks block)) at → fetch (clean_function f) block (moved_in (slice_get f.blocks block) at) ≡ fetch f block at
fetch_clean f block at h =
    ap (λ (o : Option Block). fetch_in o (moved_in (slice_get f.blocks block) at)) (block_clean f block) ∙ on (slice_get f.blocks block) h
  where
    on : (o : Option Block) → IsKept is_kept_instr (instrs_of o) at → fetch_in (option_map clean_block o) (moved_in o at) ≡ fetch_in o at
    on None h = refl
    on (Some b) h =
        ap (λ (i : Option Instr). fetch_or i (moved_in (Some b) at == length (filter is_kept_instr b.instrs)) b.term) (get_kept is_kept_instr b.instrs at h)
        ∙ ap (λ (t : Bool). fetch_or (slice_get b.instrs at) t b.term) (end_kept is_kept_instr b.instrs at h)

-- ---- operands

address_clean : (m : Module) (f g d e : Option ℕ) → IsTrue (is_some f || is_some g) → address_from (clean_module m) f g d ≡ address_from m f g e
address_clean m (Some f) g d e h = refl
address_clean m None (Some g) d e h = refl
address_clean m None None d e h = absurd (cc)

pub operand_clean : (m : Module) (env : Env) (ty : Ty) (x : Operand) → IsDefined m x → operand_value (clean_module m) env ty x ≡ operand_value m env ty x
operand_clean m env ty (Operand.Global n) h =
    ap (λ (f : Option ℕ). address_from (clean_module m) f (global_named m n) (declaration_named (clean_module m) n)) (named_clean m n)
    ∙ address_clean m (function_named m n) (global_named m n) _ _ h
operand_clean m env ty (Operand.Local name) h = refl
operand_clean m env ty (Operand.Number z) h = refl
operand_clean m env ty Operand.True h = refl
operand_clean m env ty Operand.False h = refl
operand_clean m env ty Operand.Null h = refl
operand_clean m env ty Operand.None h = refl
operand_clean m env ty Operand.Poison h = refl
