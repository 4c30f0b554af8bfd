-- Functions some of whose calls give their callees the address of a frame, as one more last argument.
use Rattle.std.specs.Prelude.{◌≡◌, ℕ, true, false, List, [], Some, Option, option_to_list, map, ◌+◌, ◌∷◌, ◌++◌}
use Rattle.ir_laws.specs.ir_base.declared.name.Name.{Name}
use Rattle.ir_laws.specs.ir_base.declared.outcome.Place.{Place}
use Rattle.ir_laws.specs.ir_model.Ty.{Ty, ptr}
use Rattle.ir_laws.specs.ir_model.declared.instr.Instr.{Instr}
use Rattle.ir_laws.specs.ir_model.declared.module.Block.{Block}
use Rattle.ir_laws.specs.ir_model.declared.module.Function.{Function}
use Rattle.ir_laws.specs.ir_model.declared.module.Module.{Module}
use Rattle.ir_laws.specs.ir_model.declared.operand.Arg.{Arg}
use Rattle.ir_laws.specs.ir_model.declared.operand.Callee.{Callee}
use Rattle.ir_laws.specs.ir_model.declared.operand.Operand.{Operand}
use Rattle.ir_parts.specs.Contents.{result_of}
use Rattle.rule_locals.specs.Calls.{is_closed}
use Rattle.rule_names.specs.Known.{is_value, knows_name}
use Rattle.rule_names.specs.Reserved.{is_reserved}
use Rattle.rule_types.specs.Signatures.{fits_named}
use Rattle.rule_uses.specs.Undefined.{IsUndefined}
use Rattle.rule_uses.specs.Uses.{phi_values, use_of}
use Rattle.rule_values.specs.Kinds.{value_kind}
use Rattle.rule_values.specs.declared.kinds.Kind.{Kind}

abbrev pub frame_arg : ℕ → Arg
frame_arg n = record { ty = ptr; value = Operand.Local n }

-- a call by this name gives a frame's address
abbrev pub given_by : Option ℕ → Option Ty → Name → List Arg → ℕ → Instr
given_by r ty y args n = Instr.Call r false ty (Callee.Named y) (args ++ frame_arg n ∷ [])

-- what is called is known and defined, and takes and gives what the call says; its name is no intrinsic's or allocator's
pub record MayBeCalled (m : Module) (ty : Option Ty) (y : Name) (args : List Arg) : Type 0 where
  pub known : knows_name m y ≡ true
  pub fits : fits_named m ty (map (λ a. a.ty) args) y ≡ true
  pub allowed : is_closed m y ≡ false
  pub usual : is_reserved y ≡ false

-- a pointer of the function, which each path to a place makes
pub record IsFrameThere (func : ℕ) (f : Function) (block : ℕ) (before : List ℕ) (n : ℕ) : Type 0 where
  pub is_value : is_value func f n ≡ true
  pub kind : value_kind f n ≡ Some Kind.Ptr
  pub made : (p : Place) → IsUndefined f (use_of p block before n) → ⊥

-- instructions, given what their block makes before them: some calls give frames, all else stays
pub data AreGiven (m : Module) (func : ℕ) (f : Function) (block : ℕ) : List ℕ → List Instr → List Instr → Type 0 where
  NoneLeft : (before : List ℕ) → AreGiven m func f block before [] []
  Same : (before : List ℕ) (i : Instr) (is js : List Instr)
      → AreGiven m func f block (option_to_list (result_of i) ++ before) is js
      → AreGiven m func f block before (i ∷ is) (i ∷ js)
  Gives : (before : List ℕ) (r : Option ℕ) (ty : Option Ty) (x y : Name) (args : List Arg) (n : ℕ) (is js : List Instr)
      → MayBeCalled m ty y (args ++ frame_arg n ∷ []) → IsFrameThere func f block before n
      → AreGiven m func f block (option_to_list r ++ before) is js
      → AreGiven m func f block before (Instr.Call r false ty (Callee.Named x) args ∷ is) (given_by r ty y args n ∷ js)

abbrev pub with_instrs : List Instr → Block → Block
with_instrs js b = record { label = b.label; phis = b.phis; instrs = js; term = b.term }

-- the blocks from a position on
pub data AreGivenBlocks (m : Module) (func : ℕ) (f : Function) : ℕ → List Block → List Block → Type 0 where
  NoBlock : (at : ℕ) → AreGivenBlocks m func f at [] []
  OneBlock : (at : ℕ) (b : Block) (js : List Instr) (bs cs : List Block)
      → AreGiven m func f at (phi_values b) b.instrs js → AreGivenBlocks m func f (at + 1) bs cs
      → AreGivenBlocks m func f at (b ∷ bs) (with_instrs js b ∷ cs)

-- the function with other blocks
abbrev pub with_blocks : List Block → Function → Function
with_blocks cs f =
    record {
      name = f.name;
      result = f.result;
      params = f.params;
      coroutine = f.coroutine;
      blocks = cs;
      names = f.names;
    }
