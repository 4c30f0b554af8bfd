-- The integer types of modules whose parts are parts of the grammar have the widths that types are written with.
use Rattle.std.proofs.Common.{◌≡◌, ℕ, ◌+◌, true, false, List, [], ◌∷◌, ◌++◌, refl, ap, ◌∙◌, length}
use Rattle.std.specs.List.{list_all}
use Rattle.std.specs.Prelude.{None, Option, Some, map, not, option_to_list, slice_get}
use Rattle.rule_laws.specs.rules.counted.Widths.{first_other_width, is_of_other_width}
use Rattle.ir_laws.specs.facts.counted.Widths.{has_width, is_width}
use Rattle.ir_laws.specs.ir_base.declared.name.Name.{Name}
use Rattle.ir_laws.specs.ir_base.declared.outcome.Place.{Place}
use Rattle.rule_laws.proofs.rules.local_rules.Carried.{Passing, none_of}
use Rattle.ir_laws.proofs.facts.Members.{each_joined}
use Rattle.ir_laws.proofs.facts.Truth.{and_both, and_first, and_second}
use Rattle.rule_laws.proofs.rules.source_rules.Shaped.{function_shaped}
use Rattle.ir_parts.specs.Contents.{arg_types, ending_types, instr_types, part_types}
use Rattle.ir_parts.specs.Parts.{Ending, Part, Signature, block_parts, blocks_parts, instr_parts, instr_place, parts_of, phi_parts}
use Rattle.text_grammar.specs.Text.{StandsFor}
use Rattle.ir_laws.specs.ir_model.TypeView.{bits_of}
use Rattle.ir_laws.specs.ir_model.declared.ir_type.IntWidth.{IntWidth}
use Rattle.ir_laws.specs.ir_model.declared.ir_type.IntWidth.TheVariants.{I1, I8, I16, I32, I64}
use Rattle.ir_laws.specs.ir_model.Ty.{Ty, int, ptr, token, array, structure, named}
use Rattle.ir_laws.specs.ir_model.declared.instr.Case.{Case}
use Rattle.ir_laws.specs.ir_model.declared.instr.Instr.{Instr}
use Rattle.ir_laws.specs.ir_model.declared.instr.Phi.{Phi}
use Rattle.ir_laws.specs.ir_model.declared.instr.Terminator.{Terminator}
use Rattle.ir_laws.specs.ir_model.declared.module.Block.{Block}
use Rattle.ir_laws.specs.ir_model.declared.module.Function.{Function}
use Rattle.ir_laws.specs.ir_model.declared.module.Module.{Module}
use Rattle.ir_laws.specs.ir_model.declared.module.Param.{Param}
use Rattle.ir_laws.specs.ir_model.declared.operand.Arg.{Arg}
use Rattle.text_canonical.proofs.order.Shaped.{text_is_shaped}
use Rattle.ir_laws.specs.run_laws.changed.Changed.{Each}
use Rattle.rule_laws.proofs.texts.widths.Written.{some_blocks}
use Rattle.text_canonical.specs.order.Shape as shape

-- ---- types of the grammar

width_known : (w : IntWidth) → is_width (bits_of w) ≡ true
width_known I1 = refl
width_known I8 = refl
width_known I16 = refl
width_known I32 = refl
width_known I64 = refl

type_wide : (t : Ty) → shape.IsType t → has_width t ≡ true
type_wide (int w) h = ap is_width h.1 ∙ width_known h.0
type_wide ptr h = refl
type_wide token h = refl
type_wide (array n t) h = refl
type_wide (structure fs) h = refl
type_wide (named n) h = refl

result_wide : (o : Option Ty) → shape.IsResult o → list_all has_width (option_to_list o) ≡ true
result_wide None h = refl
result_wide (Some t) h = and_both (has_width t) true (type_wide t h) refl

joined_wide : (ts us : List Ty) → list_all has_width ts ≡ true → list_all has_width us ≡ true → list_all has_width (ts ++ us) ≡ true
joined_wide [] us h k = k
joined_wide (t ∷ ts) us h k = and_both (has_width t) (list_all has_width (ts ++ us)) (and_first (has_width t) (list_all has_width ts) h) (joined_wide ts us (and_second (has_width t) (list_all has_width ts) h) k)

args_wide : (names : List Name) (args : List Arg) → shape.Each (shape.IsArg names) args → list_all has_width (arg_types args) ≡ true
args_wide names [] h = refl
args_wide names (a ∷ args) h = and_both (has_width a.ty) (list_all has_width (arg_types args)) (type_wide a.ty h.0.0) (args_wide names args h.1)

some_args_wide : (names : List Name) (args : List Arg) → shape.Some_of (shape.IsArg names) args → list_all has_width (arg_types args) ≡ true
some_args_wide names [] h = absurd h
some_args_wide names (a ∷ args) h = args_wide names (a ∷ args) h

cases_wide : (names : List Name) (cases : List Case) → shape.Each (shape.IsCase names) cases → list_all has_width (map (λ k. k.arg.ty) cases) ≡ true
cases_wide names [] h = refl
cases_wide names (c ∷ cases) h = and_both (has_width c.arg.ty) (list_all has_width (map (λ k. k.arg.ty) cases)) (type_wide c.arg.ty h.0.0.0) (cases_wide names cases h.1)

params_wide : (names : List Name) (ps : List Param) → shape.Each (shape.IsParam names) ps → list_all has_width (map (λ p. p.ty) ps) ≡ true
params_wide names [] h = refl
params_wide names (p ∷ ps) h = and_both (has_width p.ty) (list_all has_width (map (λ p. p.ty) ps)) (type_wide p.ty h.0.0) (params_wide names ps h.1)

alone : (t : Ty) → shape.IsType t → list_all has_width (t ∷ []) ≡ true
alone t h = and_both (has_width t) true (type_wide t h) refl

-- ---- parts

instr_wide : (names : List Name) (i : Instr) → shape.IsInstr names i → list_all has_width (instr_types i) ≡ true
instr_wide names (Instr.Binary r op flags ty left right) h = alone ty h.2
instr_wide names (Instr.Icmp r pred ty left right) h = alone ty h.1
instr_wide names (Instr.Select r c a b) h = and_both (has_width a.ty) (list_all has_width (b.ty ∷ [])) (type_wide a.ty h.2.0) (alone b.ty h.3.0)
instr_wide names (Instr.Cast r op nneg arg to) h = and_both (has_width arg.ty) (list_all has_width (to ∷ [])) (type_wide arg.ty h.2.0) (alone to h.3)
instr_wide names (Instr.Alloca r ty align) h = alone ty h.1
instr_wide names (Instr.Load r ty address align) h = alone ty h.1
instr_wide names (Instr.Store arg address align) h = alone arg.ty h.0.0
instr_wide names (Instr.Gep r inbounds ty base indices) h = and_both (has_width ty) (list_all has_width (arg_types indices)) (type_wide ty h.1) (some_args_wide names indices h.3)
instr_wide names (Instr.Call r must_tail ty callee args) h = joined_wide (option_to_list ty) (arg_types args) (result_wide ty h.1) (args_wide names args h.3)

ending_wide : (names : List Name) (t : Terminator) → shape.IsTerminator names t → list_all has_width (ending_types t) ≡ true
ending_wide names (Terminator.Jump label) h = refl
ending_wide names (Terminator.Branch c a b) h = refl
ending_wide names (Terminator.Switch arg default cases) h = and_both (has_width arg.ty) (list_all has_width (map (λ k. k.arg.ty) cases)) (type_wide arg.ty h.0.0) (cases_wide names cases h.2)
ending_wide names (Terminator.Ret None) h = refl
ending_wide names (Terminator.Ret (Some a)) h = alone a.ty h.0
ending_wide names Terminator.Unreachable h = refl

wide : (ts : List Ty) → list_all has_width ts ≡ true → not (list_all has_width ts) ≡ false
wide ts h = ap not h

phis_pass : (names : List Name) (func block at : ℕ) (ps : List Phi) → shape.Each (shape.IsPhi names) ps → Passing is_of_other_width (phi_parts func block at ps)
phis_pass names func block at [] h = tt
phis_pass names func block at (p ∷ ps) h = (wide (p.ty ∷ []) (alone p.ty h.0.1), phis_pass names func block (at + 1) ps h.1)

instrs_pass : (names : List Name) (func block at : ℕ) (is : List Instr) → shape.Each (shape.IsInstr names) is → Passing is_of_other_width (instr_parts func block at is)
instrs_pass names func block at [] h = tt
instrs_pass names func block at (i ∷ is) h = (wide (instr_types i) (instr_wide names i h.0), instrs_pass names func block (at + 1) is h.1)

block_passes : (names : List Name) (func block : ℕ) (b : Block) → shape.IsBlock names b → Passing is_of_other_width (block_parts func block b)
unfolding block_parts
block_passes names func block b h =
    let P : Place × Part → Type 0 = λ x. is_of_other_width x.0 x.1 ≡ false in
    let last : List (Place × Part) = (instr_place func block (length b.phis + length b.instrs), Ending b.term) ∷ [] in (
      refl,
      each_joined P (phi_parts func block 0 b.phis) (instr_parts func block (length b.phis) b.instrs ++ last)
          (phis_pass names func block 0 b.phis h.1)
          (each_joined P (instr_parts func block (length b.phis) b.instrs) last
          (instrs_pass names func block (length b.phis) b.instrs h.2)
          (wide (ending_types b.term) (ending_wide names b.term h.3), tt)),
    )

blocks_pass : (names : List Name) (func block : ℕ) (bs : List Block) → shape.Each (shape.IsBlock names) bs → Passing is_of_other_width (blocks_parts func block bs)
blocks_pass names func block [] h = tt
blocks_pass names func block (b ∷ bs) h =
    each_joined (λ x. is_of_other_width x.0 x.1 ≡ false) (block_parts func block b) (blocks_parts func (block + 1) bs) (block_passes names func block b h.0) (blocks_pass names func (block + 1) bs h.1)

function_wide : (k : ℕ) (f : Function) → shape.IsFunction f → first_other_width k f ≡ None
function_wide k f h =
    none_of is_of_other_width (parts_of k f) (
      wide (part_types (Signature f)) (joined_wide (option_to_list f.result) (map (λ p. p.ty) f.params) (result_wide f.result h.0) (params_wide f.names f.params h.1)),
      blocks_pass f.names k 0 f.blocks (some_blocks f.names f.blocks h.2),
    )

pub text_wide : (text : List ℕ) (m : Module) → StandsFor text m → (k : ℕ) (f : Function) → slice_get m.functions k ≡ Some f → first_other_width k f ≡ None
text_wide text m stands k f there = function_wide k f (function_shaped m.functions k f (text_is_shaped text m stands).functions there)
