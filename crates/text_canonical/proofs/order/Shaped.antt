-- What some text stands for has the shape.
use Rattle.std.proofs.Common.{◌≡◌, ℕ, inl, inr, Bool, List, [], ◌∷◌, Option, None, sym, ap, subst, ◌∙◌}
use Rattle.std.specs.Prelude.{Some, map}
use Rattle.ir_base.specs.declared.name.Name.{Name}
use Rattle.ir_base.specs.declared.ops.BinOp.{BinOp}
use Rattle.ir_base.specs.declared.ops.CastOp.{CastOp}
use Rattle.ir_base.specs.declared.ops.Flags.{Flags}
use Rattle.ir_model.specs.Table.{callee_named}
use Rattle.ir_model.specs.Ty.{Ty, Tys, int, ptr, token, array, structure, named, none, field}
use Rattle.ir_model.specs.declared.instr.Case.{Case}
use Rattle.ir_model.specs.declared.instr.Incoming.{Incoming}
use Rattle.ir_model.specs.declared.instr.Instr.{Instr}
use Rattle.ir_model.specs.declared.instr.Phi.{Phi}
use Rattle.ir_model.specs.declared.instr.Terminator.{Terminator}
use Rattle.ir_model.specs.declared.module.Block.{Block}
use Rattle.ir_model.specs.declared.module.Declaration.{Declaration}
use Rattle.ir_model.specs.declared.module.Function.{Function}
use Rattle.ir_model.specs.declared.module.GlobalItem.{GlobalItem}
use Rattle.ir_model.specs.declared.module.Module.{Module}
use Rattle.ir_model.specs.declared.module.Param.{Param}
use Rattle.ir_model.specs.declared.module.TypeItem.{TypeItem}
use Rattle.ir_model.specs.declared.operand.Arg.{Arg}
use Rattle.ir_model.specs.declared.operand.Callee.{Callee}
use Rattle.ir_model.specs.declared.operand.Operand.{Operand}
use Rattle.text_symbols.specs.declared.sym.Sym.{Sym}
use Rattle.text_grammar.specs.Blocks.{AreBlocks, IsBlock, IsBody, IsCase, IsIncoming, IsLine, IsPhiLine, IsTerminator, label, unwritten_label}
use Rattle.text_grammar.specs.Functions.{AreNamed, IsDeclaration, IsFunction, IsParam, Written, counted}
use Rattle.text_grammar.specs.Instructions.{AreArgs, AreFlags, IsCall, IsCallee, IsCast, IsInstr, IsNamed}
use Rattle.text_grammar.specs.Items.{IsGlobal, IsItem, IsTypeItem, Item, declaration, function, global_item, group, groups_of, module_of, other, type_item, types_of}
use Rattle.text_grammar.specs.Phrases.{Locals, ◌∥◌, behind_comma, commas, each, listed, some}
use Rattle.text_grammar.specs.Types.{AreFields, IsResult, IsScalar, IsType}
use Rattle.text_grammar.specs.Values.{IsArg, IsInitial, IsPlace, IsTarget, IsTyped, IsValue, local}
use Rattle.text_grammar.specs.Text.{StandsFor}
use Rattle.text_symbols.specs.Listing.{symbols_of}
use Rattle.text_canonical.proofs.grammar.Again.{Extends}
use Rattle.text_canonical.proofs.grammar.Functions.{named_extends, next_param, whole_names}
use Rattle.text_canonical.proofs.grammar.Instructions.{named_is}
use Rattle.text_canonical.proofs.grammar.Names.{place_extends, place_found}
use Rattle.ir_base.specs.declared.ops.BinOp.TheVariants as ops
use Rattle.ir_base.specs.declared.ops.CastOp.TheVariants as casts
use Rattle.ir_model.specs.declared.instr.Instr.TheVariants as instrs
use Rattle.ir_model.specs.declared.instr.Terminator.TheVariants as terms
use Rattle.ir_model.specs.declared.operand.Callee.TheVariants as callees
use Rattle.ir_model.specs.declared.operand.Operand.TheVariants as operands
use Rattle.text_symbols.specs.declared.sym.Mark.TheVariants as marks
use Rattle.text_symbols.specs.declared.sym.Sym.TheVariants as syms
use Rattle.text_canonical.specs.order.Shape as shape

back : {names ns ms : List Name} → ns ≡ ms → Extends names ms → Extends names ns
back {names} {ns} {ms} e x = subst (λ (l : List Name). Extends names l) (sym e) x

-- ---- types

mutual
  type_shaped : (t : Ty) (ts rest : List Sym) → IsType t ts rest → shape.IsType t
  type_shaped (int bits) ts rest d = (d.0, d.1)
  type_shaped ptr ts rest d = tt
  type_shaped token ts rest d = tt
  type_shaped (array n t) ts rest d = type_shaped t d.0 d.2.0 d.2.1
  type_shaped (structure fs) ts rest d = fields_shaped fs d.0 d.2.0 d.2.1
  type_shaped (named n) ts rest d = tt

  fields_shaped : (fs : Tys) (ts rest : List Sym) → AreFields fs ts rest → shape.AreTypes fs
  fields_shaped none ts rest d = tt
  fields_shaped (field t none) ts rest d = (type_shaped t ts rest d, tt)
  fields_shaped (field t (field u fs)) ts rest d = (type_shaped t ts d.0 d.1, fields_shaped (field u fs) d.2.0 rest d.2.2)

result_shaped : (t : Option Ty) (ts rest : List Sym) → IsResult t ts rest → shape.IsResult t
result_shaped None ts rest d = tt
result_shaped (Some t) ts rest d = type_shaped t ts rest d

scalar_shaped : (t : Ty) (ts rest : List Sym) → IsScalar t ts rest → shape.IsScalar t
scalar_shaped (int bits) ts rest d = (d.0, d.1)
scalar_shaped ptr ts rest d = tt
scalar_shaped token ts rest d = absurd d
scalar_shaped (array n t) ts rest d = absurd d
scalar_shaped (structure fs) ts rest d = absurd d
scalar_shaped (named n) ts rest d = absurd d

-- ---- what a phrase tells, and that its names only grow

record Told (names : List Name) (Q : Type 0) (s end : Locals) : Type 0 where
  shaped : Extends names end.0 → Q
  grows : Extends names end.0 → Extends names s.0

-- a phrase before another that tells something too
told_both : {names : List Name} {Q R : Type 0} {s m end : Locals} → Told names Q s m → Told names R m end → Told names (Q × R) s end
told_both a b = record { shaped = λ e. (a.shaped (b.grows e), b.shaped e); grows = λ e. a.grows (b.grows e) }

told_second : {names : List Name} {Q : Type 0} {s m end : Locals} → s.0 ≡ m.0 → Told names Q m end → Told names Q s end
told_second e a = record { shaped = a.shaped; grows = λ x. back e (a.grows x) }

told_first : {names : List Name} {Q : Type 0} {s m end : Locals} → Told names Q s m → m.0 ≡ end.0 → Told names Q s end
told_first a e = record { shaped = λ x. a.shaped (back e x); grows = λ x. a.grows (back e x) }

told_plain : {names : List Name} {Q : Type 0} {s end : Locals} → s.0 ≡ end.0 → Q → Told names Q s end
told_plain e q = record { shaped = λ x. q; grows = λ x. back e x }

told_map : {names : List Name} {Q R : Type 0} {s end : Locals} → (Q → R) → Told names Q s end → Told names R s end
told_map f a = record { shaped = λ x. f (a.shaped x); grows = a.grows }

-- ---- operands

place_told : (names : List Name) (n : Name) (i : ℕ) (s end : Locals) → IsPlace s.0 n i end.0 → Told names (shape.IsPlaced names i) s end
place_told names n i s end p = record { shaped = λ e. (n, place_found n i p e); grows = λ e. place_extends n i p e }

local_told : (names : List Name) (i : ℕ) (s end : Locals) → local i s end → Told names (shape.IsPlaced names i) s end
local_told names i s end d = place_told names d.0 i s end d.2

value_told : (names : List Name) (x : Operand) (s end : Locals) → IsValue x s end → Told names (shape.IsOperand names x) s end
value_told names (operands.Local i) s end d = local_told names i s end d
value_told names (operands.Global n) s end d = told_plain d.0 tt
value_told names (operands.Number z) s end d = told_plain d.0 tt
value_told names operands.True s end d = told_plain d.0 tt
value_told names operands.False s end d = told_plain d.0 tt
value_told names operands.Null s end d = told_plain d.0 tt
value_told names operands.None s end d = told_plain d.0 tt
value_told names operands.Poison s end d = told_plain d.0 tt

typed_told : (names : List Name) (a : Arg) (s end : Locals) → IsTyped a s end → Told names (shape.IsArg names a) s end
typed_told names a s end d = told_both (told_plain {s = s} {end = d.0} d.1.0 (type_shaped a.ty s.1 d.0.1 d.1.1)) (value_told names a.value d.0 end d.2)

arg_told : (names : List Name) (a : Arg) (s end : Locals) → IsArg a s end → Told names (shape.IsArg names a) s end
arg_told names a s end d = told_both (told_plain {s = s} {end = d.0} d.1.0 (type_shaped a.ty s.1 d.1.1.0 d.1.1.1)) (value_told names a.value d.0 end d.2)

target_told : (names : List Name) (i : ℕ) (s end : Locals) → IsTarget i s end → Told names (shape.IsPlaced names i) s end
target_told names i s end d = told_second {m = d.0} d.1.0 (local_told names i d.0 end d.2)

comma_told : {names : List Name} {Q : Type 0} {s m end : Locals} → (s.0 ≡ m.0) × ((s.1 ≡ syms.Mark marks.Comma ∷ m.1)) → Told names Q m end → Told names Q s end
comma_told d a = told_second d.0 a

more_told : {A : Type 0} (names : List Name) (P : A → Locals → Locals → Type 0) (Q : A → Type 0) → ((x : A) (s end : Locals) → P x s end → Told names (Q x) s end) → (xs : List A) (s end : Locals) → each (behind_comma P) xs s end → Told names (shape.Each Q xs) s end
more_told names P Q f [] s end d = told_plain (ap (λ (l : Locals). l.0) d) tt
more_told names P Q f (x ∷ xs) s end d = told_both (comma_told {m = d.1.0} d.1.1 (f x d.1.0 d.0 d.1.2)) (more_told names P Q f xs d.0 end d.2)

each_told : {A : Type 0} (names : List Name) (P : A → Locals → Locals → Type 0) (Q : A → Type 0) → ((x : A) (s end : Locals) → P x s end → Told names (Q x) s end) → (xs : List A) (s end : Locals) → each P xs s end → Told names (shape.Each Q xs) s end
each_told names P Q f [] s end d = told_plain (ap (λ (l : Locals). l.0) d) tt
each_told names P Q f (x ∷ xs) s end d = told_both (f x s d.0 d.1) (each_told names P Q f xs d.0 end d.2)

args_told : (names : List Name) (args : List Arg) (s end : Locals) → AreArgs args s end → Told names (shape.Each (shape.IsArg names) args) s end
args_told names [] s end d = told_plain (ap (λ (l : Locals). l.0) d) tt
args_told names (a ∷ args) s end d = told_both (arg_told names a s d.0 d.1) (more_told names IsArg (shape.IsArg names) (arg_told names) args d.0 end d.2)

indices_told : (names : List Name) (args : List Arg) (s end : Locals) → some (behind_comma IsTyped) args s end → Told names (shape.Some_of (shape.IsArg names) args) s end
indices_told names [] s end d = absurd d
indices_told names (a ∷ args) s end d =
    told_both (comma_told {m = d.1.0} d.1.1 (typed_told names a d.1.0 d.0 d.1.2)) (more_told names IsTyped (shape.IsArg names) (typed_told names) args d.0 end d.2)

-- ---- instructions

flags_told : (op : BinOp) (f : Flags) (ts rest : List Sym) → AreFlags op f ts rest → shape.MayHave op f
flags_told ops.Add f ts rest d = (ap (λ (g : Flags). g.exact) d.1, ap (λ (g : Flags). g.disjoint) d.1)
flags_told ops.Sub f ts rest d = (ap (λ (g : Flags). g.exact) d.1, ap (λ (g : Flags). g.disjoint) d.1)
flags_told ops.Mul f ts rest d = (ap (λ (g : Flags). g.exact) d.1, ap (λ (g : Flags). g.disjoint) d.1)
flags_told ops.Shl f ts rest d = (ap (λ (g : Flags). g.exact) d.1, ap (λ (g : Flags). g.disjoint) d.1)
flags_told ops.UDiv f ts rest d = (ap (λ (g : Flags). g.nuw) d.1, ap (λ (g : Flags). g.nsw) d.1, ap (λ (g : Flags). g.disjoint) d.1)
flags_told ops.SDiv f ts rest d = (ap (λ (g : Flags). g.nuw) d.1, ap (λ (g : Flags). g.nsw) d.1, ap (λ (g : Flags). g.disjoint) d.1)
flags_told ops.LShr f ts rest d = (ap (λ (g : Flags). g.nuw) d.1, ap (λ (g : Flags). g.nsw) d.1, ap (λ (g : Flags). g.disjoint) d.1)
flags_told ops.AShr f ts rest d = (ap (λ (g : Flags). g.nuw) d.1, ap (λ (g : Flags). g.nsw) d.1, ap (λ (g : Flags). g.disjoint) d.1)
flags_told ops.Or f ts rest d = (ap (λ (g : Flags). g.nuw) d.1, ap (λ (g : Flags). g.nsw) d.1, ap (λ (g : Flags). g.exact) d.1)
flags_told ops.URem f ts rest d = (ap (λ (g : Flags). g.nuw) d.0, ap (λ (g : Flags). g.nsw) d.0, ap (λ (g : Flags). g.exact) d.0, ap (λ (g : Flags). g.disjoint) d.0)
flags_told ops.SRem f ts rest d = (ap (λ (g : Flags). g.nuw) d.0, ap (λ (g : Flags). g.nsw) d.0, ap (λ (g : Flags). g.exact) d.0, ap (λ (g : Flags). g.disjoint) d.0)
flags_told ops.And f ts rest d = (ap (λ (g : Flags). g.nuw) d.0, ap (λ (g : Flags). g.nsw) d.0, ap (λ (g : Flags). g.exact) d.0, ap (λ (g : Flags). g.disjoint) d.0)
flags_told ops.Xor f ts rest d = (ap (λ (g : Flags). g.nuw) d.0, ap (λ (g : Flags). g.nsw) d.0, ap (λ (g : Flags). g.exact) d.0, ap (λ (g : Flags). g.disjoint) d.0)

cast_told : (op : CastOp) (nneg : Bool) (ts rest : List Sym) → IsCast op nneg ts rest → shape.MayBe op nneg
cast_told casts.Zext nneg ts rest d = tt
cast_told casts.Trunc nneg ts rest d = d.0
cast_told casts.Sext nneg ts rest d = d.0

named_callee : (m n : Name) → callees.Named m ≡ callee_named n → m ≡ n → callees.Named m ≡ callee_named m
named_callee m n e same = e ∙ ap callee_named (sym same)

callee_told : (names : List Name) (c : Callee) (s end : Locals) → IsCallee c s end → Told names (shape.IsCallee names c) s end
callee_told names (callees.Local i) s end d = local_told names i s end d
callee_told names (callees.Named m) s end d = told_plain d.0 (named_callee m d.1.0 d.1.1 (named_is m d.1.0 d.1.1))
callee_told names (callees.Allocator a) s end d = told_plain d.0 tt
callee_told names (callees.Intrinsic i) s end d = told_plain d.0 tt

named_told : (names : List Name) (r : ℕ) (s end : Locals) → IsNamed r s end → Told names (shape.IsPlaced names r) s end
named_told names r s end d = told_first (local_told names r s d.0 d.1) d.2.0

call_told : (names : List Name) (must : Bool) (t : Option Ty) (c : Callee) (args : List Arg) (s end : Locals) → IsCall must t c args s end → Told names (shape.IsResult t × (shape.IsCallee names c × shape.Each (shape.IsArg names) args)) s end
call_told names must t c args s end d =
    told_both (told_plain {s = s} {end = d.0} d.1.0 (result_shaped t d.1.1.2.2.0 d.0.1 d.1.1.2.2.2))
    (told_both (callee_told names c d.0 d.2.0 d.2.1)
    (told_second {m = d.2.2.0} d.2.2.1.0 (told_first (args_told names args d.2.2.0 d.2.2.2.0 d.2.2.2.1) d.2.2.2.2.0)))

instr_told : (names : List Name) (types : List TypeItem) (i : Instr) (s end : Locals) → IsInstr types i s end → Told names (shape.IsInstr names i) s end
instr_told names types (instrs.Binary r op f t a b) s end d =
    let x = named_told names r s d.0 d.1 in
    let y = value_told names a d.2.0 d.2.2.0 d.2.2.1 in
    let z = value_told names b d.2.2.2.0 end d.2.2.2.2 in
    let q = flags_told op f d.2.1.1.1.0 d.2.1.1.0 d.2.1.1.1.2 in
    let w = type_shaped t d.2.1.1.0 d.2.0.1 d.2.1.1.2 in
    binary_of q w (told_both x (told_second d.2.1.0 (told_both y (comma_told d.2.2.2.1 z))))
  where
    binary_of : {Q R A B C : Type 0} {s end : Locals} → Q → R → Told names (A × (B × C)) s end → Told names (A × Q × R × B × C) s end
    binary_of q w a = record { shaped = λ e. let h = a.shaped e in (h.0, q, w, h.1.0, h.1.1); grows = a.grows }
instr_told names types (instrs.Icmp r p t a b) s end d =
    let x = named_told names r s d.0 d.1 in
    let y = value_told names a d.2.0 d.2.2.0 d.2.2.1 in
    let z = value_told names b d.2.2.2.0 end d.2.2.2.2 in
    let w = type_shaped t d.2.1.1.2.0 d.2.0.1 d.2.1.1.2.2 in
    compared w (told_both x (told_second d.2.1.0 (told_both y (comma_told d.2.2.2.1 z))))
  where
    compared : {R A B C : Type 0} {s end : Locals} → R → Told names (A × (B × C)) s end → Told names (A × R × B × C) s end
    compared w a = record { shaped = λ e. let h = a.shaped e in (h.0, w, h.1.0, h.1.1); grows = a.grows }
instr_told names types (instrs.Select r c a b) s end d =
    let x = named_told names r s d.0 d.1 in
    let y = value_told names c d.2.0 d.2.2.0 d.2.2.1 in
    let z = typed_told names a d.2.2.2.0 d.2.2.2.2.0 d.2.2.2.2.1 in
    let w = typed_told names b d.2.2.2.2.2.0 end d.2.2.2.2.2.2 in
    selected (told_both x (told_second d.2.1.0 (told_both y (comma_told d.2.2.2.1 (told_both z (comma_told d.2.2.2.2.2.1 w))))))
  where
    selected : {A B C D : Type 0} {s end : Locals} → Told names (A × (B × (C × D))) s end → Told names (A × B × C × D) s end
    selected a = record { shaped = λ e. let h = a.shaped e in (h.0, h.1.0, h.1.1.0, h.1.1.1); grows = a.grows }
instr_told names types (instrs.Cast r op nneg a t) s end d =
    let x = named_told names r s d.0 d.1 in
    let y = typed_told names a d.2.0 d.2.2.0 d.2.2.1 in
    let q = cast_told op nneg d.0.1 d.2.0.1 d.2.1.1 in
    let w = type_shaped t d.2.2.2.1.0 end.1 d.2.2.2.1.2 in
    turned q w (told_both x (told_second d.2.1.0 (told_first y d.2.2.2.0)))
  where
    turned : {Q R A B : Type 0} {s end : Locals} → Q → R → Told names (A × B) s end → Told names (A × Q × B × R) s end
    turned q w a = record { shaped = λ e. let h = a.shaped e in (h.0, q, h.1, w); grows = a.grows }
instr_told names types (instrs.Alloca r t n) s end d =
    let x = named_told names r s d.0 d.1 in
    let w = type_shaped t d.2.1.0 d.2.1.2.0 d.2.1.2.1 in
    told_first (told_map (λ h. (h, w)) x) d.2.0
instr_told names types (instrs.Load r t p n) s end d =
    let x = named_told names r s d.0 d.1 in
    let y = value_told names p d.2.2.1.0 d.2.2.0 d.2.2.1.2 in
    let w = type_shaped t d.2.1.1.0 d.2.0.1 d.2.1.1.2 in
    loaded w (told_both x (told_second {m = d.2.0} d.2.1.0 (told_second {m = d.2.2.1.0} d.2.2.1.1.0 (told_first y d.2.2.2.0))))
  where
    loaded : {R A B : Type 0} {s end : Locals} → R → Told names (A × B) s end → Told names (A × R × B) s end
    loaded w a = record { shaped = λ e. let h = a.shaped e in (h.0, w, h.1); grows = a.grows }
instr_told names types (instrs.Store a p n) s end d =
    let x = typed_told names a d.0 d.2.0 d.2.1 in
    let y = value_told names p d.2.2.1.0 d.2.2.0 d.2.2.1.2 in
    told_second d.1.0 (told_both x (told_second d.2.2.1.1.0 (told_first y d.2.2.2.0)))
instr_told names types (instrs.Gep r inbounds t p is) s end d =
    let x = named_told names r s d.0 d.1 in
    let y = value_told names p d.2.2.1.0 d.2.2.0 d.2.2.1.2 in
    let z = indices_told names is d.2.2.0 end d.2.2.2 in
    let w = type_shaped t d.2.1.1.2.0 d.2.0.1 d.2.1.1.2.2 in
    indexed w (told_both x (told_second {m = d.2.0} d.2.1.0 (told_second {m = d.2.2.1.0} d.2.2.1.1.0 (told_both y z))))
  where
    indexed : {R A B C : Type 0} {s end : Locals} → R → Told names (A × (B × C)) s end → Told names (A × R × B × C) s end
    indexed w a = record { shaped = λ e. let h = a.shaped e in (h.0, w, h.1.0, h.1.1); grows = a.grows }
instr_told names types (instrs.Call (Some r) must t c args) s end d =
    called_of (told_both (named_told names r s d.0 d.1) (call_told names must t c args d.0 end d.2))
  where
    called_of : {A B C D : Type 0} {s end : Locals} → Told names (A × (B × (C × D))) s end → Told names (A × B × C × D) s end
    called_of a = record { shaped = λ e. let h = a.shaped e in (h.0, h.1.0, h.1.1.0, h.1.1.1); grows = a.grows }
instr_told names types (instrs.Call None must t c args) s end d =
    effect_of (call_told names must t c args s end d)
  where
    effect_of : {B C D : Type 0} {s end : Locals} → Told names (B × (C × D)) s end → Told names (Unit {0} × B × C × D) s end
    effect_of a = record { shaped = λ e. let h = a.shaped e in (tt, h.0, h.1.0, h.1.1); grows = a.grows }

-- ---- phis, terminators and blocks

incoming_told : (names : List Name) (i : Incoming) (s end : Locals) → IsIncoming i s end → Told names (shape.IsIncoming names i) s end
incoming_told names i s end d =
    told_second d.1.0 (told_both (value_told names i.value d.0 d.2.0 d.2.1) (comma_told d.2.2.1 (told_first (local_told names i.from d.2.2.0 d.2.2.2.0 d.2.2.2.1) d.2.2.2.2.0)))

all_incoming_told : (names : List Name) (is : List Incoming) (s end : Locals) → listed IsIncoming is s end → Told names (shape.Some_of (shape.IsIncoming names) is) s end
all_incoming_told names [] s end d = absurd d
all_incoming_told names (i ∷ is) s end d = told_both (incoming_told names i s d.0 d.1) (more_told names IsIncoming (shape.IsIncoming names) (incoming_told names) is d.0 end d.2)

phi_told : (names : List Name) (p : Phi) (s end : Locals) → IsPhiLine p s end → Told names (shape.IsPhi names p) s end
phi_told names p s end d =
    let x = named_told names p.result s d.1.0 d.1.1 in
    let y = all_incoming_told names p.incoming d.1.2.0 d.0 d.1.2.2 in
    let w = type_shaped p.ty d.1.2.1.1.0 d.1.2.0.1 d.1.2.1.1.2 in
    joined w (told_both x (told_second d.1.2.1.0 (told_first y d.2.0)))
  where
    joined : {R A B : Type 0} {s end : Locals} → R → Told names (A × B) s end → Told names (A × R × B) s end
    joined w a = record { shaped = λ e. let h = a.shaped e in (h.0, w, h.1); grows = a.grows }

line_told : (names : List Name) (types : List TypeItem) (i : Instr) (s end : Locals) → IsLine types i s end → Told names (shape.IsInstr names i) s end
line_told names types i s end d = told_first (instr_told names types i s d.0 d.1) d.2.0

case_told : (names : List Name) (c : Case) (s end : Locals) → IsCase c s end → Told names (shape.IsCase names c) s end
case_told names c s end d = told_both (typed_told names c.arg s d.0 d.1) (comma_told d.2.1 (target_told names c.target d.2.0 end d.2.2))

term_told : (names : List Name) (t : Terminator) (s end : Locals) → IsTerminator t s end → Told names (shape.IsTerminator names t) s end
term_told names (terms.Jump l) s end d = told_second d.1.0 (target_told names l d.0 end d.2)
term_told names (terms.Branch c l m) s end d =
    three (told_second d.1.0 (told_both (value_told names c d.0 d.2.0 d.2.1) (comma_told d.2.2.1 (told_both (target_told names l d.2.2.0 d.2.2.2.0 d.2.2.2.1) (comma_told d.2.2.2.2.1 (target_told names m d.2.2.2.2.0 end d.2.2.2.2.2))))))
  where
    three : {A B C : Type 0} {s end : Locals} → Told names (A × (B × C)) s end → Told names (A × B × C) s end
    three a = record { shaped = λ e. let h = a.shaped e in (h.0, h.1.0, h.1.1); grows = a.grows }
term_told names (terms.Switch a l cases) s end d =
    three (told_second d.1.0 (told_both (typed_told names a d.0 d.2.0 d.2.1) (comma_told d.2.2.1 (told_both (target_told names l d.2.2.0 d.2.2.2.0 d.2.2.2.1)
    (told_second d.2.2.2.2.1.0 (told_first (each_told names IsCase (shape.IsCase names) (case_told names) cases d.2.2.2.2.0 d.2.2.2.2.2.0 d.2.2.2.2.2.1) d.2.2.2.2.2.2.0))))))
  where
    three : {A B C : Type 0} {s end : Locals} → Told names (A × (B × C)) s end → Told names (A × B × C) s end
    three a = record { shaped = λ e. let h = a.shaped e in (h.0, h.1.0, h.1.1); grows = a.grows }
term_told names (terms.Ret None) s end d = told_plain d.0 tt
term_told names (terms.Ret (Some a)) s end d = told_second d.1.0 (typed_told names a d.0 end d.2)
term_told names terms.Unreachable s end d = told_plain d.0 tt

body_told : (names : List Name) (types : List TypeItem) (b : Block) (s end : Locals) → IsBody types b s end → Told names (shape.Each (shape.IsPhi names) b.phis × (shape.Each (shape.IsInstr names) b.instrs × shape.IsTerminator names b.term)) s end
body_told names types b s end d =
    told_both (each_told names IsPhiLine (shape.IsPhi names) (phi_told names) b.phis s d.0 d.1)
    (told_both (each_told names (IsLine types) (shape.IsInstr names) (line_told names types) b.instrs d.0 d.2.0 d.2.1)
    (told_first (term_told names b.term d.2.0 d.2.2.0 d.2.2.1) d.2.2.2.0))

with_label : {names : List Name} {A B C D : Type 0} {s end : Locals} → Told names (A × (B × (C × D))) s end → Told names (A × B × C × D) s end
with_label a = record { shaped = λ e. let h = a.shaped e in (h.0, h.1.0, h.1.1.0, h.1.1.1); grows = a.grows }

label_told : (names : List Name) (i : ℕ) (s end : Locals) → label i s end → Told names (shape.IsPlaced names i) s end
label_told names i s end d = place_told names d.0 i s end d.2

entry_label_told : (names : List Name) (k i : ℕ) (s end : Locals) → (label i ∥ unwritten_label k i) s end → Told names (shape.IsPlaced names i) s end
entry_label_told names k i s end (inl d) = label_told names i s end d
entry_label_told names k i s end (inr d) = place_told names (Name.Number k) i s end d.2

block_told : (names : List Name) (types : List TypeItem) (b : Block) (s end : Locals) → IsBlock types b s end → Told names (shape.IsBlock names b) s end
block_told names types b s end d = with_label (told_both (label_told names b.label s d.0 d.1) (body_told names types b d.0 end d.2))

blocks_told : (names : List Name) (types : List TypeItem) (k : ℕ) (bs : List Block) (s end : Locals) → AreBlocks types k bs s end → Told names (shape.Some_of (shape.IsBlock names) bs) s end
blocks_told names types k [] s end d = absurd d
blocks_told names types k (b ∷ bs) s end d =
    told_both (with_label (told_both (entry_label_told names k b.label s d.1.0 d.1.1) (body_told names types b d.1.0 d.0 d.1.2)))
    (each_told names (IsBlock types) (shape.IsBlock names) (block_told names types) bs d.0 end d.2)

-- ---- functions and items

written_types : (ps : List Written) (ts rest : List Sym) → commas IsParam ps ts rest → shape.Each shape.IsType (map (λ p. p.0) ps)
written_types [] ts rest d = tt
written_types (p ∷ ps) ts rest d = (type_shaped p.0 ts d.1.0 d.1.1, more_types ps d.0 rest d.2)
  where
    more_types : (ps : List Written) (ts rest : List Sym) → each next_param ps ts rest → shape.Each shape.IsType (map (λ p. p.0) ps)
    more_types [] ts rest d = tt
    more_types (p ∷ ps) ts rest d = (type_shaped p.0 d.1.0 d.1.2.0 d.1.2.1, more_types ps d.0 rest d.2)

params_told : (names : List Name) (ws : List Written) (ps : List Param) (k : ℕ) (ns : List Name) (k_end : ℕ) (ns_end : List Name) → AreNamed ws ps k ns k_end ns_end → shape.Each shape.IsType (map (λ p. p.0) ws) → Extends names ns_end → shape.Each (shape.IsParam names) ps
params_told names [] [] k ns k_end ns_end h t e = tt
params_told names [] (p ∷ ps) k ns k_end ns_end h t e = absurd h
params_told names (w ∷ ws) [] k ns k_end ns_end h t e = absurd h
params_told names (w ∷ ws) (p ∷ ps) k ns k_end ns_end h t e =
    let known = named_extends names ws ps (counted h.0 k) h.1 k_end ns_end h.5 e in
    ((subst shape.IsType (sym h.2) t.0, (h.0, place_found h.0 p.name h.4 known)), params_told names ws ps (counted h.0 k) h.1 k_end ns_end h.5 t.1 e)

function_shaped : (types : List TypeItem) (groups : List (List ℕ)) (f : Function) (ts rest : List Sym) → IsFunction types groups f ts rest → shape.IsFunction f
function_shaped types groups f ts rest d =
    let inner = blocks_told f.names types d.numbers f.blocks (d.names, d.body) (f.names, syms.Mark marks.CloseCurly ∷ rest) d.blocks in
    let all = whole_names f.names in
    let head = d.head.2.1 in (
      result_shaped f.result head.0 head.2.0 head.2.1,
      params_told f.names d.written f.params 0 [] d.numbers d.names d.params (written_types d.written head.2.2.2.0 head.2.2.2.2.0 head.2.2.2.2.1) (inner.grows all),
      inner.shaped all,
    )

declaration_shaped : (x : Declaration) (ts rest : List Sym) → IsDeclaration x ts rest → shape.IsDeclaration x
declaration_shaped x ts rest d =
    let head = d.2.2.1 in
    (result_shaped x.result head.0 head.2.0 head.2.1, subst (shape.Each shape.IsType) (sym d.1) (written_types d.0 head.2.2.2.0 head.2.2.2.2.0 head.2.2.2.2.1))

type_item_shaped : (t : TypeItem) (ts rest : List Sym) → IsTypeItem t ts rest → shape.IsTypeItem t
type_item_shaped t ts rest d = (d.0, d.1, type_shaped (structure d.0) d.2.0 rest d.2.2)

initial_shaped : (x : Operand) (ts rest : List Sym) → IsInitial x ts rest → shape.IsInitial x
initial_shaped (operands.Local i) ts rest d = absurd d
initial_shaped (operands.Global n) ts rest d = tt
initial_shaped (operands.Number z) ts rest d = tt
initial_shaped operands.True ts rest d = tt
initial_shaped operands.False ts rest d = tt
initial_shaped operands.Null ts rest d = tt
initial_shaped operands.None ts rest d = absurd d
initial_shaped operands.Poison ts rest d = absurd d

global_shaped : (types : List TypeItem) (g : GlobalItem) (ts rest : List Sym) → IsGlobal types g ts rest → shape.IsGlobal g
global_shaped types g ts rest d = (scalar_shaped g.ty d.2.2.2.0 d.2.2.2.2.0 d.2.2.2.2.1, initial_shaped g.init d.2.2.2.2.0 d.2.2.2.2.2.0 d.2.2.2.2.2.1)

items_shaped : (types : List TypeItem) (groups : List (List ℕ)) (is : List Item) (ts rest : List Sym) → each (IsItem types groups) is ts rest → shape.IsShaped (module_of is)
items_shaped types groups [] ts rest d = record { types = tt; globals = tt; declarations = tt; functions = tt }
items_shaped types groups (type_item t ∷ is) ts rest d =
    let r = items_shaped types groups is d.0 rest d.2 in
    record { types = (type_item_shaped t ts d.0 d.1, r.types); globals = r.globals; declarations = r.declarations; functions = r.functions }
items_shaped types groups (global_item g ∷ is) ts rest d =
    let r = items_shaped types groups is d.0 rest d.2 in
    record { types = r.types; globals = (global_shaped types g ts d.0 d.1, r.globals); declarations = r.declarations; functions = r.functions }
items_shaped types groups (declaration x ∷ is) ts rest d =
    let r = items_shaped types groups is d.0 rest d.2 in
    record { types = r.types; globals = r.globals; declarations = (declaration_shaped x ts d.0 d.1, r.declarations); functions = r.functions }
items_shaped types groups (function f ∷ is) ts rest d =
    let r = items_shaped types groups is d.0 rest d.2 in
    record { types = r.types; globals = r.globals; declarations = r.declarations; functions = (function_shaped types groups f ts d.0 d.1, r.functions) }
items_shaped types groups (group g ∷ is) ts rest d =
    let r = items_shaped types groups is d.0 rest d.2 in
    record { types = r.types; globals = r.globals; declarations = r.declarations; functions = r.functions }
items_shaped types groups (other ∷ is) ts rest d =
    let r = items_shaped types groups is d.0 rest d.2 in
    record { types = r.types; globals = r.globals; declarations = r.declarations; functions = r.functions }

pub text_is_shaped : (text : List ℕ) (m : Module) → StandsFor text m → shape.IsShaped m
text_is_shaped text m h = subst shape.IsShaped (sym h.kept) (items_shaped (types_of h.items) (groups_of h.items) h.items (symbols_of text).symbols [] h.are)
