-- What instructions, blocks and items take: at least a symbol.
use Rattle.std.proofs.Common.{ℕ, Bool, true, false, List, [], ◌∷◌, length, Option, Some, None}
use Rattle.ir_base.specs.declared.ops.BinOp.{BinOp}
use Rattle.ir_base.specs.declared.ops.BinOp.TheVariants as ops
use Rattle.ir_base.specs.declared.ops.CastOp.{CastOp}
use Rattle.ir_base.specs.declared.ops.CastOp.TheVariants as casts
use Rattle.ir_base.specs.declared.ops.Flags.{Flags}
use Rattle.ir_model.specs.Ty.{Ty}
use Rattle.ir_model.specs.declared.instr.Case.{Case}
use Rattle.ir_model.specs.declared.instr.Incoming.{Incoming}
use Rattle.ir_model.specs.declared.instr.Instr.{Instr}
use Rattle.ir_model.specs.declared.instr.Instr.TheVariants as instrs
use Rattle.ir_model.specs.declared.instr.Phi.{Phi}
use Rattle.ir_model.specs.declared.instr.Terminator.{Terminator}
use Rattle.ir_model.specs.declared.instr.Terminator.TheVariants as terms
use Rattle.ir_model.specs.declared.module.Block.{Block}
use Rattle.ir_model.specs.declared.module.TypeItem.{TypeItem}
use Rattle.ir_model.specs.declared.operand.Arg.{Arg}
use Rattle.ir_model.specs.declared.operand.Callee.{Callee}
use Rattle.ir_model.specs.declared.operand.Callee.TheVariants as callees
use Rattle.text_grammar.specs.Attributes.{attributes, metadata}
use Rattle.text_grammar.specs.Phrases.{◌⨾◌, some, each, comma, behind_comma, listed}
use Rattle.text_grammar.specs.Types.{IsType, IsResult}
use Rattle.text_grammar.specs.Values.{local, IsValue, IsTyped, IsArg, IsTarget, IsAddress, IsAligned}
use Rattle.text_grammar.specs.Instructions.{Wrap, nuw, nsw, IsWrap, AreFlags, AreWraps, MayBeExact, MayBeDisjoint, WithoutFlags, IsOperation, IsCast, IsCallee, IsTail, AreArgs, IsCall, IsNamed, IsInstr}
use Rattle.text_grammar.specs.Blocks.{IsIncoming, IsPhi, IsCase, IsTerminator, IsPhiLine, IsLine, IsBody, label, unwritten_label, IsBlock, IsEntry, AreBlocks}
use Rattle.text_grammar.proofs.Takes.{takes_keeps, nothing_keeps, never_takes, seq_keeps, seq_takes, seq_takes_later, or_keeps, each_keeps, some_takes, KeepsSymbols, one, one_keeps, flag_keeps, left, KeepsLocals, TakesLocals, plain_keeps, plain_takes, comma_takes, behind_comma_takes, listed_takes, type_keeps, result_takes, attributes_keep, metadata_keep, local_takes, value_keeps, typed_takes, arg_takes, target_takes, address_takes, aligned_keeps}

-- ---- operations

wrap_keeps : (w : Wrap) → KeepsSymbols (IsWrap w)
wrap_keeps nuw = one_keeps
wrap_keeps nsw = one_keeps

wraps_keep : (f : Flags) → KeepsSymbols (AreWraps f)
wraps_keep f ts rest h = each_keeps length IsWrap wrap_keeps h.0 ts rest h.2

exact_keeps : (f : Flags) → KeepsSymbols (MayBeExact f)
exact_keeps f ts rest h = flag_keeps _ h.0 ts rest h.2

disjoint_keeps : (f : Flags) → KeepsSymbols (MayBeDisjoint f)
disjoint_keeps f ts rest h = flag_keeps _ h.0 ts rest h.2

without_keeps : (f : Flags) → KeepsSymbols (WithoutFlags f)
without_keeps f ts rest h = nothing_keeps length ts rest h.1

flags_keep : (op : BinOp) (f : Flags) → KeepsSymbols (AreFlags op f)
flags_keep ops.Add f = wraps_keep f
flags_keep ops.Sub f = wraps_keep f
flags_keep ops.Mul f = wraps_keep f
flags_keep ops.Shl f = wraps_keep f
flags_keep ops.UDiv f = exact_keeps f
flags_keep ops.SDiv f = exact_keeps f
flags_keep ops.LShr f = exact_keeps f
flags_keep ops.AShr f = exact_keeps f
flags_keep ops.Or f = disjoint_keeps f
flags_keep ops.URem f = without_keeps f
flags_keep ops.SRem f = without_keeps f
flags_keep ops.And f = without_keeps f
flags_keep ops.Xor f = without_keeps f

operation_keeps : (op : BinOp) (f : Flags) → KeepsSymbols (IsOperation op f)
operation_keeps op f = seq_keeps length _ (AreFlags op f) one_keeps (flags_keep op f)

cast_keeps : (op : CastOp) (nneg : Bool) → KeepsSymbols (IsCast op nneg)
cast_keeps casts.Zext nneg ts rest h = seq_keeps length _ _ one_keeps (flag_keeps _ nneg) ts rest h
cast_keeps casts.Trunc nneg ts rest h = one_keeps ts rest h.1
cast_keeps casts.Sext nneg ts rest h = one_keeps ts rest h.1

-- ---- calls

callee_keeps : (c : Callee) → KeepsLocals (IsCallee c)
callee_keeps (callees.Local i) s end h = takes_keeps left (local i) (local_takes i) s end h
callee_keeps (callees.Named n) s end h = one_keeps s.1 end.1 h.1.2
callee_keeps (callees.Allocator a) s end h = one_keeps s.1 end.1 h.1.2
callee_keeps (callees.Intrinsic i) s end h = one_keeps s.1 end.1 h.1.2

tail_keeps : (must : Bool) → KeepsSymbols (IsTail must)
tail_keeps true = one_keeps
tail_keeps false = or_keeps length _ _ one_keeps (or_keeps length _ _ one_keeps (nothing_keeps length))

args_keep : (args : List Arg) → KeepsLocals (AreArgs args)
args_keep [] = nothing_keeps left
args_keep (a ∷ args) = takes_keeps left _ (listed_takes IsArg arg_takes (a ∷ args))

call_takes : (must : Bool) (t : Option Ty) (callee : Callee) (args : List Arg) → TakesLocals (IsCall must t callee args)
call_takes must t callee args =
    seq_takes left _ _ (plain_takes _ (seq_takes_later length (IsTail must) _ (tail_keeps must) (seq_takes length _ _ one (seq_keeps length attributes (IsResult t) attributes_keep (takes_keeps length _ (result_takes t))))))
    (seq_keeps left (IsCallee callee) _ (callee_keeps callee)
    (seq_keeps left _ _ (plain_keeps _ one_keeps)
    (seq_keeps left (AreArgs args) _ (args_keep args)
    (plain_keeps _ (seq_keeps length _ attributes one_keeps attributes_keep)))))

-- ---- instructions

named_takes : (r : ℕ) → TakesLocals (IsNamed r)
named_takes r = seq_takes left (local r) _ (local_takes r) (plain_keeps _ one_keeps)

comma_then : (v : _) → KeepsLocals (comma ⨾ IsValue v)
comma_then v = seq_keeps left comma (IsValue v) (takes_keeps left _ comma_takes) (value_keeps v)

-- a value, a comma and another value
operands_keep : (a b : _) → KeepsLocals (IsValue a ⨾ comma ⨾ IsValue b)
operands_keep a b = seq_keeps left (IsValue a) _ (value_keeps a) (comma_then b)

typed_keeps : (a : Arg) → KeepsLocals (IsTyped a)
typed_keeps a = takes_keeps left (IsTyped a) (typed_takes a)

address_keeps : (p : _) → KeepsLocals (IsAddress p)
address_keeps p = takes_keeps left (IsAddress p) (address_takes p)

pub instr_takes : (types : List TypeItem) (i : Instr) → TakesLocals (IsInstr types i)
instr_takes types (instrs.Binary r op f t a b) =
    seq_takes left (IsNamed r) _ (named_takes r) (seq_keeps left _ _ (plain_keeps _ (seq_keeps length (IsOperation op f) (IsType t) (operation_keeps op f) (type_keeps t))) (operands_keep a b))
instr_takes types (instrs.Icmp r p t a b) =
    seq_takes left (IsNamed r) _ (named_takes r) (seq_keeps left _ _ (plain_keeps _ (seq_keeps length _ _ one_keeps (seq_keeps length _ (IsType t) one_keeps (type_keeps t)))) (operands_keep a b))
instr_takes types (instrs.Select r c x y) =
    seq_takes left (IsNamed r) _ (named_takes r)
    (seq_keeps left _ _ (plain_keeps _ (seq_keeps length _ _ one_keeps one_keeps))
    (seq_keeps left (IsValue c) _ (value_keeps c)
    (seq_keeps left comma _ (takes_keeps left _ comma_takes)
    (seq_keeps left (IsTyped x) _ (typed_keeps x)
    (seq_keeps left comma (IsTyped y) (takes_keeps left _ comma_takes) (typed_keeps y))))))
instr_takes types (instrs.Cast r op nneg a t) =
    seq_takes left (IsNamed r) _ (named_takes r)
    (seq_keeps left _ _ (plain_keeps (IsCast op nneg) (cast_keeps op nneg))
    (seq_keeps left (IsTyped a) _ (typed_keeps a) (plain_keeps _ (seq_keeps length _ (IsType t) one_keeps (type_keeps t)))))
instr_takes types (instrs.Alloca r t n) =
    seq_takes left (IsNamed r) _ (named_takes r) (plain_keeps _ (seq_keeps length _ _ one_keeps (seq_keeps length (IsType t) (IsAligned types t n) (type_keeps t) (aligned_keeps types t n))))
instr_takes types (instrs.Load r t p n) =
    seq_takes left (IsNamed r) _ (named_takes r)
    (seq_keeps left _ _ (plain_keeps _ (seq_keeps length _ (IsType t) one_keeps (type_keeps t)))
    (seq_keeps left (IsAddress p) _ (address_keeps p) (plain_keeps (IsAligned types t n) (aligned_keeps types t n))))
instr_takes types (instrs.Store a p n) =
    seq_takes left _ _ (plain_takes _ one)
    (seq_keeps left (IsTyped a) _ (typed_keeps a)
    (seq_keeps left (IsAddress p) _ (address_keeps p) (plain_keeps (IsAligned types a.ty n) (aligned_keeps types a.ty n))))
instr_takes types (instrs.Gep r inbounds t p is) =
    seq_takes left (IsNamed r) _ (named_takes r)
    (seq_keeps left _ _ (plain_keeps _ (seq_keeps length _ _ one_keeps (seq_keeps length _ (IsType t) (flag_keeps _ inbounds) (type_keeps t))))
    (seq_keeps left (IsAddress p) _ (address_keeps p) (takes_keeps left (some (behind_comma IsTyped) is) (some_takes left (behind_comma IsTyped) (behind_comma_takes IsTyped typed_keeps) is))))
instr_takes types (instrs.Call (Some r) must t callee args) = seq_takes left (IsNamed r) (IsCall must t callee args) (named_takes r) (takes_keeps left _ (call_takes must t callee args))
instr_takes types (instrs.Call None must t callee args) = call_takes must t callee args

-- ---- lines

pub incoming_takes : (i : Incoming) → TakesLocals (IsIncoming i)
incoming_takes i =
    seq_takes left _ _ (plain_takes _ one)
    (seq_keeps left (IsValue i.value) _ (value_keeps i.value)
    (seq_keeps left comma _ (takes_keeps left _ comma_takes)
    (seq_keeps left (local i.from) _ (takes_keeps left (local i.from) (local_takes i.from)) (plain_keeps _ one_keeps))))

pub phi_takes : (p : Phi) → TakesLocals (IsPhi p)
phi_takes p =
    seq_takes left (IsNamed p.result) _ (named_takes p.result)
    (seq_keeps left _ (listed IsIncoming p.incoming) (plain_keeps _ (seq_keeps length _ (IsType p.ty) one_keeps (type_keeps p.ty)))
    (takes_keeps left _ (listed_takes IsIncoming incoming_takes p.incoming)))

pub phi_line_takes : (p : Phi) → TakesLocals (IsPhiLine p)
phi_line_takes p = seq_takes left (IsPhi p) _ (phi_takes p) (plain_keeps metadata metadata_keep)

pub line_takes : (types : List TypeItem) (i : Instr) → TakesLocals (IsLine types i)
line_takes types i = seq_takes left (IsInstr types i) _ (instr_takes types i) (plain_keeps metadata metadata_keep)

target_keeps : (i : ℕ) → KeepsLocals (IsTarget i)
target_keeps i = takes_keeps left (IsTarget i) (target_takes i)

comma_target : (i : ℕ) → KeepsLocals (comma ⨾ IsTarget i)
comma_target i = seq_keeps left comma (IsTarget i) (takes_keeps left _ comma_takes) (target_keeps i)

pub case_takes : (c : Case) → TakesLocals (IsCase c)
case_takes c = seq_takes left (IsTyped c.arg) _ (typed_takes c.arg) (comma_target c.target)

terminator_keeps : (t : Terminator) → KeepsLocals (IsTerminator t)
terminator_keeps (terms.Jump l) = seq_keeps left _ (IsTarget l) (plain_keeps _ one_keeps) (target_keeps l)
terminator_keeps (terms.Branch c x y) =
    seq_keeps left _ _ (plain_keeps _ (seq_keeps length _ _ one_keeps one_keeps))
    (seq_keeps left (IsValue c) _ (value_keeps c)
    (seq_keeps left comma _ (takes_keeps left _ comma_takes)
    (seq_keeps left (IsTarget x) _ (target_keeps x) (comma_target y))))
terminator_keeps (terms.Switch a l cases) =
    seq_keeps left _ _ (plain_keeps _ one_keeps)
    (seq_keeps left (IsTyped a) _ (typed_keeps a)
    (seq_keeps left comma _ (takes_keeps left _ comma_takes)
    (seq_keeps left (IsTarget l) _ (target_keeps l)
    (seq_keeps left _ _ (plain_keeps _ one_keeps)
    (seq_keeps left (each IsCase cases) _ (each_keeps left IsCase (λ c. takes_keeps left (IsCase c) (case_takes c)) cases) (plain_keeps _ one_keeps))))))
terminator_keeps (terms.Ret None) = plain_keeps _ (seq_keeps length _ _ one_keeps one_keeps)
terminator_keeps (terms.Ret (Some a)) = seq_keeps left _ (IsTyped a) (plain_keeps _ one_keeps) (typed_keeps a)
terminator_keeps terms.Unreachable = plain_keeps _ one_keeps

-- ---- blocks

body_keeps : (types : List TypeItem) (b : Block) → KeepsLocals (IsBody types b)
body_keeps types b =
    seq_keeps left (each IsPhiLine b.phis) _ (each_keeps left IsPhiLine (λ p. takes_keeps left (IsPhiLine p) (phi_line_takes p)) b.phis)
    (seq_keeps left (each (IsLine types) b.instrs) _ (each_keeps left (IsLine types) (λ i. takes_keeps left (IsLine types i) (line_takes types i)) b.instrs)
    (seq_keeps left (IsTerminator b.term) _ (terminator_keeps b.term) (plain_keeps metadata metadata_keep)))

label_takes : (i : ℕ) → TakesLocals (label i)
label_takes i s end h = one s.1 end.1 h.1

unwritten_keeps : (k i : ℕ) → KeepsLocals (unwritten_label k i)
unwritten_keeps k i s end h = nothing_keeps length s.1 end.1 h.1

pub block_takes : (types : List TypeItem) (b : Block) → TakesLocals (IsBlock types b)
block_takes types b = seq_takes left (label b.label) (IsBody types b) (label_takes b.label) (body_keeps types b)

entry_keeps : (types : List TypeItem) (k : ℕ) (b : Block) → KeepsLocals (IsEntry types k b)
entry_keeps types k b =
    seq_keeps left _ (IsBody types b) (or_keeps left (label b.label) (unwritten_label k b.label) (takes_keeps left (label b.label) (label_takes b.label)) (unwritten_keeps k b.label)) (body_keeps types b)

pub blocks_keep : (types : List TypeItem) (k : ℕ) (bs : List Block) → KeepsLocals (AreBlocks types k bs)
blocks_keep types k [] = takes_keeps left _ (never_takes left)
blocks_keep types k (b ∷ bs) = seq_keeps left (IsEntry types k b) _ (entry_keeps types k b) (each_keeps left (IsBlock types) (λ c. takes_keeps left (IsBlock types c) (block_takes types c)) bs)
