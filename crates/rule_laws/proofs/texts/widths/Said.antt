-- The phrases of types, values, instructions, blocks and items keep what holds of each symbol, and of each name of a function.
use Rattle.std.proofs.Common.{◌≡◌, ℕ, ◌<◌, ℤ, pos, ◌-ℤ◌, ◌⊎◌, inl, inr, List, [], ◌∷◌, ◌++◌, sym, subst}
use Rattle.std.specs.Prelude.{Bool, true, false, Option, Some, None, ◌^◌}
use Rattle.ir_laws.specs.ir_base.declared.name.Name.{Name}
use Rattle.ir_laws.specs.ir_base.declared.ops.BinOp.{BinOp}
use Rattle.ir_laws.specs.ir_base.declared.ops.CastOp.{CastOp}
use Rattle.ir_laws.specs.ir_base.declared.ops.Flags.{Flags}
use Rattle.text_grammar.specs.Attributes.{Attr, IsAttr}
use Rattle.text_grammar.specs.Blocks.{AreBlocks, IsBlock, IsBody, IsCase, IsIncoming, IsLine, IsPhi, IsPhiLine, IsTerminator, label, unwritten_label}
use Rattle.text_grammar.specs.Functions.{AreNamed, AreParams, IsDeclaration, IsFunction, IsHead, IsParam, IsParamName, IsWrittenName, Written, counted}
use Rattle.text_grammar.specs.Instructions.{AreArgs, AreFlags, AreWraps, IsCall, IsCallee, IsCast, IsInstr, IsNamed, IsOperation, IsTail, IsWrap, MayBeDisjoint, MayBeExact, WithoutFlags, Wrap, nsw, nuw}
use Rattle.text_grammar.specs.Items.{IsAttributes, IsItem, IsKeyword, Item, attributes_item, comdat_item, declaration, function, global_item, group, metadata_item, other, target_item, type_item}
use Rattle.text_grammar.specs.Phrases.{Phrase, ◌⨾◌, commas, each, mark, plain, these}
use Rattle.text_grammar.specs.Types.{AreFields, IsInt, IsResult, IsScalar, IsType}
use Rattle.text_grammar.specs.Values.{IsAddress, IsAligned, IsArg, IsInitial, IsPlace, IsTarget, IsTyped, IsValue, global, integer, local}
use Rattle.ir_laws.specs.ir_model.Table.{callee_named}
use Rattle.ir_laws.specs.ir_model.Ty.{Ty, Tys, int, ptr, token, array, structure, named, none, field}
use Rattle.ir_laws.specs.ir_model.declared.instr.Case.{Case}
use Rattle.ir_laws.specs.ir_model.declared.instr.Incoming.{Incoming}
use Rattle.ir_laws.specs.ir_model.declared.instr.Instr.{Instr}
use Rattle.ir_laws.specs.ir_model.declared.instr.Phi.{Phi}
use Rattle.ir_laws.specs.ir_model.declared.instr.Terminator.{Terminator}
use Rattle.ir_laws.specs.ir_model.declared.module.Block.{Block}
use Rattle.ir_laws.specs.ir_model.declared.module.Declaration.{Declaration}
use Rattle.ir_laws.specs.ir_model.declared.module.Function.{Function}
use Rattle.ir_laws.specs.ir_model.declared.module.TypeItem.{TypeItem}
use Rattle.ir_laws.specs.ir_model.declared.operand.Arg.{Arg}
use Rattle.ir_laws.specs.ir_model.declared.operand.Callee.{Callee}
use Rattle.ir_laws.specs.ir_model.declared.operand.Operand.{Operand}
use Rattle.ir_laws.specs.ir_model.declared.module.Param.{Param}
use Rattle.text_symbols.specs.declared.sym.Sym.{Sym}
use Rattle.text_canonical.specs.order.Shape.{Each}
use Rattle.rule_laws.proofs.texts.widths.Kept.{Keeps, KeepsIn, in_behind_comma, in_comma, in_each, in_listed, in_never, in_nothing, in_or, in_plain, in_seq, in_some, kept_attr, kept_attributes, kept_commas, kept_curly, kept_each, kept_flag, kept_mark, kept_metadata, kept_never, kept_nothing, kept_or, kept_pairs, kept_perhaps, kept_round, kept_seq, kept_these, kept_word}
use Rattle.ir_laws.specs.ir_base.declared.ops.BinOp.TheVariants as ops
use Rattle.ir_laws.specs.ir_base.declared.ops.CastOp.TheVariants as casts
use Rattle.ir_laws.specs.ir_model.declared.instr.Instr.TheVariants as instrs
use Rattle.ir_laws.specs.ir_model.declared.instr.Terminator.TheVariants as terms
use Rattle.ir_laws.specs.ir_model.declared.operand.Callee.TheVariants as callees
use Rattle.ir_laws.specs.ir_model.declared.operand.Operand.TheVariants as operands
use Rattle.ir_laws.specs.ir_model.declared.ir_type.IntWidth.TheVariants as widths
use Rattle.text_symbols.specs.declared.sym.Mark.TheVariants as marks
use Rattle.text_symbols.specs.declared.sym.Sym.TheVariants as syms
use Rattle.text_symbols.specs.declared.word.Word.TheVariants as words

module _ (G : Sym → Type 0) (H : Name → Type 0) (locals : (n : Name) → G (syms.Local (Some n)) → H n) (labels : (n : Name) → G (syms.Label (Some n)) → H n) (numbers : (k : ℕ) → k < 2 ^ 32 → H (Name.Number k)) where
  -- ---- types

  kept_int : (bits : ℕ) → Keeps G (IsInt bits)
  kept_int bits = record { at = λ ts rest h g. (kept_word G (words.Int h.0)).at ts rest h.2 g }

  mutual
    kept_type : (t : Ty) → Keeps G (IsType t)
    kept_type (int bits) = kept_int bits
    kept_type ptr = kept_word G words.Ptr
    kept_type token = kept_word G words.Token
    kept_type (array n t) = kept_seq G (kept_these G (syms.Mark marks.OpenSquare ∷ syms.Int n ∷ syms.Word words.X ∷ [])) (kept_seq G (kept_type t) (kept_mark G marks.CloseSquare))
    kept_type (structure fs) = kept_seq G (kept_mark G marks.OpenCurly) (kept_seq G (kept_fields fs) (kept_mark G marks.CloseCurly))
    kept_type (named n) = kept_these G (syms.Local (Some n) ∷ [])

    kept_fields : (fs : Tys) → Keeps G (AreFields fs)
    kept_fields none = kept_nothing G
    kept_fields (field t none) = kept_type t
    kept_fields (field t (field u fs)) = kept_seq G (kept_type t) (kept_seq G (kept_mark G marks.Comma) (kept_fields (field u fs)))

  kept_scalar : (t : Ty) → Keeps G (IsScalar t)
  kept_scalar (int bits) = kept_int bits
  kept_scalar ptr = kept_word G words.Ptr
  kept_scalar token = kept_never G
  kept_scalar (array n t) = kept_never G
  kept_scalar (structure fs) = kept_never G
  kept_scalar (named n) = kept_never G

  kept_result : (t : Option Ty) → Keeps G (IsResult t)
  kept_result None = kept_word G words.Void
  kept_result (Some t) = kept_type t

  -- ---- values

  one_more : (ns : List Name) (n : Name) → Each H ns → H n → Each H (ns ++ n ∷ [])
  one_more [] n h k = (k, tt)
  one_more (m ∷ ns) n h k = (h.0, one_more ns n h.1 k)

  place_kept : (ns : List Name) (n : Name) (i : ℕ) (ms : List Name) → IsPlace ns n i ms → Each H ns → H n → Each H ms
  place_kept ns n i ms (inl p) h k = subst (Each H) (sym p.1) h
  place_kept ns n i ms (inr p) h k = subst (Each H) (sym p.2) (one_more ns n h k)

  in_local : (i : ℕ) → KeepsIn G H (local i)
  in_local i =
      record {
        at = λ s end h g.
            let first = subst (Each G) h.1 g.1 in
            (place_kept s.0 h.0 i end.0 h.2 g.0 (locals h.0 first.0), first.1);
      }

  kept_integer : (z : ℤ) → Keeps G (integer z)
  kept_integer z = record { at = λ ts rest h g. on ts rest h.0 h.1 g }
    where
      on : (ts rest : List Sym) (n : ℕ) → (((z ≡ pos n) × these (syms.Int n ∷ []) ts rest) ⊎ ((z ≡ pos 0 -ℤ pos n) × these (syms.Negative n ∷ []) ts rest)) → Each G ts → Each G rest
      on ts rest n (inl h) g = (kept_these G (syms.Int n ∷ [])).at ts rest h.1 g
      on ts rest n (inr h) g = (kept_these G (syms.Negative n ∷ [])).at ts rest h.1 g

  kept_global : (n : Name) → Keeps G (global n)
  kept_global n = kept_these G (syms.Global (Some n) ∷ [])

  in_value : (x : Operand) → KeepsIn G H (IsValue x)
  in_value (operands.Local i) = in_local i
  in_value (operands.Global n) = in_plain G H (kept_global n)
  in_value (operands.Number z) = in_plain G H (kept_integer z)
  in_value operands.True = in_plain G H (kept_word G words.True)
  in_value operands.False = in_plain G H (kept_word G words.False)
  in_value operands.Null = in_plain G H (kept_word G words.Null)
  in_value operands.None = in_plain G H (kept_word G words.None)
  in_value operands.Poison = in_plain G H (kept_word G words.Poison)

  kept_initial : (x : Operand) → Keeps G (IsInitial x)
  kept_initial (operands.Global n) = kept_global n
  kept_initial (operands.Number z) = kept_integer z
  kept_initial operands.True = kept_word G words.True
  kept_initial operands.False = kept_word G words.False
  kept_initial operands.Null = kept_word G words.Null
  kept_initial operands.None = kept_never G
  kept_initial operands.Poison = kept_never G
  kept_initial (operands.Local i) = kept_never G

  in_typed : (a : Arg) → KeepsIn G H (IsTyped a)
  in_typed a = in_seq G H (in_plain G H (kept_type a.ty)) (in_value a.value)

  in_arg : (a : Arg) → KeepsIn G H (IsArg a)
  in_arg a = in_seq G H (in_plain G H (kept_seq G (kept_type a.ty) (kept_attributes G))) (in_value a.value)

  in_target : (i : ℕ) → KeepsIn G H (IsTarget i)
  in_target i = in_seq G H (in_plain G H (kept_word G words.Label)) (in_local i)

  in_address : (p : Operand) → KeepsIn G H (IsAddress p)
  in_address p = in_seq G H (in_plain G H (kept_these G (syms.Mark marks.Comma ∷ syms.Word words.Ptr ∷ []))) (in_value p)

  kept_aligned : (types : List TypeItem) (t : Ty) (n : ℕ) → Keeps G (IsAligned types t n)
  kept_aligned types t n = record { at = on }
    where
      on : (ts rest : List Sym) → IsAligned types t n ts rest → Each G ts → Each G rest
      on ts rest (inl h) g = (kept_these G (syms.Mark marks.Comma ∷ syms.Word words.Align ∷ syms.Int n ∷ [])).at ts rest h g
      on ts rest (inr (inl h)) g = (kept_these G (syms.Mark marks.Comma ∷ syms.Word words.Align ∷ syms.Negative h.0 ∷ [])).at ts rest h.2 g
      on ts rest (inr (inr h)) g = (kept_nothing G).at ts rest h.1 g

  -- ---- instructions

  kept_wrap : (w : Wrap) → Keeps G (IsWrap w)
  kept_wrap nuw = kept_word G words.Nuw
  kept_wrap nsw = kept_word G words.Nsw

  wraps : (f : Flags) → Keeps G (AreWraps f)
  wraps f = record { at = λ ts rest h g. (kept_each G {P = IsWrap} kept_wrap h.0).at ts rest h.2 g }

  exact : (f : Flags) → Keeps G (MayBeExact f)
  exact f = record { at = λ ts rest h g. (kept_flag G words.Exact h.0).at ts rest h.2 g }

  disjoint : (f : Flags) → Keeps G (MayBeDisjoint f)
  disjoint f = record { at = λ ts rest h g. (kept_flag G words.Disjoint h.0).at ts rest h.2 g }

  flagless : (f : Flags) → Keeps G (WithoutFlags f)
  flagless f = record { at = λ ts rest h g. (kept_nothing G).at ts rest h.1 g }

  kept_flags : (op : BinOp) (f : Flags) → Keeps G (AreFlags op f)
  kept_flags ops.Add f = wraps f
  kept_flags ops.Sub f = wraps f
  kept_flags ops.Mul f = wraps f
  kept_flags ops.Shl f = wraps f
  kept_flags ops.UDiv f = exact f
  kept_flags ops.SDiv f = exact f
  kept_flags ops.LShr f = exact f
  kept_flags ops.AShr f = exact f
  kept_flags ops.Or f = disjoint f
  kept_flags ops.URem f = flagless f
  kept_flags ops.SRem f = flagless f
  kept_flags ops.And f = flagless f
  kept_flags ops.Xor f = flagless f

  kept_operation : (op : BinOp) (f : Flags) → Keeps G (IsOperation op f)
  kept_operation op f = kept_seq G (kept_word G (words.Bin op)) (kept_flags op f)

  kept_cast : (op : CastOp) (nneg : Bool) → Keeps G (IsCast op nneg)
  kept_cast casts.Zext nneg = kept_seq G (kept_word G (words.Cast casts.Zext)) (kept_flag G words.Nneg nneg)
  kept_cast casts.Trunc nneg = record { at = λ ts rest h g. (kept_word G (words.Cast casts.Trunc)).at ts rest h.1 g }
  kept_cast casts.Sext nneg = record { at = λ ts rest h g. (kept_word G (words.Cast casts.Sext)).at ts rest h.1 g }

  named_callee : (c : Callee) → KeepsIn G H (plain (λ ts rest. (n : Name) × (c ≡ callee_named n) × global n ts rest))
  named_callee c = record { at = λ s end h g. (subst (Each H) h.0 g.0, (kept_global h.1.0).at s.1 end.1 h.1.2 g.1) }

  in_callee : (c : Callee) → KeepsIn G H (IsCallee c)
  in_callee (callees.Local i) = in_local i
  in_callee (callees.Intrinsic x) = named_callee (callees.Intrinsic x)
  in_callee (callees.Allocator x) = named_callee (callees.Allocator x)
  in_callee (callees.Named n) = named_callee (callees.Named n)

  kept_tail : (must : Bool) → Keeps G (IsTail must)
  kept_tail true = kept_word G words.Musttail
  kept_tail false = kept_or G (kept_word G words.Tail) (kept_or G (kept_word G words.Notail) (kept_nothing G))

  in_args : (args : List Arg) → KeepsIn G H (AreArgs args)
  in_args [] = in_nothing G H
  in_args (a ∷ args) = in_listed G H {P = IsArg} in_arg (a ∷ args)

  in_call : (must : Bool) (t : Option Ty) (c : Callee) (args : List Arg) → KeepsIn G H (IsCall must t c args)
  in_call must t c args =
      in_seq G H (in_plain G H (kept_seq G (kept_tail must) (kept_seq G (kept_word G words.Call) (kept_seq G (kept_attributes G) (kept_result t)))))
      (in_seq G H (in_callee c) (in_seq G H (in_plain G H (kept_mark G marks.OpenRound)) (in_seq G H (in_args args) (in_plain G H (kept_seq G (kept_mark G marks.CloseRound) (kept_attributes G))))))

  in_named : (r : ℕ) → KeepsIn G H (IsNamed r)
  in_named r = in_seq G H (in_local r) (in_plain G H (kept_mark G marks.Equals))

  in_instr : (types : List TypeItem) (i : Instr) → KeepsIn G H (IsInstr types i)
  in_instr types (instrs.Binary r op f t a b) = in_seq G H (in_named r) (in_seq G H (in_plain G H (kept_seq G (kept_operation op f) (kept_type t))) (in_seq G H (in_value a) (in_seq G H (in_comma G H) (in_value b))))
  in_instr types (instrs.Icmp r p t a b) = in_seq G H (in_named r) (in_seq G H (in_plain G H (kept_seq G (kept_word G words.Icmp) (kept_seq G (kept_word G (words.Pred p)) (kept_type t)))) (in_seq G H (in_value a) (in_seq G H (in_comma G H) (in_value b))))
  in_instr types (instrs.Select r c a b) =
      in_seq G H (in_named r) (in_seq G H (in_plain G H (kept_seq G (kept_word G words.Select) (kept_word G (words.Int widths.I1)))) (in_seq G H (in_value c) (in_seq G H (in_comma G H) (in_seq G H (in_typed a) (in_seq G H (in_comma G H) (in_typed b))))))
  in_instr types (instrs.Cast r op nneg a t) = in_seq G H (in_named r) (in_seq G H (in_plain G H (kept_cast op nneg)) (in_seq G H (in_typed a) (in_plain G H (kept_seq G (kept_word G words.To) (kept_type t)))))
  in_instr types (instrs.Alloca r t n) = in_seq G H (in_named r) (in_plain G H (kept_seq G (kept_word G words.Alloca) (kept_seq G (kept_type t) (kept_aligned types t n))))
  in_instr types (instrs.Load r t p n) = in_seq G H (in_named r) (in_seq G H (in_plain G H (kept_seq G (kept_word G words.Load) (kept_type t))) (in_seq G H (in_address p) (in_plain G H (kept_aligned types t n))))
  in_instr types (instrs.Store a p n) = in_seq G H (in_plain G H (kept_word G words.Store)) (in_seq G H (in_typed a) (in_seq G H (in_address p) (in_plain G H (kept_aligned types a.ty n))))
  in_instr types (instrs.Gep r inbounds t p is) =
      in_seq G H (in_named r) (in_seq G H (in_plain G H (kept_seq G (kept_word G words.Getelementptr) (kept_seq G (kept_flag G words.Inbounds inbounds) (kept_type t)))) (in_seq G H (in_address p) (in_some G H (in_behind_comma G H {P = IsTyped} in_typed) is)))
  in_instr types (instrs.Call (Some r) must t callee args) = in_seq G H (in_named r) (in_call must t callee args)
  in_instr types (instrs.Call None must t callee args) = in_call must t callee args

  -- ---- blocks

  in_incoming : (i : Incoming) → KeepsIn G H (IsIncoming i)
  in_incoming i = in_seq G H (in_plain G H (kept_mark G marks.OpenSquare)) (in_seq G H (in_value i.value) (in_seq G H (in_comma G H) (in_seq G H (in_local i.from) (in_plain G H (kept_mark G marks.CloseSquare)))))

  in_phi : (p : Phi) → KeepsIn G H (IsPhi p)
  in_phi p = in_seq G H (in_named p.result) (in_seq G H (in_plain G H (kept_seq G (kept_word G words.Phi) (kept_type p.ty))) (in_listed G H {P = IsIncoming} in_incoming p.incoming))

  in_case : (c : Case) → KeepsIn G H (IsCase c)
  in_case c = in_seq G H (in_typed c.arg) (in_seq G H (in_comma G H) (in_target c.target))

  in_term : (t : Terminator) → KeepsIn G H (IsTerminator t)
  in_term (terms.Jump l) = in_seq G H (in_plain G H (kept_word G words.Br)) (in_target l)
  in_term (terms.Branch c a b) = in_seq G H (in_plain G H (kept_seq G (kept_word G words.Br) (kept_word G (words.Int widths.I1)))) (in_seq G H (in_value c) (in_seq G H (in_comma G H) (in_seq G H (in_target a) (in_seq G H (in_comma G H) (in_target b)))))
  in_term (terms.Switch a l cases) =
      in_seq G H (in_plain G H (kept_word G words.Switch)) (in_seq G H (in_typed a) (in_seq G H (in_comma G H) (in_seq G H (in_target l) (in_seq G H (in_plain G H (kept_mark G marks.OpenSquare)) (in_seq G H (in_each G H {P = IsCase} in_case cases) (in_plain G H (kept_mark G marks.CloseSquare)))))))
  in_term (terms.Ret None) = in_plain G H (kept_seq G (kept_word G words.Ret) (kept_word G words.Void))
  in_term (terms.Ret (Some a)) = in_seq G H (in_plain G H (kept_word G words.Ret)) (in_typed a)
  in_term terms.Unreachable = in_plain G H (kept_word G words.Unreachable)

  in_phi_line : (p : Phi) → KeepsIn G H (IsPhiLine p)
  in_phi_line p = in_seq G H (in_phi p) (in_plain G H (kept_metadata G))

  in_line : (types : List TypeItem) (i : Instr) → KeepsIn G H (IsLine types i)
  in_line types i = in_seq G H (in_instr types i) (in_plain G H (kept_metadata G))

  in_body : (types : List TypeItem) (b : Block) → KeepsIn G H (IsBody types b)
  in_body types b = in_seq G H (in_each G H {P = IsPhiLine} in_phi_line b.phis) (in_seq G H (in_each G H {P = IsLine types} (in_line types) b.instrs) (in_seq G H (in_term b.term) (in_plain G H (kept_metadata G))))

  in_label : (i : ℕ) → KeepsIn G H (label i)
  in_label i =
      record {
        at = λ s end h g.
            let first = subst (Each G) h.1 g.1 in
            (place_kept s.0 h.0 i end.0 h.2 g.0 (labels h.0 first.0), first.1);
      }

  in_unwritten : (k i : ℕ) → KeepsIn G H (unwritten_label k i)
  in_unwritten k i = record { at = λ s end h g. (place_kept s.0 (Name.Number k) i end.0 h.2 g.0 (numbers k h.0), (kept_nothing G).at s.1 end.1 h.1 g.1) }

  in_block : (types : List TypeItem) (b : Block) → KeepsIn G H (IsBlock types b)
  in_block types b = in_seq G H (in_label b.label) (in_body types b)

  in_blocks : (types : List TypeItem) (k : ℕ) (bs : List Block) → KeepsIn G H (AreBlocks types k bs)
  in_blocks types k [] = in_never G H
  in_blocks types k (b ∷ bs) = in_seq G H (in_seq G H (in_or G H (in_label b.label) (in_unwritten k b.label)) (in_body types b)) (in_each G H {P = IsBlock types} (in_block types) bs)

  -- ---- items

  kept_written : (o : Option Name) → Keeps G (IsWrittenName o)
  kept_written None = kept_nothing G
  kept_written (Some n) = kept_these G (syms.Local (Some n) ∷ [])

  kept_param : (p : Written) → Keeps G (IsParam p)
  kept_param p = kept_seq G (kept_type p.0) (kept_seq G (kept_attributes G) (kept_written p.1))

  kept_params : (ps : List Written) → Keeps G (AreParams ps)
  kept_params ps = kept_seq G (kept_mark G marks.OpenRound) (kept_seq G (kept_commas G {P = IsParam} kept_param ps) (kept_mark G marks.CloseRound))

  kept_head : (t : Option Ty) (n : Name) (ps : List Written) → Keeps G (IsHead t n ps)
  kept_head t n ps = kept_seq G (kept_attributes G) (kept_seq G (kept_result t) (kept_seq G (kept_global n) (kept_params ps)))

  kept_declaration : (d : Declaration) → Keeps G (IsDeclaration d)
  kept_declaration d = record { at = λ ts rest h g. (kept_seq G (kept_word G words.Declare) (kept_seq G (kept_head d.result d.name h.0) (kept_attributes G))).at ts rest h.2 g }

  -- ---- the names of parameters

  -- a name that is written
  abbrev IsSaid : Written → Type 0
  IsSaid (t, None) = Unit {0}
  IsSaid (t, Some n) = H n

  param_said : (p : Written) (ts rest : List Sym) → IsParam p ts rest → Each G ts → IsSaid p
  param_said (t, None) ts rest h g = tt
  param_said (t, Some n) ts rest h g = locals n (subst (Each G) h.2.2 ((kept_attributes G).at h.0 h.2.0 h.2.1 ((kept_type t).at ts h.0 h.1 g))).0

  abbrev next_param : Written → Phrase
  next_param p = mark marks.Comma ⨾ IsParam p

  more_said : (ps : List Written) (ts rest : List Sym) → each next_param ps ts rest → Each G ts → Each IsSaid ps
  more_said [] ts rest h g = tt
  more_said (p ∷ ps) ts rest h g = (
    param_said p h.1.0 h.0 h.1.2 ((kept_mark G marks.Comma).at ts h.1.0 h.1.1 g),
    more_said ps h.0 rest h.2 ((kept_seq G (kept_mark G marks.Comma) (kept_param p)).at ts h.0 h.1 g),
  )

  params_said : (ps : List Written) (ts rest : List Sym) → commas IsParam ps ts rest → Each G ts → Each IsSaid ps
  params_said [] ts rest h g = tt
  params_said (p ∷ ps) ts rest h g = (param_said p ts h.0 h.1 g, more_said ps h.0 rest h.2 ((kept_param p).at ts h.0 h.1 g))

  one_named : (k : ℕ) (w : Written) (n : Name) → IsParamName k w.1 n → IsSaid w → H n
  one_named k (t, None) n h w = subst H (sym h.0) (numbers k h.1)
  one_named k (t, Some x) n h w = subst H (sym h) w

  all_named : (ws : List Written) (ps : List Param) (k : ℕ) (ns : List Name) (k_end : ℕ) (ns_end : List Name) → AreNamed ws ps k ns k_end ns_end → Each IsSaid ws → Each H ns → Each H ns_end
  all_named [] [] k ns k_end ns_end h w e = subst (Each H) h.1 e
  all_named [] (p ∷ ps) k ns k_end ns_end h w e = absurd h
  all_named (x ∷ ws) [] k ns k_end ns_end h w e = absurd h
  all_named (x ∷ ws) (p ∷ ps) k ns k_end ns_end h w e = all_named ws ps (counted h.0 k) h.1 k_end ns_end h.5 w.1 (place_kept ns h.0 p.name h.1 h.4 e (one_named k x h.0 h.3 w.0))

  -- what holds of each symbol holds behind the function, and of each of its names
  abbrev KeptBehind : Function → List Sym → Type 0
  KeptBehind f rest = Each H f.names × Each G (syms.Mark marks.CloseCurly ∷ rest)

  behind_function : (types : List TypeItem) (groups : List (List ℕ)) (f : Function) (ts rest : List Sym) → IsFunction types groups f ts rest → Each G ts → KeptBehind f rest
  behind_function types groups f ts rest h g =
      let head = h.head in
      let heading = head.2.1 in
      let params = heading.2.2.2 in
      let behind_word = (kept_word G words.Define).at ts head.0 head.1 g in
      let behind_attributes = (kept_attributes G).at head.0 heading.0 heading.1 behind_word in
      let behind_result = (kept_result f.result).at heading.0 heading.2.0 heading.2.1 behind_attributes in
      let behind_name = (kept_global f.name).at heading.2.0 heading.2.2.0 heading.2.2.1 behind_result in
      let behind_mark = (kept_mark G marks.OpenRound).at heading.2.2.0 params.0 params.1 behind_name in
      let names = all_named h.written f.params 0 [] h.numbers h.names h.params (params_said h.written params.0 params.2.0 params.2.1 behind_mark) tt in
      let body = (kept_seq G (kept_word G words.Define) (kept_seq G (kept_head f.result f.name h.written) (kept_seq G (kept_each G {P = IsAttr} (kept_attr G) h.attrs) (kept_seq G (kept_pairs G) (kept_mark G marks.OpenCurly))))).at ts h.body h.head g in
      (in_blocks types h.numbers f.blocks).at (h.names, h.body) (f.names, syms.Mark marks.CloseCurly ∷ rest) h.blocks (names, body)

  kept_function : (types : List TypeItem) (groups : List (List ℕ)) (f : Function) → Keeps G (IsFunction types groups f)
  kept_function types groups f = record { at = λ ts rest h g. (behind_function types groups f ts rest h g).1.1 }

  -- it holds of the names of the function
  pub names_said : (types : List TypeItem) (groups : List (List ℕ)) (f : Function) (ts rest : List Sym) → IsFunction types groups f ts rest → Each G ts → Each H f.names
  names_said types groups f ts rest h g = (behind_function types groups f ts rest h g).0

  -- what holds of each symbol holds of the function's name
  pub name_said : (types : List TypeItem) (groups : List (List ℕ)) (f : Function) (ts rest : List Sym) → IsFunction types groups f ts rest → Each G ts → G (syms.Global (Some f.name))
  name_said types groups f ts rest h g =
      let head = h.head in
      let behind_word = (kept_word G words.Define).at ts head.0 head.1 g in
      let heading = head.2.1 in
      let behind_attributes = (kept_attributes G).at head.0 heading.0 heading.1 behind_word in
      let behind_result = (kept_result f.result).at heading.0 heading.2.0 heading.2.1 behind_attributes in
      (subst (Each G) heading.2.2.1 behind_result).0

  group_kept : (g : List ℕ) (attrs : List Attr) → Keeps G (IsAttributes g attrs)
  group_kept g attrs =
      kept_seq G (kept_these G (syms.Word words.Attributes ∷ syms.Group g ∷ syms.Mark marks.Equals ∷ syms.Mark marks.OpenCurly ∷ []))
      (kept_seq G (kept_each G {P = IsAttr} (kept_attr G) attrs) (kept_mark G marks.CloseCurly))

  kept_keyword : (c : Bool) → Keeps G (IsKeyword c)
  kept_keyword true = kept_word G words.Constant
  kept_keyword false = kept_word G words.Global

  target_kept : Keeps G target_item
  target_kept = record { at = λ ts rest h g. (kept_these G (syms.Word words.Target ∷ syms.Word h.0 ∷ syms.Mark marks.Equals ∷ syms.Str ∷ [])).at ts rest h.1 g }

  comdat_kept : Keeps G comdat_item
  comdat_kept = record { at = λ ts rest h g. (kept_these G (syms.Word words.Dollar ∷ syms.Mark marks.Equals ∷ syms.Word words.Comdat ∷ syms.Word h.0 ∷ [])).at ts rest h.1 g }

  metadata_kept : Keeps G metadata_item
  metadata_kept =
      kept_seq G (kept_these G (syms.Meta ∷ syms.Mark marks.Equals ∷ [])) (kept_seq G (kept_perhaps G (kept_word G words.Distinct)) (kept_seq G (kept_these G (syms.Meta ∷ [])) (kept_or G (kept_curly G) (kept_round G))))

  attributes_kept : Keeps G attributes_item
  attributes_kept = record { at = λ ts rest h g. (group_kept h.0 h.1).at ts rest h.3 g }

  pub kept_item : (types : List TypeItem) (groups : List (List ℕ)) (i : Item) → Keeps G (IsItem types groups i)
  kept_item types groups (type_item t) =
      record { at = λ ts rest h g. (kept_seq G (kept_these G (syms.Local (Some t.name) ∷ syms.Mark marks.Equals ∷ syms.Word words.Type ∷ [])) (kept_type (structure h.0))).at ts rest h.2 g }
  kept_item types groups (global_item x) =
      kept_seq G (kept_global x.name) (kept_seq G (kept_mark G marks.Equals) (kept_seq G (kept_attributes G) (kept_seq G (kept_keyword x.constant) (kept_seq G (kept_scalar x.ty) (kept_seq G (kept_initial x.init) (kept_seq G (kept_aligned types x.ty x.align) (kept_metadata G)))))))
  kept_item types groups (declaration d) = kept_declaration d
  kept_item types groups (function f) = kept_function types groups f
  kept_item types groups (group g) = record { at = λ ts rest h k. (group_kept g h.0).at ts rest h.2 k }
  kept_item types groups other =
      kept_or G (kept_these G (syms.Word words.SourceFilename ∷ syms.Mark marks.Equals ∷ syms.Str ∷ []))
      (kept_or G target_kept (kept_or G comdat_kept (kept_or G metadata_kept attributes_kept)))
