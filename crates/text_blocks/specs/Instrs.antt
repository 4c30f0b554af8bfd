-- Reading instructions.
use Rattle.std.specs.Prelude.{ℕ, Bool, true, false, List, [], ◌∷◌, Option, Some, None}
use Rattle.ir_base.specs.declared.name.Name.{Name}
use Rattle.ir_base.specs.declared.ops.BinOp.{BinOp}
use Rattle.ir_base.specs.declared.ops.BinOp.TheVariants as ops
use Rattle.ir_base.specs.declared.ops.CastOp.{CastOp}
use Rattle.ir_base.specs.declared.ops.CastOp.TheVariants as casts
use Rattle.ir_base.specs.declared.ops.Flags.{Flags}
use Rattle.ir_model.specs.Ty.{Ty}
use Rattle.ir_model.specs.declared.instr.Instr.{Instr}
use Rattle.ir_model.specs.declared.instr.Instr.TheVariants as instrs
use Rattle.ir_model.specs.declared.ir_type.IntWidth.TheVariants as widths
use Rattle.ir_model.specs.declared.module.TypeItem.{TypeItem}
use Rattle.ir_model.specs.declared.operand.Arg.{Arg}
use Rattle.ir_model.specs.declared.operand.Operand.{Operand}
use Rattle.ir_alignments.specs.Alignment.{align_in}
use Rattle.text_reader.specs.Many.{after, many_at}
use Rattle.text_reader.specs.Reading.{◌>>=◌, mark_at}
use Rattle.text_reader.specs.Types.{type_at}
use Rattle.text_reader.specs.Values.{value_at, typed_at, align_at}
use Rattle.text_symbols.specs.declared.sym.Mark.TheVariants as marks
use Rattle.text_symbols.specs.declared.sym.Sym.{Sym}
use Rattle.text_symbols.specs.declared.sym.Sym.TheVariants as syms
use Rattle.text_symbols.specs.declared.word.Word.TheVariants as words

abbrev pub no_flags : Flags
no_flags = record { nuw = false; nsw = false; exact = false; disjoint = false }

-- any number of `nuw` and `nsw`
abbrev pub wrap_flags : List Sym → Flags → Flags × List Sym
wrap_flags (syms.Word words.Nuw ∷ ts) f = wrap_flags ts (record f { nuw = true })
wrap_flags (syms.Word words.Nsw ∷ ts) f = wrap_flags ts (record f { nsw = true })
wrap_flags ts f = (f, ts)

abbrev pub exact_flag : List Sym → Flags × List Sym
exact_flag (syms.Word words.Exact ∷ ts) = (record no_flags { exact = true }, ts)
exact_flag ts = (no_flags, ts)

abbrev pub disjoint_flag : List Sym → Flags × List Sym
disjoint_flag (syms.Word words.Disjoint ∷ ts) = (record no_flags { disjoint = true }, ts)
disjoint_flag ts = (no_flags, ts)

-- the flags that an operation may have
abbrev pub flags_at : BinOp → List Sym → Flags × List Sym
flags_at ops.Add ts = wrap_flags ts no_flags
flags_at ops.Sub ts = wrap_flags ts no_flags
flags_at ops.Mul ts = wrap_flags ts no_flags
flags_at ops.Shl ts = wrap_flags ts no_flags
flags_at ops.UDiv ts = exact_flag ts
flags_at ops.SDiv ts = exact_flag ts
flags_at ops.LShr ts = exact_flag ts
flags_at ops.AShr ts = exact_flag ts
flags_at ops.Or ts = disjoint_flag ts
flags_at _ ts = (no_flags, ts)

-- two values with a comma between
unfoldable pub operands_at : List Name → List Sym → Option ((Operand × Operand) × List Name × List Sym)
operands_at ns ts = do
  left ← value_at ns ts
  more ← mark_at marks.Comma left.2
  right ← value_at left.1 more
  Some ((left.0, right.0), right.1, right.2)

unfoldable pub binary_at : ℕ → BinOp → List Name → List Sym → Option (Instr × List Name × List Sym)
binary_at result op ns ts = do
  t ← type_at (flags_at op ts).1
  v ← operands_at ns t.1
  Some (instrs.Binary result op (flags_at op ts).0 t.0 v.0.0 v.0.1, v.1, v.2)

unfoldable pub icmp_at : ℕ → List Name → List Sym → Option (Instr × List Name × List Sym)
icmp_at result ns (syms.Word (words.Pred p) ∷ ts) = do
  t ← type_at ts
  v ← operands_at ns t.1
  Some (instrs.Icmp result p t.0 v.0.0 v.0.1, v.1, v.2)
icmp_at result ns _ = None

unfoldable pub select_at : ℕ → List Name → List Sym → Option (Instr × List Name × List Sym)
select_at result ns (syms.Word (words.Int widths.I1) ∷ ts) = do
  c ← value_at ns ts
  more ← mark_at marks.Comma c.2
  then_to ← typed_at c.1 more
  last ← mark_at marks.Comma then_to.2
  else_to ← typed_at then_to.1 last
  Some (instrs.Select result c.0 then_to.0 else_to.0, else_to.1, else_to.2)
select_at result ns _ = None

-- `zext` may have `nneg`
abbrev pub nneg_at : CastOp → List Sym → Bool × List Sym
nneg_at casts.Zext (syms.Word words.Nneg ∷ ts) = (true, ts)
nneg_at op ts = (false, ts)

-- behind `to`
abbrev pub to_at : List Sym → Option (Ty × List Sym)
to_at (syms.Word words.To ∷ ts) = type_at ts
to_at _ = None

unfoldable pub cast_at : ℕ → CastOp → List Name → List Sym → Option (Instr × List Name × List Sym)
cast_at result op ns ts = do
  a ← typed_at ns (nneg_at op ts).1
  t ← to_at a.2
  Some (instrs.Cast result op (nneg_at op ts).0 a.0 t.0, a.1, t.1)

-- an alignment that isn't written is the type's
abbrev pub align_or : List TypeItem → Ty → Option ℕ → ℕ
align_or types t None = align_in types t
align_or types t (Some n) = n

unfoldable pub alloca_at : List TypeItem → ℕ → List Name → List Sym → Option (Instr × List Name × List Sym)
alloca_at types result ns ts = do
  t ← type_at ts
  Some (instrs.Alloca result t.0 (align_or types t.0 (align_at t.1).0), ns, (align_at t.1).1)

-- a comma, `ptr` and a value
abbrev pub address_at : List Name → List Sym → Option (Operand × List Name × List Sym)
address_at ns (syms.Mark marks.Comma ∷ syms.Word words.Ptr ∷ ts) = value_at ns ts
address_at ns _ = None

unfoldable pub load_at : List TypeItem → ℕ → List Name → List Sym → Option (Instr × List Name × List Sym)
load_at types result ns ts = do
  t ← type_at ts
  p ← address_at ns t.1
  Some (instrs.Load result t.0 p.0 (align_or types t.0 (align_at p.2).0), p.1, (align_at p.2).1)

unfoldable pub store_at : List TypeItem → List Name → List Sym → Option (Instr × List Name × List Sym)
store_at types ns ts = do
  a ← typed_at ns ts
  p ← address_at a.1 a.2
  Some (instrs.Store a.0 p.0 (align_or types a.0.ty (align_at p.2).0), p.1, (align_at p.2).1)

abbrev pub inbounds_at : List Sym → Bool × List Sym
inbounds_at (syms.Word words.Inbounds ∷ ts) = (true, ts)
inbounds_at ts = (false, ts)

-- a comma that isn't metadata's
abbrev pub begins_index : List Sym → Bool
begins_index (syms.Mark marks.Comma ∷ syms.Meta ∷ ts) = false
begins_index (syms.Mark marks.Comma ∷ ts) = true
begins_index _ = false

abbrev pub index_at : List Name → List Sym → Option (Arg × List Name × List Sym)
index_at ns ts = mark_at marks.Comma ts >>= typed_at ns

-- an index or more
unfoldable pub indices_at : List Name → List Sym → Option (List Arg × List Name × List Sym)
indices_at ns ts = index_at ns ts >>= λ i. after (i.0 ∷ []) (many_at begins_index index_at i.1 i.2)

unfoldable pub gep_at : ℕ → List Name → List Sym → Option (Instr × List Name × List Sym)
gep_at result ns ts = do
  t ← type_at (inbounds_at ts).1
  p ← address_at ns t.1
  is ← indices_at p.1 p.2
  Some (instrs.Gep result (inbounds_at ts).0 t.0 p.0 is.0, is.1, is.2)
