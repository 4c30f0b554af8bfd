-- Reading calls, and any instruction.
use Rattle.std.specs.Prelude.{ℕ, Bool, true, false, List, [], ◌∷◌, Option, Some, None}
use Rattle.ir_base.specs.declared.name.Name.{Name}
use Rattle.ir_model.specs.Table.{callee_named}
use Rattle.ir_model.specs.Ty.{Ty}
use Rattle.ir_model.specs.declared.instr.Instr.{Instr}
use Rattle.ir_model.specs.declared.instr.Instr.TheVariants as instrs
use Rattle.ir_model.specs.declared.module.TypeItem.{TypeItem}
use Rattle.ir_model.specs.declared.operand.Arg.{Arg}
use Rattle.ir_model.specs.declared.operand.Callee.{Callee}
use Rattle.ir_model.specs.declared.operand.Callee.TheVariants as callees
use Rattle.text_blocks.specs.Instrs.{binary_at, icmp_at, select_at, cast_at, alloca_at, load_at, store_at, gep_at}
use Rattle.text_reader.specs.Attrs.{behind_attrs}
use Rattle.text_reader.specs.Many.{after, many_at}
use Rattle.text_reader.specs.Reading.{◌>>=◌, mark_at, behind_metadata}
use Rattle.text_reader.specs.Types.{type_at}
use Rattle.text_reader.specs.Values.{named_at, arg_at}
use Rattle.text_symbols.specs.declared.sym.Mark.TheVariants as marks
use Rattle.text_symbols.specs.declared.sym.Sym.{Sym}
use Rattle.text_symbols.specs.declared.sym.Sym.TheVariants as syms
use Rattle.text_symbols.specs.declared.word.Word.{Word}
use Rattle.text_symbols.specs.declared.word.Word.TheVariants as words

-- `void`, or a type
unfoldable pub result_at : List Sym → Option (Option Ty × List Sym)
result_at (syms.Word words.Void ∷ ts) = Some (None, ts)
result_at ts = type_at ts >>= λ t. Some (Some t.0, t.1)

-- what is called
unfoldable pub callee_at : List Name → List Sym → Option (Callee × List Name × List Sym)
callee_at ns (syms.Global n ∷ ts) = n >>= λ name. Some (callee_named name, ns, ts)
callee_at ns (syms.Local n ∷ ts) = named_at ns n >>= λ r. Some (callees.Local r.0, r.1, ts)
callee_at ns _ = None

abbrev pub begins_comma : List Sym → Bool
begins_comma (syms.Mark marks.Comma ∷ ts) = true
begins_comma _ = false

abbrev pub next_arg_at : List Name → List Sym → Option (Arg × List Name × List Sym)
next_arg_at ns ts = mark_at marks.Comma ts >>= arg_at ns

-- arguments with commas between, or none
unfoldable pub args_at : List Name → List Sym → Option (List Arg × List Name × List Sym)
args_at ns (syms.Mark marks.CloseRound ∷ ts) = Some ([], ns, ts)
args_at ns ts = do
  first ← arg_at ns ts
  all ← after (first.0 ∷ []) (many_at begins_comma next_arg_at first.1 first.2)
  closed ← mark_at marks.CloseRound all.2
  Some (all.0, all.1, closed)

-- behind `call`
unfoldable pub call_at : Option ℕ → Bool → List Name → List Sym → Option (Instr × List Name × List Sym)
call_at result must ns ts = do
  t ← result_at (behind_attrs ts)
  callee ← callee_at ns t.1
  opened ← mark_at marks.OpenRound callee.2
  args ← args_at callee.1 opened
  Some (instrs.Call result must t.0 callee.0 args.0, args.1, behind_attrs args.2)

-- behind `tail`, `notail` or `musttail`
abbrev pub tail_call_at : Option ℕ → Bool → List Name → List Sym → Option (Instr × List Name × List Sym)
tail_call_at result must ns (syms.Word words.Call ∷ ts) = call_at result must ns ts
tail_call_at result must ns _ = None

-- behind a name and `=`: an instruction by its word
unfoldable pub assigned_at : List TypeItem → ℕ → Word → List Name → List Sym → Option (Instr × List Name × List Sym)
assigned_at types r (words.Bin op) ns ts = binary_at r op ns ts
assigned_at types r words.Icmp ns ts = icmp_at r ns ts
assigned_at types r words.Select ns ts = select_at r ns ts
assigned_at types r (words.Cast op) ns ts = cast_at r op ns ts
assigned_at types r words.Alloca ns ts = alloca_at types r ns ts
assigned_at types r words.Load ns ts = load_at types r ns ts
assigned_at types r words.Getelementptr ns ts = gep_at r ns ts
assigned_at types r words.Call ns ts = call_at (Some r) false ns ts
assigned_at types r words.Tail ns ts = tail_call_at (Some r) false ns ts
assigned_at types r words.Notail ns ts = tail_call_at (Some r) false ns ts
assigned_at types r words.Musttail ns ts = tail_call_at (Some r) true ns ts
assigned_at types r _ ns ts = None

-- an instruction without a result, by its word
unfoldable pub effect_at : List TypeItem → Word → List Name → List Sym → Option (Instr × List Name × List Sym)
effect_at types words.Store ns ts = store_at types ns ts
effect_at types words.Call ns ts = call_at None false ns ts
effect_at types words.Tail ns ts = tail_call_at None false ns ts
effect_at types words.Notail ns ts = tail_call_at None false ns ts
effect_at types words.Musttail ns ts = tail_call_at None true ns ts
effect_at types _ ns ts = None

unfoldable pub instr_at : List TypeItem → List Name → List Sym → Option (Instr × List Name × List Sym)
instr_at types ns (syms.Local n ∷ syms.Mark marks.Equals ∷ syms.Word w ∷ ts) = named_at ns n >>= λ r. assigned_at types r.0 w r.1 ts
instr_at types ns (syms.Word w ∷ ts) = effect_at types w ns ts
instr_at types ns _ = None

-- an instruction and its metadata
unfoldable pub instr_line_at : List TypeItem → List Name → List Sym → Option (Instr × List Name × List Sym)
instr_line_at types ns ts = instr_at types ns ts >>= λ i. Some (i.0, i.1, behind_metadata i.2)

abbrev pub begins_effect : Word → Bool
begins_effect words.Store = true
begins_effect words.Call = true
begins_effect words.Tail = true
begins_effect words.Notail = true
begins_effect words.Musttail = true
begins_effect _ = false

abbrev pub begins_instr : List Sym → Bool
begins_instr (syms.Local n ∷ ts) = true
begins_instr (syms.Word w ∷ ts) = begins_effect w
begins_instr _ = false
