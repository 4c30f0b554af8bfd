-- Reading blocks.
use Rattle.std.specs.Prelude.{ℕ, ◌^◌, Bool, true, false, List, [], ◌∷◌, Option, Some, None, if◌then◌else◌, nat_lt}
use Rattle.ir_base.specs.declared.name.Name.{Name}
use Rattle.ir_model.specs.declared.module.Block.{Block}
use Rattle.ir_model.specs.declared.module.TypeItem.{TypeItem}
use Rattle.text_blocks.specs.Calls.{begins_instr, instr_line_at}
use Rattle.text_blocks.specs.Terminators.{begins_phi, phi_line_at, terminator_at}
use Rattle.text_reader.specs.Many.{after, many_at}
use Rattle.text_reader.specs.Reading.{◌>>=◌, mark_at}
use Rattle.text_reader.specs.Values.{named_at}
use Rattle.text_symbols.specs.declared.sym.Mark.TheVariants as marks
use Rattle.text_symbols.specs.declared.sym.Sym.{Sym}
use Rattle.text_symbols.specs.declared.sym.Sym.TheVariants as syms

-- phis, instructions and a terminator, behind the label
unfoldable pub body_at : List TypeItem → ℕ → List Name → List Sym → Option (Block × List Name × List Sym)
body_at types label ns ts = do
  phis ← many_at begins_phi phi_line_at ns ts
  instrs ← many_at begins_instr (instr_line_at types) phis.1 phis.2
  t ← terminator_at instrs.1 instrs.2
  Some (record { label = label; phis = phis.0; instrs = instrs.0; term = t.0 }, t.1, t.2)

unfoldable pub labelled_at : List TypeItem → List Name → List Sym → Option (Block × List Name × List Sym)
labelled_at types ns (syms.Label n ∷ ts) = named_at ns n >>= λ r. body_at types r.0 r.1 ts
labelled_at types ns _ = None

abbrev pub begins_label : List Sym → Bool
begins_label (syms.Label n ∷ ts) = true
begins_label _ = false

-- a number as a name, below 2^32
abbrev pub numbered : ℕ → Option Name
numbered k = if nat_lt k (2 ^ 32) then Some (Name.Number k) else None

-- the first block, whose label may be left out: it is then the number of parameters that have a number
unfoldable pub entry_at : List TypeItem → ℕ → List Name → List Sym → Option (Block × List Name × List Sym)
entry_at types k ns (syms.Label n ∷ ts) = named_at ns n >>= λ r. body_at types r.0 r.1 ts
entry_at types k ns ts = named_at ns (numbered k) >>= λ r. body_at types r.0 r.1 ts

-- blocks in curly brackets
unfoldable pub blocks_at : List TypeItem → ℕ → List Name → List Sym → Option (List Block × List Name × List Sym)
blocks_at types k ns ts = do
  opened ← mark_at marks.OpenCurly ts
  first ← entry_at types k ns opened
  all ← after (first.0 ∷ []) (many_at begins_label (labelled_at types) first.1 first.2)
  closed ← mark_at marks.CloseCurly all.2
  Some (all.0, all.1, closed)
