-- Reading phis and terminators.
use Rattle.std.specs.Prelude.{ℕ, Bool, true, false, List, [], ◌∷◌, Option, Some, None}
use Rattle.ir_base.specs.declared.name.Name.{Name}
use Rattle.ir_model.specs.declared.instr.Case.{Case}
use Rattle.ir_model.specs.declared.instr.Incoming.{Incoming}
use Rattle.ir_model.specs.declared.instr.Phi.{Phi}
use Rattle.ir_model.specs.declared.instr.Terminator.{Terminator}
use Rattle.ir_model.specs.declared.instr.Terminator.TheVariants as terms
use Rattle.ir_model.specs.declared.ir_type.IntWidth.TheVariants as widths
use Rattle.text_reader.specs.Many.{after, many_at}
use Rattle.text_reader.specs.Reading.{◌>>=◌, mark_at, behind_metadata}
use Rattle.text_reader.specs.Types.{type_at}
use Rattle.text_reader.specs.Values.{named_at, local_at, value_at, typed_at, target_at}
use Rattle.text_symbols.specs.declared.sym.Mark.TheVariants as marks
use Rattle.text_symbols.specs.declared.sym.Sym.{Sym}
use Rattle.text_symbols.specs.declared.sym.Sym.TheVariants as syms
use Rattle.text_symbols.specs.declared.word.Word.{Word}
use Rattle.text_symbols.specs.declared.word.Word.TheVariants as words

-- `[`, a value, a comma, a label and `]`
unfoldable pub incoming_at : List Name → List Sym → Option (Incoming × List Name × List Sym)
incoming_at ns ts = do
  opened ← mark_at marks.OpenSquare ts
  v ← value_at ns opened
  more ← mark_at marks.Comma v.2
  l ← local_at v.1 more
  closed ← mark_at marks.CloseSquare l.2
  Some (record { value = v.0; from = l.0 }, l.1, closed)

abbrev pub next_incoming_at : List Name → List Sym → Option (Incoming × List Name × List Sym)
next_incoming_at ns ts = mark_at marks.Comma ts >>= incoming_at ns

abbrev pub begins_incoming : List Sym → Bool
begins_incoming (syms.Mark marks.Comma ∷ syms.Mark marks.OpenSquare ∷ ts) = true
begins_incoming _ = false

-- behind a name, `=` and `phi`
unfoldable pub incomings_at : ℕ → List Name → List Sym → Option (Phi × List Name × List Sym)
incomings_at result ns ts = do
  t ← type_at ts
  first ← incoming_at ns t.1
  all ← after (first.0 ∷ []) (many_at begins_incoming next_incoming_at first.1 first.2)
  Some (record { result = result; ty = t.0; incoming = all.0 }, all.1, behind_metadata all.2)

-- a phi and its metadata
unfoldable pub phi_line_at : List Name → List Sym → Option (Phi × List Name × List Sym)
phi_line_at ns (syms.Local n ∷ syms.Mark marks.Equals ∷ syms.Word words.Phi ∷ ts) = named_at ns n >>= λ r. incomings_at r.0 r.1 ts
phi_line_at ns _ = None

abbrev pub begins_phi : List Sym → Bool
begins_phi (syms.Local n ∷ syms.Mark marks.Equals ∷ syms.Word words.Phi ∷ ts) = true
begins_phi _ = false

-- behind `br`
unfoldable pub branch_at : List Name → List Sym → Option (Terminator × List Name × List Sym)
branch_at ns ts = do
  v ← value_at ns ts
  more ← mark_at marks.Comma v.2
  then_to ← target_at v.1 more
  last ← mark_at marks.Comma then_to.2
  else_to ← target_at then_to.1 last
  Some (terms.Branch v.0 then_to.0 else_to.0, else_to.1, else_to.2)

unfoldable pub br_at : List Name → List Sym → Option (Terminator × List Name × List Sym)
br_at ns (syms.Word (words.Int widths.I1) ∷ ts) = branch_at ns ts
br_at ns ts = target_at ns ts >>= λ l. Some (terms.Jump l.0, l.1, l.2)

-- a value of a switch with its label
unfoldable pub case_at : List Name → List Sym → Option (Case × List Name × List Sym)
case_at ns ts = do
  a ← typed_at ns ts
  more ← mark_at marks.Comma a.2
  l ← target_at a.1 more
  Some (record { arg = a.0; target = l.0 }, l.1, l.2)

abbrev pub begins_case : List Sym → Bool
begins_case (syms.Mark marks.CloseSquare ∷ ts) = false
begins_case _ = true

unfoldable pub switch_at : List Name → List Sym → Option (Terminator × List Name × List Sym)
switch_at ns ts = do
  d ← case_at ns ts
  opened ← mark_at marks.OpenSquare d.2
  cases ← many_at begins_case case_at d.1 opened
  closed ← mark_at marks.CloseSquare cases.2
  Some (terms.Switch d.0.arg d.0.target cases.0, cases.1, closed)

unfoldable pub ret_at : List Name → List Sym → Option (Terminator × List Name × List Sym)
ret_at ns (syms.Word words.Void ∷ ts) = Some (terms.Ret None, ns, ts)
ret_at ns ts = typed_at ns ts >>= λ a. Some (terms.Ret (Some a.0), a.1, a.2)

-- a terminator by its word
abbrev pub ended_at : Word → List Name → List Sym → Option (Terminator × List Name × List Sym)
ended_at words.Br ns ts = br_at ns ts
ended_at words.Switch ns ts = switch_at ns ts
ended_at words.Ret ns ts = ret_at ns ts
ended_at words.Unreachable ns ts = Some (terms.Unreachable, ns, ts)
ended_at _ ns ts = None

unfoldable pub terminator_at : List Name → List Sym → Option (Terminator × List Name × List Sym)
terminator_at ns (syms.Word w ∷ ts) = ended_at w ns ts >>= λ t. Some (t.0, t.1, behind_metadata t.2)
terminator_at ns _ = None
