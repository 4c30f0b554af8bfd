-- Values: what is read is of the grammar, and what is of the grammar is read.
use Rattle.std.proofs.Common.{◌≡◌, ℕ, List, [], ◌∷◌, Option, None, refl, sym, ap, ◌∙◌, ◌⊎◌, inl, inr}
use Rattle.std.specs.Prelude.{Some, IfSome}
use Rattle.ir_base.specs.declared.name.Name.{Name}
use Rattle.ir_model.specs.declared.operand.Arg.{Arg}
use Rattle.ir_model.specs.declared.operand.Operand.{Operand}
use Rattle.ir_model.specs.declared.operand.Operand.TheVariants as operands
use Rattle.text_symbols.specs.declared.sym.Mark.{Mark}
use Rattle.text_symbols.specs.declared.sym.Mark.TheVariants as marks
use Rattle.text_symbols.specs.declared.sym.Sym.{Sym}
use Rattle.text_symbols.specs.declared.sym.Sym.TheVariants as syms
use Rattle.text_symbols.specs.declared.word.Word.TheVariants as words
use Rattle.text_grammar.specs.Phrases.{Phrase, Locals, never, word, mark, plain}
use Rattle.text_grammar.specs.Types.{IsType}
use Rattle.text_grammar.specs.Values.{IsPlace, local, integer, global, IsValue, IsTyped, IsArg, IsTarget}
use Rattle.text_reader.specs.Attrs.{behind_attrs}
use Rattle.text_reader.specs.Reading.{◌>>=◌, mark_at}
use Rattle.text_reader.specs.Types.{type_at}
use Rattle.text_reader.specs.Values.{named_at, local_at, global_at, constant_at, value_at, typed_at, arg_at, target_at, align_at}
use Rattle.text_reader.proofs.Binding.{bind_found, bind_again}
use Rattle.text_reader.proofs.Follow.{EndsAttrs, EndsInstr, behind_attrs_found, behind_attrs_again}
use Rattle.text_reader.proofs.PlacesRead.{named_found, named_again}
use Rattle.text_reader.proofs.TypesRead.{type_found, type_again}

-- ---- marks

pub mark_found : (m : Mark) (ts : List Sym) → IfSome (mark_at m ts) (λ rest. mark m ts rest)
mark_found m [] = tt
mark_found marks.Equals (syms.Mark marks.Equals ∷ ts) = refl
mark_found marks.Comma (syms.Mark marks.Comma ∷ ts) = refl
mark_found marks.OpenRound (syms.Mark marks.OpenRound ∷ ts) = refl
mark_found marks.CloseRound (syms.Mark marks.CloseRound ∷ ts) = refl
mark_found marks.OpenSquare (syms.Mark marks.OpenSquare ∷ ts) = refl
mark_found marks.CloseSquare (syms.Mark marks.CloseSquare ∷ ts) = refl
mark_found marks.OpenCurly (syms.Mark marks.OpenCurly ∷ ts) = refl
mark_found marks.CloseCurly (syms.Mark marks.CloseCurly ∷ ts) = refl
mark_found marks.Colon (syms.Mark marks.Colon ∷ ts) = refl
mark_found marks.Bar (syms.Mark marks.Bar ∷ ts) = refl
mark_found marks.Star (syms.Mark marks.Star ∷ ts) = refl
mark_found _ _ = tt

same_mark : (m : Mark) (rest : List Sym) → mark_at m (syms.Mark m ∷ rest) ≡ Some rest
same_mark marks.Equals rest = refl
same_mark marks.Comma rest = refl
same_mark marks.OpenRound rest = refl
same_mark marks.CloseRound rest = refl
same_mark marks.OpenSquare rest = refl
same_mark marks.CloseSquare rest = refl
same_mark marks.OpenCurly rest = refl
same_mark marks.CloseCurly rest = refl
same_mark marks.Colon rest = refl
same_mark marks.Bar rest = refl
same_mark marks.Star rest = refl

pub mark_again : (m : Mark) (ts rest : List Sym) → mark m ts rest → mark_at m ts ≡ Some rest
mark_again m ts rest h = ap (mark_at m) h ∙ same_mark m rest

-- ---- locals

pub local_found : (ns : List Name) (ts : List Sym) → IfSome (local_at ns ts) (λ r. local r.0 (ns, ts) (r.1, r.2))
local_found ns (syms.Local n ∷ ts) =
    bind_found (named_at ns n) _ (λ r. (name : Name) × (n ≡ Some name) × IsPlace ns name r.0 r.1) _ (named_found ns n)
    (λ r h. (h.0, ap (λ (o : Option Name). syms.Local o ∷ ts) h.1, h.2))
local_found ns _ = tt

pub local_again : (i : ℕ) (s end : Locals) → local i s end → local_at s.0 s.1 ≡ Some (i, end.0, end.1)
local_again i s end h = ap (local_at s.0) h.1 ∙ ap (λ o. o >>= λ r. Some (r.0, r.1, end.1)) (named_again s.0 h.0 i end.0 h.2)

pub target_found : (ns : List Name) (ts : List Sym) → IfSome (target_at ns ts) (λ r. IsTarget r.0 (ns, ts) (r.1, r.2))
target_found ns (syms.Word words.Label ∷ ts) = label_found (local_at ns ts) (local_found ns ts)
  where
    label_found : (o : Option (ℕ × List Name × List Sym)) → IfSome o (λ r. local r.0 (ns, ts) (r.1, r.2)) → IfSome o (λ r. IsTarget r.0 (ns, syms.Word words.Label ∷ ts) (r.1, r.2))
    label_found None h = tt
    label_found (Some r) h = ((ns, ts), (refl, refl), h)
target_found ns _ = tt

pub target_again : (i : ℕ) (s end : Locals) → IsTarget i s end → target_at s.0 s.1 ≡ Some (i, end.0, end.1)
target_again i s end h = ap (target_at s.0) h.1.1 ∙ ap (λ ns. local_at ns h.0.1) h.1.0 ∙ local_again i h.0 end h.2

pub global_found : (ts : List Sym) → IfSome (global_at ts) (λ r. global r.0 ts r.1)
global_found (syms.Global None ∷ ts) = tt
global_found (syms.Global (Some n) ∷ ts) = refl
global_found _ = tt

pub global_again : (n : Name) (ts rest : List Sym) → global n ts rest → global_at ts ≡ Some (n, rest)
global_again n ts rest h = ap global_at h

-- ---- values

-- a value that is no local
abbrev pub IsConstant : Operand → Phrase
IsConstant (operands.Local i) = never
IsConstant (operands.Global n) = global n
IsConstant (operands.Number z) = integer z
IsConstant operands.True = word words.True
IsConstant operands.False = word words.False
IsConstant operands.Null = word words.Null
IsConstant operands.None = word words.None
IsConstant operands.Poison = word words.Poison

pub constant_found : (ts : List Sym) → IfSome (constant_at ts) (λ r. IsConstant r.0 ts r.1)
constant_found (syms.Global None ∷ ts) = tt
constant_found (syms.Global (Some n) ∷ ts) = refl
constant_found (syms.Int n ∷ ts) = (n, inl (refl, refl))
constant_found (syms.Negative n ∷ ts) = (n, inr (refl, refl))
constant_found (syms.Word words.True ∷ ts) = refl
constant_found (syms.Word words.False ∷ ts) = refl
constant_found (syms.Word words.Null ∷ ts) = refl
constant_found (syms.Word words.None ∷ ts) = refl
constant_found (syms.Word words.Poison ∷ ts) = refl
constant_found _ = tt

pub constant_again : (v : Operand) (ts rest : List Sym) → IsConstant v ts rest → constant_at ts ≡ Some (v, rest)
constant_again (operands.Local i) ts rest h = absurd h
constant_again (operands.Global n) ts rest h = ap constant_at h
constant_again (operands.Number z) ts rest (n, inl h) = ap constant_at h.1 ∙ ap (λ x. Some (operands.Number x, rest)) (sym h.0)
constant_again (operands.Number z) ts rest (n, inr h) = ap constant_at h.1 ∙ ap (λ x. Some (operands.Number x, rest)) (sym h.0)
constant_again operands.True ts rest h = ap constant_at h
constant_again operands.False ts rest h = ap constant_at h
constant_again operands.Null ts rest h = ap constant_at h
constant_again operands.None ts rest h = ap constant_at h
constant_again operands.Poison ts rest h = ap constant_at h

constant_value : (v : Operand) (ns : List Name) (ts rest : List Sym) → IsConstant v ts rest → IsValue v (ns, ts) (ns, rest)
constant_value (operands.Local i) ns ts rest h = absurd h
constant_value (operands.Global n) ns ts rest h = (refl, h)
constant_value (operands.Number z) ns ts rest h = (refl, h)
constant_value operands.True ns ts rest h = (refl, h)
constant_value operands.False ns ts rest h = (refl, h)
constant_value operands.Null ns ts rest h = (refl, h)
constant_value operands.None ns ts rest h = (refl, h)
constant_value operands.Poison ns ts rest h = (refl, h)

from_constant : (ns : List Name) (ts : List Sym) → IfSome {T = Operand × List Name × List Sym} (constant_at ts >>= λ v. Some (v.0, ns, v.1)) (λ r. IsValue r.0 (ns, ts) (r.1, r.2))
from_constant ns ts =
    bind_found (constant_at ts) _ (λ r. IsConstant r.0 ts r.1) _ (constant_found ts) (λ r h. constant_value r.0 ns ts r.1 h)

pub value_found : (ns : List Name) (ts : List Sym) → IfSome (value_at ns ts) (λ r. IsValue r.0 (ns, ts) (r.1, r.2))
unfolding value_at
value_found ns (syms.Local n ∷ ts) =
    bind_found (named_at ns n) _ (λ r. (name : Name) × (n ≡ Some name) × IsPlace ns name r.0 r.1) _ (named_found ns n)
    (λ r h. (h.0, ap (λ (o : Option Name). syms.Local o ∷ ts) h.1, h.2))
value_found ns ts = from_constant ns ts

-- no local at the front
abbrev NoLocal : List Sym → Type 0
NoLocal (syms.Local n ∷ ts) = ⊥
NoLocal _ = Unit {0}

constant_front : (v : Operand) (ts rest : List Sym) → IsConstant v ts rest → NoLocal ts
constant_front (operands.Local i) ts rest h = absurd h
constant_front (operands.Global n) ts rest h = rw h tt
constant_front (operands.Number z) ts rest (n, inl h) = rw h.1 tt
constant_front (operands.Number z) ts rest (n, inr h) = rw h.1 tt
constant_front operands.True ts rest h = rw h tt
constant_front operands.False ts rest h = rw h tt
constant_front operands.Null ts rest h = rw h tt
constant_front operands.None ts rest h = rw h tt
constant_front operands.Poison ts rest h = rw h tt

by_constant : (ns : List Name) (ts : List Sym) → NoLocal ts → value_at ns ts ≡ (constant_at ts >>= λ v. Some (v.0, ns, v.1))
unfolding value_at
by_constant ns (syms.Local n ∷ ts) h = absurd h
by_constant ns _ h = refl

constant_read : (v : Operand) (s end : Locals) → plain (IsConstant v) s end → value_at s.0 s.1 ≡ Some (v, end.0, end.1)
constant_read v s end h =
    by_constant s.0 s.1 (constant_front v s.1 end.1 h.1)
    ∙ ap (λ o. o >>= λ v. Some (v.0, s.0, v.1)) (constant_again v s.1 end.1 h.1)
    ∙ ap (λ (ns : List Name). Some (v, ns, end.1)) h.0

pub value_again : (v : Operand) (s end : Locals) → IsValue v s end → value_at s.0 s.1 ≡ Some (v, end.0, end.1)
unfolding value_at
value_again (operands.Local i) s end h = ap (value_at s.0) h.1 ∙ ap (λ o. o >>= λ r. Some (operands.Local r.0, r.1, end.1)) (named_again s.0 h.0 i end.0 h.2)
value_again (operands.Global n) s end h = constant_read (operands.Global n) s end h
value_again (operands.Number z) s end h = constant_read (operands.Number z) s end h
value_again operands.True s end h = constant_read operands.True s end h
value_again operands.False s end h = constant_read operands.False s end h
value_again operands.Null s end h = constant_read operands.Null s end h
value_again operands.None s end h = constant_read operands.None s end h
value_again operands.Poison s end h = constant_read operands.Poison s end h

-- a value begins no attribute
pub value_starts : (v : Operand) (s end : Locals) → IsValue v s end → EndsAttrs s.1
value_starts (operands.Local i) s end h = rw h.1 tt
value_starts (operands.Global n) s end h = rw h.1 tt
value_starts (operands.Number z) s end (e, (n, inl h)) = rw h.1 tt
value_starts (operands.Number z) s end (e, (n, inr h)) = rw h.1 tt
value_starts operands.True s end h = rw h.1 tt
value_starts operands.False s end h = rw h.1 tt
value_starts operands.Null s end h = rw h.1 tt
value_starts operands.None s end h = rw h.1 tt
value_starts operands.Poison s end h = rw h.1 tt

-- ---- types and values

pub typed_found : (ns : List Name) (ts : List Sym) → IfSome (typed_at ns ts) (λ r. IsTyped r.0 (ns, ts) (r.1, r.2))
unfolding typed_at
typed_found ns ts =
    bind_found (type_at ts) _ (λ r. IsType r.0 ts r.1) _ (type_found ts)
    (λ t h. bind_found (value_at ns t.1) _ (λ r. IsValue r.0 (ns, t.1) (r.1, r.2)) _ (value_found ns t.1) (λ v k. ((ns, t.1), (refl, h), k)))

pub typed_again : (a : Arg) (s end : Locals) → IsTyped a s end → typed_at s.0 s.1 ≡ Some (a, end.0, end.1)
unfolding typed_at
typed_again a s end h =
    bind_again (type_at s.1) (a.ty, h.0.1) _ _ (type_again a.ty s.1 h.0.1 h.1.1)
    (bind_again (value_at s.0 h.0.1) (a.value, end.0, end.1) _ _ (ap (λ ns. value_at ns h.0.1) h.1.0 ∙ value_again a.value h.0 end h.2) refl)

pub arg_found : (ns : List Name) (ts : List Sym) → IfSome (arg_at ns ts) (λ r. IsArg r.0 (ns, ts) (r.1, r.2))
unfolding arg_at
arg_found ns ts =
    bind_found (type_at ts) _ (λ r. IsType r.0 ts r.1) _ (type_found ts)
    (λ t h. bind_found (value_at ns (behind_attrs t.1)) _ (λ r. IsValue r.0 (ns, behind_attrs t.1) (r.1, r.2)) _ (value_found ns (behind_attrs t.1))
    (λ v k. ((ns, behind_attrs t.1), (refl, (t.1, h, behind_attrs_found t.1)), k)))

pub arg_again : (a : Arg) (s end : Locals) → IsArg a s end → arg_at s.0 s.1 ≡ Some (a, end.0, end.1)
unfolding arg_at
arg_again a s end h =
    let e : behind_attrs h.1.1.0 ≡ h.0.1 = behind_attrs_again h.1.1.0 h.0.1 h.1.1.2 (value_starts a.value h.0 end h.2) in
    bind_again (type_at s.1) (a.ty, h.1.1.0) _ _ (type_again a.ty s.1 h.1.1.0 h.1.1.1)
    (bind_again (value_at s.0 (behind_attrs h.1.1.0)) (a.value, end.0, end.1) _ _ (ap (value_at s.0) e ∙ ap (λ ns. value_at ns h.0.1) h.1.0 ∙ value_again a.value h.0 end h.2) refl)

-- ---- alignments

-- an alignment, where one is written
abbrev pub IsWritten : Option ℕ → Phrase
IsWritten None ts rest = ts ≡ rest
IsWritten (Some n) ts rest = (ts ≡ syms.Mark marks.Comma ∷ syms.Word words.Align ∷ syms.Int n ∷ rest) ⊎ ((k : ℕ) × (n ≡ 0) × (ts ≡ syms.Mark marks.Comma ∷ syms.Word words.Align ∷ syms.Negative k ∷ rest))

pub align_found : (ts : List Sym) → IsWritten (align_at ts).0 ts (align_at ts).1
align_found (syms.Mark marks.Comma ∷ syms.Word words.Align ∷ syms.Int n ∷ ts) = inl refl
align_found (syms.Mark marks.Comma ∷ syms.Word words.Align ∷ syms.Negative n ∷ ts) = inr (n, refl, refl)
align_found _ = refl

pub no_align : (ts : List Sym) → EndsInstr ts → align_at ts ≡ (None, ts)
no_align (syms.Mark marks.Comma ∷ syms.Word words.Align ∷ ts) h = absurd h
no_align _ h = refl
