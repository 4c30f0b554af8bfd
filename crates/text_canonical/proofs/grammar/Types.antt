-- Types as they are printed; what is known of the types of a text, and of their alignments.
use Rattle.std.proofs.Common.{◌≡◌, ℕ, zero, suc, max, ◌≤◌, inl, inr, List, [], ◌∷◌, ◌++◌, append_assoc, append-nil, Option, None, refl, sym, ap, subst, ◌∙◌, arith}
use Rattle.std.specs.Prelude.{Some, Bool, true, false, cond, option_map}
use Rattle.ir_base.specs.declared.name.Name.{Name}
use Rattle.ir_model.specs.Layout.{Extent, extent_at, extent_in, extent_of, extent_or, extent_then, fields_extent, no_fields, of_type, padded, array_extent, type_named, with_field}
use Rattle.ir_model.specs.Names.{same_name}
use Rattle.ir_model.specs.Ty.{Ty, Tys, int, ptr, token, array, structure, named, none, field}
use Rattle.ir_model.specs.TypeView.{bits_of}
use Rattle.ir_model.specs.declared.ir_type.IntWidth.{IntWidth}
use Rattle.ir_model.specs.declared.module.TypeItem.{TypeItem}
use Rattle.text_symbols.specs.declared.sym.Sym.{Sym}
use Rattle.ir_alignments.specs.Alignment.{align_in}
use Rattle.text_canonical.specs.canonical.OperandSymbols.{result_symbols}
use Rattle.text_canonical.specs.canonical.TypeSymbols.{int_symbol, type_symbols, fields_symbols}
use Rattle.text_canonical.specs.canonical.InstrSymbols.{align_symbols}
use Rattle.text_canonical.specs.canonical.Written.{IsWritten}
use Rattle.text_grammar.specs.Types.{AreFields, IsInt, IsResult, IsScalar, IsType}
use Rattle.text_grammar.specs.Values.{IsAligned}
use Rattle.text_canonical.proofs.grammar.Again.{Again, leaves_nothing, leaves_these, nothing_again, same, seq, these_again}
use Rattle.text_canonical.proofs.grammar.Names.{mark_again, word_again}
use Rattle.text_symbols.specs.declared.sym.Mark.TheVariants as marks
use Rattle.text_symbols.specs.declared.sym.Sym.TheVariants as syms
use Rattle.text_symbols.specs.declared.word.Word.TheVariants as words

-- ---- types again

pub width_symbol : (w : IntWidth) → int_symbol (bits_of w) ≡ syms.Word (words.Int w)
width_symbol IntWidth.I1 = refl
width_symbol IntWidth.I8 = refl
width_symbol IntWidth.I16 = refl
width_symbol IntWidth.I32 = refl
width_symbol IntWidth.I64 = refl

int_again : (bits : ℕ) (ts rest : List Sym) → IsInt bits ts rest → Again (IsInt bits) (int_symbol bits ∷ []) ts rest
int_again bits ts rest d =
    let shown : int_symbol bits ≡ syms.Word (words.Int d.0) = ap int_symbol d.1 ∙ width_symbol d.0 in
    record {
      left = leaves_these (syms.Word (words.Int d.0) ∷ []) ts rest d.2;
      written = λ h. (subst IsWritten (sym shown) tt, tt);
      again = λ behind. (d.0, d.1, ap (λ (s : Sym). s ∷ behind) shown);
    }

-- what stands between the brackets of a structure
abbrev pub inner_symbols : Tys → List Sym
inner_symbols none = []
inner_symbols (field t fs) = type_symbols t ++ fields_symbols fs

structure_again : (fs : Tys) (ts rest : List Sym) → Again (IsType (structure fs)) (syms.Mark marks.OpenCurly ∷ inner_symbols fs ++ syms.Mark marks.CloseCurly ∷ []) ts rest → Again (IsType (structure fs)) (type_symbols (structure fs)) ts rest
structure_again none ts rest a = a
structure_again (field t fs) ts rest a = same (simp append_assoc) a

mutual
  pub type_again : (t : Ty) (ts rest : List Sym) → IsType t ts rest → Again (IsType t) (type_symbols t) ts rest
  type_again (int bits) ts rest d = int_again bits ts rest d
  type_again ptr ts rest d = word_again words.Ptr ts rest d
  type_again token ts rest d = word_again words.Token ts rest d
  type_again (array n t) ts rest d =
      seq (these_again (syms.Mark marks.OpenSquare ∷ syms.Int n ∷ syms.Word words.X ∷ []) ts d.0 d.1 (λ h. (tt, (h.1.0, (tt, tt)))))
      (seq (type_again t d.0 d.2.0 d.2.1) (mark_again marks.CloseSquare d.2.0 rest d.2.2))
  type_again (structure fs) ts rest d =
      structure_again fs ts rest (seq (mark_again marks.OpenCurly ts d.0 d.1) (seq (fields_again fs d.0 d.2.0 d.2.1) (mark_again marks.CloseCurly d.2.0 rest d.2.2)))
  type_again (named n) ts rest d = these_again (syms.Local (Some n) ∷ []) ts rest d (λ h. (h.0, tt))

  fields_again : (fs : Tys) (ts rest : List Sym) → AreFields fs ts rest → Again (AreFields fs) (inner_symbols fs) ts rest
  fields_again none ts rest d = nothing_again d
  fields_again (field t none) ts rest d = same (sym (append-nil (type_symbols t))) (type_again t ts rest d)
  fields_again (field t (field u fs)) ts rest d =
      seq (type_again t ts d.0 d.1) (seq (mark_again marks.Comma d.0 d.2.0 d.2.1) (fields_again (field u fs) d.2.0 rest d.2.2))

pub scalar_again : (t : Ty) (ts rest : List Sym) → IsScalar t ts rest → Again (IsScalar t) (type_symbols t) ts rest
scalar_again (int bits) ts rest d = int_again bits ts rest d
scalar_again ptr ts rest d = word_again words.Ptr ts rest d
scalar_again token ts rest d = absurd d
scalar_again (array n t) ts rest d = absurd d
scalar_again (structure fs) ts rest d = absurd d
scalar_again (named n) ts rest d = absurd d

pub result_again : (t : Option Ty) (ts rest : List Sym) → IsResult t ts rest → Again (IsResult t) (result_symbols t) ts rest
result_again None ts rest d = word_again words.Void ts rest d
result_again (Some t) ts rest d = type_again t ts rest d

-- ---- widths and alignments

abbrev mutual
  -- each integer type in it has 64 bits or less
  pub IsNarrow : Ty → Type 0
  IsNarrow (int w) = w ≤ 64
  IsNarrow ptr = Unit {0}
  IsNarrow token = Unit {0}
  IsNarrow (array n t) = IsNarrow t
  IsNarrow (structure fs) = AreNarrowFields fs
  IsNarrow (named n) = Unit {0}

  pub AreNarrowFields : Tys → Type 0
  AreNarrowFields none = Unit {0}
  AreNarrowFields (field t fs) = IsNarrow t × AreNarrowFields fs

width_narrow : (w : IntWidth) → bits_of w ≤ 64
width_narrow IntWidth.I1 = omega arith
width_narrow IntWidth.I8 = omega arith
width_narrow IntWidth.I16 = omega arith
width_narrow IntWidth.I32 = omega arith
width_narrow IntWidth.I64 = omega arith

mutual
  pub type_narrow : (t : Ty) (ts rest : List Sym) → IsType t ts rest → IsNarrow t
  type_narrow (int bits) ts rest d = omega (arith, d.1, width_narrow d.0)
  type_narrow ptr ts rest d = tt
  type_narrow token ts rest d = tt
  type_narrow (array n t) ts rest d = type_narrow t d.0 d.2.0 d.2.1
  type_narrow (structure fs) ts rest d = fields_narrow fs d.0 d.2.0 d.2.1
  type_narrow (named n) ts rest d = tt

  fields_narrow : (fs : Tys) (ts rest : List Sym) → AreFields fs ts rest → AreNarrowFields fs
  fields_narrow none ts rest d = tt
  fields_narrow (field t none) ts rest d = (type_narrow t ts rest d, tt)
  fields_narrow (field t (field u fs)) ts rest d = (type_narrow t ts d.0 d.1, fields_narrow (field u fs) d.2.0 rest d.2.2)

pub scalar_narrow : (t : Ty) (ts rest : List Sym) → IsScalar t ts rest → IsNarrow t
scalar_narrow (int bits) ts rest d = omega (arith, d.1, width_narrow d.0)
scalar_narrow ptr ts rest d = tt
scalar_narrow token ts rest d = absurd d
scalar_narrow (array n t) ts rest d = absurd d
scalar_narrow (structure fs) ts rest d = absurd d
scalar_narrow (named n) ts rest d = absurd d

abbrev pub AreNarrow : List TypeItem → Type 0
AreNarrow [] = Unit {0}
AreNarrow (t ∷ ts) = IsNarrow t.ty × AreNarrow ts

-- an alignment is at most 8
abbrev IsLow : Option Extent → Type 0
IsLow None = Unit {0}
IsLow (Some e) = e.align ≤ 8

array_low : (n : ℕ) (o : Option Extent) → IsLow o → IsLow (option_map (array_extent n) o)
array_low n None h = tt
array_low n (Some e) h = h

padded_low : (o : Option Extent) → IsLow o → IsLow (option_map padded o)
padded_low None h = tt
padded_low (Some e) h = h

max_low : (a b : ℕ) → a ≤ 8 → b ≤ 8 → max a b ≤ 8
max_low a b h k = omega arith

then_low : (o : Option Extent) (f : Extent → Option Extent) → IsLow o → ((g : Extent) → g.align ≤ 8 → IsLow (f g)) → IsLow (extent_then o f)
then_low None f h k = tt
then_low (Some g) f h k = k g h

fields_low : (extent : Ty → Option Extent) → ((t : Ty) → IsNarrow t → IsLow (extent t)) → (e : Extent) (fs : Tys) → e.align ≤ 8 → AreNarrowFields fs → IsLow (fields_extent extent e fs)
fields_low extent f e none h k = h
fields_low extent f e (field t fs) h k =
    then_low (extent t) (λ g. fields_extent extent (with_field e g) fs) (f t k.0) (λ g low. fields_low extent f (with_field e g) fs (max_low e.align g.align h low) k.1)

type_low : (names : Name → Option Extent) → ((n : Name) → IsLow (names n)) → (d : ℕ) (t : Ty) → IsNarrow t → IsLow (extent_in names d t)
type_low names f zero t h = tt
type_low names f (suc d) (int w) h = omega (arith, h)
type_low names f (suc d) ptr h = omega arith
type_low names f (suc d) token h = tt
type_low names f (suc d) (array n t) h = array_low n (extent_in names d t) (type_low names f d t h)
type_low names f (suc d) (structure fs) h = padded_low (fields_extent (extent_in names d) no_fields fs) (fields_low (extent_in names d) (type_low names f d) no_fields fs (omega arith) h)
type_low names f (suc d) (named n) h = f n

-- what a name stands for
abbrev IsNarrowIfSome : Option Ty → Type 0
IsNarrowIfSome None = Unit {0}
IsNarrowIfSome (Some t) = IsNarrow t

either : (b : Bool) (t : Ty) (o : Option Ty) → IsNarrow t → IsNarrowIfSome o → IsNarrowIfSome (cond b (Some t) o)
either true t o h k = h
either false t o h k = k

named_narrow : (types : List TypeItem) (n : Name) → AreNarrow types → IsNarrowIfSome (type_named types n)
named_narrow [] n h = tt
named_narrow (t ∷ ts) n h = either (same_name t.name n) t.ty (type_named ts n) h.0 (named_narrow ts n h.1)

of_type_low : (extent : Ty → Option Extent) → ((t : Ty) → IsNarrow t → IsLow (extent t)) → (o : Option Ty) → IsNarrowIfSome o → IsLow (of_type extent o)
of_type_low extent f None h = tt
of_type_low extent f (Some t) h = f t h

names_low : (types : List TypeItem) → AreNarrow types → (k : ℕ) (n : Name) → IsLow (extent_at types k n)
names_low types h zero n = tt
names_low types h (suc k) n = of_type_low (extent_in (extent_at types k) 64) (type_low (extent_at types k) (names_low types h k) 64) (type_named types n) (named_narrow types n h)

or_low : (o : Option Extent) → IsLow o → (extent_or o).align ≤ 8
or_low None h = omega arith
or_low (Some e) h = h

align_low : (types : List TypeItem) (t : Ty) → AreNarrow types → IsNarrow t → align_in types t ≤ 8
unfolding align_in
align_low types t h k = or_low (extent_of types t) (type_low (extent_at types 64) (names_low types h 64) 64 t k)

pub aligned_again : (types : List TypeItem) (t : Ty) (n : ℕ) (ts rest : List Sym) → AreNarrow types → IsNarrow t → IsAligned types t n ts rest → Again (IsAligned types t n) (align_symbols n) ts rest
aligned_again types t n ts rest h k (inl d) =
    let a = these_again (syms.Mark marks.Comma ∷ syms.Word words.Align ∷ syms.Int n ∷ []) ts rest d (λ w. (tt, (tt, (w.1.1.0, tt)))) in
    record { left = a.left; written = a.written; again = λ behind. inl refl }
aligned_again types t n ts rest h k (inr (inl d)) =
    let e : ts ≡ syms.Mark marks.Comma ∷ syms.Word words.Align ∷ syms.Negative d.0 ∷ rest = d.2 in
    record {
      left = leaves_these (syms.Mark marks.Comma ∷ syms.Word words.Align ∷ syms.Negative d.0 ∷ []) ts rest e;
      written = λ w. (tt, (tt, (omega (arith, d.1), tt)));
      again = λ behind. inl refl;
    }
aligned_again types t n ts rest h k (inr (inr d)) = record {
  left = leaves_nothing ts rest d.1;
  written = λ w. (tt, (tt, (omega (arith, d.0, align_low types t h k), tt)));
  again = λ behind. inl refl;
}
